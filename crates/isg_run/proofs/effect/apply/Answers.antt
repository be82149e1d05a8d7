use Rattle.std.proofs.Common.{◌∙◌, sym}
use Rattle.std.specs.Prelude.{option_map, unsigned_abs}
use Rattle.nml_tree.specs.Table.{table}
use Rattle.nml_tree.specs.Exec.{out_type}
use Rattle.attr_exec.proofs.Ports.{out_is_small}
use Rattle.attr_exec.proofs.Top.{pc_whole, ends_state, forgot_ends, forgot_is, finished_is, wants_is, does_is, halt_number}
use Rattle.isg_run.proofs.Whole.{free_of, whole, narrow_whole}
use Rattle.isg_run.proofs.effect.apply.Goals as goal

pub returns-then-wants-clause-state : goal.returns-then-wants-clause-state
returns-then-wants-clause-state c = λ t state. ends_state t c.args.s.now c.run_all-done.new.s c.forget.new.self state c.run_all-done.ensures.same (forgot_ends c.run_all-done.new.s c.forget.new.self c.forget.ensures)

pub returns-clause-state : goal.returns-clause-state
returns-clause-state c = λ t state. ends_state t c.args.s.now c.run_all-done.new.s c.settle.new.s state c.run_all-done.ensures.same c.settle.ensures.ends

pub returns-then-wants-clause-done : goal.returns-then-wants-clause-done
returns-then-wants-clause-done c = λ d x ks typed w legal same out pc state fits.
    let r = whole d typed x ks c.args.fields.now c.args.next c.args.s.now c.run_all-done.new.s c.run_all-done.result c.args.out _ state fits c.values_fit.ensures.cells c.values_fit.ensures.trns w legal same out c.run_all-done.ensures.ran in
    let back = forgot_is _ c.args.s.now c.run_all-done.new.s c.forget.new.self state c.run_all-done.ensures.same c.forget.ensures in
    wants_is _ x c.args.fields.now c.args.next c.args.s.now c.run_all-done.new.s c.run_all-done.result r c.forget.new.self back (sym c.wants.ensures ∙ c.if-wants.true)

pub returns-clause-done : goal.returns-clause-done
returns-clause-done c = λ d x ks typed w legal same out pc state fits.
    let r = whole d typed x ks c.args.fields.now c.args.next c.args.s.now c.run_all-done.new.s c.run_all-done.result c.args.out _ state fits c.values_fit.ensures.cells c.values_fit.ensures.trns w legal same out c.run_all-done.ensures.ran in
    let narrow = narrow_whole d typed x ks c.args.fields.now c.args.next c.args.s.now c.run_all-done.new.s c.run_all-done.result c.args.out _ state fits w same out c.run_all-done.ensures.ran in
    let halt = halt_number c.run_all-done.result.halt narrow.halt_fits in
    let told = c.answer.ensures (out_type (table d)) (option_map unsigned_abs c.run_all-done.result.halt) narrow (out_is_small d (free_of d typed)) halt in
    let has = pc_whole d typed c.run_all-done.new.s (c.run_all-done.ensures.same.0 ∙ state.types_are) in
    let new = finished_is (table d) c.args.s.now c.run_all-done.new.s c.settle.new.s state c.run_all-done.ensures.same (c.settle.ensures.cells (table d) has pc) in
    does_is _ x c.args.fields.now c.args.next c.args.s.now c.run_all-done.new.s c.run_all-done.result r c.settle.new.s c.answer.result (option_map unsigned_abs c.run_all-done.result.halt) c.run_all-done.ensures.same.2 halt told new (sym c.wants.ensures ∙ c.if-wants.false)
