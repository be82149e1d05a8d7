use Rattle.std.proofs.Common.{◌∙◌, sym, arith}
use Rattle.std.specs.Prelude.{codes, option_map, unsigned_abs}
use Rattle.nml_tree.specs.Table.{table}
use Rattle.nml_tree.specs.Legal.{IsLegal}
use Rattle.nml_tree.specs.Refused.{IsTyped}
use Rattle.nml_tree.specs.Walk.{IsWalkOf}
use Rattle.nml_tree.specs.Exec.{out_type}
use Rattle.nml_state.proofs.Lookups.{each_right}
use Rattle.attr_exec.specs.Does.{IsStateOf}
use Rattle.attr_exec.specs.Ready.{NextFits}
use Rattle.attr_exec.proofs.Ports.{out_is_small}
use Rattle.attr_exec.proofs.Top.{whole, narrow_whole, pc_whole, ends_state, forgot_ends, forgot_is, finished_is, wants_is, does_is, halt_number}
use Rattle.attr_exec.proofs.Fitting.{suits}
use Rattle.attr_exec.proofs.instruction.exec.Goals as goal

pub out_type-requires : goal.out_type-requires
out_type-requires c =
    let typed : IsTyped c.d.inside.desc = c.d.invariant in
    rw c.as_slice-items.ensures (each_right c.d.inside.desc (λ j less. typed j (omega (arith, less))))

pub returns-then-wants-clause-state : goal.returns-then-wants-clause-state
returns-then-wants-clause-state c = ends_state _ c.args.s.now c.run-done.new.s c.forget.new.self c.requires.state c.run-done.ensures.same (forgot_ends c.run-done.new.s c.forget.new.self c.forget.ensures)

pub returns-clause-state : goal.returns-clause-state
returns-clause-state c = ends_state _ c.args.s.now c.run-done.new.s c.settle.new.s c.requires.state c.run-done.ensures.same c.settle.ensures.ends

pub returns-then-wants-clause-done : goal.returns-then-wants-clause-done
returns-then-wants-clause-done c = λ x w legal.
    let typed : IsTyped c.d.inside.desc = c.d.invariant in
    let state : IsStateOf (table c.d.inside.desc) c.args.s.now = rw (← c.d.view_is) at c.requires.state in
    let fits : NextFits (table c.d.inside.desc) c.args.next = rw (← c.d.view_is) at c.requires.next in
    let v : IsWalkOf (table c.d.inside.desc) (codes "instruction") c.args.v.now.picks.items c.args.v.now.fields.items x = rw (← c.d.view_is) at w in
    let l : IsLegal (table c.d.inside.desc) x = rw (← c.d.view_is) at legal in
    let u = suits c.d.inside.desc (λ j less. typed j (omega (arith, less))) x c.args.v.now.picks.items c.args.v.now.fields.items c.args.next c.args.s.now state v in
    let k = rw (c.as_slice-items.ensures, c.as_slice.ensures, c.as_slice-2.ensures.value, c.as_slice-3.ensures.value) at c.run-done.ensures.ran in
    let out = rw c.as_slice-items.ensures at c.out_type.ensures in
    let r = whole c.d.inside.desc typed x _ _ c.args.next c.args.s.now c.run-done.new.s c.run-done.result _ state fits c.values_fit.ensures.cells c.values_fit.ensures.trns v l u out k in
    let same = forgot_is _ c.args.s.now c.run-done.new.s c.forget.new.self state c.run-done.ensures.same c.forget.ensures in
    rw (← c.d.view_is) (wants_is _ x c.args.v.now.fields.items c.args.next c.args.s.now c.run-done.new.s c.run-done.result r c.forget.new.self same (sym c.wants.ensures ∙ c.if-wants.true))

pub returns-clause-done : goal.returns-clause-done
returns-clause-done c = λ x w legal.
    let typed : IsTyped c.d.inside.desc = c.d.invariant in
    let state : IsStateOf (table c.d.inside.desc) c.args.s.now = rw (← c.d.view_is) at c.requires.state in
    let fits : NextFits (table c.d.inside.desc) c.args.next = rw (← c.d.view_is) at c.requires.next in
    let v : IsWalkOf (table c.d.inside.desc) (codes "instruction") c.args.v.now.picks.items c.args.v.now.fields.items x = rw (← c.d.view_is) at w in
    let l : IsLegal (table c.d.inside.desc) x = rw (← c.d.view_is) at legal in
    let u = suits c.d.inside.desc (λ j less. typed j (omega (arith, less))) x c.args.v.now.picks.items c.args.v.now.fields.items c.args.next c.args.s.now state v in
    let k = rw (c.as_slice-items.ensures, c.as_slice.ensures, c.as_slice-2.ensures.value, c.as_slice-3.ensures.value) at c.run-done.ensures.ran in
    let out = rw c.as_slice-items.ensures at c.out_type.ensures in
    let r = whole c.d.inside.desc typed x _ _ c.args.next c.args.s.now c.run-done.new.s c.run-done.result _ state fits c.values_fit.ensures.cells c.values_fit.ensures.trns v l u out k in
    let narrow = narrow_whole c.d.inside.desc typed x _ _ c.args.next c.args.s.now c.run-done.new.s c.run-done.result _ state fits v out k in
    let halt = halt_number c.run-done.result.halt narrow.halt_fits in
    let told = c.answer.ensures (out_type (table c.d.inside.desc)) (option_map unsigned_abs c.run-done.result.halt) narrow (out_is_small c.d.inside.desc (λ j less. typed j (omega (arith, less)))) halt in
    let pc = pc_whole c.d.inside.desc typed c.run-done.new.s (c.run-done.ensures.same.0 ∙ state.types_are) in
    let at = rw (c.as_slice-4.ensures, c.as_slice-items.ensures) at c.storage_number.ensures in
    let new = finished_is (table c.d.inside.desc) c.args.s.now c.run-done.new.s c.settle.new.s state c.run-done.ensures.same (c.settle.ensures.cells (table c.d.inside.desc) pc at) in
    rw (← c.d.view_is) (does_is _ x c.args.v.now.fields.items c.args.next c.args.s.now c.run-done.new.s c.run-done.result r c.settle.new.s c.answer.result (option_map unsigned_abs c.run-done.result.halt) c.run-done.ensures.same.2 halt told new (sym c.wants.ensures ∙ c.if-wants.false))
