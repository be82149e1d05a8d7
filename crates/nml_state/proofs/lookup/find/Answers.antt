use Rattle.std.proofs.Common.{rules, ◌≡◌, ◌∙◌, sym, ap, subst, arith, ◌<◌, ◌≤◌, [], ◌∷◌, ◌++◌, false, true, length, map, drop, take, get_or, pos, Some, None, ℕ, ℤ, List, refl}
use Rattle.nk_base.specs.Text.{text_eq}
use Rattle.nml_tree.specs.Table.{declared, entries, entry, type_or_none}
use Rattle.nml_tree.specs.Uses.{declares}
use Rattle.std.specs.Prelude.{vec_capacity}
use Rattle.nml_tree.specs.Table.{table}
use Rattle.nml_state.specs.Cells.{sizes, opened}
use Rattle.nml_state.specs.RightTypes.{EachRight, ItemRight}
use Rattle.nml_state.specs.IsState.{AreParts, total}
use Rattle.nml_state.specs.SeenWrites.{seen_cells}
use Rattle.nml_state.proofs.Lookups.{next_none, found_here, none_found, each_at, entries_next, entries_all, each_right}
use Rattle.nml_state.proofs.StateLaws.{parts_same, parts_storage, parts_port, state_opened}
use Rattle.nml_state.proofs.lookup.find.Goals as goal

pub returns-then-eq-clause-none : goal.returns-then-eq-clause-none
returns-then-eq-clause-none c =
    let e : text_eq c.args.name.now (declares (get_or c.args.items.now c.loop-i.i c.index-items-i.result)).text ≡ true =
    ap (λ x. text_eq c.args.name.now (declares x).text) (sym c.index-items-i.is) ∙ ap (λ x. text_eq c.args.name.now x) (sym (c.as_bytes.ensures ∙ c.name_of.ensures)) ∙ sym c.eq.ensures ∙ c.if-eq.true in
    found_here c.args.items.now c.loop-i.i c.index-items-i.result c.args.name.now c.loop-i-test.true c.loop-i.invariant e ∙ ap (λ x. Some (entry (entries [] (take c.loop-i.i c.args.items.now)) x).1) (sym c.index-items-i.is)

pub loop-i-preserved : goal.loop-i-preserved
loop-i-preserved c =
    let e : text_eq c.args.name.now (declares (get_or c.args.items.now c.loop-i.i c.index-items-i.result)).text ≡ false =
    ap (λ x. text_eq c.args.name.now (declares x).text) (sym c.index-items-i.is) ∙ ap (λ x. text_eq c.args.name.now x) (sym (c.as_bytes.ensures ∙ c.name_of.ensures)) ∙ sym c.eq.ensures ∙ c.if-eq.false in
    next_none c.args.items.now c.loop-i.i c.index-items-i.result c.args.name.now c.loop-i-test.true c.loop-i.invariant e
