use Rattle.std.proofs.Common.{rules, ◌≡◌, ◌∙◌, sym, ap, subst, arith, ◌<◌, ◌≤◌, [], ◌∷◌, ◌++◌, false, true, length, map, drop, take, get_or, pos, Some, None, ℕ, ℤ, List, refl}
use Rattle.nk_base.specs.Text.{text_eq}
use Rattle.nml_tree.specs.Table.{declared, entries, entry, type_or_none}
use Rattle.nml_tree.specs.Uses.{declares}
use Rattle.std.specs.Prelude.{vec_capacity}
use Rattle.nml_tree.specs.Table.{table}
use Rattle.nml_state.specs.Cells.{sizes, opened}
use Rattle.nml_state.specs.RightTypes.{EachRight, ItemRight}
use Rattle.nml_state.specs.IsState.{AreParts, total}
use Rattle.nml_state.specs.SeenWrites.{seen_cells}
use Rattle.nml_state.proofs.Lookups.{next_none, found_here, none_found, each_at, entries_next, entries_all, each_right}
use Rattle.nml_state.proofs.StateLaws.{parts_same, parts_storage, parts_port, state_opened}
use Rattle.nml_state.proofs.state.parts_of.Goals as goal

pub add_item-requires : goal.add_item-requires
add_item-requires c =
    let e = c.as_slice-items.ensures in
    let r = each_at c.as_slice-items.result.now [] c.loop-i.i c.index-items-i.result (subst (λ xs. EachRight [] xs) (sym e) c.requires) c.loop-i-test.true in
    rw c.index-items-i.is r

pub loop-i-preserved : goal.loop-i-preserved
loop-i-preserved c =
    let h = c.in_ok-add_item.ensures c.loop-i.invariant in
    let at = ap (λ x. entries [] (take c.loop-i.i c.as_slice-items.result.now) ++ entry (entries [] (take c.loop-i.i c.as_slice-items.result.now)) x ∷ []) c.index-items-i.is in
    rw (entries_next c.as_slice-items.result.now c.loop-i.i c.index-items-i.result c.loop-i-test.true, ← at) h

pub returns : goal.returns
returns c =
    rw (entries_all c.as_slice-items.result.now c.loop-i.i c.loop-i-test.false, c.as_slice-items.ensures) at c.loop-i.invariant
