use Rattle.std.proofs.Common.{rules, ◌≡◌, ◌∙◌, sym, ap, subst, arith, ◌<◌, ◌≤◌, [], ◌∷◌, ◌++◌, false, true, length, map, drop, take, get_or, pos, Some, None, ℕ, ℤ, List, refl}
use Rattle.nk_base.specs.Text.{text_eq}
use Rattle.nml_tree.specs.Table.{declared, entries, entry, type_or_none}
use Rattle.nml_tree.specs.Uses.{declares}
use Rattle.std.specs.Prelude.{vec_capacity}
use Rattle.nml_tree.specs.Table.{table}
use Rattle.nml_state.specs.Cells.{sizes, opened}
use Rattle.nml_state.specs.RightTypes.{EachRight, ItemRight}
use Rattle.nml_state.specs.IsState.{AreParts, total}
use Rattle.nml_state.specs.SeenWrites.{seen_cells}
use Rattle.nml_state.proofs.Lookups.{next_none, found_here, none_found, each_at, entries_next, entries_all, each_right}
use Rattle.nml_state.proofs.StateLaws.{parts_same, parts_storage, parts_port, state_opened}
use Rattle.nml_state.proofs.state.State.open.Goals as goal

pub parts_of-requires : goal.parts_of-requires
parts_of-requires c = each_right _ (λ k low. c.d.invariant k (omega (arith, low)))

pub invariant_of-result : goal.invariant_of-result
invariant_of-result c =
    let h = c.in_ok-parts.ensures in
    let low : total (sizes (opened (table c.d.inside.desc)).cells) ≤ vec_capacity c.in_ok-kept.kept = omega (arith, h.count_is ∙ ap (λ x. total (sizes x)) h.cells_are, c.in_ok-kept.ensures.capacity) in
    rw (h.types_are, h.cells_are, h.trns_of_are, h.trns_are, c.in_ok-kept.ensures.items) (state_opened (table c.d.inside.desc) _ low)
