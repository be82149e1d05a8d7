use Rattle.std.proofs.Common.{rules, ◌≡◌, ◌∙◌, sym, ap, subst, arith, ◌<◌, ◌≤◌, [], ◌∷◌, ◌++◌, false, true, length, map, drop, take, get_or, pos, Some, None, ℕ, ℤ, List, refl}
use Rattle.nk_base.specs.Text.{text_eq}
use Rattle.nml_tree.specs.Table.{declared, entries, entry, type_or_none}
use Rattle.nml_tree.specs.Uses.{declares}
use Rattle.std.specs.Prelude.{vec_capacity}
use Rattle.nml_tree.specs.Table.{table}
use Rattle.nml_state.specs.Cells.{sizes, opened}
use Rattle.nml_state.specs.RightTypes.{EachRight, ItemRight}
use Rattle.nml_state.specs.IsState.{AreParts, total}
use Rattle.nml_state.specs.SeenWrites.{seen_cells}
use Rattle.nml_state.proofs.Lookups.{next_none, found_here, none_found, each_at, entries_next, entries_all, each_right}
use Rattle.nml_state.proofs.StateLaws.{parts_same, parts_storage, parts_port, state_opened}
use Rattle.nml_state.proofs.state.parts_of.Given as goal

abbrev pub invariant-loop-i : goal.invariant-loop-i
invariant-loop-i l = AreParts (entries [] (take l.i l.items)) l.parts.types.items (seen_cells l.parts.cells.items) l.parts.count l.parts.trn_types.items l.parts.trns.items
