use Rattle.std.proofs.Common.{rules, ◌≡◌, ◌∙◌, sym, ap, subst, arith, ◌<◌, ◌≤◌, [], ◌∷◌, ◌++◌, false, true, length, map, drop, take, get_or, pos, Some, None, ℕ, ℤ, List, refl}
use Rattle.nk_base.specs.Text.{text_eq}
use Rattle.nml_tree.specs.Table.{declared, entries, entry, type_or_none}
use Rattle.nml_tree.specs.Uses.{declares}
use Rattle.std.specs.Prelude.{vec_capacity}
use Rattle.nml_tree.specs.Table.{table}
use Rattle.nml_state.specs.Cells.{sizes, opened}
use Rattle.nml_state.specs.RightTypes.{EachRight, ItemRight}
use Rattle.nml_state.specs.IsState.{AreParts, total}
use Rattle.nml_state.specs.SeenWrites.{seen_cells}
use Rattle.nml_state.proofs.Lookups.{next_none, found_here, none_found, each_at, entries_next, entries_all, each_right}
use Rattle.nml_state.proofs.StateLaws.{parts_same, parts_storage, parts_port, state_opened}
use Rattle.nml_state.proofs.state.add_item.Goals as goal

pub returns-in-Let : goal.returns-in-Let
returns-in-Let c = λ h. rw c.in-Let.is (parts_same _ _ _ _ _ _ _ refl refl h)

pub returns-in-Type : goal.returns-in-Type
returns-in-Type c = λ h. rw c.in-Type.is (parts_same _ _ _ _ _ _ _ refl refl h)

pub returns-in-OrRule : goal.returns-in-OrRule
returns-in-OrRule c = λ h. rw c.in-OrRule.is (parts_same _ _ _ _ _ _ _ refl refl h)

pub returns-in-OpRule : goal.returns-in-OpRule
returns-in-OpRule c = λ h. rw c.in-OpRule.is (parts_same _ _ _ _ _ _ _ refl refl h)

pub returns-in-ModeRule : goal.returns-in-ModeRule
returns-in-ModeRule c = λ h. rw c.in-ModeRule.is (parts_same _ _ _ _ _ _ _ refl refl h)

pub returns-in_ok-add_storage-in-Storage : goal.returns-in_ok-add_storage-in-Storage
returns-in_ok-add_storage-in-Storage c = λ h. let e = c.in_ok-add_storage-in-Storage.ensures in rw c.in-Storage.is (parts_storage _ _ _ _ _ _ _ _ _ _ _ _ _ _ _ e.types e.cells e.count e.trns.0 e.trns.1 h)

pub returns-in_ok-add_port-in-Port : goal.returns-in_ok-add_port-in-Port
returns-in_ok-add_port-in-Port c = λ h. let e = c.in_ok-add_port-in-Port.ensures in rw c.in-Port.is (parts_port _ _ _ _ _ _ _ _ _ _ _ _ _ _ e.types e.trns e.rest.0 (ap seen_cells e.rest.1) e.rest.2 h)
