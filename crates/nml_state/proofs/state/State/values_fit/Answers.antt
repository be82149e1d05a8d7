use Rattle.std.proofs.Common.{rules, ◌≡◌, ◌∙◌, sym, ap, subst, arith, ◌<◌, ◌==◌, ◌≤◌, [], ◌∷◌, ◌++◌, false, true, length, map, pos, Some, ℕ, ℤ, List, refl, to_z, of_z}
use Rattle.std.specs.Prelude.{slice_get, slice_set, unwrap_or, FitsSigned, ◌&&◌}
use Rattle.std.specs.List.{list_any}
use Rattle.std.specs.Int.{w128}
use Rattle.std.proofs.lemmas.Int.{to_z-of_z}
use Rattle.nk_base.specs.Number.{wrapped}
use Rattle.nml_tree.specs.Exec.{with_write}
use Rattle.nml_state.specs.Cells.{Shown, HasCell, IsOf, IsAmong, is_kept, sizes}
use Rattle.nml_state.specs.IsState.{IsState}
use Rattle.nml_state.specs.SeenWrites.{seen_cells, seen_writes}
use Rattle.nml_state.specs.Wrapping.{has_cell, wraps_into, type_at, offered, given_trn, given_cell}
use Rattle.nml_state.proofs.StateLaws.{has_room, state_push, state_write, state_trn}
use Rattle.nml_state.proofs.StateSeen.{seen_length, seen_push}
use Rattle.nml_state.proofs.WrappingLaws.{has_among, cells_fit, trns_fit, trn_exists, any_seen, offered_kept, offered_twice, offered_nowhere, offered_unwrapped, given_at_once, given_nowhere, given_now}
use Rattle.nml_state.proofs.state.State.values_fit.Goals as goal

pub returns-clause-cells : goal.returns-clause-cells
returns-clause-cells c = rw (← c.self.view_is) (cells_fit _ _ c.self.invariant.rows)

pub returns-clause-trns : goal.returns-clause-trns
returns-clause-trns c = rw (← c.self.view_is) (trns_fit _ _ c.self.invariant.trn_values)
