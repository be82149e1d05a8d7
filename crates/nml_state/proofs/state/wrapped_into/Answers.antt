use Rattle.std.proofs.Common.{rules, ◌≡◌, ◌∙◌, sym, ap, subst, arith, ◌<◌, ◌==◌, ◌≤◌, [], ◌∷◌, ◌++◌, false, true, length, map, pos, Some, ℕ, ℤ, List, refl, to_z, of_z}
use Rattle.std.specs.Prelude.{slice_get, slice_set, unwrap_or, FitsSigned, ◌&&◌}
use Rattle.std.specs.List.{list_any}
use Rattle.std.specs.Int.{w128}
use Rattle.std.proofs.lemmas.Int.{to_z-of_z}
use Rattle.nk_base.specs.Number.{wrapped}
use Rattle.nml_tree.specs.Exec.{with_write}
use Rattle.nml_state.specs.Cells.{Shown, HasCell, IsOf, IsAmong, is_kept, is_write_of, sizes}
use Rattle.nml_state.specs.IsState.{IsState}
use Rattle.nml_state.specs.SeenWrites.{seen_cells, seen_writes}
use Rattle.nml_state.specs.Wrapping.{has_cell, wraps_into, type_at, offered, given_trn, given_cell}
use Rattle.nml_state.proofs.StateLaws.{has_room, state_push, state_write, state_trn}
use Rattle.nml_state.proofs.StateSeen.{seen_length, seen_push}
use Rattle.nml_state.proofs.WrappingLaws.{has_among, cells_fit, trns_fit, trn_exists, any_seen, offered_kept, offered_twice, offered_nowhere, offered_unwrapped, given_at_once, given_nowhere, given_now, wrapped_found, got}
use Rattle.nml_state.proofs.state.wrapped_into.Goals as goal

pub returns-in-Some : goal.returns-in-Some
returns-in-Some c =
    let at : slice_get c.args.types.now c.args.n ≡ Some c.in-Some.ty.now = got c.args.types.now c.args.n c.in-Some.ty.now c.in-Some.ensures.lookup.3.0 c.in-Some.ensures.lookup.1 in
    wrapped_found c.args.types.now c.args.n c.in-Some.ty.now c.args.value c.wrapped_value.result at (rw (to_z-of_z w128 c.args.value c.ranges.value) at c.wrapped_value.ensures)
