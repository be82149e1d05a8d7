use Rattle.std.proofs.Common.{rules, ◌≡◌, ◌∙◌, sym, ap, subst, arith, ◌<◌, [], ◌∷◌, ◌++◌, false, true, length, map, drop, take, get_or, pos, Some, ℕ, ℤ, ◌≤◌, List, refl}
use Rattle.std.specs.Prelude.{slice_get, slice_set, unwrap_or, FitsSigned}
use Rattle.std.proofs.Common.{to_z, of_z}
use Rattle.std.specs.Int.{w128}
use Rattle.std.proofs.lemmas.Int.{to_z-of_z}
use Rattle.nml_state.specs.Cells.{Shown, HasCell, IsOf, IsAmong, is_kept, sizes}
use Rattle.nml_tree.specs.Exec.{with_write, with_writes}
use Rattle.nml_state.specs.IsState.{AllExist, IsState}
use Rattle.nml_state.specs.SeenWrites.{seen_cells, seen_writes}
use Rattle.nml_tree.specs.Value.{cell, number_at}
use Rattle.nml_state.proofs.StateLaws.{has_room, state_push, state_write, state_trn, state_done, state_forgot, cell_of, trn_of, sizes_write, sizes_writes}
use Rattle.nml_state.proofs.StateSeen.{seen_length, seen_push, row_length, row_is, seen_set, write_exists, cleared_one, cleared_all, next_write, no_write, number_is, taken}
use Rattle.nml_state.proofs.state.State.trn.Goals as goal

pub returns-clause-of_type : goal.returns-clause-of_type
returns-clause-of_type c =
    let f : FitsSigned w128 c.number_in.result = search rules in
    let e : slice_get c.self.inside.trns.items c.args.n ≡ Some c.number_in.result = rw c.as_slice.ensures.value at c.number_in.ensures in
    rw (to_z-of_z w128 c.number_in.result f, ← c.self.view_is) (trn_of _ _ c.args.n c.number_in.result c.self.invariant.trn_values e)
