use Rattle.std.proofs.Common.{rules, ◌≡◌, ◌∙◌, sym, ap, subst, arith, ◌<◌, [], ◌∷◌, ◌++◌, false, true, length, map, drop, take, get_or, pos, Some, ℕ, ℤ, ◌≤◌, List, refl}
use Rattle.std.specs.Prelude.{slice_get, slice_set, unwrap_or, FitsSigned}
use Rattle.std.proofs.Common.{to_z, of_z}
use Rattle.std.specs.Int.{w128}
use Rattle.std.proofs.lemmas.Int.{to_z-of_z}
use Rattle.nml_state.specs.Cells.{Shown, HasCell, IsOf, IsAmong, is_kept, sizes}
use Rattle.nml_tree.specs.Exec.{with_write, with_writes}
use Rattle.nml_state.specs.IsState.{AllExist, IsState}
use Rattle.nml_state.specs.SeenWrites.{seen_cells, seen_writes}
use Rattle.nml_tree.specs.Value.{cell, number_at}
use Rattle.nml_state.proofs.StateLaws.{has_room, state_push, state_write, state_trn, state_done, state_forgot, cell_of, trn_of, sizes_write, sizes_writes}
use Rattle.nml_state.proofs.StateSeen.{seen_length, seen_push, row_length, row_is, seen_set, write_exists, cleared_one, cleared_all, next_write, no_write, number_is, taken}
use Rattle.nml_state.proofs.state.row_cell.Goals as goal

pub number_in-requires : goal.number_in-requires
number_in-requires c =
    let r = row_length c.args.cells.now c.args.storage c.args.index c.index-cells-storage.result c.requires in
    rw (c.as_slice.ensures.value, c.index-cells-storage.is) r.1

pub returns : goal.returns
returns c =
    let r = row_length c.args.cells.now c.args.storage c.args.index c.index-cells-storage.result c.requires in
    let f : FitsSigned w128 c.number_in.result = search rules in
    let k = row_is c.args.cells.now c.args.storage c.index-cells-storage.result r.0 in
    to_z-of_z w128 c.number_in.result f ∙ number_is c.as_slice.result.now c.args.index c.number_in.result c.number_in.ensures ∙ ap (λ xs. number_at xs c.args.index) (c.as_slice.ensures.value ∙ ap (λ v. v.items) c.index-cells-storage.is ∙ sym k)
