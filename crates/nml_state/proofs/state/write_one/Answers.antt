use Rattle.std.proofs.Common.{rules, ◌≡◌, ◌∙◌, sym, ap, subst, arith, ◌<◌, [], ◌∷◌, ◌++◌, false, true, length, map, drop, take, get_or, pos, Some, ℕ, ℤ, ◌≤◌, List, refl}
use Rattle.std.specs.Prelude.{slice_get, slice_set, unwrap_or, FitsSigned}
use Rattle.std.proofs.Common.{to_z, of_z}
use Rattle.std.specs.Int.{w128}
use Rattle.std.proofs.lemmas.Int.{to_z-of_z}
use Rattle.nml_state.specs.Cells.{Shown, HasCell, IsOf, IsAmong, is_kept, sizes}
use Rattle.nml_tree.specs.Exec.{with_write, with_writes}
use Rattle.nml_state.specs.IsState.{AllExist, IsState}
use Rattle.nml_state.specs.SeenWrites.{seen_cells, seen_writes}
use Rattle.nml_tree.specs.Value.{cell, number_at}
use Rattle.nml_state.proofs.StateLaws.{has_room, state_push, state_write, state_trn, state_done, state_forgot, cell_of, trn_of, sizes_write, sizes_writes}
use Rattle.nml_state.proofs.StateSeen.{seen_length, seen_push, row_length, row_is, seen_set, write_exists, cleared_one, cleared_all, next_write, no_write, number_is, taken}
use Rattle.nml_state.proofs.state.write_one.Goals as goal

pub put-requires : goal.put-requires
put-requires c =
    let r = row_length c.args.cells.now.items c.args.write.storage c.args.write.index c.index_mut.result.now c.requires in
    subst (λ v. c.args.write.index < length v.items) (sym c.index_mut.ensures.value) r.1

pub returns : goal.returns
returns c =
    let rows = c.args.cells.now.items in
    let s = c.args.write.storage in
    let r = row_length rows s c.args.write.index c.index_mut.result.now c.requires in
    let f : FitsSigned w128 c.args.write.value = search rules in
    seen_set rows s c.put.new.row ∙ ap (slice_set (seen_cells rows) s)
    (c.put.ensures ∙ ap (λ z. slice_set c.index_mut.result.now.items c.args.write.index z) (to_z-of_z w128 c.args.write.value f)
    ∙ ap (λ xs. slice_set xs c.args.write.index c.args.write.value) (ap (λ v. v.items) c.index_mut.ensures.value ∙ sym (row_is rows s c.index_mut.result.now r.0)))
