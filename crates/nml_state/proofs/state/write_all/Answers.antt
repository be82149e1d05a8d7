use Rattle.std.proofs.Common.{rules, ◌≡◌, ◌∙◌, sym, ap, subst, arith, ◌<◌, [], ◌∷◌, ◌++◌, false, true, length, map, drop, take, get_or, pos, Some, ℕ, ℤ, ◌≤◌, List, refl}
use Rattle.std.specs.Prelude.{slice_get, slice_set, unwrap_or, FitsSigned}
use Rattle.std.proofs.Common.{to_z, of_z}
use Rattle.std.specs.Int.{w128}
use Rattle.std.proofs.lemmas.Int.{to_z-of_z}
use Rattle.nml_state.specs.Cells.{Shown, HasCell, IsOf, IsAmong, is_kept, sizes}
use Rattle.nml_tree.specs.Exec.{with_write, with_writes}
use Rattle.nml_state.specs.IsState.{AllExist, IsState}
use Rattle.nml_state.specs.SeenWrites.{seen_cells, seen_writes}
use Rattle.nml_tree.specs.Value.{cell, number_at}
use Rattle.nml_state.proofs.StateLaws.{has_room, state_push, state_write, state_trn, state_done, state_forgot, cell_of, trn_of, sizes_write, sizes_writes}
use Rattle.nml_state.proofs.StateSeen.{seen_length, seen_push, row_length, row_is, seen_set, write_exists, cleared_one, cleared_all, next_write, no_write, number_is, taken}
use Rattle.nml_state.proofs.state.write_all.Goals as goal

pub write_one-requires : goal.write_one-requires
write_one-requires c = rw c.loop-write.invariant.1 (write_exists _ _ _ _ c.requires c.loop-write-test.true)

pub loop-write-preserved : goal.loop-write-preserved
loop-write-preserved c = (next_write _ _ _ c.loop-write.write-index _ c.loop-write-test.true c.write_one.ensures ∙ c.loop-write.invariant.0, ap sizes c.write_one.ensures ∙ sizes_write _ _ _ _ ∙ c.loop-write.invariant.1)

pub returns : goal.returns
returns c = sym (no_write _ _ c.loop-write.write-index c.loop-write-test.false) ∙ c.loop-write.invariant.0
