use Rattle.std.proofs.Common.{rules, ◌≡◌, ◌∙◌, sym, ap, subst, arith, ◌<◌, ◌==◌, ◌≤◌, [], ◌∷◌, ◌++◌, false, true, length, map, pos, Some, ℕ, ℤ, List, refl, to_z, of_z}
use Rattle.std.specs.Prelude.{slice_get, slice_set, unwrap_or, FitsSigned, ◌&&◌}
use Rattle.std.specs.List.{list_any}
use Rattle.std.specs.Int.{w128}
use Rattle.std.proofs.lemmas.Int.{to_z-of_z}
use Rattle.nk_base.specs.Number.{wrapped}
use Rattle.nml_tree.specs.Exec.{with_write}
use Rattle.nml_state.specs.Cells.{Shown, HasCell, IsOf, IsAmong, is_kept, is_write_of, sizes}
use Rattle.nml_state.specs.IsState.{IsState}
use Rattle.nml_state.specs.SeenWrites.{seen_cells, seen_writes}
use Rattle.nml_state.specs.Wrapping.{has_cell, wraps_into, type_at, offered, given_trn, given_cell}
use Rattle.nml_state.proofs.StateLaws.{has_room, state_push, state_write, state_trn}
use Rattle.nml_state.proofs.StateSeen.{seen_length, seen_push}
use Rattle.nml_state.proofs.WrappingLaws.{has_among, cells_fit, trns_fit, trn_exists, any_seen, offered_kept, offered_twice, offered_nowhere, offered_unwrapped, given_at_once, given_nowhere, given_now, wrapped_found}
use Rattle.nml_state.proofs.state.State.give_trn.Goals as goal

pub put_at-requires : goal.put_at-requires
put_at-requires c = let w : IsOf c.self.inside.trn_types.items c.args.n c.in-Some.value = rw (c.deref.ensures.value) at c.in-Some.ensures.2 in trn_exists _ _ c.args.n w.0 c.self.invariant.trn_values w.1

pub invariant_of-self : goal.invariant_of-self
invariant_of-self c =
    let w : IsOf c.self.inside.trn_types.items c.args.n c.in-Some.value = rw (c.deref.ensures.value) at c.in-Some.ensures.2 in
    let f : FitsSigned w128 c.in-Some.value = search rules in
    rw (c.put_at.ensures, to_z-of_z w128 c.in-Some.value f) (state_trn _ _ c.args.n c.in-Some.value c.self.invariant w)
