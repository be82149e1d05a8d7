use Rattle.std.proofs.Common.{rules, ◌≡◌, ◌∙◌, sym, ap, subst, arith, ◌<◌, ◌==◌, ◌≤◌, [], ◌∷◌, ◌++◌, false, true, length, map, pos, Some, ℕ, ℤ, List, refl, to_z, of_z}
use Rattle.std.specs.Prelude.{slice_get, slice_set, unwrap_or, FitsSigned, ◌&&◌}
use Rattle.std.specs.List.{list_any}
use Rattle.std.specs.Int.{w128}
use Rattle.std.proofs.lemmas.Int.{to_z-of_z}
use Rattle.nk_base.specs.Number.{wrapped}
use Rattle.nml_tree.specs.Exec.{with_write}
use Rattle.nml_state.specs.Cells.{Shown, HasCell, IsOf, IsAmong, is_kept, is_write_of, sizes}
use Rattle.nml_state.specs.IsState.{IsState}
use Rattle.nml_state.specs.SeenWrites.{seen_cells, seen_writes}
use Rattle.nml_state.specs.Wrapping.{has_cell, wraps_into, type_at, offered, given_trn, given_cell}
use Rattle.nml_state.proofs.StateLaws.{has_room, state_push, state_write, state_trn}
use Rattle.nml_state.proofs.StateSeen.{seen_length, seen_push}
use Rattle.nml_state.proofs.WrappingLaws.{has_among, cells_fit, trns_fit, trn_exists, any_seen, offered_kept, offered_twice, offered_nowhere, offered_unwrapped, given_at_once, given_nowhere, given_now, wrapped_found}
use Rattle.nml_state.proofs.state.State.offer.Goals as goal

pub returns-then-write_is_kept : goal.returns-then-write_is_kept
returns-then-write_is_kept c =
    let any : c.write_is_kept.result ≡ is_kept (seen_writes c.self.inside.kept.items) c.args.storage c.in-Some-cell_at.index = c.write_is_kept.ensures ∙ ap (λ ws. list_any (λ w. (w.storage == c.args.storage) && (w.index == c.in-Some-cell_at.index)) ws) c.deref-3.ensures.value ∙ any_seen (is_write_of c.args.storage c.in-Some-cell_at.index) c.self.inside.kept.items in
    let same : c.in-Some-cell_at.index ≡ c.args.index = c.in-Some-cell_at.ensures.1 in
    let kept : is_kept (seen_writes c.self.inside.kept.items) c.args.storage c.args.index ≡ true = ap (λ i. is_kept (seen_writes c.self.inside.kept.items) c.args.storage i) (sym same) ∙ sym any ∙ c.if-write_is_kept.true in
    rw (← c.self.view_is) (offered_twice _ c.args.storage c.args.index c.args.value kept)

pub push_reserved-requires : goal.push_reserved-requires
push_reserved-requires c =
    let any : c.write_is_kept.result ≡ is_kept (seen_writes c.self.inside.kept.items) c.args.storage c.in-Some-cell_at.index = c.write_is_kept.ensures ∙ ap (λ ws. list_any (λ w. (w.storage == c.args.storage) && (w.index == c.in-Some-cell_at.index)) ws) c.deref-3.ensures.value ∙ any_seen (is_write_of c.args.storage c.in-Some-cell_at.index) c.self.inside.kept.items in
    let free : is_kept (seen_writes c.self.inside.kept.items) c.args.storage c.in-Some-cell_at.index ≡ false = sym any ∙ c.if-write_is_kept.false in
    let here : has_cell (seen_cells c.self.inside.cells.items) c.args.storage c.in-Some-cell_at.index ≡ true = rw c.deref-2.ensures.value at c.in-Some-cell_at.ensures.0 in
    let exists : IsAmong (sizes (seen_cells c.self.inside.cells.items)) c.args.storage c.in-Some-cell_at.index = has_among _ c.args.storage _ here in
    let wraps : wraps_into (slice_get c.self.inside.types.items c.args.storage) c.args.value ≡ true = rw (c.deref.ensures.value, to_z-of_z w128 c.args.value c.ranges.value) at c.in-Some.ensures.0 in
    let is : c.in-Some.value ≡ wrapped (type_at c.self.inside.types.items c.args.storage) c.args.value = rw (c.deref.ensures.value, to_z-of_z w128 c.args.value c.ranges.value) at c.in-Some.ensures.1 in
    let of : IsOf c.self.inside.types.items c.args.storage c.in-Some.value = rw c.deref.ensures.value at c.in-Some.ensures.2 in
    let f : FitsSigned w128 c.in-Some.value = search rules in
    omega (arith, has_room _ _ c.args.storage c.in-Some-cell_at.index c.self.invariant free exists, seen_length c.self.inside.kept.items, c.self.inside.kept.ok.0)

pub invariant_of-self : goal.invariant_of-self
invariant_of-self c =
    let any : c.write_is_kept.result ≡ is_kept (seen_writes c.self.inside.kept.items) c.args.storage c.in-Some-cell_at.index = c.write_is_kept.ensures ∙ ap (λ ws. list_any (λ w. (w.storage == c.args.storage) && (w.index == c.in-Some-cell_at.index)) ws) c.deref-3.ensures.value ∙ any_seen (is_write_of c.args.storage c.in-Some-cell_at.index) c.self.inside.kept.items in
    let free : is_kept (seen_writes c.self.inside.kept.items) c.args.storage c.in-Some-cell_at.index ≡ false = sym any ∙ c.if-write_is_kept.false in
    let here : has_cell (seen_cells c.self.inside.cells.items) c.args.storage c.in-Some-cell_at.index ≡ true = rw c.deref-2.ensures.value at c.in-Some-cell_at.ensures.0 in
    let exists : IsAmong (sizes (seen_cells c.self.inside.cells.items)) c.args.storage c.in-Some-cell_at.index = has_among _ c.args.storage _ here in
    let wraps : wraps_into (slice_get c.self.inside.types.items c.args.storage) c.args.value ≡ true = rw (c.deref.ensures.value, to_z-of_z w128 c.args.value c.ranges.value) at c.in-Some.ensures.0 in
    let is : c.in-Some.value ≡ wrapped (type_at c.self.inside.types.items c.args.storage) c.args.value = rw (c.deref.ensures.value, to_z-of_z w128 c.args.value c.ranges.value) at c.in-Some.ensures.1 in
    let of : IsOf c.self.inside.types.items c.args.storage c.in-Some.value = rw c.deref.ensures.value at c.in-Some.ensures.2 in
    let f : FitsSigned w128 c.in-Some.value = search rules in
    let r = state_push _ _ (record { storage = c.args.storage; index = c.in-Some-cell_at.index; value = c.in-Some.value }) c.self.invariant free exists of in
    rw (c.push_reserved.ensures.items, seen_push, c.push_reserved.ensures.capacity, to_z-of_z w128 c.in-Some.value f) r

pub returns : goal.returns
returns c =
    let any : c.write_is_kept.result ≡ is_kept (seen_writes c.self.inside.kept.items) c.args.storage c.in-Some-cell_at.index = c.write_is_kept.ensures ∙ ap (λ ws. list_any (λ w. (w.storage == c.args.storage) && (w.index == c.in-Some-cell_at.index)) ws) c.deref-3.ensures.value ∙ any_seen (is_write_of c.args.storage c.in-Some-cell_at.index) c.self.inside.kept.items in
    let free : is_kept (seen_writes c.self.inside.kept.items) c.args.storage c.in-Some-cell_at.index ≡ false = sym any ∙ c.if-write_is_kept.false in
    let here : has_cell (seen_cells c.self.inside.cells.items) c.args.storage c.in-Some-cell_at.index ≡ true = rw c.deref-2.ensures.value at c.in-Some-cell_at.ensures.0 in
    let exists : IsAmong (sizes (seen_cells c.self.inside.cells.items)) c.args.storage c.in-Some-cell_at.index = has_among _ c.args.storage _ here in
    let wraps : wraps_into (slice_get c.self.inside.types.items c.args.storage) c.args.value ≡ true = rw (c.deref.ensures.value, to_z-of_z w128 c.args.value c.ranges.value) at c.in-Some.ensures.0 in
    let is : c.in-Some.value ≡ wrapped (type_at c.self.inside.types.items c.args.storage) c.args.value = rw (c.deref.ensures.value, to_z-of_z w128 c.args.value c.ranges.value) at c.in-Some.ensures.1 in
    let of : IsOf c.self.inside.types.items c.args.storage c.in-Some.value = rw c.deref.ensures.value at c.in-Some.ensures.2 in
    let f : FitsSigned w128 c.in-Some.value = search rules in
    let same : c.in-Some-cell_at.index ≡ c.args.index = c.in-Some-cell_at.ensures.1 in
    let r = offered_kept (record { types = c.self.inside.types.items; trn_types = c.self.inside.trn_types.items; cells = seen_cells c.self.inside.cells.items; trns = c.self.inside.trns.items; kept = seen_writes c.self.inside.kept.items }) c.args.storage c.in-Some-cell_at.index c.args.value c.in-Some.value _ wraps here free is refl in
    rw (← c.self.view_is, ← same, c.push_reserved.ensures.items, seen_push, to_z-of_z w128 c.in-Some.value f) r
