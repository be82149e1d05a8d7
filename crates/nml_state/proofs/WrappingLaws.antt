-- What a state holds fits its types, and a place that there is.
use Rattle.std.proofs.Common.{◌≡◌, ℕ, zero, suc, ◌<◌, ◌≤◌, ◌+◌, ◌++◌, List, [], ◌∷◌, length, get_or, ℤ, pos, refl, ap, sym, ◌∙◌, subst, arith, Bool, true, false, Some, None, Option}
use Rattle.std.specs.Prelude.{nat_lt, ◌&&◌, not, slice_get, slice_set, unwrap_or, MatchOption, ◌==◌, map}
use Rattle.std.specs.List.{list_any}
use Rattle.std.specs.Global.{Vec}
use Rattle.std.proofs.lemmas.Bool.{ltb-true}
use Rattle.std.proofs.lemmas.Bool.Decides.{nat_tests}
use Rattle.nk_base.specs.declared.number.Ty.{Ty}
use Rattle.nk_base.specs.Number.{InRange, wrapped}
use Rattle.nml_tree.specs.Value.{Cells, cell, number_at}
use Rattle.nml_state.specs.Cells.{Shown, IsAmong, IsOf, sizes, is_kept}
use Rattle.nml_state.specs.IsState.{AreAll, AreRows, AreOf}
use Rattle.nml_state.specs.SeenWrites.{seen_cells, seen_writes}
use Rattle.nml_state.specs.declared.state.Write.{Write}
use Rattle.nml_tree.specs.Exec as exec
use Rattle.nml_tree.specs.Exec.{with_write}
use Rattle.nml_state.specs.Wrapping.{has_cell, wraps, wraps_into, type_at, wrapped_write, offered, given_trn, given_cell}
use Rattle.nml_state.proofs.StateLaws.{zero_in}
use Rattle.nml_state.proofs.StateSeen.{row_is}

pub has_among : (cells : Cells) (storage n : ℕ) → has_cell cells storage n ≡ true → IsAmong (sizes cells) storage n
has_among [] storage n h = absurd (let e = ltb-true n 0 h in omega (arith, e))
has_among (row ∷ rows) zero n h = (length row, refl, ltb-true n (length row) h)
has_among (row ∷ rows) (suc storage) n h = has_among rows storage n h

fits_row : (ty : Ty) (row : List ℤ) (i : ℕ) → AreAll ty row → InRange ty (number_at row i)
fits_row ty [] i h = zero_in ty
fits_row ty (z ∷ row) zero h = h.0
fits_row ty (z ∷ row) (suc i) h = fits_row ty row i h.1

pub cells_fit : (types : List Ty) (cells : Cells) → AreRows types cells → (n i : ℕ) (ty : Ty) → slice_get types n ≡ Some ty → InRange ty (cell cells n i)
cells_fit [] [] h n i ty is = zero_in ty
cells_fit [] (row ∷ rows) h n i ty is = absurd h
cells_fit (x ∷ types) [] h n i ty is = absurd h
cells_fit (x ∷ types) (row ∷ rows) h zero i ty is = let e : x ≡ ty = cc in subst (λ u. InRange u (number_at row i)) e (fits_row x row i h.0)
cells_fit (x ∷ types) (row ∷ rows) h (suc n) i ty is = cells_fit types rows h.1 n i ty is

pub trns_fit : (types : List Ty) (zs : List ℤ) → AreOf types zs → (n : ℕ) (ty : Ty) → slice_get types n ≡ Some ty → InRange ty (number_at zs n)
trns_fit [] [] h n ty is = zero_in ty
trns_fit [] (z ∷ zs) h n ty is = absurd h
trns_fit (x ∷ types) [] h n ty is = absurd h
trns_fit (x ∷ types) (z ∷ zs) h zero ty is = let e : x ≡ ty = cc in subst (λ u. InRange u z) e h.0
trns_fit (x ∷ types) (z ∷ zs) h (suc n) ty is = trns_fit types zs h.1 n ty is

pub trn_exists : (types : List Ty) (zs : List ℤ) (n : ℕ) (ty : Ty) → AreOf types zs → slice_get types n ≡ Some ty → n < length zs
trn_exists [] zs n ty h is = absurd cc
trn_exists (x ∷ types) [] n ty h is = absurd h
trn_exists (x ∷ types) (z ∷ zs) zero ty h is = omega arith
trn_exists (x ∷ types) (z ∷ zs) (suc n) ty h is = omega (arith, trn_exists types zs n ty h.1 is)

past_rows : (rows : List (Vec ℤ)) (s : ℕ) → length rows ≤ s → unwrap_or (slice_get (seen_cells rows) s) [] ≡ []
past_rows [] s h = refl
past_rows (row ∷ rows) zero h = absurd (omega (arith, h))
past_rows (row ∷ rows) (suc s) h = past_rows rows s (omega (arith, h))

pub no_row : (rows : List (Vec ℤ)) (s n : ℕ) → length rows ≤ s → false ≡ has_cell (seen_cells rows) s n
no_row rows s n h = let e : nat_lt n 0 ≡ false = grind (arith, nat_tests) in rw (past_rows rows s h) (sym e)

pub in_row : (rows : List (Vec ℤ)) (s n : ℕ) (d : Vec ℤ) (b : Bool) → s < length rows → b ≡ nat_lt n (length (get_or rows s d).items) → b ≡ has_cell (seen_cells rows) s n
in_row rows s n d b low is = rw (row_is rows s d low) is

pub no_row_value : (rows : List (Vec ℤ)) (s n : ℕ) → length rows ≤ s → pos 0 ≡ cell (seen_cells rows) s n
no_row_value rows s n h = rw (past_rows rows s h) refl

pub row_value : (rows : List (Vec ℤ)) (s n : ℕ) (d : Vec ℤ) (z : ℤ) → s < length rows → z ≡ number_at (get_or rows s d).items n → z ≡ cell (seen_cells rows) s n
row_value rows s n d z low is = rw (row_is rows s d low) is

pub past_number : (xs : List ℤ) (n : ℕ) → length xs ≤ n → pos 0 ≡ number_at xs n
past_number [] n h = refl
past_number (x ∷ xs) zero h = absurd (omega (arith, h))
past_number (x ∷ xs) (suc n) h = past_number xs n (omega (arith, h))

pub both_true : (a b : Bool) → a ≡ true → b ≡ true → (a && b) ≡ true
both_true true true h k = refl
both_true true false h k = k
both_true false b h k = h

pub left_false : (a b : Bool) → a ≡ false → (a && b) ≡ false
left_false true b h = absurd cc
left_false false b h = refl

pub right_false : (a b : Bool) → b ≡ false → (a && b) ≡ false
right_false true b h = h
right_false false b h = refl

pub wrapped_found : (types : List Ty) (n : ℕ) (ty : Ty) (v : ℤ) (o : Option ℤ) → slice_get types n ≡ Some ty → MatchOption o (wraps ty v ≡ false) (λ z. (wraps ty v ≡ true) × (z ≡ wrapped ty v) × InRange ty z)
    → MatchOption o (wraps_into (slice_get types n) v ≡ false) (λ z. (wraps_into (slice_get types n) v ≡ true) × (z ≡ wrapped (type_at types n) v) × IsOf types n z)
wrapped_found types n ty v None is h = rw is h
wrapped_found types n ty v (Some z) is h = (rw is h.0, rw is h.1, (ty, is, h.2))

pub any_seen : (f : exec.Write → Bool) (ws : List Write) → list_any (λ w. f (record { storage = w.storage; index = w.index; value = w.value })) ws ≡ list_any f (seen_writes ws)
any_seen f [] = refl
any_seen f (w ∷ ws) = rw (any_seen f ws) refl

-- a write that is offered is kept
pub offered_kept : (s : Shown) (storage n : ℕ) (z y : ℤ) (ws : List exec.Write) → wraps_into (slice_get s.types storage) z ≡ true → has_cell s.cells storage n ≡ true → is_kept s.kept storage n ≡ false → y ≡ wrapped (type_at s.types storage) z
    → ws ≡ s.kept ++ record { storage = storage; index = n; value = y } ∷ [] → record s { kept = ws } ≡ offered s storage n z
offered_kept s storage n z y ws w h f is e = rw (w, h, f, e, is) refl

pub offered_twice : (s : Shown) (storage n : ℕ) (z : ℤ) → is_kept s.kept storage n ≡ true → s ≡ offered s storage n z
offered_twice s storage n z f =
    let e : (has_cell s.cells storage n && not (is_kept s.kept storage n)) ≡ false = rw f (right_false (has_cell s.cells storage n) false refl) in
    let g : (wraps_into (slice_get s.types storage) z && (has_cell s.cells storage n && not (is_kept s.kept storage n))) ≡ false = right_false (wraps_into (slice_get s.types storage) z) _ e in
    rw g refl

pub offered_nowhere : (s : Shown) (storage n : ℕ) (z : ℤ) → has_cell s.cells storage n ≡ false → s ≡ offered s storage n z
offered_nowhere s storage n z f =
    let e : (has_cell s.cells storage n && not (is_kept s.kept storage n)) ≡ false = left_false (has_cell s.cells storage n) (not (is_kept s.kept storage n)) f in
    let g : (wraps_into (slice_get s.types storage) z && (has_cell s.cells storage n && not (is_kept s.kept storage n))) ≡ false = right_false (wraps_into (slice_get s.types storage) z) _ e in
    rw g refl

pub offered_unwrapped : (s : Shown) (storage n : ℕ) (z : ℤ) → wraps_into (slice_get s.types storage) z ≡ false → s ≡ offered s storage n z
offered_unwrapped s storage n z f = rw f refl

pub given_at_once : (s : Shown) (storage n : ℕ) (z y : ℤ) (cells : Cells) → wraps_into (slice_get s.types storage) z ≡ true → has_cell s.cells storage n ≡ true → n ≡ 0 → y ≡ wrapped (type_at s.types storage) z
    → cells ≡ with_write s.cells (record { storage = storage; index = n; value = y }) → record s { cells = cells } ≡ given_cell s storage z
given_at_once s storage n z y cells w h o is e = let k : has_cell s.cells storage 0 ≡ true = subst (λ i. has_cell s.cells storage i ≡ true) o h in rw (w, k, e, o, is) refl

pub given_nowhere : (s : Shown) (storage : ℕ) (z : ℤ) → has_cell s.cells storage 0 ≡ false → s ≡ given_cell s storage z
given_nowhere s storage z f =
    let g : (wraps_into (slice_get s.types storage) z && has_cell s.cells storage 0) ≡ false = right_false (wraps_into (slice_get s.types storage) z) _ f in
    rw g refl

pub given_now : (s : Shown) (n : ℕ) (z y : ℤ) (zs : List ℤ) → wraps_into (slice_get s.trn_types n) z ≡ true → y ≡ wrapped (type_at s.trn_types n) z → zs ≡ slice_set s.trns n y → record s { trns = zs } ≡ given_trn s n z
given_now s n z y zs w is e = rw (w, e, is) refl

pub got : {A : Type 0} (xs : List A) (n : ℕ) (x : A) → n < length xs → x ≡ get_or xs n x → slice_get xs n ≡ Some x
got [] n x low is = absurd (omega (arith, low))
got (y ∷ ys) zero x low is = ap Some (sym is)
got (y ∷ ys) (suc n) x low is = got ys n x (omega (arith, low)) is
