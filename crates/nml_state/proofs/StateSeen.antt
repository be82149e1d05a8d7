-- What is seen of the rows and the kept writes of a state.
use Rattle.std.proofs.Common.{◌≡◌, ℕ, zero, suc, ◌+◌, ◌<◌, ◌≤◌, List, [], ◌∷◌, ◌++◌, length, map, take, drop, get_or, ℤ, pos, refl, ap, sym, ◌∙◌, subst, arith, Some}
use Rattle.std.specs.Prelude.{slice_get, slice_set, unwrap_or}
use Rattle.std.specs.Global.{Vec}
use Rattle.std.proofs.lemmas.List.{drop_more, drop_all}
use Rattle.nml_state.specs.declared.state.Write.{Write}
use Rattle.nml_tree.specs.Exec as exec
use Rattle.nml_tree.specs.Exec.{with_write, with_writes}
use Rattle.nml_tree.specs.Value.{Cells, number_at}
use Rattle.nml_state.specs.Cells.{IsAmong, sizes}
use Rattle.nml_state.specs.IsState.{AllExist}
use Rattle.nml_state.specs.SeenWrites.{seen_cells, seen_writes}

pub seen_length : (ws : List Write) → length (seen_writes ws) ≡ length ws
seen_length [] = refl
seen_length (w ∷ ws) = ap suc (seen_length ws)

pub seen_push : (ws : List Write) (w : Write) → seen_writes (ws ++ w ∷ []) ≡ seen_writes ws ++ record { storage = w.storage; index = w.index; value = w.value } ∷ []
seen_push [] w = refl
seen_push (v ∷ ws) w = ap (λ xs. record { storage = v.storage; index = v.index; value = v.value } ∷ xs) (seen_push ws w)

pub row_length : (rows : List (Vec ℤ)) (s n : ℕ) (d : Vec ℤ) → IsAmong (sizes (seen_cells rows)) s n → (s < length rows) × (n < length (get_or rows s d).items)
row_length [] s n d h = absurd (let e = h.1 in cc)
row_length (row ∷ rows) zero n d h = let same : length row.items ≡ h.0 = (let e = h.1 in cc) in (omega arith, omega (arith, h.2, same))
row_length (row ∷ rows) (suc s) n d h = let r = row_length rows s n d (h.0, h.1, h.2) in (omega (arith, r.0), r.1)

pub row_is : (rows : List (Vec ℤ)) (s : ℕ) (d : Vec ℤ) → s < length rows → unwrap_or (slice_get (seen_cells rows) s) [] ≡ (get_or rows s d).items
row_is [] s d h = absurd (omega (arith, h))
row_is (row ∷ rows) zero d h = refl
row_is (row ∷ rows) (suc s) d h = row_is rows s d (omega (arith, h))

pub seen_set : (rows : List (Vec ℤ)) (s : ℕ) (r : Vec ℤ) → seen_cells (slice_set rows s r) ≡ slice_set (seen_cells rows) s r.items
seen_set [] s r = refl
seen_set (row ∷ rows) zero r = refl
seen_set (row ∷ rows) (suc s) r = ap (λ xs. row.items ∷ xs) (seen_set rows s r)

pub write_exists : (ws : List Write) (counts : List ℕ) (i : ℕ) (d : Write) → AllExist counts (seen_writes ws) → i < length ws → IsAmong counts (get_or ws i d).storage (get_or ws i d).index
write_exists [] counts i d h low = absurd (omega (arith, low))
write_exists (w ∷ ws) counts zero d h low = h.0
write_exists (w ∷ ws) counts (suc i) d h low = write_exists ws counts i d h.1 (omega (arith, low))

pub cleared_one : (xs ys : List ℤ) (i : ℕ) → i < length xs → ys ≡ map (λ z. pos 0) (take i xs) ++ drop i xs → slice_set ys i (pos 0) ≡ map (λ z. pos 0) (take (i + 1) xs) ++ drop (i + 1) xs
cleared_one xs ys i low is = ap (λ zs. slice_set zs i (pos 0)) is ∙ put xs i low ∙ (let e : suc i ≡ i + 1 = omega arith in ap (λ k. map (λ z. pos 0) (take k xs) ++ drop k xs) e)
  where
    put : (xs : List ℤ) (i : ℕ) → i < length xs → slice_set (map (λ z. pos 0) (take i xs) ++ drop i xs) i (pos 0) ≡ map (λ z. pos 0) (take (suc i) xs) ++ drop (suc i) xs
    put [] i low = absurd (omega (arith, low))
    put (x ∷ xs) zero low = refl
    put (x ∷ xs) (suc i) low = ap (λ zs. pos 0 ∷ zs) (put xs i (omega (arith, low)))

pub cleared_all : (xs ys : List ℤ) (i : ℕ) → length xs ≤ i → ys ≡ map (λ z. pos 0) (take i xs) ++ drop i xs → ys ≡ map (λ z. pos 0) xs
cleared_all xs ys i low is = is ∙ all xs i low
  where
    all : (xs : List ℤ) (i : ℕ) → length xs ≤ i → map (λ z. pos 0) (take i xs) ++ drop i xs ≡ map (λ z. pos 0) xs
    all [] zero low = refl
    all [] (suc i) low = refl
    all (x ∷ xs) zero low = absurd (omega (arith, low))
    all (x ∷ xs) (suc i) low = ap (λ zs. pos 0 ∷ zs) (all xs i (omega (arith, low)))

pub next_write : (ws : List Write) (cells new : Cells) (i : ℕ) (d : Write) → i < length ws → new ≡ with_write cells (record { storage = (get_or ws i d).storage; index = (get_or ws i d).index; value = (get_or ws i d).value }) → with_writes new (seen_writes (drop (i + 1) ws)) ≡ with_writes cells (seen_writes (drop i ws))
next_write ws cells new i d low is = rw (drop_more ws i d low, is) refl

pub no_write : (ws : List Write) (cells : Cells) (i : ℕ) → length ws ≤ i → with_writes cells (seen_writes (drop i ws)) ≡ cells
no_write ws cells i low = rw (drop_all i ws low) refl

pub number_is : (xs : List ℤ) (i : ℕ) (z : ℤ) → slice_get xs i ≡ Some z → z ≡ number_at xs i
number_is xs i z is = rw is refl

-- what a slice of a whole vector leaves in it
pub taken : {A : Type 0} (xs ys : List A) (n : ℕ) → length ys ≡ n → length xs ≡ n → take n (xs ++ drop (length xs) ys) ≡ xs
taken xs ys n long same = ap (λ k. take k (xs ++ drop (length xs) ys)) (sym same) ∙ take-append xs (drop (length xs) ys)
  where
    take-append : {A : Type 0} (xs ys : List A) → take (length xs) (xs ++ ys) ≡ xs
    take-append [] ys = refl
    take-append (x ∷ xs) ys = ap (λ zs. x ∷ zs) (take-append xs ys)
