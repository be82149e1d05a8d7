-- The order of lists of picks is total, and a list that rises has each before all behind it.
use Rattle.std.proofs.Common.{ℕ, zero, suc, ◌≤◌, ◌<◌, ◌≡◌, refl, sym, ap, ◌∙◌, subst, arith, true, false, List, [], ◌∷◌, Some, Contains, ◌⊎◌, inl, inr}
use Rattle.std.specs.Prelude.{IsTrue, nat_lt, ◌==◌, slice_get}
use Rattle.std.proofs.lemmas.Bool.Decides.{nat_tests}
use Rattle.nml_tree.specs.Shapes.{comes_before, Rises}

-- the one comes before the other, said by cases
abbrev pub Before : List ℕ → List ℕ → Type 0
Before xs [] = ⊥
Before [] (y ∷ ys) = Unit {0}
Before (x ∷ xs) (y ∷ ys) = (x < y) ⊎ ((x ≡ y) × Before xs ys)

pub le_or_lt : (a b : ℕ) → (a ≤ b) ⊎ (b < a)
le_or_lt zero b = inl (omega arith)
le_or_lt (suc a) zero = inr (omega arith)
le_or_lt (suc a) (suc b) = elim (le_or_lt a b) [ inl h ↦ inl (omega (arith, h)) | inr h ↦ inr (omega (arith, h)) ]

-- below, equal or above
pub three : (m n : ℕ) → (m < n) ⊎ ((m ≡ n) ⊎ (n < m))
three zero zero = inr (inl refl)
three zero (suc n) = inl (omega arith)
three (suc m) zero = inr (inr (omega arith))
three (suc m) (suc n) = elim (three m n) [
  | inl h ↦ inl (omega (arith, h))
  | inr r ↦ elim r [ inl e ↦ inr (inl (ap suc e)) | inr h ↦ inr (inr (omega (arith, h))) ]
]

is_below : (m n : ℕ) → m < n → nat_lt m n ≡ true
is_below m n h = grind (arith, nat_tests)

not_below : (m n : ℕ) → n ≤ m → nat_lt m n ≡ false
not_below m n h = grind (arith, nat_tests)

is_same : (m n : ℕ) → m ≡ n → (m == n) ≡ true
is_same m n h = grind (arith, nat_tests)

is_other : (m n : ℕ) → n < m → (m == n) ≡ false
is_other m n h = grind (arith, nat_tests)

pub before_forth : (xs ys : List ℕ) → IsTrue (comes_before xs ys) → Before xs ys
before_forth [] [] h = absurd (cc h)
before_forth (x ∷ xs) [] h = absurd (cc h)
before_forth [] (y ∷ ys) h = tt
before_forth (x ∷ xs) (y ∷ ys) h = elim (three x y) [
  | inl low ↦ inl low
  | inr r ↦ elim r [
    | inl same ↦ inr (same, before_forth xs ys (rw (not_below x y (omega (arith, same)), is_same x y same) at h))
    | inr high ↦ let f : false ≡ true = rw (not_below x y (omega (arith, high)), is_other x y high) at h in absurd (cc f)
  ]
]

pub before_back : (xs ys : List ℕ) → Before xs ys → IsTrue (comes_before xs ys)
before_back [] [] h = absurd h
before_back (x ∷ xs) [] h = absurd h
before_back [] (y ∷ ys) h = refl
before_back (x ∷ xs) (y ∷ ys) (inl low) = rw (is_below x y low) refl
before_back (x ∷ xs) (y ∷ ys) (inr p) = let same = p.0 in rw (not_below x y (omega (arith, same)), is_same x y same) (before_back xs ys p.1)

pub before_on : (a b c : List ℕ) → Before a b → Before b c → Before a c
before_on [] [] c h k = absurd h
before_on (x ∷ a) [] c h k = absurd h
before_on [] (y ∷ b) [] h k = absurd k
before_on [] (y ∷ b) (z ∷ c) h k = tt
before_on (x ∷ a) (y ∷ b) [] h k = absurd k
before_on (x ∷ a) (y ∷ b) (z ∷ c) (inl h) (inl k) = inl (omega (arith, h, k))
before_on (x ∷ a) (y ∷ b) (z ∷ c) (inl h) (inr k) = let e = k.0 in inl (omega (arith, h, e))
before_on (x ∷ a) (y ∷ b) (z ∷ c) (inr h) (inl k) = let e = h.0 in inl (omega (arith, k, e))
before_on (x ∷ a) (y ∷ b) (z ∷ c) (inr h) (inr k) = inr (h.0 ∙ k.0, before_on a b c h.1 k.1)

-- none comes before itself
pub not_itself : (a : List ℕ) → Before a a → ⊥
not_itself [] h = h
not_itself (x ∷ a) (inl h) = omega (arith, h)
not_itself (x ∷ a) (inr h) = not_itself a h.1

pub not_both : (a b : List ℕ) → Before a b → Before b a → ⊥
not_both a b h k = not_itself a (before_on a b a h k)

-- before, equal or behind
pub before_cases : (a b : List ℕ) → Before a b ⊎ ((a ≡ b) ⊎ Before b a)
before_cases [] [] = inr (inl refl)
before_cases [] (y ∷ b) = inl tt
before_cases (x ∷ a) [] = inr (inr tt)
before_cases (x ∷ a) (y ∷ b) = elim (three x y) [
  | inl low ↦ inl (inl low)
  | inr r ↦ elim r [
    | inl same ↦ elim (before_cases a b) [
      | inl h ↦ inl (inr (same, h))
      | inr s ↦ elim s [
        | inl e ↦ inr (inl (λ j. same j ∷ e j))
        | inr h ↦ inr (inr (inr (sym same, h)))
      ]
    ]
    | inr high ↦ inr (inr (inl high))
  ]
]

-- ---- places in a list

pub got : {A : Type 0} (xs : List A) (x : A) → Contains xs x → (k : ℕ) × (slice_get xs k ≡ Some x)
got [] x c = absurd (omega (arith, c.1))
got (y ∷ ys) x (zero, low, is) = (0, ap Some is)
got (y ∷ ys) x (suc k, low, is) = let g = got ys x (k, omega (arith, low), is) in (suc g.0, g.1)

pub has : {A : Type 0} (xs : List A) (k : ℕ) (x : A) → slice_get xs k ≡ Some x → Contains xs x
has [] k x h = absurd cc
has (y ∷ ys) zero x h = let e : y ≡ x = cc in (0, omega arith, e)
has (y ∷ ys) (suc k) x h = let c = has ys k x h in (suc c.0, omega (arith, c.1), c.2)

pub rises_behind : (x : List ℕ) (xs : List (List ℕ)) → Rises (x ∷ xs) → Rises xs
rises_behind x [] h = tt
rises_behind x (y ∷ ys) h = h.1

-- the first comes before each behind it
pub first_before : (xs : List (List ℕ)) (x y : List ℕ) (k : ℕ) → Rises (x ∷ xs) → slice_get xs k ≡ Some y → Before x y
first_before [] x y k h at = absurd cc
first_before (z ∷ xs) x y zero h at = let e : z ≡ y = cc in before_forth x y (rw (sym e) h.0)
first_before (z ∷ xs) x y (suc k) h at = before_on x z y (before_forth x z h.0) (first_before xs z y k h.1 at)

-- so does each before all behind it
pub rises_at : (xs : List (List ℕ)) (k l : ℕ) (x y : List ℕ) → Rises xs → slice_get xs k ≡ Some x → slice_get xs l ≡ Some y → k < l → Before x y
rises_at [] k l x y h at to low = absurd cc
rises_at (z ∷ xs) k zero x y h at to low = absurd (omega (arith, low))
rises_at (z ∷ xs) zero (suc l) x y h at to low = let e : z ≡ x = cc in first_before xs x y l (subst (λ w. Rises (w ∷ xs)) e h) to
rises_at (z ∷ xs) (suc k) (suc l) x y h at to low = rises_at xs k l x y (rises_behind z xs h) at to (omega (arith, low))
