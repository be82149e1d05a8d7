-- The shapes of a description by their numbers in the list: the picks of one come before those of the next.
use Rattle.std.proofs.Common.{ℕ, zero, suc, ◌<◌, ◌==◌, ◌≡◌, refl, sym, ◌∙◌, ap, subst, List, [], ◌∷◌, Some, Contains, arith, ◌⊎◌, inl, inr}
use Rattle.std.specs.Prelude.{◌&&◌, nat_lt, IsTrue, slice_get}
use Rattle.std.proofs.lemmas.Bool.{or_cases, and_parts, and_from, or_left, or_right, ltb-true, lt-ltb, eqb-true, eq-eqb}
use Rattle.nml_tree.specs.Shapes.{comes_before, Rises}
use Rattle.nml_shape.specs.declared.shape.Shape.{Shape}
use Rattle.nml_shape.specs.Shown.{picks_of}

-- by the first number, or by the others
step_of : (x y : ℕ) (xs ys : List ℕ) → IsTrue (comes_before (x ∷ xs) (y ∷ ys)) → (x < y) ⊎ ((x ≡ y) × IsTrue (comes_before xs ys))
step_of x y xs ys h =
    elim (or_cases (nat_lt x y) ((x == y) && comes_before xs ys) h) [
      | inl l ↦ inl (ltb-true x y l)
      | inr e ↦ (let p = and_parts (x == y) (comes_before xs ys) e in inr (eqb-true x y p.0, p.1))
    ]

of_step : (x y : ℕ) (xs ys : List ℕ) → (x < y) ⊎ ((x ≡ y) × IsTrue (comes_before xs ys)) → IsTrue (comes_before (x ∷ xs) (y ∷ ys))
of_step x y xs ys (inl l) = or_left (nat_lt x y) ((x == y) && comes_before xs ys) (lt-ltb x y l)
of_step x y xs ys (inr e) = or_right (nat_lt x y) ((x == y) && comes_before xs ys) (and_from (x == y) (comes_before xs ys) (eq-eqb x y e.0) e.1)

-- nothing comes before itself
pub before_itself : (xs : List ℕ) → IsTrue (comes_before xs xs) → ⊥
before_itself [] h = cc
before_itself (x ∷ xs) h = elim (step_of x x xs xs h) [ inl l ↦ omega (arith, l) | inr e ↦ before_itself xs e.1 ]

pub before_next : (xs ys zs : List ℕ) → IsTrue (comes_before xs ys) → IsTrue (comes_before ys zs) → IsTrue (comes_before xs zs)
before_next xs [] zs h k = absurd cc
before_next xs (y ∷ ys) [] h k = absurd cc
before_next [] (y ∷ ys) (z ∷ zs) h k = refl
before_next (x ∷ xs) (y ∷ ys) (z ∷ zs) h k =
    of_step x z xs zs (elim (step_of x y xs ys h) [
      | inl l ↦ elim (step_of y z ys zs k) [ inl m ↦ inl (omega (arith, l, m)) | inr f ↦ (let s = f.0 in inl (omega (arith, l, s))) ]
      | inr e ↦ elim (step_of y z ys zs k) [ inl m ↦ (let s = e.0 in inl (omega (arith, m, s))) | inr f ↦ inr (e.0 ∙ f.0, before_next xs ys zs e.1 f.1) ]
    ])

-- the shape of this number
pub contains_at : (shapes : List Shape) (k : ℕ) (s : Shape) → slice_get shapes k ≡ Some s → Contains shapes s
contains_at [] k s h = absurd cc
contains_at (x ∷ shapes) zero s h = let e : x ≡ s = cc in (0, omega arith, e)
contains_at (x ∷ shapes) (suc k) s h = let c = contains_at shapes k s h in (suc c.0, omega (arith, c.1), c.2)

pub picks_at : (shapes : List Shape) (s : Shape) → Contains shapes s → Contains (picks_of shapes) s.picks.items
picks_at [] s c = absurd (omega (arith, c.1))
picks_at (x ∷ shapes) s (zero, low, is) = (0, omega arith, ap (λ (y : Shape). y.picks.items) is)
picks_at (x ∷ shapes) s (suc k, low, is) = let c = picks_at shapes s (k, omega (arith, low), is) in (suc c.0, omega (arith, c.1), c.2)

-- picks that stand in the list are those of the shape of a number
pub at_of : (shapes : List Shape) (x : List ℕ) → Contains (picks_of shapes) x → (k : ℕ) × (s : Shape) × (slice_get shapes k ≡ Some s) × (s.picks.items ≡ x)
at_of [] x c = absurd (omega (arith, c.1))
at_of (s ∷ shapes) x (zero, low, is) = (0, s, refl, is)
at_of (s ∷ shapes) x (suc k, low, is) = let r = at_of shapes x (k, omega (arith, low), is) in (suc r.0, r.1, r.2, r.3)

first_before : (x : Shape) (shapes : List Shape) (l : ℕ) (b : Shape) → Rises (picks_of (x ∷ shapes)) → slice_get shapes l ≡ Some b → IsTrue (comes_before x.picks.items b.picks.items)
first_before x [] l b h e = absurd cc
first_before x (y ∷ shapes) zero b h e = let s : y ≡ b = cc in subst (λ (z : Shape). IsTrue (comes_before x.picks.items z.picks.items)) s h.0
first_before x (y ∷ shapes) (suc l) b h e = before_next x.picks.items y.picks.items b.picks.items h.0 (first_before y shapes l b h.1 e)

rises_behind : (x : Shape) (shapes : List Shape) → Rises (picks_of (x ∷ shapes)) → Rises (picks_of shapes)
rises_behind x [] h = tt
rises_behind x (y ∷ shapes) h = h.1

-- a lower number comes before
pub lower_before : (shapes : List Shape) (k l : ℕ) (a b : Shape) → Rises (picks_of shapes) → slice_get shapes k ≡ Some a → slice_get shapes l ≡ Some b → k < l → IsTrue (comes_before a.picks.items b.picks.items)
lower_before [] k l a b h e f low = absurd cc
lower_before (x ∷ shapes) k zero a b h e f low = absurd (omega (arith, low))
lower_before (x ∷ shapes) zero (suc l) a b h e f low = let s : x ≡ a = cc in subst (λ (z : Shape). IsTrue (comes_before z.picks.items b.picks.items)) s (first_before x shapes l b h f)
lower_before (x ∷ shapes) (suc k) (suc l) a b h e f low = lower_before shapes k l a b (rises_behind x shapes h) e f (omega (arith, low))

pub one_shape_at : (shapes : List Shape) (k l : ℕ) (a b : Shape) → k ≡ l → slice_get shapes k ≡ Some a → slice_get shapes l ≡ Some b → a ≡ b
one_shape_at shapes k l a b same e f = let g : slice_get shapes k ≡ Some b = ap (slice_get shapes) same ∙ f in cc

pub compare : (k l : ℕ) → (k < l) ⊎ ((k ≡ l) ⊎ (l < k))
compare zero zero = inr (inl refl)
compare zero (suc l) = inl (omega arith)
compare (suc k) zero = inr (inr (omega arith))
compare (suc k) (suc l) = elim (compare k l) [ inl h ↦ inl (omega (arith, h)) | inr r ↦ elim r [ inl e ↦ inr (inl (ap suc e)) | inr h ↦ inr (inr (omega (arith, h))) ] ]

-- and what comes before has a lower number
pub before_lower : (shapes : List Shape) (k l : ℕ) (a b : Shape) → Rises (picks_of shapes) → slice_get shapes k ≡ Some a → slice_get shapes l ≡ Some b → IsTrue (comes_before a.picks.items b.picks.items) → k < l
before_lower shapes k l a b h e f before =
    elim (compare k l) [
      | inl low ↦ low
      | inr r ↦ elim r [
        | inl same ↦ absurd (before_itself a.picks.items (subst (λ (z : Shape). IsTrue (comes_before a.picks.items z.picks.items)) (sym (one_shape_at shapes k l a b same e f)) before))
        | inr high ↦ absurd (before_itself a.picks.items (before_next a.picks.items b.picks.items a.picks.items before (lower_before shapes l k b a h f e high)))
      ]
    ]
