-- Variables among others: their cells are among all cells, and an array's cells are inside the listed arrays.
use Rattle.std.proofs.Common.{◌≡◌, ℕ, zero, suc, ◌+◌, ◌<◌, ◌≤◌, List, [], ◌∷◌, ◌++◌, Bool, true, false, ◌||◌, ◌&&◌, Some, None, refl, ap, ◌∙◌, subst, arith}
use Rattle.std.specs.Prelude.{slice_get, nat_eq, nat_lt, nat_le, if◌then◌else◌}
use Rattle.std.proofs.lemmas.Bool.{eqb-true, lt-ltb, le-leb}
use Rattle.std.proofs.lemmas.List.Folds.{list_any-append}
use Rattle.ir_run.specs.Strict.{Arrays, is_inside}
use Rattle.c_tree.specs.Program.{Shape, size, sizes, Function}
use Rattle.c_tree.specs.Code.{Frame}
use Rattle.c_tree.specs.Lowered.{arrays_among, arrays_of_functions}
use Rattle.c_lowered.specs.Sound.{shape_at}

none : {X : Type 0} (x : X) → None ≡ Some x → ⊥
none x e = cc

-- a variable's cells are among those of all
pub shape_below : (c : ℕ) (vs : List Shape) (k : ℕ) (v : Shape) → shape_at c vs k ≡ Some v → (c ≤ k) × (k + size v ≤ c + sizes vs)
shape_below c [] k v is = absurd (none v is)
shape_below c (w ∷ vs) k v is = by_test (nat_eq c k) refl is (λ h. shape_below (c + size w) vs k v h)
  where
    by_test : (b : Bool) → nat_eq c k ≡ b → (if b then Some w else shape_at (c + size w) vs k) ≡ Some v → (shape_at (c + size w) vs k ≡ Some v → (c + size w ≤ k) × (k + size v ≤ c + size w + sizes vs))
        → (c ≤ k) × (k + size v ≤ c + (size w + sizes vs))
    by_test true e h rest =
        let same : c ≡ k = eqb-true c k e in
        let shape : w ≡ v = cc in
        let sz : size w ≡ size v = ap size shape in
        (omega (arith, same), omega (arith, same, sz))
    by_test false e h rest = let r = rest h in (omega (arith, r.0), omega (arith, r.1))

-- inside one of two lists of arrays
pub inside_left : (xs ys : Arrays) (k : ℕ) → is_inside xs k ≡ true → is_inside (xs ++ ys) k ≡ true
inside_left xs ys k h = list_any-append _ xs ys ∙ ap (λ b. b || is_inside ys k) h

or_true : (b : Bool) → (b || true) ≡ true
or_true true = refl
or_true false = refl

-- or inside the other
pub inside_right : (xs ys : Arrays) (k : ℕ) → is_inside ys k ≡ true → is_inside (xs ++ ys) k ≡ true
inside_right xs ys k h = list_any-append _ xs ys ∙ ap (λ b. is_inside xs k || b) h ∙ or_true (is_inside xs k)

inside_first : (first n k : ℕ) (xs : Arrays) → first ≤ k → k < first + n → is_inside ((first, n) ∷ xs) k ≡ true
inside_first first n k xs from to = ap (λ b. (b && nat_lt k (first + n)) || is_inside xs k) (le-leb first k from) ∙ ap (λ b. b || is_inside xs k) (lt-ltb k (first + n) to)

inside_later : (a : ℕ × ℕ) (k : ℕ) (xs : Arrays) → is_inside xs k ≡ true → is_inside (a ∷ xs) k ≡ true
inside_later a k xs h = ap (λ b. (nat_le a.0 k && nat_lt k (a.0 + a.1)) || b) h ∙ or_true (nat_le a.0 k && nat_lt k (a.0 + a.1))

-- an array's cells, where the variables' cells begin at a base
pub inside_among : (base c : ℕ) (vs : List Shape) (k n j : ℕ) → shape_at c vs k ≡ Some (Some n) → j < n → is_inside (arrays_among (base + c) vs) (base + k + j) ≡ true
inside_among base c [] k n j is lt = absurd (none (Some n) is)
inside_among base c (w ∷ vs) k n j is lt = by_test (nat_eq c k) refl is (λ h. inside_among base (c + size w) vs k n j h lt)
  where
    behind : (w : Shape) → is_inside (arrays_among (base + (c + size w)) vs) (base + k + j) ≡ true → is_inside (arrays_among (base + c) (w ∷ vs)) (base + k + j) ≡ true
    behind None h = let e : base + (c + 1) ≡ base + c + 1 = omega arith in subst (λ b. is_inside (arrays_among b vs) (base + k + j) ≡ true) e h
    behind (Some m) h =
        let e : base + (c + m) ≡ base + c + m = omega arith in
        inside_later (base + c, m) (base + k + j) (arrays_among (base + c + m) vs) (subst (λ b. is_inside (arrays_among b vs) (base + k + j) ≡ true) e h)

    here : (w : Shape) → w ≡ Some n → c ≡ k → is_inside (arrays_among (base + c) (w ∷ vs)) (base + k + j) ≡ true
    here None e same = absurd (none n e)
    here (Some m) e same = let size_is : m ≡ n = cc in inside_first (base + c) m (base + k + j) (arrays_among (base + c + m) vs) (omega (arith, same)) (omega (arith, same, size_is))

    by_test : (b : Bool) → nat_eq c k ≡ b → (if b then Some w else shape_at (c + size w) vs k) ≡ Some (Some n) → (shape_at (c + size w) vs k ≡ Some (Some n) → is_inside (arrays_among (base + (c + size w)) vs) (base + k + j) ≡ true)
        → is_inside (arrays_among (base + c) (w ∷ vs)) (base + k + j) ≡ true
    by_test true e h rest = let shape : w ≡ Some n = cc in here w shape (eqb-true c k e)
    by_test false e h rest = behind w (rest h)

-- the arrays of a function
pub inside_function : (fs : List Function) (gs : List Frame) (f : ℕ) (function : Function) (frame : Frame) (k : ℕ) → slice_get fs f ≡ Some function → slice_get gs f ≡ Some frame
    → is_inside (arrays_among frame.first function.variables) k ≡ true → is_inside (arrays_of_functions fs gs) k ≡ true
inside_function [] gs f function frame k is at h = absurd (none function is)
inside_function (x ∷ fs) [] f function frame k is at h = absurd (none frame at)
inside_function (x ∷ fs) (y ∷ gs) zero function frame k is at h =
    let e : x ≡ function = cc in
    let e' : y ≡ frame = cc in
    let h' : is_inside (arrays_among y.first x.variables) k ≡ true = ap (λ (y : Frame). is_inside (arrays_among y.first x.variables) k) e' ∙ ap (λ (x : Function). is_inside (arrays_among frame.first x.variables) k) e ∙ h in
    inside_left (arrays_among y.first x.variables) (arrays_of_functions fs gs) k h'
inside_function (x ∷ fs) (y ∷ gs) (suc f) function frame k is at h =
    inside_right (arrays_among y.first x.variables) (arrays_of_functions fs gs) k (inside_function fs gs f function frame k is at h)
