-- Expressions without faults are sound.
use Rattle.std.proofs.Common.{◌≡◌, refl, sym, ap, ◌∙◌, ℕ, suc, ◌+◌, ◌-◌, ◌*◌, ◌^◌, ◌<◌, arith, Bool, true, false, List, [], ◌++◌, Option, Some, None}
use Rattle.std.specs.Prelude.{nat_lt, not, ◌&&◌, ◌||◌, ◌==◌}
use Rattle.std.specs.List.{AllByRecursion}
use Rattle.std.proofs.lemmas.Bool.{eqb-true, ltb-true}
use Rattle.std.proofs.Math.Pow.{pow_pos}
use Rattle.ir_run.specs.Shifts.{IsCellWidth}
use Rattle.c_tree.specs.declared.operator.Bin.{Bin}
use Rattle.c_tree.specs.declared.operator.Bin.TheVariants as bin
use Rattle.c_tree.specs.declared.meaning.Meaning.{Meaning}
use Rattle.c_tree.specs.declared.meaning.Meaning.TheVariants.{OneCell, Cells, Callee, Main, In, Out}
use Rattle.c_tree.specs.Formula.{Formula, Further, Numeral, Named, Indexed, Called, CalledWith, Paren, Unary, Binary, NoMore, More}
use Rattle.c_tree.specs.Formula as formula
use Rattle.c_tree.specs.Names.{Names, seen, callee}
use Rattle.c_tree.specs.Faults.{BadKind, BadNumber, BadShift, unless, use_faults, call_faults, first_place, is_amount, shift_faults, further_count, formula_faults, further_faults}
use Rattle.c_tree.specs.Recursion.{callee_of, formula_callees, further_callees}
use Rattle.c_tree.specs.Resolve.{scalar, element, called, written, unary, binary, term, terms}
use Rattle.c_tree.specs.Program.{Term, Terms, Function}
use Rattle.c_tree.specs.Program as program
use Rattle.c_lowered.specs.Sound.{World, Answers, count, SoundTerm, SoundTerms}
use Rattle.c_sound.proofs.Lists.{no_left, no_right, kept, and_left, and_right, each_left, each_right}
use Rattle.c_sound.proofs.Meanings.{HasFunction, IsKnown, Knows, found_is, seen_known, callee_known}

-- the functions have lower ranks than the one that they are called in
abbrev pub AreLower : World → List ℕ → Type 0
AreLower w gs = AllByRecursion (λ g. w.rank g < w.own) gs

-- what names mean in a world
abbrev pub IsKnownIn : World → Option Meaning → Type 0
IsKnownIn w o = IsKnown w.globals w.locals w.functions o

-- the same of all names
abbrev pub KnowsIn : World → Names → Type 0
KnowsIn w s = Knows w.globals w.locals w.functions s

used_gives : (used gives : Bool) → (not used || gives) ≡ true → used ≡ true → gives ≡ true
used_gives true gives h is = h
used_gives false gives h is = absurd cc

-- a call that fits
pub answers : (w : World) (g arity k arguments at : ℕ) (gives used : Bool) → HasFunction w.functions g arity gives → k ≡ arguments
    → unless ((k == arity) && (not used || gives)) (BadKind at) ≡ [] → w.rank g < w.own → Answers w g arguments used
answers w g arity k arguments at gives used h same fits low =
    let both = kept ((k == arity) && (not used || gives)) (BadKind at) fits in
    let arity_is = eqb-true k arity (and_left (k == arity) (not used || gives) both) in
    let valued = and_right (k == arity) (not used || gives) both in
    record {
      function = h.function;
      is = h.is;
      arity = h.parameters ∙ sym arity_is ∙ same;
      gives = λ u. h.kind ∙ used_gives used gives valued u;
      lower = low;
    }

-- 1 is a number of n bits
pub one_small : (n : ℕ) → IsCellWidth n → 1 < 2 ^ (n - 1)
one_small n wide =
    let k : n - 1 ≡ suc (n - 2) = omega (arith, wide.0) in
    let e : 2 ^ (n - 1) ≡ 2 * 2 ^ (n - 2) = ap (λ m. 2 ^ m) k ∙ omega arith in
    omega (arith, e, pow_pos (n - 2))

amount_small : (n : ℕ) (y : Formula) → is_amount n y ≡ true → written y < n
amount_small n (Numeral z) h = ltb-true z.value n h
amount_small n (Named x) h = absurd cc
amount_small n (Indexed x p i q) h = absurd cc
amount_small n (Called x p q) h = absurd cc
amount_small n (CalledWith x p y ys q) h = absurd cc
amount_small n (Paren p x q) h = absurd cc
amount_small n (Unary op at x) h = absurd cc
amount_small n (Binary op x at y) h = absurd cc

count_terms : (s : Names) (xs : Further) → further_count xs ≡ count (terms s xs)
count_terms s NoMore = refl
count_terms s (More comma x xs) = let h = count_terms s xs in omega (arith, h)

-- how many arguments a call has
pub count_all : (s : Names) (x : Formula) (xs : Further) → further_count xs + 1 ≡ count (program.More (term s x) (terms s xs))
count_all s x xs = let h = count_terms s xs in omega (arith, h)

module _ (w : World) (wide : IsCellWidth w.bits) where
  zero_small : 0 < 2 ^ (w.bits - 1)
  zero_small = pow_pos (w.bits - 1)

  scalar_sound : (o : Option Meaning) → IsKnownIn w o → SoundTerm w (scalar o)
  scalar_sound None h = zero_small
  scalar_sound (Some (OneCell p)) h = found_is w p (Some None) h
  scalar_sound (Some (Cells p n)) h = zero_small
  scalar_sound (Some (Callee g arity gives)) h = zero_small
  scalar_sound (Some Main) h = zero_small
  scalar_sound (Some In) h = zero_small
  scalar_sound (Some Out) h = zero_small

  element_sound : (o : Option Meaning) (i : Term) → IsKnownIn w o → SoundTerm w i → SoundTerm w (element o i)
  element_sound None i h k = zero_small
  element_sound (Some (OneCell p)) i h k = zero_small
  element_sound (Some (Cells p n)) i h k = (found_is w p (Some (Some n)) h, k)
  element_sound (Some (Callee g arity gives)) i h k = zero_small
  element_sound (Some Main) i h k = zero_small
  element_sound (Some In) i h k = zero_small
  element_sound (Some Out) i h k = zero_small

  called_sound : (o : Option Meaning) (xs : Terms) (k at : ℕ) → IsKnownIn w o → k ≡ count xs → call_faults o k true at ≡ [] → AreLower w (callee_of o) → SoundTerms w xs → SoundTerm w (called o xs)
  called_sound None xs k at h same fits low args = zero_small
  called_sound (Some (OneCell p)) xs k at h same fits low args = zero_small
  called_sound (Some (Cells p n)) xs k at h same fits low args = zero_small
  called_sound (Some (Callee g arity gives)) xs k at h same fits low args = (answers w g arity k (count xs) at gives true h same fits low.0, args)
  called_sound (Some Main) xs k at h same fits low args = zero_small
  called_sound (Some In) xs k at h same fits low args = tt
  called_sound (Some Out) xs k at h same fits low args = zero_small

  unary_sound : (op : formula.Prefix) (x : Term) → SoundTerm w x → SoundTerm w (unary op x)
  unary_sound formula.Neg x h = h
  unary_sound formula.Inv x h = h
  unary_sound formula.Not x h = h

  binary_sound : (op : Bin) (x y : Term) (t : Formula) → shift_faults w.bits op t ≡ [] → SoundTerm w x → SoundTerm w y → SoundTerm w (binary op x y (written t))
  binary_sound bin.OrElse x y t fits h k = (h, k)
  binary_sound bin.AndAlso x y t fits h k = (h, k)
  binary_sound bin.Or x y t fits h k = (h, k)
  binary_sound bin.Xor x y t fits h k = (h, k)
  binary_sound bin.And x y t fits h k = (h, k)
  binary_sound bin.Eq x y t fits h k = (h, k)
  binary_sound bin.Ne x y t fits h k = (h, k)
  binary_sound bin.Lt x y t fits h k = (h, k)
  binary_sound bin.Le x y t fits h k = (h, k)
  binary_sound bin.Gt x y t fits h k = (h, k)
  binary_sound bin.Ge x y t fits h k = (h, k)
  binary_sound bin.Shl x y t fits h k = (amount_small w.bits t (kept (is_amount w.bits t) (BadShift (first_place t)) fits), h)
  binary_sound bin.Shr x y t fits h k = (amount_small w.bits t (kept (is_amount w.bits t) (BadShift (first_place t)) fits), h)
  binary_sound bin.Add x y t fits h k = (h, k)
  binary_sound bin.Sub x y t fits h k = (h, k)
  binary_sound bin.Mul x y t fits h k = (h, k)

  mutual
    -- an expression without faults is sound
    pub term_sound : (s : Names) (x : Formula) → KnowsIn w s → formula_faults w.bits s x ≡ [] → AreLower w (formula_callees s x) → SoundTerm w (term s x)
    term_sound s (Numeral z) h fits low = ltb-true z.value (2 ^ (w.bits - 1)) (kept (nat_lt z.value (2 ^ (w.bits - 1))) (BadNumber z.at) fits)
    term_sound s (Named x) h fits low = scalar_sound (seen s x.text) (seen_known w.globals w.locals w.functions s x.text h)
    term_sound s (Indexed x p i q) h fits low =
        element_sound (seen s x.text) (term s i) (seen_known w.globals w.locals w.functions s x.text h)
        (term_sound s i h (no_right (use_faults (seen s x.text) true x.at) (formula_faults w.bits s i) fits) low)
    term_sound s (Called x p q) h fits low = called_sound (callee s x.text) program.NoMore 0 x.at (callee_known w.globals w.locals w.functions s x.text h) refl fits low tt
    term_sound s (CalledWith x p y ys q) h fits low =
        let calls = call_faults (callee s x.text) (further_count ys + 1) true x.at in
        let front = no_left (calls ++ formula_faults w.bits s y) (further_faults w.bits s ys) fits in
        let back = no_right (calls ++ formula_faults w.bits s y) (further_faults w.bits s ys) fits in
        let names = callee_of (callee s x.text) in
        let low_front = each_left (λ g. w.rank g < w.own) (names ++ formula_callees s y) (further_callees s ys) low in
        let low_back = each_right (λ g. w.rank g < w.own) (names ++ formula_callees s y) (further_callees s ys) low in
        called_sound (callee s x.text) (program.More (term s y) (terms s ys)) (further_count ys + 1) x.at (callee_known w.globals w.locals w.functions s x.text h)
        (count_all s y ys) (no_left calls (formula_faults w.bits s y) front) (each_left (λ g. w.rank g < w.own) names (formula_callees s y) low_front)
        (term_sound s y h (no_right calls (formula_faults w.bits s y) front) (each_right (λ g. w.rank g < w.own) names (formula_callees s y) low_front), terms_sound s ys h back low_back)
    term_sound s (Paren p x q) h fits low = term_sound s x h fits low
    term_sound s (Unary op at x) h fits low = unary_sound op (term s x) (term_sound s x h fits low)
    term_sound s (Binary op x at y) h fits low =
        let front = no_left (formula_faults w.bits s x ++ formula_faults w.bits s y) (shift_faults w.bits op y) fits in
        let back = no_right (formula_faults w.bits s x ++ formula_faults w.bits s y) (shift_faults w.bits op y) fits in
        binary_sound op (term s x) (term s y) y back
        (term_sound s x h (no_left (formula_faults w.bits s x) (formula_faults w.bits s y) front) (each_left (λ g. w.rank g < w.own) (formula_callees s x) (formula_callees s y) low))
        (term_sound s y h (no_right (formula_faults w.bits s x) (formula_faults w.bits s y) front) (each_right (λ g. w.rank g < w.own) (formula_callees s x) (formula_callees s y) low))

    -- and so are arguments
    pub terms_sound : (s : Names) (xs : Further) → KnowsIn w s → further_faults w.bits s xs ≡ [] → AreLower w (further_callees s xs) → SoundTerms w (terms s xs)
    terms_sound s NoMore h fits low = tt
    terms_sound s (More comma x xs) h fits low = (
      term_sound s x h (no_left (formula_faults w.bits s x) (further_faults w.bits s xs) fits) (each_left (λ g. w.rank g < w.own) (formula_callees s x) (further_callees s xs) low),
      terms_sound s xs h (no_right (formula_faults w.bits s x) (further_faults w.bits s xs) fits) (each_right (λ g. w.rank g < w.own) (formula_callees s x) (further_callees s xs) low),
    )
