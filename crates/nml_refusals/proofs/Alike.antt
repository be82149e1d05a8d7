-- Two derivations with one image or one list of tokens: the first two are one pair, and where there is none no two are alike.
use Rattle.std.proofs.Common.{ℕ, zero, suc, ◌≤◌, ◌<◌, ◌≡◌, ◌≢◌, ◌≤ℤ◌, ℤ, refl, sym, ap, ◌∙◌, subst, arith, List, [], ◌∷◌, Option, Some, None, ◌⊎◌, inl, inr}
use Rattle.std.proofs.lemmas.Int.{ints}
use Rattle.nml_tree.specs.Table.{Table}
use Rattle.nml_tree.specs.Attribute.{number_of}
use Rattle.nml_tree.specs.Derivation.{Derivation, picks, fields}
use Rattle.nml_tree.specs.Image.{image, word_of}
use Rattle.nml_tree.specs.Value.{number_at}
use Rattle.nml_tree.specs.Valid.{IsRoot}
use Rattle.nml_tree.specs.Shapes.{AreShapes}
use Rattle.nml_tree.specs.Same.{AreAlike, SameImage, SameSyntax, HasFirstShapes, IsFirstImage, IsFirstSyntax, AreAtMost, tokens}
use Rattle.nml_shape.proofs.Order.{Before, le_or_lt, before_cases, before_forth, not_itself}
use Rattle.nml_refusals.proofs.FirstPair.{AreRoots, no_pair, moved, one_pair}

-- two of the shapes of two that have one list of tokens, with the least number in each field
pub record HasLeastTokens (t : Table) (a b : Derivation) : Type 0 where
  pub x : Derivation
  pub y : Derivation
  pub same : SameSyntax t x y
  pub first : picks x ≡ picks a
  pub second : picks y ≡ picks b
  pub least : (c e : Derivation) → SameSyntax t c e → picks c ≡ picks x → picks e ≡ picks y → AreAtMost x c × AreAtMost y e

-- within one shape a derivation is known by its word, by its numbers and by its tokens; and what two shapes have in common has a least one
pub record AreKnown (t : Table) : Type 0 where
  pub by_word : (a b : Derivation) → IsRoot t a → IsRoot t b → picks a ≡ picks b → word_of a ≡ word_of b → a ≡ b
  pub by_numbers : (a b : Derivation) → IsRoot t a → IsRoot t b → picks a ≡ picks b → ((k : ℕ) → number_at (fields a) k ≡ number_at (fields b) k) → a ≡ b
  pub by_tokens : (a b : Derivation) → IsRoot t a → IsRoot t b → picks a ≡ picks b → tokens a ≡ tokens b → a ≡ b
  pub least : (a b : Derivation) → SameSyntax t a b → Before (picks a) (picks b) → HasLeastTokens t a b

alike_roots : {A : Type 0} (t : Table) (attribute : Derivation → A) → AreRoots t (AreAlike t attribute)
alike_roots t attribute a b h = (h.first, h.second)

turned : {A : Type 0} (t : Table) (attribute : Derivation → A) (a b : Derivation) → AreAlike t attribute a b → AreAlike t attribute b a
turned t attribute a b h = record { first = h.second; second = h.first; differ = λ e. h.differ (sym e); same = sym h.same }

-- ---- one first pair

both_ways : (x y : ℤ) → x ≤ℤ y → y ≤ℤ x → x ≡ y
both_ways x y h k = omega (arith, ints, h, k)

pub one_first_image : (t : Table) → AreKnown t → (a b c e : Derivation) → IsFirstImage t a b → IsFirstImage t c e → (a ≡ c) × (b ≡ e)
one_first_image t known a b c e f g =
    let p = one_pair (SameImage t) a b c e f.shapes g.shapes in
    let h = f.shapes.holds in
    let k = g.shapes.holds in
    let low = f.least c e k (sym p.0) (sym p.1) in
    let high = g.least a b h p.0 p.1 in
    let word : word_of a ≡ word_of c = omega (arith, low, high) in
    let other : word_of b ≡ word_of e = ap number_of (sym h.same) ∙ word ∙ ap number_of k.same in
    (known.by_word a c h.first k.first p.0 word, known.by_word b e h.second k.second p.1 other)

pub one_first_syntax : (t : Table) → AreKnown t → (a b c e : Derivation) → IsFirstSyntax t a b → IsFirstSyntax t c e → (a ≡ c) × (b ≡ e)
one_first_syntax t known a b c e f g =
    let p = one_pair (SameSyntax t) a b c e f.shapes g.shapes in
    let h = f.shapes.holds in
    let k = g.shapes.holds in
    let low = f.least c e k (sym p.0) (sym p.1) in
    let high = g.least a b h p.0 p.1 in
    (known.by_numbers a c h.first k.first p.0 (λ n. both_ways _ _ (low.0 n) (high.0 n)), known.by_numbers b e h.second k.second p.1 (λ n. both_ways _ _ (low.1 n) (high.1 n)))

-- ---- some first pair

least_or_less : (t : Table) (a b : Derivation) → ((c e : Derivation) → word_of c < word_of a → HasFirstShapes (SameImage t) c e → ⊥) → HasFirstShapes (SameImage t) a b
    → (c e : Derivation) → SameImage t c e → picks c ≡ picks a → picks e ≡ picks b → word_of a ≤ word_of c
least_or_less t a b none f c e h x y = elim (le_or_lt (word_of a) (word_of c)) [
  | inl le ↦ le
  | inr lt ↦ absurd (none c e lt (moved (SameImage t) a b c e f h x y))
]

no_least : (t : Table) → ((a b : Derivation) → IsFirstImage t a b → ⊥) → (limit : ℕ) (a b : Derivation) → word_of a < limit → HasFirstShapes (SameImage t) a b → ⊥
no_least t none zero a b low f = omega (arith, low)
no_least t none (suc limit) a b low f =
    none a b (record { shapes = f; least = least_or_less t a b (λ c e less g. no_least t none limit c e (omega (arith, low, less)) g) f })

no_first_tokens : (t : Table) → AreKnown t → ((a b : Derivation) → IsFirstSyntax t a b → ⊥) → (a b : Derivation) → HasFirstShapes (SameSyntax t) a b → ⊥
no_first_tokens t known none a b f =
    let l = known.least a b f.holds (before_of a b f) in
    none l.x l.y (record { shapes = moved (SameSyntax t) a b l.x l.y f l.same l.first l.second; least = l.least })
  where
    before_of : (a b : Derivation) → HasFirstShapes (SameSyntax t) a b → Before (picks a) (picks b)
    before_of a b g = before_forth (picks a) (picks b) g.order

-- with no first pair, no two are alike
either_way : {A : Type 0} (t : Table) (attribute : Derivation → A) → ((a b : Derivation) → IsRoot t a → IsRoot t b → picks a ≡ picks b → attribute a ≡ attribute b → a ≡ b)
    → ((a b : Derivation) → AreAlike t attribute a b → Before (picks a) (picks b) → ⊥) → (a b : Derivation) → IsRoot t a → IsRoot t b → attribute a ≡ attribute b → a ≡ b
either_way t attribute within none a b h k e = elim (before_cases (picks a) (picks b)) [
  | inl o ↦ absurd (none a b (record { first = h; second = k; differ = λ same. itself a b same o; same = e }) o)
  | inr s ↦ elim s [
    | inl same ↦ within a b h k same e
    | inr o ↦ absurd (none b a (record { first = k; second = h; differ = λ same. itself b a same o; same = sym e }) o)
  ]
]
  where
    itself : (a b : Derivation) → a ≡ b → Before (picks a) (picks b) → ⊥
    itself a b same o = not_itself (picks a) (subst (λ d. Before (picks a) (picks d)) (sym same) o)

pub no_image : (t : Table) (shapes : List (List ℕ)) → AreShapes t shapes → AreKnown t → ((a b : Derivation) → IsFirstImage t a b → ⊥)
    → (a b : Derivation) → IsRoot t a → IsRoot t b → image a ≡ image b → a ≡ b
no_image t shapes all known none =
    either_way t image (λ a b h k p e. known.by_word a b h k p (ap number_of e))
    (no_pair (SameImage t) t shapes all (alike_roots t image) (λ a b f. no_least t none (suc (word_of a)) a b (omega arith) f))

pub no_tokens : (t : Table) (shapes : List (List ℕ)) → AreShapes t shapes → AreKnown t → ((a b : Derivation) → IsFirstSyntax t a b → ⊥)
    → (a b : Derivation) → IsRoot t a → IsRoot t b → tokens a ≡ tokens b → a ≡ b
no_tokens t shapes all known none =
    either_way t tokens known.by_tokens (no_pair (SameSyntax t) t shapes all (alike_roots t tokens) (no_first_tokens t known none))
