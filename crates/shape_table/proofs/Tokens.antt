-- Shapes that meet have a list of tokens in common, and which numbers of it are least.
use Rattle.std.proofs.Common.{ℕ, zero, suc, ◌≡◌, ◌<◌, refl, sym, ◌∙◌, ap, subst, arith, ℤ, List, [], ◌∷◌, length, map, true, false, Option, Some, None, inl, inr, Contains}
use Rattle.std.specs.Prelude.{◌≤ℤ◌, int_le, slice_get, option_map}
use Rattle.std.proofs.lemmas.Int.{ints}
use Rattle.std.proofs.lemmas.Bool.{and_parts, and_from, cases_eq, eqb-true, eq-eqb}
use Rattle.std.proofs.lemmas.List.{length-set}
use Rattle.std.proofs.lemmas.Option.{slice_get_within}
use Rattle.nml_tree.specs.LineToken as line_token
use Rattle.nml_tree.specs.LineToken.{LineToken}
use Rattle.nml_tree.specs.Outline as outline
use Rattle.nml_tree.specs.Outline.{OutlineToken, AreInRange, with_numbers}
use Rattle.nml_tree.specs.Value.{number_at}
use Rattle.nml_tree.proofs.SameText.{same_text, equal_text}
use Rattle.nml_shape.specs.declared.shape.FieldAt.{FieldAt}
use Rattle.nml_shape.specs.declared.shape.Piece.{Piece}
use Rattle.nml_shape.specs.declared.shape.Piece.TheVariants as piece
use Rattle.nml_shape.specs.declared.shape.Shape.{Shape}
use Rattle.nml_shape.specs.Shown.{token_of, types_of}
use Rattle.nml_shape.specs.Common.{AreAtMost, AreLeastSame, HaveNoTokens, IsSingle}
use Rattle.nml_shape.specs.First.{HaveTokens}
use Rattle.shape_table.specs.Meet.{HasTypes, range, span, same_written, by_spans, pieces_meet, all_meet, tokens_meet}
use Rattle.shape_table.specs.Least.{larger, least_by, least, placed, leasts, lows, least_numbers}
use Rattle.shape_table.specs.declared.token.Span.{Span}
use Rattle.shape_table.proofs.Spans.{is_number, larger_is, in_order, ordered, both_ways, range_low, in_range, range_some, number_set, number_other, range_length, range_at, range_set, lows_range}

-- each field stands once
abbrev Once : List Piece → Type 0
Once ps = (n i j : ℕ) → slice_get (map token_of ps) i ≡ Some (outline.FieldAt n) → slice_get (map token_of ps) j ≡ Some (outline.FieldAt n) → i ≡ j

-- each field that stands is one of so many
abbrev Known : ℕ → List Piece → Type 0
Known m ps = (n : ℕ) → Contains (map token_of ps) (outline.FieldAt n) → n < m

-- the field stands nowhere
abbrev Absent : ℕ → List Piece → Type 0
Absent n ps = (i : ℕ) → slice_get (map token_of ps) i ≡ Some (outline.FieldAt n) → ⊥

once_behind : (p : Piece) (ps : List Piece) → Once (p ∷ ps) → Once ps
once_behind p ps once n i j a b = let e = once n (suc i) (suc j) a b in omega (arith, e)

known_front : (m n : ℕ) (ps : List Piece) → Known m (piece.Field n ∷ ps) → n < m
known_front m n ps known = known n (0, omega arith, refl)

known_behind : (m : ℕ) (p : Piece) (ps : List Piece) → Known m (p ∷ ps) → Known m ps
known_behind m p ps known n c = known n (suc c.0, (let low = c.1 in omega (arith, low)), c.2)

absent_from_once : (n : ℕ) (ps : List Piece) → Once (piece.Field n ∷ ps) → Absent n ps
absent_from_once n ps once i a = let e = once n 0 (suc i) refl a in absurd (omega (arith, e))

-- numbers that are put in elsewhere
placed_other : (p : Piece) (o : Option ℤ) (zs : List ℤ) (n : ℕ) → (token_of p ≡ outline.FieldAt n → ⊥) → number_at (placed p o zs) n ≡ number_at zs n
placed_other (piece.Word w) o zs n h = refl
placed_other (piece.Number z) o zs n h = refl
placed_other (piece.Mark c) o zs n h = refl
placed_other (piece.Field m) None zs n h = refl
placed_other (piece.Field m) (Some z) zs n h = number_other zs m n z (λ e. h (ap outline.FieldAt (sym e)))

placed_length : (p : Piece) (o : Option ℤ) (zs : List ℤ) → length (placed p o zs) ≡ length zs
placed_length (piece.Word w) o zs = refl
placed_length (piece.Number z) o zs = refl
placed_length (piece.Mark c) o zs = refl
placed_length (piece.Field m) None zs = refl
placed_length (piece.Field m) (Some z) zs = length-set zs m z

-- a field that stands nowhere keeps its number
untouched : (fs gs : List FieldAt) (ps qs : List Piece) (zs : List ℤ) (n : ℕ) → Absent n ps → number_at (leasts fs gs ps qs zs) n ≡ number_at zs n
untouched fs gs [] qs zs n h = refl
untouched fs gs (p ∷ ps) [] zs n h = refl
untouched fs gs (p ∷ ps) (q ∷ qs) zs n h = untouched fs gs ps qs (placed p (least fs gs p q) zs) n (λ i a. h (suc i) a) ∙ placed_other p (least fs gs p q) zs n (λ e. h 0 (ap Some e))

-- the token in common of two that meet
abbrev agreed_by : Option ℤ → Piece → LineToken
agreed_by (Some z) p = line_token.Number z
agreed_by None p = with_numbers [] (token_of p)

abbrev agreed : (fs gs : List FieldAt) → List Piece → List Piece → List LineToken
agreed fs gs (p ∷ ps) (q ∷ qs) = agreed_by (least fs gs p q) p ∷ agreed fs gs ps qs
agreed fs gs _ _ = []

field_head : (n : ℕ) (q : Piece) (o : Option FieldAt) (y : Option Span) (zs : List ℤ) → by_spans (option_map (λ f. range f.ty) o) y (same_written (piece.Field n) q) ≡ true → ((z : ℤ) → least_by (option_map (λ f. range f.ty) o) y ≡ Some z → number_at zs n ≡ z) → line_token.Number (number_at zs n) ≡ agreed_by (least_by (option_map (λ f. range f.ty) o) y) (piece.Field n)
field_head n q None None zs is h = absurd cc
field_head n q None (Some y) zs is h = absurd cc
field_head n q (Some f) None zs is h = absurd cc
field_head n q (Some f) (Some y) zs is h = ap line_token.Number (h _ refl)

number_head : (z : ℤ) (q : Piece) (y : Option Span) (zs : List ℤ) → by_spans (Some (record { low = z; high = z })) y (same_written (piece.Number z) q) ≡ true → line_token.Number z ≡ agreed_by (least_by (Some (record { low = z; high = z })) y) (piece.Number z)
number_head z q None zs is = absurd cc
number_head z q (Some y) zs is =
    let m = and_parts _ _ is in let l = larger_is z y.low in
    ap line_token.Number (both_ways z (larger z y.low) l.first (l.least z (omega (arith, ints)) (in_order y.low z m.1)))

agreed_head : (fs : List FieldAt) (p q : Piece) (y : Option Span) (zs : List ℤ) → by_spans (span fs p) y (same_written p q) ≡ true → ((n : ℕ) (z : ℤ) → p ≡ piece.Field n → least_by (span fs p) y ≡ Some z → number_at zs n ≡ z) → with_numbers zs (token_of p) ≡ agreed_by (least_by (span fs p) y) p
agreed_head fs (piece.Word w) q y zs is h = refl
agreed_head fs (piece.Number z) q y zs is h = number_head z q y zs is
agreed_head fs (piece.Mark c) q y zs is h = refl
agreed_head fs (piece.Field n) q y zs is h = field_head n q (slice_get fs n) y zs is (λ z e. h n z refl e)

-- the number that was put in stays
stays : (fs gs : List FieldAt) (p q : Piece) (ps qs : List Piece) (zs : List ℤ) (n : ℕ) (z : ℤ) → Once (p ∷ ps) → Known (length zs) (p ∷ ps) → p ≡ piece.Field n → least fs gs p q ≡ Some z → number_at (leasts fs gs ps qs (placed p (least fs gs p q) zs)) n ≡ z
stays fs gs p q ps qs zs n z once known is least_is =
    let o : Once (piece.Field n ∷ ps) = subst (λ x. Once (x ∷ ps)) is once in
    let k : Known (length zs) (piece.Field n ∷ ps) = subst (λ x. Known (length zs) (x ∷ ps)) is known in
    untouched fs gs ps qs (placed p (least fs gs p q) zs) n (absent_from_once n ps o)
    ∙ ap (λ x. number_at (placed p x zs) n) least_is ∙ ap (λ x. number_at (placed x (Some z) zs) n) is
    ∙ number_set zs n z (known_front (length zs) n ps k)

-- with the least numbers in their fields the tokens are those in common
pub filled_agreed : (fs gs : List FieldAt) (ps qs : List Piece) (zs : List ℤ) → Once ps → Known (length zs) ps → all_meet fs gs ps qs ≡ true → map (with_numbers (leasts fs gs ps qs zs)) (map token_of ps) ≡ agreed fs gs ps qs
filled_agreed fs gs [] qs zs once known is = refl
filled_agreed fs gs (p ∷ ps) [] zs once known is = absurd cc
filled_agreed fs gs (p ∷ ps) (q ∷ qs) zs once known is =
    let m = and_parts _ _ is in
    let here = agreed_head fs p q (span gs q) (leasts fs gs ps qs (placed p (least fs gs p q) zs)) m.0 (λ n z a b. stays fs gs p q ps qs zs n z once known a b) in
    let behind = filled_agreed fs gs ps qs (placed p (least fs gs p q) zs) (once_behind p ps once) (subst (λ x. Known x ps) (sym (placed_length p (least fs gs p q) zs)) (known_behind (length zs) p ps known)) m.1 in
    rw (here, behind) refl

-- and in range
placed_in_range : (fs : List FieldAt) (zs : List ℤ) (n : ℕ) (q : Piece) (o : Option FieldAt) (y : Option Span) → AreInRange (types_of fs) zs → slice_get fs n ≡ o → by_spans (option_map (λ f. range f.ty) o) y (same_written (piece.Field n) q) ≡ true → AreInRange (types_of fs) (placed (piece.Field n) (least_by (option_map (λ f. range f.ty) o) y) zs)
placed_in_range fs zs n q None y h at is = h
placed_in_range fs zs n q (Some f) None h at is = h
placed_in_range fs zs n q (Some f) (Some y) h at is =
    let m = and_parts _ _ is in let l = larger_is (range f.ty).low y.low in
    range_set fs zs n (larger (range f.ty).low y.low) f h at (in_range f.ty _ l.first (l.least _ (range_some f.ty) (in_order y.low (range f.ty).high m.1)))

placed_range : (fs : List FieldAt) (zs : List ℤ) (p q : Piece) (y : Option Span) → AreInRange (types_of fs) zs → by_spans (span fs p) y (same_written p q) ≡ true → AreInRange (types_of fs) (placed p (least_by (span fs p) y) zs)
placed_range fs zs (piece.Word w) q y h is = h
placed_range fs zs (piece.Number z) q y h is = h
placed_range fs zs (piece.Mark c) q y h is = h
placed_range fs zs (piece.Field n) q y h is = placed_in_range fs zs n q (slice_get fs n) y h refl is

pub leasts_range : (fs gs : List FieldAt) (ps qs : List Piece) (zs : List ℤ) → AreInRange (types_of fs) zs → all_meet fs gs ps qs ≡ true → AreInRange (types_of fs) (leasts fs gs ps qs zs)
leasts_range fs gs [] qs zs h is = h
leasts_range fs gs (p ∷ ps) [] zs h is = h
leasts_range fs gs (p ∷ ps) (q ∷ qs) zs h is = let m = and_parts _ _ is in leasts_range fs gs ps qs (placed p (least fs gs p q) zs) (placed_range fs zs p q (span gs q) h m.0) m.1

-- the same number on both sides
one_number : (u v : ℤ) → line_token.Number u ≡ line_token.Number v → u ≡ v
one_number u v e = cc

-- no number is larger than it must be
placed_below : (fs gs : List FieldAt) (us vs zs : List ℤ) (n : ℕ) (q : Piece) (o : Option FieldAt) (y : Option Span) → AreInRange (types_of fs) us → AreInRange (types_of gs) vs → AreInRange (types_of fs) zs → slice_get fs n ≡ o → span gs q ≡ y → line_token.Number (number_at us n) ≡ with_numbers vs (token_of q) → (k : ℕ) → AreAtMost zs us → number_at (placed (piece.Field n) (least_by (option_map (λ f. range f.ty) o) y) zs) k ≤ℤ number_at us k
placed_below fs gs us vs zs n q None y h g r at is e k most = most k
placed_below fs gs us vs zs n q (Some f) None h g r at is e k most = most k
placed_below fs gs us vs zs n q (Some f) (Some y) h g r at is e k most =
    let v = is_number gs vs q y g is in
    let same : number_at us n ≡ v.z = one_number (number_at us n) v.z (e ∙ v.is) in
    let l = larger_is (range f.ty).low y.low in
    let z = larger (range f.ty).low y.low in
    let below : z ≤ℤ number_at us n = l.least (number_at us n) (range_low f.ty _ (range_at fs us n f h at)) (rw same v.low) in
    elim (cases_eq k n) [
      | inl here ↦ rw (here, number_set zs n z (rw (range_length fs zs r) (slice_get_within fs n f at))) below
      | inr other ↦ rw (number_other zs n k z other) (most k)
    ]

below_step : (fs gs : List FieldAt) (us vs zs : List ℤ) (p q : Piece) → AreInRange (types_of fs) us → AreInRange (types_of gs) vs → AreInRange (types_of fs) zs → with_numbers us (token_of p) ≡ with_numbers vs (token_of q) → AreAtMost zs us → AreAtMost (placed p (least fs gs p q) zs) us
below_step fs gs us vs zs (piece.Word w) q h g r e most = most
below_step fs gs us vs zs (piece.Number z) q h g r e most = most
below_step fs gs us vs zs (piece.Mark c) q h g r e most = most
below_step fs gs us vs zs (piece.Field n) q h g r e most = λ k. placed_below fs gs us vs zs n q (slice_get fs n) (span gs q) h g r refl refl e k most

-- what two lists have in front and behind
front_same : {A : Type 0} (x y : A) (xs ys : List A) → x ∷ xs ≡ y ∷ ys → x ≡ y
front_same x y xs ys e = cc

behind_same : {A : Type 0} (x y : A) (xs ys : List A) → x ∷ xs ≡ y ∷ ys → xs ≡ ys
behind_same x y xs ys e = cc

pub leasts_below : (fs gs : List FieldAt) (us vs : List ℤ) (ps qs : List Piece) (zs : List ℤ) → AreInRange (types_of fs) us → AreInRange (types_of gs) vs → AreInRange (types_of fs) zs → all_meet fs gs ps qs ≡ true → map (with_numbers us) (map token_of ps) ≡ map (with_numbers vs) (map token_of qs) → AreAtMost zs us → AreAtMost (leasts fs gs ps qs zs) us
leasts_below fs gs us vs [] qs zs h g r is e most = most
leasts_below fs gs us vs (p ∷ ps) [] zs h g r is e most = most
leasts_below fs gs us vs (p ∷ ps) (q ∷ qs) zs h g r is e most =
    let m = and_parts _ _ is in
    leasts_below fs gs us vs ps qs (placed p (least fs gs p q) zs) h g (placed_range fs zs p q (span gs q) r m.0) m.1 (behind_same _ _ _ _ e) (below_step fs gs us vs zs p q h g r (front_same _ _ _ _ e) most)

-- the lowest numbers are at most any in range
pub lows_below : (fs : List FieldAt) (us : List ℤ) → AreInRange (types_of fs) us → AreAtMost (lows fs) us
lows_below [] us h k = rw h (omega (arith, ints))
lows_below (f ∷ fs) us h zero = rw h.2 (range_low f.ty h.0 h.3)
lows_below (f ∷ fs) us h (suc k) = rw h.2 (lows_below fs h.1 h.4 k)

-- a field that is one of the shape's has a span
field_there : (fs : List FieldAt) (n : ℕ) → n < length fs → (x : Span) × (span fs (piece.Field n) ≡ Some x)
field_there [] n low = absurd (omega arith)
field_there (f ∷ fs) zero low = (range f.ty, refl)
field_there (f ∷ fs) (suc n) low = field_there fs n (omega arith)

-- two that are one number meet
number_meets : (fs gs : List FieldAt) (us vs : List ℤ) (p q : Piece) (x y : Span) → AreInRange (types_of fs) us → AreInRange (types_of gs) vs → span fs p ≡ Some x → span gs q ≡ Some y → with_numbers us (token_of p) ≡ with_numbers vs (token_of q) → pieces_meet fs gs p q ≡ true
number_meets fs gs us vs p q x y h g a b e =
    let u = is_number fs us p x h a in let v = is_number gs vs q y g b in
    let same : u.z ≡ v.z = one_number u.z v.z (sym u.is ∙ e ∙ v.is) in
    let ul = u.low in let uh = u.high in
    let vl : y.low ≤ℤ u.z = rw same v.low in let vh : u.z ≤ℤ y.high = rw same v.high in
    rw (a, b) (and_from _ _ (ordered x.low y.high (omega (arith, ints, ul, vh))) (ordered y.low x.high (omega (arith, ints, vl, uh))))

head_meets : (fs gs : List FieldAt) (us vs : List ℤ) (p q : Piece) (ps qs : List Piece) → AreInRange (types_of fs) us → AreInRange (types_of gs) vs → Known (length fs) (p ∷ ps) → Known (length gs) (q ∷ qs) → with_numbers us (token_of p) ≡ with_numbers vs (token_of q) → pieces_meet fs gs p q ≡ true
head_meets fs gs us vs (piece.Word w) (piece.Word v) ps qs h g k l e = equal_text w v cc
head_meets fs gs us vs (piece.Word w) (piece.Number z) ps qs h g k l e = absurd cc
head_meets fs gs us vs (piece.Word w) (piece.Mark c) ps qs h g k l e = absurd cc
head_meets fs gs us vs (piece.Word w) (piece.Field n) ps qs h g k l e = absurd cc
head_meets fs gs us vs (piece.Mark c) (piece.Word v) ps qs h g k l e = absurd cc
head_meets fs gs us vs (piece.Mark c) (piece.Number z) ps qs h g k l e = absurd cc
head_meets fs gs us vs (piece.Mark c) (piece.Mark d) ps qs h g k l e = eq-eqb c d cc
head_meets fs gs us vs (piece.Mark c) (piece.Field n) ps qs h g k l e = absurd cc
head_meets fs gs us vs (piece.Number z) (piece.Word v) ps qs h g k l e = absurd cc
head_meets fs gs us vs (piece.Number z) (piece.Mark c) ps qs h g k l e = absurd cc
head_meets fs gs us vs (piece.Number z) (piece.Number y) ps qs h g k l e = number_meets fs gs us vs (piece.Number z) (piece.Number y) _ _ h g refl refl e
head_meets fs gs us vs (piece.Number z) (piece.Field n) ps qs h g k l e = let y = field_there gs n (known_front (length gs) n qs l) in number_meets fs gs us vs (piece.Number z) (piece.Field n) _ y.0 h g refl y.1 e
head_meets fs gs us vs (piece.Field m) (piece.Word v) ps qs h g k l e = absurd cc
head_meets fs gs us vs (piece.Field m) (piece.Mark c) ps qs h g k l e = absurd cc
head_meets fs gs us vs (piece.Field m) (piece.Number y) ps qs h g k l e = let x = field_there fs m (known_front (length fs) m ps k) in number_meets fs gs us vs (piece.Field m) (piece.Number y) x.0 _ h g x.1 refl e
head_meets fs gs us vs (piece.Field m) (piece.Field n) ps qs h g k l e =
    let x = field_there fs m (known_front (length fs) m ps k) in let y = field_there gs n (known_front (length gs) n qs l) in
    number_meets fs gs us vs (piece.Field m) (piece.Field n) x.0 y.0 h g x.1 y.1 e

-- where the tokens are the same they meet
pub same_meet : (fs gs : List FieldAt) (us vs : List ℤ) (ps qs : List Piece) → AreInRange (types_of fs) us → AreInRange (types_of gs) vs → Known (length fs) ps → Known (length gs) qs → map (with_numbers us) (map token_of ps) ≡ map (with_numbers vs) (map token_of qs) → all_meet fs gs ps qs ≡ true
same_meet fs gs us vs [] [] h g k l e = refl
same_meet fs gs us vs [] (q ∷ qs) h g k l e = absurd cc
same_meet fs gs us vs (p ∷ ps) [] h g k l e = absurd cc
same_meet fs gs us vs (p ∷ ps) (q ∷ qs) h g k l e = and_from _ _
    (head_meets fs gs us vs p q ps qs h g k l (front_same _ _ _ _ e))
    (same_meet fs gs us vs ps qs h g (known_behind (length fs) p ps k) (known_behind (length gs) q qs l) (behind_same _ _ _ _ e))

-- the other way round
pub written_turned : (p q : Piece) → same_written p q ≡ true → with_numbers [] (token_of p) ≡ with_numbers [] (token_of q)
written_turned (piece.Word w) (piece.Word v) is = ap line_token.Word (same_text w v is)
written_turned (piece.Word w) (piece.Number z) is = absurd cc
written_turned (piece.Word w) (piece.Mark c) is = absurd cc
written_turned (piece.Word w) (piece.Field n) is = absurd cc
written_turned (piece.Mark c) (piece.Word v) is = absurd cc
written_turned (piece.Mark c) (piece.Number z) is = absurd cc
written_turned (piece.Mark c) (piece.Mark d) is = ap line_token.Mark (eqb-true c d is)
written_turned (piece.Mark c) (piece.Field n) is = absurd cc
written_turned (piece.Number z) q is = absurd cc
written_turned (piece.Field n) q is = absurd cc

same_turned : (p q : Piece) → same_written p q ≡ true → same_written q p ≡ true
same_turned (piece.Word w) (piece.Word v) is = equal_text v w (sym (same_text w v is))
same_turned (piece.Word w) (piece.Number z) is = absurd cc
same_turned (piece.Word w) (piece.Mark c) is = absurd cc
same_turned (piece.Word w) (piece.Field n) is = absurd cc
same_turned (piece.Mark c) (piece.Word v) is = absurd cc
same_turned (piece.Mark c) (piece.Number z) is = absurd cc
same_turned (piece.Mark c) (piece.Mark d) is = eq-eqb d c (sym (eqb-true c d is))
same_turned (piece.Mark c) (piece.Field n) is = absurd cc
same_turned (piece.Number z) q is = absurd cc
same_turned (piece.Field n) q is = absurd cc

spans_turned : (p q : Piece) (x y : Option Span) → by_spans x y (same_written p q) ≡ true → by_spans y x (same_written q p) ≡ true
spans_turned p q None None is = same_turned p q is
spans_turned p q None (Some y) is = absurd cc
spans_turned p q (Some x) None is = absurd cc
spans_turned p q (Some x) (Some y) is = let m = and_parts _ _ is in and_from (int_le y.low x.high) (int_le x.low y.high) m.1 m.0

larger_turned : (x y : ℤ) → larger x y ≡ larger y x
larger_turned x y = let l = larger_is x y in let m = larger_is y x in both_ways (larger x y) (larger y x) (l.least (larger y x) m.second m.first) (m.least (larger x y) l.second l.first)

token_turned : (p q : Piece) (x y : Option Span) → by_spans x y (same_written p q) ≡ true → agreed_by (least_by x y) p ≡ agreed_by (least_by y x) q
token_turned p q None None is = written_turned p q is
token_turned p q None (Some y) is = absurd cc
token_turned p q (Some x) None is = absurd cc
token_turned p q (Some x) (Some y) is = ap line_token.Number (larger_turned x.low y.low)

pub meet_turned : (fs gs : List FieldAt) (ps qs : List Piece) → all_meet fs gs ps qs ≡ true → all_meet gs fs qs ps ≡ true
meet_turned fs gs [] [] is = refl
meet_turned fs gs [] (q ∷ qs) is = absurd cc
meet_turned fs gs (p ∷ ps) [] is = absurd cc
meet_turned fs gs (p ∷ ps) (q ∷ qs) is = let m = and_parts _ _ is in and_from _ _ (spans_turned p q (span fs p) (span gs q) m.0) (meet_turned fs gs ps qs m.1)

pub agreed_turned : (fs gs : List FieldAt) (ps qs : List Piece) → all_meet fs gs ps qs ≡ true → agreed fs gs ps qs ≡ agreed gs fs qs ps
agreed_turned fs gs [] [] is = refl
agreed_turned fs gs [] (q ∷ qs) is = absurd cc
agreed_turned fs gs (p ∷ ps) [] is = absurd cc
agreed_turned fs gs (p ∷ ps) (q ∷ qs) is = let m = and_parts _ _ is in rw (token_turned p q (span fs p) (span gs q) m.0, agreed_turned fs gs ps qs m.1) refl

-- shapes
module _ (a b : Shape) (s : IsSingle a) (r : IsSingle b) (at : HasTypes a) (bt : HasTypes b) where
  pub have_tokens : HaveTokens a b → tokens_meet a b ≡ true
  have_tokens h = same_meet a.fields.items b.fields.items h.0 h.1 a.template.items b.template.items h.2.first h.2.second s.known r.known h.2.same

  module _ (is : tokens_meet a b ≡ true) where
    back : tokens_meet b a ≡ true
    back = meet_turned a.fields.items b.fields.items a.template.items b.template.items is

    pub least_same : AreLeastSame a b (least_numbers a b) (least_numbers b a)
    least_same =
        let fs = a.fields.items in let gs = b.fields.items in let ps = a.template.items in let qs = b.template.items in
        let low = lows_range fs at in let lower = lows_range gs bt in
        let first = leasts_range fs gs ps qs (lows fs) low is in let second = leasts_range gs fs qs ps (lows gs) lower back in
        record {
          are = record {
            first = first;
            second = second;
            same = filled_agreed fs gs ps qs (lows fs) s.once (subst (λ n. Known n ps) (sym (range_length fs (lows fs) low)) s.known) is
                ∙ agreed_turned fs gs ps qs is
                ∙ sym (filled_agreed gs fs qs ps (lows gs) r.once (subst (λ n. Known n qs) (sym (range_length gs (lows gs) lower)) r.known) back);
          };
          least = λ us vs h. (
            leasts_below fs gs us vs ps qs (lows fs) h.first h.second low is h.same (lows_below fs us h.first),
            leasts_below gs fs vs us qs ps (lows gs) h.second h.first lower back (sym h.same) (lows_below gs vs h.second),
          );
        }

    pub tokens_have : HaveTokens a b
    tokens_have = (least_numbers a b, least_numbers b a, least_same.are)

  pub none_same : false ≡ tokens_meet a b → HaveNoTokens a b
  none_same other zs ys h = let e = have_tokens (zs, ys, h) in cc
