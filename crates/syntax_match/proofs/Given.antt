-- What a token gives at the place of a piece, and when it gives nothing.
use Rattle.std.proofs.Common.{ℕ, zero, suc, ◌≡◌, ◌<◌, refl, sym, ◌∙◌, ap, arith, ℤ, pos, List, [], ◌∷◌, length, Bool, true, false, Option, Some, None}
use Rattle.std.specs.Prelude.{◌≢◌, ◌≤ℤ◌, ◌<ℤ◌, int_le, int_lt, slice_get, slice_set, option_and_then}
use Rattle.std.specs.Ordering.{int_eq}
use Rattle.std.proofs.lemmas.Bool.{and_parts, and_from, eqb-true, eq-eqb}
use Rattle.std.proofs.lemmas.Bool.Decides.{Decides-int_eq}
use Rattle.std.proofs.lemmas.Int.{ints}
use Rattle.std.proofs.lemmas.List.{get_or-set_same, get_or-set_other}
use Rattle.std.proofs.lemmas.Option.{none-some, same_Some, unwrap_or-slice_get}
use Rattle.nk_base.specs.Number.{InRange}
use Rattle.nk_range.specs.Range.{is_in_range}
use Rattle.nk_base.specs.declared.number.Ty.{Ty}
use Rattle.nk_base.specs.declared.number.Ty.TheVariants as tys
use Rattle.nml_tree.specs.LineToken as line_token
use Rattle.nml_tree.specs.LineToken.{LineToken}
use Rattle.nml_tree.specs.Outline as outline
use Rattle.nml_tree.specs.Outline.{AreInRange, with_numbers}
use Rattle.nml_tree.specs.Value.{number_at}
use Rattle.nml_tree.proofs.SameText.{same_text, equal_text}
use Rattle.nml_shape.specs.declared.shape.FieldAt.{FieldAt}
use Rattle.nml_shape.specs.declared.shape.Piece.{Piece}
use Rattle.nml_shape.specs.declared.shape.Piece.TheVariants as piece
use Rattle.nml_shape.specs.Shown.{token_of, types_of}
use Rattle.syntax_match.specs.Bits.{placed, field_bits, number_bits, zero_where, bits}

-- the tests of numbers
int_below : (x y : ℤ) → x <ℤ y → int_lt x y ≡ true
int_below x y h = by (int_lt x y) refl
  where
    by : (b : Bool) → int_lt x y ≡ b → int_lt x y ≡ true
    by true e = e
    by false e = absurd (omega (arith, ints, h))

int_most : (x y : ℤ) → x ≤ℤ y → int_le x y ≡ true
int_most x y h = by (int_le x y) refl
  where
    by : (b : Bool) → int_le x y ≡ b → int_le x y ≡ true
    by true e = e
    by false e = absurd (omega (arith, ints, h))

int_same : (x y : ℤ) → int_eq x y ≡ true → x ≡ y
int_same x y e = (Decides-int_eq x y).0 e

int_equal : (x y : ℤ) → x ≡ y → int_eq x y ≡ true
int_equal x y h = (Decides-int_eq x y).1 h

most_int : (x y : ℤ) → int_le x y ≡ true → x ≤ℤ y
most_int x y h = omega (arith, ints)

below_int : (x y : ℤ) → int_lt x y ≡ true → x <ℤ y
below_int x y h = omega (arith, ints)

in_range : (t : Ty) (z : ℤ) → is_in_range t z ≡ true → InRange t z
in_range tys.Bool z h = let m = and_parts _ _ h in (most_int _ _ m.0, most_int _ _ m.1)
in_range (tys.Card n) z h = let m = and_parts _ _ h in (most_int _ _ m.0, below_int _ _ m.1)
in_range (tys.Int n) z h = let m = and_parts _ _ h in (most_int _ _ m.0, below_int _ _ m.1)

range_in : (t : Ty) (z : ℤ) → InRange t z → is_in_range t z ≡ true
range_in tys.Bool z h = and_from _ _ (int_most _ _ h.0) (int_most _ _ h.1)
range_in (tys.Card n) z h = and_from _ _ (int_most _ _ h.0) (int_below _ _ h.1)
range_in (tys.Int n) z h = and_from _ _ (int_most _ _ h.0) (int_below _ _ h.1)

-- lists of numbers with one put in
pub number_set : (zs : List ℤ) (n : ℕ) (z : ℤ) → n < length zs → number_at (slice_set zs n z) n ≡ z
number_set zs n z low = unwrap_or-slice_get (slice_set zs n z) n (pos 0) ∙ get_or-set_same zs n z (pos 0) low

pub number_other : (zs : List ℤ) (n k : ℕ) (z : ℤ) → k ≢ n → number_at (slice_set zs n z) k ≡ number_at zs k
number_other zs n k z h = unwrap_or-slice_get (slice_set zs n z) k (pos 0) ∙ get_or-set_other zs n k z (pos 0) h ∙ sym (unwrap_or-slice_get zs k (pos 0))

-- numbers in range, as many as fields
pub range_length : (fs : List FieldAt) (zs : List ℤ) → AreInRange (types_of fs) zs → length zs ≡ length fs
range_length [] zs h = rw h refl
range_length (f ∷ fs) zs h = rw (h.2) (ap suc (range_length fs h.1 h.4))

range_at : (fs : List FieldAt) (zs : List ℤ) (n : ℕ) (f : FieldAt) → AreInRange (types_of fs) zs → slice_get fs n ≡ Some f → InRange f.ty (number_at zs n)
range_at [] zs n f h at = absurd (none-some f at)
range_at (g ∷ fs) zs zero f h at = rw (h.2, sym (same_Some g f at)) h.3
range_at (g ∷ fs) zs (suc n) f h at = rw h.2 (range_at fs h.1 n f h.4 at)

pub range_set : (fs : List FieldAt) (zs : List ℤ) (n : ℕ) (z : ℤ) (f : FieldAt) → AreInRange (types_of fs) zs → slice_get fs n ≡ Some f → InRange f.ty z → AreInRange (types_of fs) (slice_set zs n z)
range_set [] zs n z f h at ok = absurd (none-some f at)
range_set (g ∷ fs) zs zero z f h at ok = (z, h.1, rw h.2 refl, rw (same_Some g f at) ok, h.4)
range_set (g ∷ fs) zs (suc n) z f h at ok = (h.0, slice_set h.1 n z, rw h.2 refl, h.3, range_set fs h.1 n z f h.4 at ok)

-- what a token gives at the place of a piece: nothing, where both are written alike, or the bits of a field's number
pub data Given (fs : List FieldAt) (p t : Piece) (b : ℕ) : Type 0 where
  Same : (x : LineToken) → token_of p ≡ outline.Written x → token_of t ≡ outline.Written x → b ≡ 0 → Given fs p t b
  InField : (n : ℕ) (z : ℤ) (f : FieldAt) → p ≡ piece.Field n → t ≡ piece.Number z → slice_get fs n ≡ Some f → InRange f.ty z → b ≡ placed f z → Given fs p t b

zero_some : (is : Bool) (b : ℕ) → zero_where is ≡ Some b → (is ≡ true) × (b ≡ 0)
zero_some true b h = (refl, sym (same_Some 0 b h))
zero_some false b h = absurd (none-some b h)

field_some : (fs : List FieldAt) (n : ℕ) (z : ℤ) (b : ℕ) (o : Option FieldAt) → slice_get fs n ≡ o → option_and_then (field_bits z) o ≡ Some b → Given fs (piece.Field n) (piece.Number z) b
field_some fs n z b None at h = absurd (none-some b h)
field_some fs n z b (Some f) at h = by (is_in_range f.ty z) refl
  where
    by : (r : Bool) → is_in_range f.ty z ≡ r → Given fs (piece.Field n) (piece.Number z) b
    by true e = let s : Some (placed f z) ≡ Some b = rw e at h in InField n z f refl refl at (in_range f.ty z e) (sym (same_Some _ _ s))
    by false e = let s : None ≡ Some b = rw e at h in absurd (none-some b s)

pub given : (fs : List FieldAt) (p t : Piece) (b : ℕ) → bits fs p t ≡ Some b → Given fs p t b
given fs (piece.Word w) (piece.Word v) b h = let s = zero_some _ b h in Same (line_token.Word w) refl (rw (same_text w v s.0) refl) s.1
given fs (piece.Word w) (piece.Number z) b h = absurd (none-some b h)
given fs (piece.Word w) (piece.Mark c) b h = absurd (none-some b h)
given fs (piece.Word w) (piece.Field n) b h = absurd (none-some b h)
given fs (piece.Number z) (piece.Word v) b h = absurd (none-some b h)
given fs (piece.Number z) (piece.Number y) b h = let s = zero_some _ b h in Same (line_token.Number z) refl (rw (int_same z y s.0) refl) s.1
given fs (piece.Number z) (piece.Mark c) b h = absurd (none-some b h)
given fs (piece.Number z) (piece.Field n) b h = absurd (none-some b h)
given fs (piece.Mark c) (piece.Word v) b h = absurd (none-some b h)
given fs (piece.Mark c) (piece.Number z) b h = absurd (none-some b h)
given fs (piece.Mark c) (piece.Mark d) b h = let s = zero_some _ b h in Same (line_token.Mark c) refl (rw (eqb-true c d s.0) refl) s.1
given fs (piece.Mark c) (piece.Field n) b h = absurd (none-some b h)
given fs (piece.Field n) (piece.Word v) b h = absurd (none-some b h)
given fs (piece.Field n) (piece.Number z) b h = field_some fs n z b (slice_get fs n) refl h
given fs (piece.Field n) (piece.Mark c) b h = absurd (none-some b h)
given fs (piece.Field n) (piece.Field m) b h = absurd (none-some b h)

-- where a number makes the piece the token, the token gives something
zero_is : (is : Bool) → is ≡ true → zero_where is ≡ Some 0
zero_is is h = rw h refl

number_given : (fs : List FieldAt) (zs : List ℤ) (n : ℕ) (o : Option FieldAt) → AreInRange (types_of fs) zs → n < length fs → slice_get fs n ≡ o → (b : ℕ) × (option_and_then (field_bits (number_at zs n)) o ≡ Some b)
number_given fs zs n None h low at = absurd (let e = slice_get_within_none fs n low at in e)
  where
    slice_get_within_none : (gs : List FieldAt) (k : ℕ) → k < length gs → slice_get gs k ≡ None → ⊥
    slice_get_within_none [] k low at = omega (arith, low)
    slice_get_within_none (g ∷ gs) zero low at = cc
    slice_get_within_none (g ∷ gs) (suc k) low at = slice_get_within_none gs k (omega (arith, low)) at
number_given fs zs n (Some f) h low at = (placed f (number_at zs n), rw (range_in f.ty _ (range_at fs zs n f h at)) refl)

pub gives : (fs : List FieldAt) (zs : List ℤ) (p t : Piece) → AreInRange (types_of fs) zs → ((n : ℕ) → p ≡ piece.Field n → n < length fs) → outline.Written (with_numbers zs (token_of p)) ≡ token_of t → (b : ℕ) × (bits fs p t ≡ Some b)
gives fs zs (piece.Word w) (piece.Word v) h known e = (0, zero_is _ (equal_text w v (cc)))
gives fs zs (piece.Word w) (piece.Number z) h known e = absurd cc
gives fs zs (piece.Word w) (piece.Mark c) h known e = absurd cc
gives fs zs (piece.Word w) (piece.Field n) h known e = absurd cc
gives fs zs (piece.Number z) (piece.Word v) h known e = absurd cc
gives fs zs (piece.Number z) (piece.Number y) h known e = (0, zero_is _ (int_equal z y (cc)))
gives fs zs (piece.Number z) (piece.Mark c) h known e = absurd cc
gives fs zs (piece.Number z) (piece.Field n) h known e = absurd cc
gives fs zs (piece.Mark c) (piece.Word v) h known e = absurd cc
gives fs zs (piece.Mark c) (piece.Number z) h known e = absurd cc
gives fs zs (piece.Mark c) (piece.Mark d) h known e = (0, zero_is _ (eq-eqb c d (cc)))
gives fs zs (piece.Mark c) (piece.Field n) h known e = absurd cc
gives fs zs (piece.Field n) (piece.Word v) h known e = absurd cc
gives fs zs (piece.Field n) (piece.Number z) h known e =
    let same : number_at zs n ≡ z = cc in
    let g = number_given fs zs n (slice_get fs n) h (known n refl) refl in
    (g.0, ap (λ y. number_bits fs n y) (sym same) ∙ g.1)
gives fs zs (piece.Field n) (piece.Mark c) h known e = absurd cc
gives fs zs (piece.Field n) (piece.Field m) h known e = absurd cc
