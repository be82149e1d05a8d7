-- Numbers of spans, and lists of numbers in range of their fields.
use Rattle.std.proofs.Common.{ℕ, zero, suc, ◌≡◌, ◌<◌, ◌-◌, refl, sym, ◌∙◌, ap, subst, arith, ℤ, pos, List, [], ◌∷◌, length, Bool, true, false, Option, Some, None}
use Rattle.std.specs.Prelude.{◌≢◌, ◌≤ℤ◌, int_lt, int_le, if◌then◌else◌, slice_get, slice_set, option_map}
use Rattle.std.proofs.lemmas.Int.{ints}
use Rattle.std.proofs.lemmas.List.{get_or-set_same, get_or-set_other}
use Rattle.std.proofs.lemmas.Nat.{pow_pos}
use Rattle.std.proofs.lemmas.Option.{none-some, same_Some, unwrap_or-slice_get}
use Rattle.nk_base.specs.Number.{InRange}
use Rattle.nk_base.specs.declared.number.Ty.{Ty}
use Rattle.nk_base.specs.declared.number.Ty.TheVariants as tys
use Rattle.nml_tree.specs.LineToken.{Number}
use Rattle.nml_tree.specs.Outline.{AreInRange, with_numbers}
use Rattle.nml_tree.specs.Value.{number_at}
use Rattle.nml_shape.specs.declared.shape.FieldAt.{FieldAt}
use Rattle.nml_shape.specs.declared.shape.Piece.{Piece}
use Rattle.nml_shape.specs.declared.shape.Piece.TheVariants as piece
use Rattle.nml_shape.specs.Shown.{token_of, types_of}
use Rattle.shape_table.specs.Meet.{AreTypes, range, span}
use Rattle.shape_table.specs.Least.{larger, lows}
use Rattle.shape_table.specs.declared.token.Span.{Span}

-- the larger of two numbers is one of them, and no smaller than either
pub record IsLarger (x y z : ℤ) : Type 0 where
  pub first : x ≤ℤ z
  pub second : y ≤ℤ z
  pub least : (u : ℤ) → x ≤ℤ u → y ≤ℤ u → z ≤ℤ u

by_test : (x y : ℤ) (b : Bool) → int_lt x y ≡ b → IsLarger x y (if b then y else x)
by_test x y true e = record { first = omega (arith, ints); second = omega (arith, ints); least = λ u p q. q }
by_test x y false e = record { first = omega (arith, ints); second = omega (arith, ints); least = λ u p q. p }

pub larger_is : (x y : ℤ) → IsLarger x y (larger x y)
larger_is x y = by_test x y (int_lt x y) refl

-- the test for order
pub in_order : (x y : ℤ) → int_le x y ≡ true → x ≤ℤ y
in_order x y e = omega (arith, ints)

pub ordered : (x y : ℤ) → x ≤ℤ y → int_le x y ≡ true
ordered x y h = by (int_le x y) refl
  where
    by : (b : Bool) → int_le x y ≡ b → int_le x y ≡ true
    by true e = e
    by false e = absurd (omega (arith, ints, h))

pub both_ways : (x y : ℤ) → x ≤ℤ y → y ≤ℤ x → x ≡ y
both_ways x y p q = omega (arith, ints)

-- a number of the type is from its lowest to its highest
pub range_low : (t : Ty) (z : ℤ) → InRange t z → (range t).low ≤ℤ z
range_low tys.Bool z h = h.0
range_low (tys.Card n) z h = h.0
range_low (tys.Int n) z h = h.0

pub range_high : (t : Ty) (z : ℤ) → InRange t z → z ≤ℤ (range t).high
range_high tys.Bool z h = h.1
range_high (tys.Card n) z h = let e = h.1 in omega (arith, ints, e)
range_high (tys.Int n) z h = let e = h.1 in omega (arith, ints, e)

pub in_range : (t : Ty) (z : ℤ) → (range t).low ≤ℤ z → z ≤ℤ (range t).high → InRange t z
in_range tys.Bool z p q = (p, q)
in_range (tys.Card n) z p q = (p, omega (arith, ints, q))
in_range (tys.Int n) z p q = (p, omega (arith, ints, q))

-- and there is one
pub range_some : (t : Ty) → (range t).low ≤ℤ (range t).high
range_some tys.Bool = omega (arith, ints)
range_some (tys.Card n) = let p = pow_pos n in omega (arith, ints, p)
range_some (tys.Int n) = let p = pow_pos (n - 1) in omega (arith, ints, p)

-- a list of numbers with one put in
pub number_set : (zs : List ℤ) (n : ℕ) (z : ℤ) → n < length zs → number_at (slice_set zs n z) n ≡ z
number_set zs n z low = unwrap_or-slice_get (slice_set zs n z) n (pos 0) ∙ get_or-set_same zs n z (pos 0) low

pub number_other : (zs : List ℤ) (n k : ℕ) (z : ℤ) → k ≢ n → number_at (slice_set zs n z) k ≡ number_at zs k
number_other zs n k z h = unwrap_or-slice_get (slice_set zs n z) k (pos 0) ∙ get_or-set_other zs n k z (pos 0) h ∙ sym (unwrap_or-slice_get zs k (pos 0))

-- numbers in range, as many as fields
pub range_length : (fs : List FieldAt) (zs : List ℤ) → AreInRange (types_of fs) zs → length zs ≡ length fs
range_length [] zs h = rw h refl
range_length (f ∷ fs) zs h = rw (h.2) (ap suc (range_length fs h.1 h.4))

pub range_at : (fs : List FieldAt) (zs : List ℤ) (n : ℕ) (f : FieldAt) → AreInRange (types_of fs) zs → slice_get fs n ≡ Some f → InRange f.ty (number_at zs n)
range_at [] zs n f h at = absurd (none-some f at)
range_at (g ∷ fs) zs zero f h at = rw (h.2, sym (same_Some g f at)) h.3
range_at (g ∷ fs) zs (suc n) f h at = rw h.2 (range_at fs h.1 n f h.4 at)

pub range_set : (fs : List FieldAt) (zs : List ℤ) (n : ℕ) (z : ℤ) (f : FieldAt) → AreInRange (types_of fs) zs → slice_get fs n ≡ Some f → InRange f.ty z → AreInRange (types_of fs) (slice_set zs n z)
range_set [] zs n z f h at ok = absurd (none-some f at)
range_set (g ∷ fs) zs zero z f h at ok = (z, h.1, rw h.2 refl, rw (same_Some g f at) ok, h.4)
range_set (g ∷ fs) zs (suc n) z f h at ok = (h.0, slice_set h.1 n z, rw h.2 refl, h.3, range_set fs h.1 n z f h.4 at ok)

pub lows_range : (fs : List FieldAt) → AreTypes fs → AreInRange (types_of fs) (lows fs)
lows_range [] are = refl
lows_range (f ∷ fs) are = ((range f.ty).low, lows fs, refl, in_range f.ty (range f.ty).low (omega (arith, ints)) (range_some f.ty), lows_range fs (record { each = λ n g at. are.each (suc n) g at }))

-- the number that stands at a token is in its span
pub record IsNumber (zs : List ℤ) (p : Piece) (x : Span) : Type 0 where
  pub z : ℤ
  pub is : with_numbers zs (token_of p) ≡ Number z
  pub low : x.low ≤ℤ z
  pub high : z ≤ℤ x.high

of_field : (fs : List FieldAt) (zs : List ℤ) (n : ℕ) (o : Option FieldAt) (x : Span) → AreInRange (types_of fs) zs → slice_get fs n ≡ o → option_map (λ f. range f.ty) o ≡ Some x → IsNumber zs (piece.Field n) x
of_field fs zs n None x h at is = absurd (none-some x is)
of_field fs zs n (Some f) x h at is = let r = range_at fs zs n f h at in let e = same_Some (range f.ty) x is in record {
  z = number_at zs n;
  is = refl;
  low = subst (λ y. y.low ≤ℤ number_at zs n) e (range_low f.ty _ r);
  high = subst (λ y. number_at zs n ≤ℤ y.high) e (range_high f.ty _ r);
}

pub is_number : (fs : List FieldAt) (zs : List ℤ) (p : Piece) (x : Span) → AreInRange (types_of fs) zs → span fs p ≡ Some x → IsNumber zs p x
is_number fs zs (piece.Word w) x h is = absurd (none-some x is)
is_number fs zs (piece.Number z) x h is = let e = same_Some _ x is in record {
  z = z;
  is = refl;
  low = subst (λ y. y.low ≤ℤ z) e (omega (arith, ints));
  high = subst (λ y. z ≤ℤ y.high) e (omega (arith, ints));
}
is_number fs zs (piece.Mark c) x h is = absurd (none-some x is)
is_number fs zs (piece.Field n) x h is = of_field fs zs n (slice_get fs n) x h refl is
