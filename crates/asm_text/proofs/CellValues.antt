-- The number that a cell begins with: it is of the cell's type, a text may have it, and its lowest bits are the initial value.
use Rattle.std.proofs.Common.{ℕ, zero, suc, ◌+◌, ◌-◌, ◌^◌, ◌<◌, ◌≤◌, ◌≡◌, refl, sym, ◌∙◌, ap, subst, Bool, true, false, ℤ, pos, negsuc, arith}
use Rattle.std.specs.Prelude.{◌-ℤ◌, neg_ℤ, int_le, int_lt, nat_lt, ◌&&◌, if◌then◌else◌, unsigned_abs}
use Rattle.std.proofs.lemmas.Bool.{and_from, le-leb, lt-ltb, ltb-true, ltb-false}
use Rattle.std.proofs.lemmas.Int.{ints, int_rem_euclid_is}
use Rattle.std.proofs.lemmas.Nat.{pow_pos, pow_below}
use Rattle.nk_base.specs.Number.{low_bits, width_of, wrapped}
use Rattle.nk_base.specs.declared.number.Ty.{Ty}
use Rattle.nk_base.specs.declared.number.Ty.TheVariants as tys
use Rattle.nk_range.specs.Range.{is_in_range}
use Rattle.nml_outline.proofs.Ranges.{small, pos_low, neg_low, half}
use Rattle.asm_text.proofs.NumberTexts.{IsShort, IsShortNumber}

pub record IsValue (ty : Ty) (raw : ℕ) (z : ℤ) : Type 0 where
  pub back : unsigned_abs (low_bits (width_of ty) z) ≡ raw
  pub within : is_in_range ty z ≡ true
  pub short : IsShortNumber z

pub power_short : (n k : ℕ) → k ≤ 64 → n ≤ 2 ^ k → IsShort n
power_short n k h low =
    let s : 2 ^ k < 2 ^ 65 = pow_below k 65 (omega (arith, h)) in let big : 2 ^ 65 < 10 ^ 38 = omega arith in omega (arith, low, s, big)

low_is : (n a : ℕ) → a < 2 ^ n → low_bits n (pos a) ≡ pos a
low_is n a h = int_rem_euclid_is (pos a) (pos (2 ^ n)) (2 ^ n) 0 a (pow_pos n) refl (omega (arith, ints)) ∙ ap pos (small a n h)

least_positive : (m a : ℕ) → int_le (neg_ℤ (pos m)) (pos a) ≡ true
least_positive zero a = le-leb 0 a (omega arith)
least_positive (suc m) a = refl

least_negative : (m a : ℕ) → suc a ≤ m → int_le (neg_ℤ (pos m)) (negsuc a) ≡ true
least_negative zero a h = absurd (omega (arith, h))
least_negative (suc m) a h = le-leb a m (omega (arith, h))

some_bit : (n raw : ℕ) → 0 < raw → raw < 2 ^ n → 1 ≤ n
some_bit zero raw some low = absurd (omega (arith, some, low))
some_bit (suc n) raw some low = omega arith

int_value : (n raw : ℕ) → n ≤ 64 → 1 ≤ n → raw < 2 ^ n → (b : Bool) → nat_lt raw (2 ^ (n - 1)) ≡ b → IsValue (tys.Int n) raw (if b then pos raw else pos raw -ℤ pos (2 ^ n))
int_value n raw few some low true e = record {
  back = pos_low n raw low;
  within = and_from _ _ (least_positive (2 ^ (n - 1)) raw) e;
  short = power_short raw n few (omega (arith, low));
}
int_value n raw few some low false e =
    let high = ltb-false raw (2 ^ (n - 1)) e in
    let two = half n some in
    let is : pos raw -ℤ pos (2 ^ n) ≡ negsuc (2 ^ n - 1 - raw) = omega (arith, ints, low) in
    subst (IsValue (tys.Int n) raw) (sym is) (record {
      back = neg_low n (2 ^ n - 1 - raw) (omega (arith, low)) ∙ omega (arith, low);
      within = and_from _ _ (least_negative (2 ^ (n - 1)) (2 ^ n - 1 - raw) (omega (arith, low, high, two))) refl;
      short = power_short (suc (2 ^ n - 1 - raw)) n few (omega (arith, low));
    })

pub value_is : (ty : Ty) (raw : ℕ) → width_of ty ≤ 64 → 0 < raw → raw < 2 ^ width_of ty → IsValue ty raw (wrapped ty (pos raw))
value_is tys.Bool raw few some low = record { back = pos_low 1 raw low; within = and_from _ _ (le-leb 0 raw (omega arith)) (le-leb raw 1 (omega (arith, low))); short = power_short raw 1 few (omega (arith, low)) }
value_is (tys.Card n) raw few some low =
    subst (IsValue (tys.Card n) raw) (sym (low_is n raw low)) (record { back = pos_low n raw low; within = and_from _ _ (le-leb 0 raw (omega arith)) (lt-ltb raw (2 ^ n) low); short = power_short raw n few (omega (arith, low)) })
value_is (tys.Int n) raw few some low =
    subst (IsValue (tys.Int n) raw) (ap (λ z. if int_lt z (pos (2 ^ (n - 1))) then z else z -ℤ pos (2 ^ n)) (sym (low_is n raw low)))
    (int_value n raw few (some_bit n raw some low) low (nat_lt raw (2 ^ (n - 1))) refl)
