-- Numbers of n bits: their range, and that operators keep them.
use Rattle.std.proofs.Common.{◌≡◌, ℕ, suc, ◌-◌, ◌*◌, ◌^◌, ◌%◌, ◌<◌, ℤ, pos, negsuc, ◌+ℤ◌, ◌-ℤ◌, ◌*ℤ◌, neg_ℤ, ◌≤ℤ◌, ◌<ℤ◌, refl, ap, ◌∙◌, subst, arith}
use Rattle.std.specs.Int.{int_rem_euclid}
use Rattle.std.specs.Prelude.{Bool, true, false, int_lt, if◌then◌else◌}
use Rattle.std.specs.Int.Signed.{mag, mag_shr}
use Rattle.std.specs.Int.Bits.{and_le_l, or_lt, xor_lt}
use Rattle.std.proofs.lemmas.Int.{ints}
use Rattle.std.proofs.Math.Nat.{mod-eq_of_lt}
use Rattle.std.proofs.Math.Pow.{pow_pos}
use Rattle.nk_base.specs.Number.{low_bits}
use Rattle.nk_base.specs.Whole.{and_ℤ, or_ℤ, xor_ℤ, not_ℤ}
use Rattle.ir_core.specs.declared.operator.Prefix.{Prefix}
use Rattle.ir_core.specs.declared.operator.Prefix.TheVariants as prefix
use Rattle.ir_core.specs.declared.operator.Shift.{Shift}
use Rattle.ir_core.specs.declared.operator.Shift.TheVariants as shift
use Rattle.ir_core.specs.declared.operator.Arith.{Arith}
use Rattle.ir_core.specs.declared.operator.Arith.TheVariants as ariths
use Rattle.ir_core.specs.Operator.{wrap, prefixed, shifted, arithmetic}
use Rattle.ir_core.specs.Inputs.{IsNumber}
use Rattle.ir_run.specs.Shifts.{IsCellWidth}

-- twice the half
pub double : (n : ℕ) → IsCellWidth n → 2 ^ n ≡ 2 * 2 ^ (n - 1)
double n w = let k : n ≡ suc (n - 1) = omega (arith, w.0) in ap (λ m. 2 ^ m) k ∙ omega arith

mag_from : (p : ℕ) (z : ℤ) → neg_ℤ (pos p) ≤ℤ z → z <ℤ pos p → mag z < p
mag_from p (pos n) low high = omega (arith, ints)
mag_from p (negsuc n) low high = omega (arith, ints)

low_from : (p : ℕ) (z : ℤ) → mag z < p → neg_ℤ (pos p) ≤ℤ z
low_from p (pos n) h = omega (arith, ints)
low_from p (negsuc n) h = omega (arith, ints)

high_from : (p : ℕ) (z : ℤ) → mag z < p → z <ℤ pos p
high_from p (pos n) h = omega (arith, ints)
high_from p (negsuc n) h = omega (arith, ints)

remainder_low : (z : ℤ) (m : ℕ) → 0 < m → pos 0 ≤ℤ int_rem_euclid z (pos m)
remainder_low (pos a) m h = omega (arith, ints)
remainder_low (negsuc a) m h = omega (arith, ints)

remainder_high : (z : ℤ) (m : ℕ) → 0 < m → int_rem_euclid z (pos m) <ℤ pos m
remainder_high (pos a) m h = omega (arith, ints)
remainder_high (negsuc a) m h = omega (arith, ints)

below_half : (m : ℤ) (p q : ℕ) (b : Bool) → q ≡ 2 * p → int_lt m (pos p) ≡ b → pos 0 ≤ℤ m → m <ℤ pos q → mag (if b then m else m -ℤ pos q) < p
below_half m p q true e is low high = mag_from p m (omega (arith, ints, low)) (omega (arith, ints, is))
below_half m p q false e is low high = mag_from p (m -ℤ pos q) (omega (arith, ints, is, e)) (omega (arith, ints, high, e))

-- a wrapped number is in the range
pub wrap_small : (n : ℕ) (z : ℤ) → IsCellWidth n → mag (wrap n z) < 2 ^ (n - 1)
wrap_small n z w =
    below_half (low_bits n z) (2 ^ (n - 1)) (2 ^ n) (int_lt (low_bits n z) (pos (2 ^ (n - 1)))) (double n w) refl
    (remainder_low z (2 ^ n) (pow_pos n)) (remainder_high z (2 ^ n) (pow_pos n))

chosen : (m r : ℤ) (p q : ℕ) (b : Bool) → q ≡ 2 * p → int_lt m (pos p) ≡ b → ((b ≡ true) → m ≡ r) → ((b ≡ false) → m ≡ r +ℤ pos q) → (if b then m else m -ℤ pos q) ≡ r
chosen m r p q true e is below above = below refl
chosen m r p q false e is below above = omega (arith, ints, above refl)

whole : (z : ℤ) (p q : ℕ) → q ≡ 2 * p → mag z < p → (m : ℤ) → m ≡ int_rem_euclid z (pos q) → (if int_lt m (pos p) then m else m -ℤ pos q) ≡ z
whole (pos a) p q e h m is =
    let small : a % q ≡ a = mod-eq_of_lt {n = a} {m = q} (omega (arith, e, h)) in
    let s : m ≡ pos a = is ∙ ap pos small in
    chosen m (pos a) p q (int_lt m (pos p)) e refl (λ b. s) (λ b. absurd (omega (arith, ints, b, s, h)))
whole (negsuc a) p q e h m is =
    let small : a % q ≡ a = mod-eq_of_lt {n = a} {m = q} (omega (arith, e, h)) in
    let s : m ≡ pos (q - 1 - a) = is ∙ ap (λ x. pos (q - 1 - x)) small in
    chosen m (negsuc a) p q (int_lt m (pos p)) e refl (λ b. absurd (omega (arith, ints, b, s, h, e))) (λ b. omega (arith, ints, s, h, e))

-- a number in the range is one of n bits
pub small_number : (n : ℕ) (z : ℤ) → IsCellWidth n → mag z < 2 ^ (n - 1) → IsNumber n z
small_number n z w h = whole z (2 ^ (n - 1)) (2 ^ n) (double n w) h (low_bits n z) refl

-- a number of n bits is in the range
pub number_small : (n : ℕ) (z : ℤ) → IsCellWidth n → IsNumber n z → mag z < 2 ^ (n - 1)
number_small n z w h = subst (λ x. mag x < 2 ^ (n - 1)) h (wrap_small n z w)

-- a wrapped number is one of n bits
pub wrap_is_number : (n : ℕ) (z : ℤ) → IsCellWidth n → IsNumber n (wrap n z)
wrap_is_number n z w = small_number n (wrap n z) w (wrap_small n z w)

-- the range of numbers of n bits
pub number_range : (n : ℕ) (z : ℤ) → IsCellWidth n → IsNumber n z → (neg_ℤ (pos (2 ^ (n - 1))) ≤ℤ z) × (z <ℤ pos (2 ^ (n - 1)))
number_range n z w h = let s = number_small n z w h in (low_from (2 ^ (n - 1)) z s, high_from (2 ^ (n - 1)) z s)

-- what is in that range is a number of n bits
pub range_number : (n : ℕ) (z : ℤ) → IsCellWidth n → neg_ℤ (pos (2 ^ (n - 1))) ≤ℤ z → z <ℤ pos (2 ^ (n - 1)) → IsNumber n z
range_number n z w low high = small_number n z w (mag_from (2 ^ (n - 1)) z low high)

-- a natural number in the range
pub small_is_number : (n k : ℕ) → IsCellWidth n → k < 2 ^ (n - 1) → IsNumber n (pos k)
small_is_number n k w h = small_number n (pos k) w h

mag_not : (p : ℕ) (z : ℤ) → mag z < p → mag (not_ℤ z) < p
mag_not p (pos a) h = h
mag_not p (negsuc a) h = h

mag_and : (k : ℕ) (a b : ℤ) → mag a < 2 ^ k → mag b < 2 ^ k → mag (and_ℤ a b) < 2 ^ k
mag_and k (pos a) (pos b) h i = omega (arith, and_le_l a b)
mag_and k (pos a) (negsuc b) h i = omega arith
mag_and k (negsuc a) (pos b) h i = omega arith
mag_and k (negsuc a) (negsuc b) h i = or_lt k a b h i

mag_or : (k : ℕ) (a b : ℤ) → mag a < 2 ^ k → mag b < 2 ^ k → mag (or_ℤ a b) < 2 ^ k
mag_or k (pos a) (pos b) h i = or_lt k a b h i
mag_or k (pos a) (negsuc b) h i = omega arith
mag_or k (negsuc a) (pos b) h i = omega arith
mag_or k (negsuc a) (negsuc b) h i = omega (arith, and_le_l a b)

mag_xor : (k : ℕ) (a b : ℤ) → mag a < 2 ^ k → mag b < 2 ^ k → mag (xor_ℤ a b) < 2 ^ k
mag_xor k (pos a) (pos b) h i = xor_lt k a b h i
mag_xor k (pos a) (negsuc b) h i = xor_lt k a b h i
mag_xor k (negsuc a) (pos b) h i = xor_lt k a b h i
mag_xor k (negsuc a) (negsuc b) h i = xor_lt k a b h i

-- `-` and `~` keep numbers of n bits
pub prefixed_number : (n : ℕ) (op : Prefix) (z : ℤ) → IsCellWidth n → IsNumber n z → IsNumber n (prefixed n op z)
prefixed_number n prefix.Neg z w h = wrap_is_number n (neg_ℤ z) w
prefixed_number n prefix.Not z w h = small_number n (not_ℤ z) w (mag_not (2 ^ (n - 1)) z (number_small n z w h))

-- shifts by any amount keep numbers of n bits
pub any_shift_number : (n : ℕ) (op : Shift) (z : ℤ) (k : ℕ) → IsCellWidth n → IsNumber n z → IsNumber n (shifted n op z k)
any_shift_number n shift.Shl z k w h = wrap_is_number n (z *ℤ pos (2 ^ k)) w
any_shift_number n shift.Shr z k w h = small_number n (shifted n shift.Shr z k) w (omega (arith, mag_shr z (2 ^ k), number_small n z w h))

-- shifts keep numbers of n bits
pub shifted_number : (n : ℕ) (op : Shift) (z : ℤ) (k : ℕ) → IsCellWidth n → k < n → IsNumber n z → IsNumber n (shifted n op z k)
shifted_number n op z k w below h = any_shift_number n op z k w h

-- operators of two numbers keep numbers of n bits
pub arithmetic_number : (n : ℕ) (op : Arith) (x y : ℤ) → IsCellWidth n → IsNumber n x → IsNumber n y → IsNumber n (arithmetic n op x y)
arithmetic_number n ariths.Add x y w h i = wrap_is_number n (x +ℤ y) w
arithmetic_number n ariths.Sub x y w h i = wrap_is_number n (x -ℤ y) w
arithmetic_number n ariths.Mul x y w h i = wrap_is_number n (x *ℤ y) w
arithmetic_number n ariths.And x y w h i = small_number n (and_ℤ x y) w (mag_and (n - 1) x y (number_small n x w h) (number_small n y w i))
arithmetic_number n ariths.Or x y w h i = small_number n (or_ℤ x y) w (mag_or (n - 1) x y (number_small n x w h) (number_small n y w i))
arithmetic_number n ariths.Xor x y w h i = small_number n (xor_ℤ x y) w (mag_xor (n - 1) x y (number_small n x w h) (number_small n y w i))
