-- Which numbers are their own wraps, and what is so after each operator.
use Rattle.std.proofs.Common.{◌≡◌, ℕ, suc, ◌+◌, ◌-◌, ◌*◌, ◌^◌, ◌%◌, ◌<◌, ◌≤◌, ℤ, pos, negsuc, neg_ℤ, ◌+ℤ◌, ◌-ℤ◌, ◌≤ℤ◌, ◌<ℤ◌, refl, ap, ◌∙◌, subst, arith}
use Rattle.std.specs.Prelude.{Bool, true, false, IsTrue, int_lt, int_le, nat_le, ◌&&◌, if◌then◌else◌}
use Rattle.std.specs.Int.{int_rem_euclid}
use Rattle.std.specs.Int.Signed.{mag, mag_shr}
use Rattle.std.specs.Int.Bits.{and_le_l, or_lt, xor_lt}
use Rattle.std.proofs.lemmas.Int.{ints}
use Rattle.std.proofs.Math.Nat.{mod-eq_of_lt, pow-le-pow_right}
use Rattle.std.proofs.lemmas.Nat.{pow_pos}
use Rattle.nk_base.specs.declared.number.Ty.{Ty}
use Rattle.nk_base.specs.declared.number.Ty.TheVariants as ty
use Rattle.nk_base.specs.Number.{InRange, low_bits}
use Rattle.nk_base.specs.Whole.{and_ℤ, or_ℤ, xor_ℤ, not_ℤ}
use Rattle.ir_core.specs.declared.operator.Shift.TheVariants as shifts
use Rattle.ir_core.specs.Operator.{wrap, shifted}
use Rattle.pat_core.specs.Low.{is_in_int, is_within_int}
use Rattle.pat_core.specs.Machine.{is_int}

-- ---- the range of int(n)

double : (n : ℕ) → 1 ≤ n → 2 ^ n ≡ 2 * 2 ^ (n - 1)
double n w = let k : n ≡ suc (n - 1) = omega (arith, w) in ap (λ m. 2 ^ m) k ∙ omega arith

mag_from : (p : ℕ) (z : ℤ) → neg_ℤ (pos p) ≤ℤ z → z <ℤ pos p → mag z < p
mag_from p (pos n) low high = omega (arith, ints)
mag_from p (negsuc n) low high = omega (arith, ints)

rest_low : (z : ℤ) (m : ℕ) → 0 < m → pos 0 ≤ℤ int_rem_euclid z (pos m)
rest_low (pos a) m h = omega (arith, ints)
rest_low (negsuc a) m h = omega (arith, ints)

rest_high : (z : ℤ) (m : ℕ) → 0 < m → int_rem_euclid z (pos m) <ℤ pos m
rest_high (pos a) m h = omega (arith, ints)
rest_high (negsuc a) m h = omega (arith, ints)

chosen : (m r : ℤ) (p q : ℕ) (b : Bool) → q ≡ 2 * p → int_lt m (pos p) ≡ b → ((b ≡ true) → m ≡ r) → ((b ≡ false) → m ≡ r +ℤ pos q) → (if b then m else m -ℤ pos q) ≡ r
chosen m r p q true e is below above = below refl
chosen m r p q false e is below above = omega (arith, ints, above refl)

whole : (z : ℤ) (p q : ℕ) → q ≡ 2 * p → mag z < p → (m : ℤ) → m ≡ int_rem_euclid z (pos q) → (if int_lt m (pos p) then m else m -ℤ pos q) ≡ z
whole (pos a) p q e h m is =
    let small : a % q ≡ a = mod-eq_of_lt {n = a} {m = q} (omega (arith, e, h)) in
    let s : m ≡ pos a = is ∙ ap pos small in
    chosen m (pos a) p q (int_lt m (pos p)) e refl (λ b. s) (λ b. absurd (omega (arith, ints, b, s, h)))
whole (negsuc a) p q e h m is =
    let small : a % q ≡ a = mod-eq_of_lt {n = a} {m = q} (omega (arith, e, h)) in
    let s : m ≡ pos (q - 1 - a) = is ∙ ap (λ x. pos (q - 1 - x)) small in
    chosen m (negsuc a) p q (int_lt m (pos p)) e refl (λ b. absurd (omega (arith, ints, b, s, h, e))) (λ b. omega (arith, ints, s, h, e))

-- a number in the range is its own wrap
pub mag_own : (n : ℕ) (z : ℤ) → 1 ≤ n → mag z < 2 ^ (n - 1) → wrap n z ≡ z
mag_own n z w h = whole z (2 ^ (n - 1)) (2 ^ n) (double n w) h (low_bits n z) refl

below_half : (m : ℤ) (p q : ℕ) (b : Bool) → q ≡ 2 * p → int_lt m (pos p) ≡ b → pos 0 ≤ℤ m → m <ℤ pos q → mag (if b then m else m -ℤ pos q) < p
below_half m p q true e is low high = mag_from p m (omega (arith, ints, low)) (omega (arith, ints, is))
below_half m p q false e is low high = mag_from p (m -ℤ pos q) (omega (arith, ints, is, e)) (omega (arith, ints, high, e))

-- a number that is its own wrap is in the range
pub own_mag : (n : ℕ) (z : ℤ) → 1 ≤ n → wrap n z ≡ z → mag z < 2 ^ (n - 1)
own_mag n z w h =
    subst (λ x. mag x < 2 ^ (n - 1)) h
    (below_half (low_bits n z) (2 ^ (n - 1)) (2 ^ n) (int_lt (low_bits n z) (pos (2 ^ (n - 1)))) (double n w) refl (rest_low z (2 ^ n) (pow_pos n)) (rest_high z (2 ^ n) (pow_pos n)))

-- ---- after operators

mag_not : (p : ℕ) (z : ℤ) → mag z < p → mag (not_ℤ z) < p
mag_not p (pos a) h = h
mag_not p (negsuc a) h = h

mag_and : (k : ℕ) (a b : ℤ) → mag a < 2 ^ k → mag b < 2 ^ k → mag (and_ℤ a b) < 2 ^ k
mag_and k (pos a) (pos b) h i = omega (arith, and_le_l a b)
mag_and k (pos a) (negsuc b) h i = omega arith
mag_and k (negsuc a) (pos b) h i = omega arith
mag_and k (negsuc a) (negsuc b) h i = or_lt k a b h i

mag_or : (k : ℕ) (a b : ℤ) → mag a < 2 ^ k → mag b < 2 ^ k → mag (or_ℤ a b) < 2 ^ k
mag_or k (pos a) (pos b) h i = or_lt k a b h i
mag_or k (pos a) (negsuc b) h i = omega arith
mag_or k (negsuc a) (pos b) h i = omega arith
mag_or k (negsuc a) (negsuc b) h i = omega (arith, and_le_l a b)

mag_xor : (k : ℕ) (a b : ℤ) → mag a < 2 ^ k → mag b < 2 ^ k → mag (xor_ℤ a b) < 2 ^ k
mag_xor k (pos a) (pos b) h i = xor_lt k a b h i
mag_xor k (pos a) (negsuc b) h i = xor_lt k a b h i
mag_xor k (negsuc a) (pos b) h i = xor_lt k a b h i
mag_xor k (negsuc a) (negsuc b) h i = xor_lt k a b h i

-- `~`
pub own_not : (n : ℕ) (z : ℤ) → 1 ≤ n → wrap n z ≡ z → wrap n (not_ℤ z) ≡ not_ℤ z
own_not n z w h = mag_own n (not_ℤ z) w (mag_not (2 ^ (n - 1)) z (own_mag n z w h))

-- `>>`
pub own_shr : (n : ℕ) (z : ℤ) (k : ℕ) → 1 ≤ n → wrap n z ≡ z → wrap n (shifted n shifts.Shr z k) ≡ shifted n shifts.Shr z k
own_shr n z k w h = mag_own n (shifted n shifts.Shr z k) w (omega (arith, mag_shr z (2 ^ k), own_mag n z w h))

-- `&`
pub own_and : (n : ℕ) (x y : ℤ) → 1 ≤ n → wrap n x ≡ x → wrap n y ≡ y → wrap n (and_ℤ x y) ≡ and_ℤ x y
own_and n x y w h i = mag_own n (and_ℤ x y) w (mag_and (n - 1) x y (own_mag n x w h) (own_mag n y w i))

-- `|`
pub own_or : (n : ℕ) (x y : ℤ) → 1 ≤ n → wrap n x ≡ x → wrap n y ≡ y → wrap n (or_ℤ x y) ≡ or_ℤ x y
own_or n x y w h i = mag_own n (or_ℤ x y) w (mag_or (n - 1) x y (own_mag n x w h) (own_mag n y w i))

-- `^`
pub own_xor : (n : ℕ) (x y : ℤ) → 1 ≤ n → wrap n x ≡ x → wrap n y ≡ y → wrap n (xor_ℤ x y) ≡ xor_ℤ x y
own_xor n x y w h i = mag_own n (xor_ℤ x y) w (mag_xor (n - 1) x y (own_mag n x w h) (own_mag n y w i))

-- ---- numbers of narrower types

both_hold : (b c : Bool) → (b && c) ≡ true → (b ≡ true) × (c ≡ true)
both_hold true c h = (refl, h)
both_hold false c h = absurd cc

mag_between : (p : ℕ) (z : ℤ) → int_le (neg_ℤ (pos p)) z ≡ true → int_le z (pos p -ℤ pos 1) ≡ true → mag z < p
mag_between p (pos n) low high = omega (arith, ints, low, high)
mag_between p (negsuc n) low high = omega (arith, ints, low, high)

-- a number of int(n)
pub own_small : (n : ℕ) (z : ℤ) → 1 ≤ n → IsTrue (is_in_int n z) → wrap n z ≡ z
own_small n z w h =
    let b = both_hold (int_le (neg_ℤ (pos (2 ^ (n - 1)))) z) (int_le z (pos (2 ^ (n - 1)) -ℤ pos 1)) h in
    mag_own n z w (mag_between (2 ^ (n - 1)) z b.0 b.1)

powers : (i j : ℕ) → i ≤ j → 2 ^ i ≤ 2 ^ j
powers i j h = pow-le-pow_right {n = 2} (omega arith) {i = i} {j = j} h

mag_natural : (p q : ℕ) (z : ℤ) → pos 0 ≤ℤ z → z <ℤ pos p → p ≤ q → mag z < q
mag_natural p q (pos a) low high h = omega (arith, ints, high, h)
mag_natural p q (negsuc a) low high h = absurd (omega (arith, ints, low))

mag_wider : (p q : ℕ) (z : ℤ) → neg_ℤ (pos p) ≤ℤ z → z <ℤ pos p → p ≤ q → mag z < q
mag_wider p q z low high h = omega (arith, mag_from p z low high, h)

at_most : (a b : ℕ) → IsTrue (nat_le a b) → a ≤ b
at_most a b h = grind arith

-- a number of a type within int(n)
pub own_within : (n : ℕ) → 1 ≤ n → (t : Ty) → IsTrue (is_within_int n t) → (z : ℤ) → InRange t z → wrap n z ≡ z
own_within n w ty.Bool h z r =
    let two : 2 ^ 1 ≤ 2 ^ (n - 1) = powers 1 (n - 1) (omega (arith, at_most 2 n h)) in
    mag_own n z w (mag_natural 2 (2 ^ (n - 1)) z r.0 (omega (arith, ints, r.1)) (omega (arith, two)))
own_within n w (ty.Card k) h z r = mag_own n z w (mag_natural (2 ^ k) (2 ^ (n - 1)) z r.0 r.1 (powers k (n - 1) (omega (arith, at_most (k + 1) n h))))
own_within n w (ty.Int k) h z r =
    mag_own n z w (mag_wider (2 ^ (k - 1)) (2 ^ (n - 1)) z r.0 r.1 (powers (k - 1) (n - 1) (omega (arith, at_most k n h))))

-- a number of int(n), by its type
pub own_int : (n : ℕ) → 1 ≤ n → (t : Ty) → IsTrue (is_int n t) → (z : ℤ) → InRange t z → wrap n z ≡ z
own_int n w ty.Bool h z r = absurd cc
own_int n w (ty.Card k) h z r = absurd cc
own_int n w (ty.Int k) h z r = own_within n w (ty.Int k) (grind arith) z r

-- a natural number below 2^k is its own lowest k bits
pub own_low : (k : ℕ) (z : ℤ) → pos 0 ≤ℤ z → z <ℤ pos (2 ^ k) → low_bits k z ≡ z
own_low k (pos a) low high = ap pos (mod-eq_of_lt {n = a} {m = 2 ^ k} (omega (arith, ints, high)))
own_low k (negsuc a) low high = absurd (omega (arith, ints, low))

-- what is left of a number is natural
pub low_natural : (n : ℕ) (z : ℤ) → pos 0 ≤ℤ low_bits n z
low_natural n z = rest_low z (2 ^ n) (pow_pos n)
