-- A number that fits w bits of two's complement, and what the operators leave of that.
use Rattle.std.proofs.Common.{◌≡◌, ℕ, suc, ◌+◌, ◌-◌, ◌*◌, ◌^◌, ◌<◌, ◌≤◌, max, ℤ, pos, negsuc, zero, ◌+ℤ◌, ◌-ℤ◌, ◌*ℤ◌, neg_ℤ, ◌≤ℤ◌, ◌<ℤ◌, unsigned_abs, refl, ap, ◌∙◌, arith, FitsSigned, mul-le-mul}
use Rattle.std.specs.Int.{w128, int_rem_euclid}
use Rattle.std.specs.Prelude.{Bool, true, false, int_lt, if◌then◌else◌}
use Rattle.std.specs.Int.Signed.{mag, mag_shr}
use Rattle.std.specs.Int.Bits.{and_le_l, or_lt, xor_lt}
use Rattle.std.proofs.lemmas.Int.{ints, unsigned_abs-mul}
use Rattle.std.proofs.Math.Pow.{pow_mono, pow_pos, pow-add}
use Rattle.nk_base.specs.Whole.{and_ℤ, or_ℤ, xor_ℤ, not_ℤ, floor_shr, clamped}
use Rattle.nk_base.specs.Number.{low_bits, wrapped}
use Rattle.nk_base.specs.declared.number.Ty.TheVariants as ty
pub use Rattle.nml_widths.specs.Fitting.{Holds}

mag_from : (p : ℕ) (z : ℤ) → neg_ℤ (pos p) ≤ℤ z → z <ℤ pos p → mag z < p
mag_from p (pos n) low high = omega (arith, ints)
mag_from p (negsuc n) low high = omega (arith, ints)

low_from : (p : ℕ) (z : ℤ) → mag z < p → neg_ℤ (pos p) ≤ℤ z
low_from p (pos n) h = omega (arith, ints)
low_from p (negsuc n) h = omega (arith, ints)

high_from : (p : ℕ) (z : ℤ) → mag z < p → z <ℤ pos p
high_from p (pos n) h = omega (arith, ints)
high_from p (negsuc n) h = omega (arith, ints)

pub holds_more : {w v : ℕ} {z : ℤ} → w ≤ v → Holds w z → Holds v z
holds_more {w} {v} {z} le h =
    let m : 2 ^ (w - 1) ≤ 2 ^ (v - 1) = pow_mono (omega arith) in
    record { some = omega (arith, h.some); fits = omega (arith, h.fits, m) }

double : (w : ℕ) → 1 ≤ w → 2 ^ (w + 1 - 1) ≡ 2 * 2 ^ (w - 1)
double w h = let e : w + 1 - 1 ≡ suc (w - 1) = omega arith in ap (λ n. 2 ^ n) e ∙ omega arith

mag_add : (p : ℕ) (a b : ℤ) → mag a < p → mag b < p → mag (a +ℤ b) < 2 * p
mag_add p a b h k =
    mag_from (2 * p) (a +ℤ b) (omega (arith, ints, low_from p a h, low_from p b k)) (omega (arith, ints, high_from p a h, high_from p b k))

mag_sub : (p : ℕ) (a b : ℤ) → mag a < p → mag b < p → mag (a -ℤ b) < 2 * p
mag_sub p a b h k =
    mag_from (2 * p) (a -ℤ b) (omega (arith, ints, low_from p a h, high_from p b k)) (omega (arith, ints, high_from p a h, low_from p b k))

pub holds_add : {w v : ℕ} {a b : ℤ} → Holds w a → Holds v b → Holds (max w v + 1) (a +ℤ b)
holds_add {w} {v} {a} {b} h k =
    let x : Holds (max w v) a = holds_more (omega arith) h in
    let y : Holds (max w v) b = holds_more (omega arith) k in
    record { some = omega arith; fits = omega (arith, mag_add (2 ^ (max w v - 1)) a b x.fits y.fits, double (max w v) x.some) }

pub holds_sub : {w v : ℕ} {a b : ℤ} → Holds w a → Holds v b → Holds (max w v + 1) (a -ℤ b)
holds_sub {w} {v} {a} {b} h k =
    let x : Holds (max w v) a = holds_more (omega arith) h in
    let y : Holds (max w v) b = holds_more (omega arith) k in
    record { some = omega arith; fits = omega (arith, mag_sub (2 ^ (max w v - 1)) a b x.fits y.fits, double (max w v) x.some) }

mag_neg : (a : ℤ) → mag (neg_ℤ a) ≤ mag a + 1
mag_neg (pos zero) = omega arith
mag_neg (pos (suc n)) = omega arith
mag_neg (negsuc n) = omega arith

pub holds_neg : {w : ℕ} {a : ℤ} → Holds w a → Holds (w + 1) (neg_ℤ a)
holds_neg {w} {a} h = record { some = omega arith; fits = omega (arith, mag_neg a, h.fits, double w h.some) }

abs_mag : (a : ℤ) → unsigned_abs a ≤ mag a + 1
abs_mag (pos n) = omega arith
abs_mag (negsuc n) = omega arith

mag_abs : (a : ℤ) → mag a ≤ unsigned_abs a
mag_abs (pos n) = omega arith
mag_abs (negsuc n) = omega arith

product_below : (p q x y z : ℕ) → 0 < p → 0 < q → x ≤ p → y ≤ q → z ≤ x * y → z < 2 * (p * q)
product_below p q x y z hp hq hx hy hz =
    let m : x * y ≤ p * q = mul-le-mul hx hy in
    let some : 1 * 1 ≤ p * q = mul-le-mul hp hq in
    omega arith

pub holds_mul : {w v : ℕ} {a b : ℤ} → Holds w a → Holds v b → Holds (w + v) (a *ℤ b)
holds_mul {w} {v} {a} {b} h k =
    let e : w + v - 1 ≡ suc ((w - 1) + (v - 1)) = omega (arith, h.some, k.some) in
    let d : 2 ^ (w + v - 1) ≡ 2 * (2 ^ (w - 1) * 2 ^ (v - 1)) = ap (λ n. 2 ^ n) e ∙ omega (arith, pow-add 2 (w - 1) (v - 1)) in
    let m : mag (a *ℤ b) ≤ unsigned_abs a * unsigned_abs b = omega (arith, mag_abs (a *ℤ b), unsigned_abs-mul a b) in
    let below = product_below (2 ^ (w - 1)) (2 ^ (v - 1)) (unsigned_abs a) (unsigned_abs b) (mag (a *ℤ b)) (pow_pos (w - 1)) (pow_pos (v - 1)) (omega (arith, abs_mag a, h.fits)) (omega (arith, abs_mag b, k.fits)) m in
    record { some = omega (arith, h.some); fits = rw d below }

mag_not : (a : ℤ) → mag (not_ℤ a) ≡ mag a
mag_not (pos n) = refl
mag_not (negsuc n) = refl

pub holds_not : {w : ℕ} {a : ℤ} → Holds w a → Holds w (not_ℤ a)
holds_not {w} {a} h = record { some = h.some; fits = omega (arith, mag_not a, h.fits) }

mag_and : (k : ℕ) (a b : ℤ) → mag a < 2 ^ k → mag b < 2 ^ k → mag (and_ℤ a b) < 2 ^ k
mag_and k (pos a) (pos b) h i = omega (arith, and_le_l a b)
mag_and k (pos a) (negsuc b) h i = omega arith
mag_and k (negsuc a) (pos b) h i = omega arith
mag_and k (negsuc a) (negsuc b) h i = or_lt k a b h i

pub holds_and : {w v : ℕ} {a b : ℤ} → Holds w a → Holds v b → Holds (max w v) (and_ℤ a b)
holds_and {w} {v} {a} {b} h k =
    let x : Holds (max w v) a = holds_more (omega arith) h in
    let y : Holds (max w v) b = holds_more (omega arith) k in
    record { some = x.some; fits = mag_and (max w v - 1) a b x.fits y.fits }

pub holds_shr : {w : ℕ} {a : ℤ} (k : ℕ) → Holds w a → Holds w (floor_shr a k)
holds_shr {w} {a} k h = record { some = h.some; fits = omega (arith, mag_shr a (2 ^ k), h.fits) }

pub holds_fits : {w : ℕ} {a : ℤ} → w ≤ 127 → Holds w a → FitsSigned w128 a
holds_fits {w} {a} le h =
    let m : 2 ^ (w - 1) ≤ 2 ^ 127 = pow_mono {i = w - 1} {j = 127} (omega arith) in
    record { sfits = omega (arith, h.fits, m) }

mag_or : (k : ℕ) (a b : ℤ) → mag a < 2 ^ k → mag b < 2 ^ k → mag (or_ℤ a b) < 2 ^ k
mag_or k (pos a) (pos b) h i = or_lt k a b h i
mag_or k (pos a) (negsuc b) h i = omega arith
mag_or k (negsuc a) (pos b) h i = omega arith
mag_or k (negsuc a) (negsuc b) h i = omega (arith, and_le_l a b)

mag_xor : (k : ℕ) (a b : ℤ) → mag a < 2 ^ k → mag b < 2 ^ k → mag (xor_ℤ a b) < 2 ^ k
mag_xor k (pos a) (pos b) h i = xor_lt k a b h i
mag_xor k (pos a) (negsuc b) h i = xor_lt k a b h i
mag_xor k (negsuc a) (pos b) h i = xor_lt k a b h i
mag_xor k (negsuc a) (negsuc b) h i = xor_lt k a b h i

pub holds_or : {w v : ℕ} {a b : ℤ} → Holds w a → Holds v b → Holds (max w v) (or_ℤ a b)
holds_or {w} {v} {a} {b} h k =
    let x : Holds (max w v) a = holds_more (omega arith) h in
    let y : Holds (max w v) b = holds_more (omega arith) k in
    record { some = x.some; fits = mag_or (max w v - 1) a b x.fits y.fits }

pub holds_xor : {w v : ℕ} {a b : ℤ} → Holds w a → Holds v b → Holds (max w v) (xor_ℤ a b)
holds_xor {w} {v} {a} {b} h k =
    let x : Holds (max w v) a = holds_more (omega arith) h in
    let y : Holds (max w v) b = holds_more (omega arith) k in
    record { some = x.some; fits = mag_xor (max w v - 1) a b x.fits y.fits }

mag_times : (p q m : ℕ) (a : ℤ) → mag a < p → 0 < m → m ≤ q → mag (a *ℤ pos m) < p * q
mag_times p q m a h k l =
    let e : mag (a *ℤ pos m) < suc (mag a) * m = mag_product m a k in
    let f : suc (mag a) * m ≤ p * q = mul-le-mul (omega (arith, h)) l in
    omega (arith, e, f)
  where
    mag_product : (m : ℕ) (a : ℤ) → 0 < m → mag (a *ℤ pos m) < suc (mag a) * m
    mag_product zero a k = absurd (omega (arith, k))
    mag_product (suc m) (pos n) k = omega (arith, ints)
    mag_product (suc m) (negsuc n) k = omega (arith, ints)

-- times a power of two of at most c
pub holds_shl : {w : ℕ} {a : ℤ} (c k : ℕ) → k ≤ c → Holds w a → Holds (w + c) (a *ℤ pos (2 ^ k))
holds_shl {w} {a} c k le h =
    let e : w + c - 1 ≡ (w - 1) + c = omega (arith, h.some) in
    let d : 2 ^ (w + c - 1) ≡ 2 ^ (w - 1) * 2 ^ c = ap (λ n. 2 ^ n) e ∙ pow-add 2 (w - 1) c in
    let m : 2 ^ k ≤ 2 ^ c = pow_mono {i = k} {j = c} le in
    record { some = omega (arith, h.some); fits = rw d (mag_times (2 ^ (w - 1)) (2 ^ c) (2 ^ k) a h.fits (pow_pos k) m) }

-- a number from 0 to below 2 ^ n has n + 1 bits
pub holds_natural : {z : ℤ} (n : ℕ) → pos 0 ≤ℤ z → z <ℤ pos (2 ^ n) → Holds (n + 1) z
holds_natural {z} n low high =
    let e : n + 1 - 1 ≡ n = omega arith in
    record { some = omega arith; fits = rw e (mag_from (2 ^ n) z (omega (arith, ints, low)) high) }

pub holds_signed : {z : ℤ} (n : ℕ) → 1 ≤ n → neg_ℤ (pos (2 ^ (n - 1))) ≤ℤ z → z <ℤ pos (2 ^ (n - 1)) → Holds n z
holds_signed {z} n some low high = record { some = some; fits = mag_from (2 ^ (n - 1)) z low high }

pub remainder_low : (z : ℤ) (m : ℕ) → 0 < m → pos 0 ≤ℤ int_rem_euclid z (pos m)
remainder_low (pos a) m h = omega (arith, ints)
remainder_low (negsuc a) m h = omega (arith, ints)

pub remainder_high : (z : ℤ) (m : ℕ) → 0 < m → int_rem_euclid z (pos m) <ℤ pos m
remainder_high (pos a) m h = omega (arith, ints)
remainder_high (negsuc a) m h = omega (arith, ints)

abbrev Holds_in : ℕ → ℤ → Type 0
Holds_in p z = (neg_ℤ (pos p) ≤ℤ z) × (z <ℤ pos p)

wrapped_below : (m : ℤ) (p q : ℕ) (b : Bool) → q ≡ 2 * p → int_lt m (pos p) ≡ b → pos 0 ≤ℤ m → m <ℤ pos q → Holds_in p (if b then m else m -ℤ pos q)
wrapped_below m p q true e is low high = (omega (arith, ints, low), omega (arith, ints, is))
wrapped_below m p q false e is low high = (omega (arith, ints, is, e), omega (arith, ints, high, e))

pub wrapped_fits : (n : ℕ) (z : ℤ) → 1 ≤ n → Holds n (wrapped (ty.Int n) z)
wrapped_fits n z h =
    let k : n ≡ suc (n - 1) = omega (arith, h) in
    let e : 2 ^ n ≡ 2 * 2 ^ (n - 1) = ap (λ m. 2 ^ m) k ∙ omega arith in
    let w = wrapped_below (low_bits n z) (2 ^ (n - 1)) (2 ^ n) (int_lt (low_bits n z) (pos (2 ^ (n - 1)))) e refl
    (remainder_low z (2 ^ n) (pow_pos n)) (remainder_high z (2 ^ n) (pow_pos n)) in
    holds_signed n h w.0 w.1

pub clamped_fits : (n : ℕ) (z : ℤ) → 1 ≤ n → Holds n (clamped n z)
clamped_fits n (pos m) h = record { some = h; fits = omega (arith, pow_pos (n - 1)) }
clamped_fits n (negsuc m) h = record { some = h; fits = omega (arith, pow_pos (n - 1)) }
