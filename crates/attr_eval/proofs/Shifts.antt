-- Shifts by more than 126 bits.
use Rattle.std.proofs.Common.{◌≡◌, ℕ, zero, suc, ◌*◌, ◌^◌, ◌<◌, ◌≤◌, ◌/◌, ℤ, pos, negsuc, ◌*ℤ◌, ◌<ℤ◌, ◌≤ℤ◌, refl, ap, sym, arith, FitsSigned, mul-le-mul}
use Rattle.std.specs.Int.{w128}
use Rattle.std.specs.Int.Signed.{mag}
use Rattle.std.proofs.lemmas.Int.{ints}
use Rattle.std.proofs.Math.Nat.{div-eq_of_lt}
use Rattle.std.proofs.Math.Pow.{pow_mono}
use Rattle.nk_base.specs.Whole.{floor_shr}

pub right_negative : (x : ℤ) (n : ℕ) → 126 < n → FitsSigned w128 x → x <ℤ pos 0 → negsuc 0 ≡ floor_shr x n
right_negative (pos m) n far fits low = absurd (omega (arith, ints, low))
right_negative (negsuc m) n far fits low =
    let p : 2 ^ 127 ≤ 2 ^ n = pow_mono {i = 127} {j = n} (omega (arith, far)) in
    let e : m / 2 ^ n ≡ 0 = div-eq_of_lt (omega (arith, fits.sfits, p)) in
    ap negsuc (sym e)

pub right_natural : (x : ℤ) (n : ℕ) → 126 < n → FitsSigned w128 x → pos 0 ≤ℤ x → pos 0 ≡ floor_shr x n
right_natural (pos m) n far fits low =
    let p : 2 ^ 127 ≤ 2 ^ n = pow_mono {i = 127} {j = n} (omega (arith, far)) in
    let e : m / 2 ^ n ≡ 0 = div-eq_of_lt (omega (arith, fits.sfits, p)) in
    ap pos (sym e)
right_natural (negsuc m) n far fits low = absurd (omega (arith, ints, low))

-- what isn't 0 and fits is the least number, then
times : (m : ℕ) (x : ℤ) → 2 ^ 127 ≤ m → mag (x *ℤ pos m) < 2 ^ 127 → (x ≡ pos 0 → ⊥) → negsuc 170141183460469231731687303715884105727 ≡ x *ℤ pos m
times zero x far low some = absurd (omega (arith, far))
times (suc m) (pos zero) far low some = absurd (some refl)
times (suc m) (pos (suc a)) far low some = let f : 1 * suc m ≤ suc a * suc m = mul-le-mul (omega arith) (omega arith) in absurd (omega (arith, ints, far, low, f))
times (suc m) (negsuc a) far low some = let f : 1 * suc m ≤ suc a * suc m = mul-le-mul (omega arith) (omega arith) in omega (arith, ints, far, low, f)

pub left_far : (x : ℤ) (n : ℕ) → 126 < n → FitsSigned w128 (x *ℤ pos (2 ^ n)) → (x ≡ pos 0 → ⊥) → negsuc 170141183460469231731687303715884105727 ≡ x *ℤ pos (2 ^ n)
left_far x n far fits some =
    let p : 2 ^ 127 ≤ 2 ^ n = pow_mono {i = 127} {j = n} (omega (arith, far)) in
    times (2 ^ n) x p fits.sfits some
