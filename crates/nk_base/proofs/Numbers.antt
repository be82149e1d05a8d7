-- What numbers of a fixed width need.
use Rattle.std.proofs.Common.{◌≡◌, ℕ, ◌-◌, ◌*◌, ◌/◌, ◌%◌, ◌^◌, ◌<◌, ◌≤◌, ℤ, pos, negsuc, zero, suc, arith, to_z, ◌+ℤ◌, ◌-ℤ◌, ◌*ℤ◌}
use Rattle.std.specs.Int.{w128, int_rem_euclid}
use Rattle.std.specs.Prelude.{Bool, true, false, int_lt, if◌then◌else◌}
use Rattle.nk_base.specs.declared.number.Ty.{Ty}
use Rattle.nk_base.specs.declared.number.Ty.TheVariants as tys
use Rattle.nk_base.specs.Number.{IsCongruent, width_of, wrapped, low_bits}
use Rattle.std.proofs.lemmas.Int.{ints}
use Rattle.std.proofs.lemmas.Nat.{pow_below, pow_pos, one_shl}

-- a power of two below 2^127, as the code computes it
pub power : (k : ℕ) → k ≤ 126 → to_z w128 (1 * 2 ^ k % 2 ^ 128) ≡ pos (2 ^ k)
power k h =
    let small : 2 ^ k < 2 ^ 127 = pow_below k 127 (omega arith) in
    let same : 1 * 2 ^ k % 2 ^ 128 ≡ 2 ^ k = one_shl k 128 (omega arith) in
    omega (arith, ints)

-- the remainder differs by a multiple
pub congruent : (z : ℤ) (m : ℕ) → 0 < m → (k : ℤ) × (z ≡ int_rem_euclid z (pos m) +ℤ k *ℤ pos m)
congruent (pos a) m h = (pos (a / m), omega (arith, ints))
congruent (negsuc a) m h = (negsuc (a / m), omega (arith, ints))

-- one multiple more
pub congruent_below : (z r : ℤ) (m : ℕ) → ((k : ℤ) × (z ≡ r +ℤ k *ℤ pos m)) → (k : ℤ) × (z ≡ (r -ℤ pos m) +ℤ k *ℤ pos m)
congruent_below z r m (pos q, e) = (pos (suc q), omega (arith, ints, e))
congruent_below z r m (negsuc zero, e) = (pos 0, omega (arith, ints, e))
congruent_below z r m (negsuc (suc q), e) = (negsuc q, omega (arith, ints, e))

wrapped_by : (low : ℤ) (z : ℤ) (n : ℕ) (b : Bool) → ((k : ℤ) × (z ≡ low +ℤ k *ℤ pos (2 ^ n)))
    → (k : ℤ) × (z ≡ (if b then low else low -ℤ pos (2 ^ n)) +ℤ k *ℤ pos (2 ^ n))
wrapped_by low z n true e = e
wrapped_by low z n false e = congruent_below z low (2 ^ n) e

pub wrapped_congruent : (ty : Ty) (z : ℤ) → IsCongruent (width_of ty) z (wrapped ty z)
wrapped_congruent tys.Bool z = (pos 0, omega (arith, ints))
wrapped_congruent (tys.Card n) z = congruent z (2 ^ n) (pow_pos n)
wrapped_congruent (tys.Int n) z = wrapped_by (low_bits n z) z n (int_lt (low_bits n z) (pos (2 ^ (n - 1)))) (congruent z (2 ^ n) (pow_pos n))
