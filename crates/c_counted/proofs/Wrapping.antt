-- A number of the text that n bits hold isn't changed by wrapping.
use Rattle.std.proofs.Common.{◌≡◌, refl, ap, ◌∙◌, ℕ, ◌-◌, ◌^◌, ◌<◌, ℤ, pos, arith, mod-eq_of_lt, pow_mono}
use Rattle.std.specs.Prelude.{◌-ℤ◌, int_lt, if◌then◌else◌}
use Rattle.std.proofs.lemmas.Bool.Decides.{nat_tests}
use Rattle.std.proofs.lemmas.Int.{ints, int_rem_euclid_is}
use Rattle.std.proofs.lemmas.Nat.{pow_pos}
use Rattle.nk_base.specs.Number.{low_bits}
use Rattle.ir_core.specs.Operator.{wrap}

low_is : (n a : ℕ) → a < 2 ^ n → low_bits n (pos a) ≡ pos a
low_is n a h = int_rem_euclid_is (pos a) (pos (2 ^ n)) (2 ^ n) 0 a (pow_pos n) refl (omega (arith, ints)) ∙ ap pos (mod-eq_of_lt h)

-- the number of two's complement that these lowest bits write
abbrev signed : ℕ → ℤ → ℤ
signed n low = if int_lt low (pos (2 ^ (n - 1))) then low else low -ℤ pos (2 ^ n)

signed_low : (n a : ℕ) → a < 2 ^ (n - 1) → signed n (pos a) ≡ pos a
signed_low n a h = grind (arith, nat_tests)

-- a number below 2^(n-1) is as it is wrapped
pub wrap_small : (n a : ℕ) → a < 2 ^ (n - 1) → wrap n (pos a) ≡ pos a
wrap_small n a h =
    let more = pow_mono {i = n - 1} {j = n} (omega arith) in
    ap (signed n) (low_is n a (omega (arith, h, more))) ∙ signed_low n a h
