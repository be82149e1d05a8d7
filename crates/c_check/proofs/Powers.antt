-- A power of two that is a number of 64 bits.
use Rattle.std.proofs.Common.{◌≡◌, ℕ, ◌≤◌, ◌<◌, ◌^◌, ◌*◌, ◌%◌, arith}
use Rattle.std.proofs.Math.Pow.{pow-lt}

pub power_is : (k : ℕ) → k ≤ 31 → 1 * 2 ^ k % 18446744073709551616 ≡ 2 ^ k
power_is k h =
    let below : 2 ^ k < 2 ^ 64 = pow-lt {j = 64} (omega arith) in
    omega arith
