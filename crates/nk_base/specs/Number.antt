-- Numbers of a fixed width.
use Rattle.std.specs.Prelude.{◌≡◌, ℕ, ◌-◌, ◌^◌, ◌≤◌, ℤ, pos, ◌+ℤ◌, ◌-ℤ◌, ◌*ℤ◌, neg_ℤ, ◌≤ℤ◌, ◌<ℤ◌, int_lt, if◌then◌else◌}
use Rattle.std.specs.Int.{int_rem_euclid}
use Rattle.nk_base.specs.declared.number.Ty.{Ty}
use Rattle.nk_base.specs.declared.number.Ty.TheVariants.{Bool, Card, Int}

-- a width is 1 to 64 bits
abbrev pub IsWidth : ℕ → Type 0
IsWidth n = (1 ≤ n) × (n ≤ 64)

-- a type of 1 to 64 bits
abbrev pub IsTy : Ty → Type 0
IsTy Bool = Unit {0}
IsTy (Card n) = IsWidth n
IsTy (Int n) = IsWidth n

-- how many bits a number of the type has
abbrev pub width_of : Ty → ℕ
width_of Bool = 1
width_of (Card n) = n
width_of (Int n) = n

-- Bool is 0 and 1, Card(n) is 0 to 2^n-1, Int(n) is -2^(n-1) to 2^(n-1)-1
abbrev pub InRange : Ty → ℤ → Type 0
InRange Bool z = (pos 0 ≤ℤ z) × (z ≤ℤ pos 1)
InRange (Card n) z = (pos 0 ≤ℤ z) × (z <ℤ pos (2 ^ n))
InRange (Int n) z = (neg_ℤ (pos (2 ^ (n - 1))) ≤ℤ z) × (z <ℤ pos (2 ^ (n - 1)))

-- a Bool isn't wrapped: whoever writes it has 0 or 1
abbrev pub CanWrap : Ty → ℤ → Type 0
CanWrap Bool z = InRange Bool z
CanWrap (Card n) z = Unit {0}
CanWrap (Int n) z = Unit {0}

-- two numbers that differ by a multiple of 2^n
abbrev pub IsCongruent : ℕ → ℤ → ℤ → Type 0
IsCongruent n z r = (k : ℤ) × (z ≡ r +ℤ k *ℤ pos (2 ^ n))

-- z modulo 2^n, 0 or above
abbrev pub low_bits : ℕ → ℤ → ℤ
low_bits n z = int_rem_euclid z (pos (2 ^ n))

-- the number of the type's range that is congruent to z
abbrev pub wrapped : Ty → ℤ → ℤ
wrapped Bool z = z
wrapped (Card n) z = low_bits n z
wrapped (Int n) z = if int_lt (low_bits n z) (pos (2 ^ (n - 1))) then low_bits n z else low_bits n z -ℤ pos (2 ^ n)
