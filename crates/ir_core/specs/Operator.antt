-- What the operators of the C subset do to numbers of n bits.
use Rattle.std.specs.Prelude.{ℕ, ◌^◌, ℤ, pos, neg_ℤ, ◌+ℤ◌, ◌-ℤ◌, ◌*ℤ◌, int_lt, int_le, Bool, not, ◌&&◌}
use Rattle.std.specs.Int.{int_shr}
use Rattle.nk_base.specs.declared.number.Ty.TheVariants as ty
use Rattle.nk_base.specs.Number.{wrapped}
use Rattle.nk_base.specs.Whole.{and_ℤ, or_ℤ, xor_ℤ, not_ℤ}
use Rattle.ir_core.specs.declared.operator.Prefix.{Prefix}
use Rattle.ir_core.specs.declared.operator.Prefix.TheVariants as prefix
use Rattle.ir_core.specs.declared.operator.Shift.{Shift}
use Rattle.ir_core.specs.declared.operator.Shift.TheVariants as shift
use Rattle.ir_core.specs.declared.operator.Arith.{Arith}
use Rattle.ir_core.specs.declared.operator.Arith.TheVariants as arith
use Rattle.ir_core.specs.declared.relation.Rel.{Rel}
use Rattle.ir_core.specs.declared.relation.Rel.TheVariants as rel

-- the number of int(n) that is congruent to z
abbrev pub wrap : ℕ → ℤ → ℤ
wrap n z = wrapped (ty.Int n) z

abbrev pub prefixed : ℕ → Prefix → ℤ → ℤ
prefixed n prefix.Neg z = wrap n (neg_ℤ z)
prefixed n prefix.Not z = not_ℤ z

abbrev pub power : ℕ → ℤ
power k = pos (2 ^ k)

-- `<<` wraps; `>>` divides by a power of two, rounding down
abbrev pub shifted : ℕ → Shift → ℤ → ℕ → ℤ
shifted n shift.Shl z k = wrap n (z *ℤ power k)
shifted n shift.Shr z k = int_shr z k

abbrev pub arithmetic : ℕ → Arith → ℤ → ℤ → ℤ
arithmetic n arith.Add x y = wrap n (x +ℤ y)
arithmetic n arith.Sub x y = wrap n (x -ℤ y)
arithmetic n arith.Mul x y = wrap n (x *ℤ y)
arithmetic n arith.And x y = and_ℤ x y
arithmetic n arith.Or x y = or_ℤ x y
arithmetic n arith.Xor x y = xor_ℤ x y

-- whether two numbers are so related
abbrev pub holds : Rel → ℤ → ℤ → Bool
holds rel.Eq x y = int_le x y && int_le y x
holds rel.Ne x y = not (int_le x y && int_le y x)
holds rel.Lt x y = int_lt x y
holds rel.Le x y = int_le x y
holds rel.Gt x y = int_lt y x
holds rel.Ge x y = int_le y x
