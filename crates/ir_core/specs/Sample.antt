-- Worked examples of operators on numbers of 16 bits, each by computation.
use Rattle.std.specs.Prelude.{◌≡◌, refl, pos, negsuc, true, false}
use Rattle.ir_core.specs.declared.operator.Prefix.TheVariants as prefix
use Rattle.ir_core.specs.declared.operator.Shift.TheVariants as shift
use Rattle.ir_core.specs.declared.operator.Arith.TheVariants as arith
use Rattle.ir_core.specs.declared.relation.Rel.TheVariants as rel
use Rattle.ir_core.specs.Operator.{prefixed, shifted, arithmetic, holds}
use Rattle.ir_core.specs.Inputs.{IsNumber}

-- the greatest number and 1 is the least one
sum_wraps : arithmetic 16 arith.Add (pos 32767) (pos 1) ≡ negsuc 32767
sum_wraps = refl

-- 300 times 300 is 90000, which is 24464 and 65536
product_wraps : arithmetic 16 arith.Mul (pos 300) (pos 300) ≡ pos 24464
product_wraps = refl

-- -1 has all bits, so 5 is turned over
turned : arithmetic 16 arith.Xor (pos 5) (negsuc 0) ≡ negsuc 5
turned = refl

-- the least number is its own contrary
least_stays : prefixed 16 prefix.Neg (negsuc 32767) ≡ negsuc 32767
least_stays = refl

complement : prefixed 16 prefix.Not (pos 0) ≡ negsuc 0
complement = refl

-- `<<` wraps, and `>>` rounds down: -5 halved is -3
up_wraps : shifted 16 shift.Shl (pos 3) 15 ≡ negsuc 32767
up_wraps = refl

down_rounds : shifted 16 shift.Shr (negsuc 4) 1 ≡ negsuc 2
down_rounds = refl

below : holds rel.Lt (negsuc 0) (pos 0) ≡ true
below = refl

equal : holds rel.Eq (pos 3) (pos 3) ≡ true
equal = refl

not_above : holds rel.Ge (pos 2) (pos 3) ≡ false
not_above = refl

-- 32767 is a number of 16 bits
greatest : IsNumber 16 (pos 32767)
greatest = refl
