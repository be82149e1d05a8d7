-- The 26 operations: those of the statements, and two branches on one operand against 0.
use Rattle.std.specs.Prelude.{ℕ, List, [], ◌∷◌}
use Rattle.ir_core.specs.declared.relation.Rel.{Rel}
use Rattle.ir_core.specs.declared.relation.Rel.TheVariants as rel
use Rattle.ir_core.specs.declared.operator.Prefix.TheVariants as prefixes
use Rattle.ir_core.specs.declared.operator.Shift.TheVariants as shifts
use Rattle.ir_core.specs.declared.operator.Arith.TheVariants as ariths
use Rattle.ir_run.specs.Size.{Operation, Copying, Loading, Storing, Taking, Putting, By, First, Moving, Comparing, Jumping, JumpingByCell, Halting, operation_number}

-- what a branch tests: a relation of two operands, or one operand, against 0
pub data Test : Type 0 where
  Related : Rel → Test
  IsZero : Test
  IsNegative : Test

-- an operation of statements, or a branch on one operand: where it is 0, where it is negative
pub data Op : Type 0 where
  Of : Operation → Op
  ZeroTest : Op
  NegativeTest : Op

-- in the compiler's list `eqz` is 24 and `ltz` is 25
abbrev pub op_number : Op → ℕ
op_number (Of op) = operation_number op
op_number ZeroTest = 24
op_number NegativeTest = 25

-- the operation of a test
abbrev pub test_op : Test → Op
test_op (Related r) = Of (Comparing r)
test_op IsZero = ZeroTest
test_op IsNegative = NegativeTest

-- all of them, in the order of their numbers
abbrev pub ops : List Op
ops = Of Copying ∷ Of Loading ∷ Of Storing ∷ Of Taking ∷ Of Putting ∷ Of (By ariths.Add) ∷ Of (By ariths.Sub) ∷ Of (By ariths.Mul)
    ∷ Of (First prefixes.Neg) ∷ Of (By ariths.And) ∷ Of (By ariths.Or) ∷ Of (By ariths.Xor) ∷ Of (First prefixes.Not)
    ∷ Of (Moving shifts.Shl) ∷ Of (Moving shifts.Shr) ∷ Of (Comparing rel.Eq) ∷ Of (Comparing rel.Ne) ∷ Of (Comparing rel.Lt)
    ∷ Of (Comparing rel.Le) ∷ Of (Comparing rel.Gt) ∷ Of (Comparing rel.Ge) ∷ Of Jumping ∷ Of JumpingByCell ∷ Of Halting ∷ ZeroTest
    ∷ NegativeTest ∷ []
