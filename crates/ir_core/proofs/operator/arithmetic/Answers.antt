use Rattle.ir_core.proofs.Bits.{and_is, or_is, xor_is}
use Rattle.ir_core.proofs.operator.arithmetic.Goals as goal

pub returns-in-And : goal.returns-in-And
returns-in-And c = rw c.in-And.is (and_is c.args.x c.args.y c.ranges.x c.ranges.y)

pub returns-in-Or : goal.returns-in-Or
returns-in-Or c = rw c.in-Or.is (or_is c.args.x c.args.y c.ranges.x c.ranges.y)

pub returns-in-Xor : goal.returns-in-Xor
returns-in-Xor c = rw c.in-Xor.is (xor_is c.args.x c.args.y c.ranges.x c.ranges.y)
