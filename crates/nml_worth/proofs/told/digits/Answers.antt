use Rattle.std.proofs.Common.{arith}
use Rattle.nml_worth.proofs.Digits.{digits_are}
use Rattle.nml_worth.proofs.told.digits.Goals as goal

pub returns-clause-is : goal.returns-clause-is
returns-clause-is c = digits_are c.args.n (let h = c.ranges.n in omega (arith, h))
