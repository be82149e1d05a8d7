use Rattle.c_lowered.proofs.Numbers.{prefixed_number, shifted_number, arithmetic_number}
use Rattle.c_lowered.proofs.operators_keep_numbers.Goals as goal

pub returns-clause-prefix : goal.returns-clause-prefix
returns-clause-prefix c = prefixed_number

pub returns-clause-shift : goal.returns-clause-shift
returns-clause-shift c = shifted_number

pub returns-clause-arith : goal.returns-clause-arith
returns-clause-arith c = arithmetic_number
