use Rattle.input_port.proofs.Taken.{none_fits, numbers_fit}
use Rattle.input_port.proofs.laws.input_fits.Goals as goal

pub returns-clause-numbers : goal.returns-clause-numbers
returns-clause-numbers c = numbers_fit

pub returns-clause-none : goal.returns-clause-none
returns-clause-none c = none_fits
