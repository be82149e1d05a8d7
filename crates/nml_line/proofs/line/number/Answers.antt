use Rattle.nml_line.proofs.LineSteps.{no_number, the_number}
use Rattle.nml_line.proofs.line.number.Goals as goal

pub returns-in-None : goal.returns-in-None
returns-in-None c = absurd (no_number _ c.requires.digits c.requires.short c.in-None.ensures)

pub overflow_cast-result : goal.overflow_cast-result
overflow_cast-result c = (the_number _ _ c.requires.digits c.requires.short c.in-Some.ensures).1

pub returns-in-Some : goal.returns-in-Some
returns-in-Some c = (the_number _ _ c.requires.digits c.requires.short c.in-Some.ensures).0
