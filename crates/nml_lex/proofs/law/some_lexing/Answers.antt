-- Part after part is cut from the front, to the end or to where none is.
use Rattle.nml_lex.proofs.Settled.{some}
use Rattle.nml_lex.proofs.law.some_lexing.Goals as goal

pub returns : goal.returns
returns c = some
