-- Every reading settles, so there is an answer.
use Rattle.c_grammar.proofs.SomeReading.{some_bytes}
use Rattle.c_grammar.proofs.law.some_reading.Goals as goal

pub returns : goal.returns
returns c = some_bytes
