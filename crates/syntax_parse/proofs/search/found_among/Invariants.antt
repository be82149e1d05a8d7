use Rattle.syntax_parse.proofs.Passed.{Passed}
use Rattle.syntax_parse.proofs.search.found_among.Given as goal

abbrev pub invariant-loop-number : goal.invariant-loop-number
invariant-loop-number l = Passed l.shapes l.numbers l.tokens l.number-index
