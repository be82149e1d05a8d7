use Rattle.syntax_parse.proofs.Passed.{HasNoneBelow}
use Rattle.syntax_parse.proofs.search.found_in_all.Given as goal

abbrev pub invariant-loop-number : goal.invariant-loop-number
invariant-loop-number l = HasNoneBelow l.shapes l.tokens l.number
