use Rattle.nml_words.specs.Words.{AreUpTo}
use Rattle.nml_words.proofs.rules.spans.Given as goal

abbrev pub invariant-loop-p : goal.invariant-loop-p
invariant-loop-p l = AreUpTo l.names l.order l.spans.items l.p
