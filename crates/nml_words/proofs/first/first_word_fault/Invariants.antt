use Rattle.nml_words.specs.Words.{NoneBefore}
use Rattle.nml_words.proofs.first.first_word_fault.Given as goal

abbrev pub invariant-loop-number : goal.invariant-loop-number
invariant-loop-number l = NoneBefore l.names l.number
