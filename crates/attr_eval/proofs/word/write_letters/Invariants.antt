use Rattle.std.proofs.Common.{◌≡◌, map, drop}
use Rattle.nml_tree.specs.Image.{bit}
use Rattle.attr_eval.specs.Run.{pushed}
use Rattle.attr_eval.proofs.word.write_letters.Given as goal

abbrev pub invariant-loop-c : goal.invariant-loop-c
invariant-loop-c l = pushed l.out (map bit (drop l.c-index l.text)) ≡ pushed l.fn.out (map bit l.text)
