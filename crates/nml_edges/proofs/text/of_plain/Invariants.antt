use Rattle.std.proofs.Common.{◌≡◌, List, ℕ, drop, map}
use Rattle.nml_edges.specs.declared.summary.Summary.{Summary}
use Rattle.nml_edges.specs.Summary.{still}
use Rattle.nml_edges.specs.Passed.{along, own}
use Rattle.nml_edges.proofs.text.of_plain.Given as goal

abbrev pub invariant-loop-c : goal.invariant-loop-c
invariant-loop-c l = (of : List ℕ → Summary) → along of l.m (map own (drop l.c-index l.text)) ≡ along of still (map own l.text)
