use Rattle.nml_tree.specs.Table.{pars_of}
use Rattle.attr_eval.specs.Found.{Other}
use Rattle.attr_eval.proofs.turn.first_par.Given as goal

abbrev pub invariant-loop-k : goal.invariant-loop-k
invariant-loop-k l = Other l.name (pars_of l.pars) l.k
