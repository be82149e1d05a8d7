use Rattle.nml_tree.specs.Depth.{depth}
use Rattle.nml_tree.specs.Formula.{formula}
use Rattle.nml_worth.proofs.seen.+look.Given as goal

abbrev pub decreases-look : goal.decreases-look
decreases-look l = depth (formula l.e.now)
