use Rattle.std.proofs.Common.{◌+◌, ◌*◌, ℕ, List}
use Rattle.nml_tree.specs.Table.{table, pars_of}
use Rattle.nml_tree.specs.Derivation.{Arguments}
use Rattle.isg_written.specs.Stands.{StandsAll}
use Rattle.isg_written.proofs.Steps.{Left}
use Rattle.isg_written.proofs.skip.+skip.Given as goal

abbrev pub decreases-skip : goal.decreases-skip
decreases-skip l = 2 * l.limit

abbrev pub decreases-skip_pars : goal.decreases-skip_pars
decreases-skip_pars l = 2 * l.limit + 1

abbrev pub invariant-skip_pars-loop-i : goal.invariant-skip_pars-loop-i
invariant-skip_pars-loop-i l = (args : Arguments) (ks : List ℕ) → StandsAll (table l.numbered) (pars_of l.pars) l.limit args l.fn.first l.fn.picks ks → Left args l.fn.first ks l.i l.picks l.first
