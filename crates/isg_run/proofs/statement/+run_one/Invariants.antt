use Rattle.std.proofs.Common.{drop}
use Rattle.attr_exec.specs.Ran.{scene}
use Rattle.isg_run.proofs.Walk.{Walks}
use Rattle.isg_run.proofs.statement.+run_one.Given as goal

abbrev pub decreases-run_one : goal.decreases-run_one
decreases-run_one l = l.n

abbrev pub invariant-loop-m : goal.invariant-loop-m
invariant-loop-m l = Walks l.nodes l.out l.fields l.next l.n (drop l.m-index l.m-items) l.m-items (scene l.initial.s l.initial.done) (scene l.s l.done)
