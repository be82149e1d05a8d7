use Rattle.std.proofs.Common.{drop, length}
use Rattle.attr_exec.specs.Ran.{scene}
use Rattle.isg_run.proofs.Walk.{Walks}
use Rattle.isg_run.proofs.statement.run_all.Given as goal

abbrev pub invariant-loop-m : goal.invariant-loop-m
invariant-loop-m l = Walks l.nodes l.out l.fields l.next (length l.nodes) (drop l.m-index l.effect) l.effect (scene l.initial.s l.initial.done) (scene l.s l.done)
