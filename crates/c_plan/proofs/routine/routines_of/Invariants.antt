use Rattle.c_plan.proofs.Chosen.{Chosen}
use Rattle.c_plan.proofs.routine.routines_of.Given as goal

abbrev pub invariant-loop-one : goal.invariant-loop-one
invariant-loop-one l = Chosen l.yielded l.main l.others.items
