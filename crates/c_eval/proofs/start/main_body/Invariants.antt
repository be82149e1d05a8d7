use Rattle.std.proofs.Common.{◌≡◌, drop}
use Rattle.c_eval.specs.Laid.{main_of}
use Rattle.c_eval.proofs.start.main_body.Given as goal

abbrev pub invariant-loop-one : goal.invariant-loop-one
invariant-loop-one l = main_of (drop l.one-index l.bodies) ≡ main_of l.bodies
