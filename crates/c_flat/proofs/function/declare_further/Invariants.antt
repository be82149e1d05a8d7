use Rattle.std.proofs.Common.{◌≡◌, drop}
use Rattle.c_tree.specs.Names.{behind_parameters}
use Rattle.c_names.specs.Shown.{names}
use Rattle.c_walk.specs.Walk.{further_params}
use Rattle.c_flat.proofs.function.declare_further.Given as goal

abbrev pub invariant-loop-one : goal.invariant-loop-one
invariant-loop-one l = behind_parameters (names l.scopes) (further_params (drop l.one-index l.rest)) ≡ behind_parameters (names l.initial.scopes) (further_params l.rest)
