use Rattle.std.proofs.Common.{◌≡◌, drop, map}
use Rattle.c_tree.specs.Items.{item}
use Rattle.c_tree.specs.Names.{functions_in}
use Rattle.c_tree.specs.Recursion.{main_of}
use Rattle.c_check.proofs.accept.main_arity.Given as goal

abbrev pub invariant-loop-one : goal.invariant-loop-one
invariant-loop-one l = main_of (functions_in (map item (drop l.one-index l.globals))) ≡ main_of (functions_in (map item l.globals))
