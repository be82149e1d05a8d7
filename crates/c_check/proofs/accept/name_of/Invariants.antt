use Rattle.std.proofs.Common.{◌≡◌, drop, map}
use Rattle.std.specs.Prelude.{slice_get}
use Rattle.c_tree.specs.Items.{item}
use Rattle.c_tree.specs.Names.{functions_in}
use Rattle.c_tree.specs.Recursion.{others}
use Rattle.c_check.proofs.accept.name_of.Given as goal

abbrev pub invariant-loop-one : goal.invariant-loop-one
invariant-loop-one l =
    slice_get (others (functions_in (map item (drop l.one-index l.globals)))) l.left ≡ slice_get (others (functions_in (map item l.globals))) l.number
