use Rattle.std.proofs.Common.{◌≡◌, drop, map}
use Rattle.c_tree.specs.Items.{item}
use Rattle.c_tree.specs.Names.{main_alone, function_meanings, functions_in}
use Rattle.c_names.proofs.begin.all_functions.Given as goal

abbrev pub invariant-loop-one : goal.invariant-loop-one
invariant-loop-one l =
    function_meanings l.list.entries l.number (functions_in (map item (drop l.one-index l.globals)))
    ≡ function_meanings main_alone 0 (functions_in (map item l.globals))
