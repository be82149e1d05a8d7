use Rattle.std.proofs.Common.{◌*◌, ◌+◌, ℕ, ℤ, List}
use Rattle.attr_eval.specs.Walks.{WalksAll}
use Rattle.nml_tree.specs.Derivation.{Arguments}
use Rattle.nml_tree.specs.Table.{pars_of, table}
use Rattle.shape_list.proofs.Fillings.{Kept}
use Rattle.shape_list.proofs.sketch.+sketch.Given as goal

abbrev pub decreases-sketch_of : goal.decreases-sketch_of
decreases-sketch_of l = 4 * l.limit

abbrev pub decreases-add : goal.decreases-add
decreases-add l = 4 * l.limit + 1

abbrev pub decreases-filled : goal.decreases-filled
decreases-filled l = 4 * l.limit + 2

abbrev pub decreases-sketch_rule : goal.decreases-sketch_rule
decreases-sketch_rule l = 4 * l.limit + 3

abbrev pub invariant-filled-loop-i : goal.invariant-filled-loop-i
invariant-filled-loop-i l =
    (args : Arguments) (zs : List ℤ) (ks : List ℕ) (ys : List ℤ) → WalksAll (table l.names) (pars_of l.pars) l.limit args l.picks zs ks ys → Kept l.first args l.i l.filling l.rest ks
