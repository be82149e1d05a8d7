use Rattle.std.proofs.Common.{◌≡◌, drop}
use Rattle.nml_tree.specs.Template.{given}
use Rattle.shape_list.specs.Drawn.{named}
use Rattle.shape_list.proofs.text.push_given.Given as goal

abbrev pub invariant-loop-g : goal.invariant-loop-g
invariant-loop-g l = (given (named (drop l.g-index l.given)) l.name ≡ given (named l.given) l.name) × (l.out.items ≡ l.fn.out.items)
