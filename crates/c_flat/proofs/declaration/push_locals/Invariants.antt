use Rattle.std.proofs.Common.{◌≡◌, drop}
use Rattle.c_tree.specs.Statement.{declaration}
use Rattle.c_tree.specs.Names.{behind_variables, declared_variables}
use Rattle.c_tree.specs.Resolve.{variables}
use Rattle.c_names.specs.Shown.{names}
use Rattle.c_walk.specs.Walk.{listed}
use Rattle.c_flat.specs.declared.chain.Chain.TheVariants as chain
use Rattle.c_flat.specs.Written.{OfCommand}
use Rattle.c_flat.specs.Listing.{Listed}
use Rattle.c_flat.proofs.declaration.push_locals.Given as goal

abbrev pub invariant-loop-one : goal.invariant-loop-one
invariant-loop-one l =
    (behind_variables (names l.scopes) (listed (drop l.one-index l.rest)) ≡ behind_variables (names l.fn.scopes) (declared_variables (declaration l.fn.decl)))
    × Listed chain.Commands l.fn.nodes.items l.nodes.items l.numbers.items (OfCommand (variables (names l.scopes) (listed (drop l.one-index l.rest)))) (OfCommand (variables (names l.fn.scopes) (declared_variables (declaration l.fn.decl))))
