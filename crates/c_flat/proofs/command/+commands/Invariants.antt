use Rattle.std.proofs.Common.{◌≡◌, drop}
use Rattle.c_tree.specs.Statement.{body}
use Rattle.c_tree.specs.Resolve.{commands}
use Rattle.c_names.specs.Shown.{names}
use Rattle.c_walk.specs.Walk.{behind_body}
use Rattle.c_flat.specs.declared.chain.Chain.TheVariants as chain
use Rattle.c_flat.specs.Written.{OfCommand}
use Rattle.c_flat.specs.Listing.{Listed}
use Rattle.c_flat.proofs.command.+commands.Given as goal

abbrev pub invariant-push_block-loop-one : goal.invariant-push_block-loop-one
invariant-push_block-loop-one l =
    (behind_body (names l.scopes) (body (drop l.one-index l.parts)) ≡ behind_body (names l.initial.scopes) (body l.parts))
    × Listed chain.Commands l.fn.nodes.items l.nodes.items l.numbers.items (OfCommand (commands (names l.scopes) (body (drop l.one-index l.parts)))) (OfCommand (commands (names l.initial.scopes) (body l.parts)))
