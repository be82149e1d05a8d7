use Rattle.nml_worth.specs.Node.{prefix_of}
use Rattle.nml_worth.proofs.Nodes.{seen_prefixed}
use Rattle.nml_worth.proofs.seen.prefixed.Goals as goal

pub returns : goal.returns
returns c =
    λ s f k w is.
    rw c.node.ensures (seen_prefixed s (prefix_of c.args.op) c.args.at f k w c.args.x c.of_prefix.result c.prefix_takes.result c.operand-kinds.result is c.of_prefix.ensures c.prefix_takes.ensures c.operand-kinds.ensures)
