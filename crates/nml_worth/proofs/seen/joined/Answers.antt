use Rattle.nml_worth.proofs.Nodes.{seen_joined}
use Rattle.nml_worth.proofs.seen.joined.Goals as goal

pub returns : goal.returns
returns c =
    λ s f g at k w ix iy.
    rw c.node.ensures (seen_joined s c.args.op f g at k w c.args.x c.args.y c.of_binary.result c.takes.result c.takes-2.result c.operand-kinds.result c.operand-kinds-2.result c.note_amount-kinds.result ix iy c.of_binary.ensures c.takes.ensures c.takes-2.ensures c.operand-kinds.ensures c.operand-kinds-2.ensures c.note_amount-kinds.ensures)
