use Rattle.nml_worth.proofs.Nodes.{seen_choice}
use Rattle.nml_worth.proofs.seen.choice.Goals as goal

pub returns : goal.returns
returns c =
    λ s f g h t e end k w ic ix iy.
    rw c.node.ensures (seen_choice s f g h c.args.at t e end k w c.args.c c.args.x c.args.y c.sides.result c.operand-kinds.result c.operand-kinds-2.result ic ix iy c.sides.ensures c.operand-kinds.ensures c.operand-kinds-2.ensures)
