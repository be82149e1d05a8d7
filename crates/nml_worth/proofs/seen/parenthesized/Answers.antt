use Rattle.nml_worth.proofs.Nodes.{seen_paren}
use Rattle.nml_worth.proofs.seen.parenthesized.Goals as goal

pub returns : goal.returns
returns c =
    λ s q f k w is.
    rw c.node.ensures (seen_paren s c.args.at q f k w c.args.x c.read.result is c.read.ensures)
