use Rattle.nml_worth.proofs.Nodes.{seen_named}
use Rattle.nml_worth.proofs.seen.named.Goals as goal

pub returns : goal.returns
returns c =
    λ s n begins is.
    rw c.node.ensures (seen_named s n c.args.at c.args.known c.args.worth c.args.kinds c.note_read-kinds.result c.args.widths begins is c.note_read-kinds.ensures)
