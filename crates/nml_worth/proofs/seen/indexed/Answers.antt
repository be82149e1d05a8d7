use Rattle.nml_worth.proofs.Nodes.{seen_indexed}
use Rattle.nml_worth.proofs.seen.indexed.Goals as goal

pub returns : goal.returns
returns c =
    λ s n p q f k w begins named is.
    seen_indexed s n p q c.args.at f c.args.known c.args.worth c.args.i k w c.note_read-kinds.result c.operand.result c.note_index.result begins named is c.note_read-kinds.ensures c.operand.ensures c.note_index.ensures
