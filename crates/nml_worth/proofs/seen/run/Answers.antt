use Rattle.std.proofs.Common.{◌∙◌, ap}
use Rattle.nml_names.specs.Note.{noted}
use Rattle.nml_tree.specs.Places.{unless}
use Rattle.nml_worth.proofs.Nodes.{seen_run}
use Rattle.nml_worth.proofs.seen.run.Goals as goal

pub returns : goal.returns
returns c =
    λ s h l p comma d q g k w bh bl is.
    rw c.node.ensures (seen_run s c.args.at p comma d q h l g k w c.args.x c.args.high c.args.low c.of_bits.result c.note_unless-kinds.result c.operand-kinds.result c.note_size-kinds.result c.note_size-kinds-2.result bh bl is c.of_bits.ensures
    (c.note_unless-kinds.ensures ∙ ap (λ b. noted c.args.x.kinds (unless b c.args.at)) c.has_bounds.ensures) c.operand-kinds.ensures c.note_size-kinds.ensures c.note_size-kinds-2.ensures)
