use Rattle.std.proofs.Common.{◌∙◌, ap}
use Rattle.nml_names.specs.Note.{noted}
use Rattle.nml_tree.specs.Places.{unless}
use Rattle.nml_worth.specs.Node.{fit_of}
use Rattle.nml_worth.proofs.Nodes.{seen_fitting}
use Rattle.nml_worth.proofs.seen.fitting.Goals as goal

pub returns : goal.returns
returns c =
    λ s size p comma q g k w bound is.
    rw c.node.ensures (seen_fitting s (fit_of c.args.f) c.args.at p comma q size g k w c.args.x c.args.n c.fitted.result c.note_unless-kinds.result c.operand-kinds.result bound is c.fitted.ensures
    (c.note_unless-kinds.ensures ∙ ap (λ b. noted c.args.x.kinds (unless b c.args.n.at)) c.is_within.ensures) c.operand-kinds.ensures)
