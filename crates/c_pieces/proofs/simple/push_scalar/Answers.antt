use Rattle.std.proofs.Common.{sym, ◌∙◌, ap}
use Rattle.ir_run.specs.Node.{Cell}
use Rattle.ir_run.proofs.Nodes.{node-Cell}
use Rattle.c_pieces.proofs.Parts.{read_plain}
use Rattle.c_pieces.proofs.simple.push_scalar.Goals as goal

pub returns : goal.returns
returns c = read_plain c.args.out.now.items c.args.at.cell _ _ _ (sym c.saved.ensures ∙ c.if-saved.false) (node-Cell c.in_ok-cell.cell ∙ ap Cell c.in_ok-cell.ensures)
