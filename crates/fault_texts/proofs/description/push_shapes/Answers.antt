use Rattle.std.proofs.Common.{◌++◌, codes}
use Rattle.std.specs.Fmt.{decimal}
use Rattle.fault_texts.proofs.Behind.{on_ok, behind}
use Rattle.fault_texts.proofs.description.push_shapes.Goals as goal

pub returns : goal.returns
returns c =
    let count = codes "N12 Shapes " ++ decimal c.args.count in
    let nodes = (count ++ codes " ") ++ decimal c.args.nodes in
    on_ok _ _ c.push_number-3.result
    (λ e. behind c.args.line.now nodes (codes " ") (decimal c.args.size) _ _
    (behind c.args.line.now count (codes " ") (decimal c.args.nodes) _ _ (rw c.from.ensures at c.in_ok-push_number.ensures) (rw c.from-2.ensures at c.in_ok-push_number-2.ensures)) e)
    (rw c.from-3.ensures at c.push_number-3.ensures)
