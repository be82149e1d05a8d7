use Rattle.std.proofs.Common.{◌∙◌, [], refl}
use Rattle.nml_tree.specs.Attribute.{Directive}
use Rattle.nml_upward.proofs.Pieces.{percent}
use Rattle.nml_upward.proofs.piece.next_piece.Goals as goal

pub returns-in-Some-directive_end-clause-piece : goal.returns-in-Some-directive_end-clause-piece
returns-in-Some-directive_end-clause-piece c =
    let e = c.in-Some-directive_end.ensures.piece [] in
    (Directive e.0 e.1, (e.0, e.1, refl), percent _ _ _ c.in-Some.ensures.cases.0 c.if-c-eq37.true ∙ e.2)
