use Rattle.std.proofs.Common.{subst}
use Rattle.std.specs.Prelude.{MatchOption}
use Rattle.nml_shape.specs.Common.{AreLeastSame, HaveNoTokens}
use Rattle.shape_table.specs.declared.agreed.Agreement.{Agreement}
use Rattle.nml_types.proofs.Checks.{said}
use Rattle.nml_types.proofs.checking.same_tokens.Goals as goal

pub returns : goal.returns
returns c =
    let least = subst (λ o. MatchOption o (HaveNoTokens c.args.a.now c.args.b.now) (λ (g : Agreement). AreLeastSame c.args.a.now c.args.b.now g.first.items g.second.items)) c.in-Some.is c.in_ok-found.ensures in
    said c.args.d.now c.args.a.now c.args.b.now _ _ _ _ _ _ c.image.result c.image-2.result _ c.requires least
    c.in_ok-with_fields.ensures.0 c.in_ok-with_fields.ensures.1 c.image.ensures
    c.in_ok-with_fields-2.ensures.0 c.in_ok-with_fields-2.ensures.1 c.image-2.ensures
    (rw c.as_slice.ensures.value at c.in_ok-text.ensures)
