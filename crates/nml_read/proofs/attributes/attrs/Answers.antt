-- Each stop is the reading's, and what is found is what it finds.
use Rattle.std.proofs.lemmas.Result.{err_from_is_err_and}
use Rattle.readings.proofs.Saying.{both, fails, fails_behind, fails_made, makes}
use Rattle.nml_read.proofs.attributes.attrs.Goals as goal

pub returns-in_err-syntax-clause-says : goal.returns-in_err-syntax-clause-says
returns-in_err-syntax-clause-says c =
    let p = err_from_is_err_and c.from_residual.result c.from_residual.ensures.1 in
    rw (p.1, p.2) (fails_made _ _ _ _ (fails _ _ _ _ c.in_err-syntax.ensures.says))

pub returns-in_err-syntax_equals-clause-says : goal.returns-in_err-syntax_equals-clause-says
returns-in_err-syntax_equals-clause-says c =
    let p = err_from_is_err_and c.from_residual-in_err-syntax_equals.result c.from_residual-in_err-syntax_equals.ensures.1 in
    rw (p.1, p.2) (fails_made _ _ _ _ (fails_behind _ _ _ _ _ _ c.in_ok-syntax.ensures.says (fails _ _ _ _ c.in_err-syntax_equals.ensures.says)))

pub returns-in_err-syntax_text-clause-says : goal.returns-in_err-syntax_text-clause-says
returns-in_err-syntax_text-clause-says c =
    let p = err_from_is_err_and c.from_residual-in_err-syntax_text.result c.from_residual-in_err-syntax_text.ensures.1 in
    rw (p.1, p.2) (fails_made _ _ _ _ (fails_behind _ _ _ _ _ _ c.in_ok-syntax.ensures.says (fails_behind _ _ _ _ _ _ c.in_ok-syntax_equals.ensures.says (fails _ _ _ _ c.in_err-syntax_text.ensures.says))))

pub returns-in_err-image-clause-says : goal.returns-in_err-image-clause-says
returns-in_err-image-clause-says c =
    let p = err_from_is_err_and c.from_residual-in_err-image.result c.from_residual-in_err-image.ensures.1 in
    rw (p.1, p.2) (fails_made _ _ _ _ (fails_behind _ _ _ _ _ _ c.in_ok-syntax.ensures.says (fails_behind _ _ _ _ _ _ c.in_ok-syntax_equals.ensures.says (fails_behind _ _ _ _ _ _ c.in_ok-syntax_text.ensures.says (fails _ _ _ _ c.in_err-image.ensures.says)))))

pub returns-in_err-image_equals-clause-says : goal.returns-in_err-image_equals-clause-says
returns-in_err-image_equals-clause-says c =
    let p = err_from_is_err_and c.from_residual-in_err-image_equals.result c.from_residual-in_err-image_equals.ensures.1 in
    rw (p.1, p.2) (fails_made _ _ _ _ (fails_behind _ _ _ _ _ _ c.in_ok-syntax.ensures.says (fails_behind _ _ _ _ _ _ c.in_ok-syntax_equals.ensures.says (fails_behind _ _ _ _ _ _ c.in_ok-syntax_text.ensures.says (fails_behind _ _ _ _ _ _ c.in_ok-image.ensures.says (fails _ _ _ _ c.in_err-image_equals.ensures.says))))))

pub returns-in_err-image_text-clause-says : goal.returns-in_err-image_text-clause-says
returns-in_err-image_text-clause-says c =
    let p = err_from_is_err_and c.from_residual-in_err-image_text.result c.from_residual-in_err-image_text.ensures.1 in
    rw (p.1, p.2) (fails_made _ _ _ _ (fails_behind _ _ _ _ _ _ c.in_ok-syntax.ensures.says (fails_behind _ _ _ _ _ _ c.in_ok-syntax_equals.ensures.says (fails_behind _ _ _ _ _ _ c.in_ok-syntax_text.ensures.says (fails_behind _ _ _ _ _ _ c.in_ok-image.ensures.says (fails_behind _ _ _ _ _ _ c.in_ok-image_equals.ensures.says (fails _ _ _ _ c.in_err-image_text.ensures.says)))))))

pub returns-in_err-action-clause-says : goal.returns-in_err-action-clause-says
returns-in_err-action-clause-says c =
    let p = err_from_is_err_and c.from_residual-in_err-action.result c.from_residual-in_err-action.ensures.1 in
    rw (p.1, p.2) (fails_made _ _ _ _ (fails_behind _ _ _ _ _ _ c.in_ok-syntax.ensures.says (fails_behind _ _ _ _ _ _ c.in_ok-syntax_equals.ensures.says (fails_behind _ _ _ _ _ _ c.in_ok-syntax_text.ensures.says (fails_behind _ _ _ _ _ _ c.in_ok-image.ensures.says (fails_behind _ _ _ _ _ _ c.in_ok-image_equals.ensures.says (fails_behind _ _ _ _ _ _ c.in_ok-image_text.ensures.says c.in_err-action.ensures.says)))))))

pub returns-clause-says : goal.returns-clause-says
returns-clause-says c =
    makes _ _ _ _ _ (both _ _ _ _ _ _ _ c.in_ok-syntax.ensures.says (both _ _ _ _ _ _ _ c.in_ok-syntax_equals.ensures.says (both _ _ _ _ _ _ _ c.in_ok-syntax_text.ensures.says (both _ _ _ _ _ _ _ c.in_ok-image.ensures.says (both _ _ _ _ _ _ _ c.in_ok-image_equals.ensures.says (both _ _ _ _ _ _ _ c.in_ok-image_text.ensures.says c.in_ok-action.ensures.says))))))
