use Rattle.std.proofs.Common.{◌∙◌, ap, arith, [], ◌∷◌, ◌++◌, ◌-◌, ◌<◌, length}
use Rattle.shape_list.proofs.Steps.{within_or, within_and, if_same, field_first, none_behind, one_before, whole_list}
use Rattle.shape_list.proofs.picks.+list.Goals as goal

pub before_all-returns-in-None : goal.before_all-returns-in-None
before_all-returns-in-None t c = field_first _ _ _ c.in-None.ensures

pub list-returns-in-Or : goal.list-returns-in-Or
list-returns-in-Or t c = if_same (λ v. v.items) _ _ (within_or _ c.args.limit _ c.in-Or.rule.now (omega (arith, c.if-limit-eq0.false)) c.in-Or.ensures) c.alternatives.result c.alternatives.ensures

pub list-returns-in-And : goal.list-returns-in-And
list-returns-in-And t c = if_same (λ v. v.items) _ _ (within_and _ c.args.limit _ c.in-And.pars.now c.in-And.field-1.now (omega (arith, c.if-limit-eq0.false)) c.in-And.ensures) c.parameters.result c.parameters.ensures

pub parameters-loop-i-init : goal.parameters-loop-i-init
parameters-loop-i-init t c = c.in_ok-push.ensures.items ∙ ap (λ xs. xs ++ c.new.result ∷ []) c.new-all.ensures.items ∙ ap (λ x. x ∷ []) c.new.ensures ∙ none_behind _ _ c.as_slice-rest.result.now

pub parameters-loop-i-preserved : goal.parameters-loop-i-preserved
parameters-loop-i-preserved t c =
    let low : c.loop-i.i - 1 < length c.as_slice-rest.result.now = omega (arith, c.loop-i-test.true, c.loop-i.auto.i) in
    one_before _ _ c.as_slice-rest.result.now c.loop-i.i c.index-rest-i.result _ _ c.loop-i-test.true low c.index-rest-i.is c.loop-i.invariant c.in_ok-all-in-Some.ensures

pub parameters-returns-after-loop-i : goal.parameters-returns-after-loop-i
parameters-returns-after-loop-i t c =
    whole_list (λ v. v.items) _ _ _ _ _ c.loop-i.i _ c.in-Some.is c.as_slice-rest.ensures (omega (arith, c.loop-i-test.false)) c.loop-i.invariant c.before_all-in-Some.result c.before_all-in-Some.ensures
