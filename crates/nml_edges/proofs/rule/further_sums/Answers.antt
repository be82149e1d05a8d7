use Rattle.std.proofs.Common.{arith, sym, ap, ◌∙◌}
use Rattle.nml_edges.specs.Passed.{par_sum}
use Rattle.nml_edges.proofs.Params.{further_more}
use Rattle.nml_edges.proofs.rule.further_sums.Goals as goal

pub loop-i-preserved : goal.loop-i-preserved
loop-i-preserved c = λ name.
    let some = c.loop-i-test.true in
    let low = c.loop-i.auto.i in
    further_more c.args.names.now c.args.facts.now c.args.rest.now c.loop-i.i c.index-rest-i.result name _ c.par_sum.result _ _ (omega (arith, some)) (omega (arith, some, low)) c.index-rest-i.is
    (c.in_ok-clone.ensures.cases ∙ ap (λ x. x.1.name.text) (sym c.index-rest-i.is))
    (c.par_sum.ensures ∙ ap (λ x. par_sum c.args.names.now c.args.facts.now x.1) (sym c.index-rest-i.is))
    (c.in_ok-insert.ensures.updates.0 name) (c.loop-i.invariant name)
