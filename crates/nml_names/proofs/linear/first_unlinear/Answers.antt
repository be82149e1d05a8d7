use Rattle.std.proofs.Common.{◌∙◌, ap, arith}
use Rattle.nml_names.proofs.Linears.{none_more, fault_found, none_at_all}
use Rattle.nml_names.proofs.linear.first_unlinear.Goals as goal

pub returns-in-Some : goal.returns-in-Some
returns-in-Some c =
    fault_found c.args.d.now _ _ _ _ _ _ _ c.as_slice-items.ensures c.in_ok-names.ensures c.loop-number-test.true c.index-items-number.is c.in_ok-fault_at.ensures c.in-Some.is
    (c.in_ok-clone-in-Some.ensures.cases ∙ ap (λ n. n.text) c.declared_name.ensures) c.loop-number.invariant

pub loop-number-preserved : goal.loop-number-preserved
loop-number-preserved c =
    none_more c.args.d.now _ _ _ _ _ c.as_slice-items.ensures c.in_ok-names.ensures c.loop-number-test.true c.index-items-number.is c.in_ok-fault_at.ensures c.in-None.is c.loop-number.invariant

pub returns : goal.returns
returns c = none_at_all c.args.d.now _ _ c.as_slice-items.ensures (let f = c.loop-number-test.false in omega (arith, f)) c.loop-number.invariant
