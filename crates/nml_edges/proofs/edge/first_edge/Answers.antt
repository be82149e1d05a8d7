use Rattle.std.proofs.Common.{◌∙◌, ap, arith}
use Rattle.nml_edges.proofs.Faults.{fault_found, none_found, none_at_all}
use Rattle.nml_edges.proofs.edge.first_edge.Goals as goal

pub returns-then-is_fault : goal.returns-then-is_fault
returns-then-is_fault c =
    fault_found c.args.names.now c.in_ok-facts.facts.items c.as_slice.result.now c.items-items.result.now c.loop-number.number c.index-items-number.result c.is_fault.result c.in_ok-clone.field-0
    c.in_ok-facts.ensures c.items-items.ensures c.loop-number-test.true c.index-items-number.is c.is_fault.ensures c.as_slice.ensures.value c.if-is_fault.true
    (c.in_ok-clone.ensures.cases ∙ ap (λ n. n.text) c.declared_name.ensures) c.loop-number.invariant

pub loop-number-preserved : goal.loop-number-preserved
loop-number-preserved c =
    none_found c.args.names.now c.in_ok-facts.facts.items c.as_slice.result.now c.items-items.result.now c.loop-number.number c.index-items-number.result c.is_fault.result
    c.items-items.ensures c.loop-number-test.true c.index-items-number.is c.is_fault.ensures c.as_slice.ensures.value c.if-is_fault.false c.loop-number.invariant

pub returns : goal.returns
returns c =
    none_at_all c.args.names.now c.in_ok-facts.facts.items c.items-items.result.now c.loop-number.number c.in_ok-facts.ensures c.items-items.ensures
    (let f = c.loop-number-test.false in omega (arith, f)) c.loop-number.invariant
