use Rattle.std.proofs.Common.{arith, ap, refl}
use Rattle.nml_edges.proofs.Faults.{pass_further, pass_none, pass_end}
use Rattle.nml_edges.proofs.edge.all_facts.Goals.{then-n-items+in_ok-m, else-n-items}
use Rattle.nml_edges.proofs.edge.all_facts.Goals as goal

pub loop-p-preserved : goal.loop-p-preserved
loop-p-preserved c = elim c.if-n-items.branch [
  | then-n-items+in_ok-m w ↦ pass_further c.args.names.now c.args.order.now c.requires.free c.requires.order c.loop-p.facts.items c.if-n-items.facts.items w.as_slice.result.now c.items-items.result.now c.loop-p.p _ w.index-items-n.result w.in_ok-m.m
      c.loop-p-test.true refl c.items-items.ensures w.if-n-items.true w.index-items-n.is w.in_ok-m.ensures w.as_slice.ensures.value (ap (λ v. v.items) w.facts-is) c.loop-p.invariant
  | else-n-items w ↦ pass_none c.args.names.now c.args.order.now c.loop-p.facts.items c.if-n-items.facts.items c.items-items.result.now c.loop-p.p _ refl c.items-items.ensures w.if-n-items.false (ap (λ v. v.items) w.facts-is) c.loop-p.invariant
]

pub returns : goal.returns
returns c = pass_end c.args.names.now c.args.order.now c.loop-p.facts.items c.loop-p.p c.requires.order (let f = c.loop-p-test.false in omega (arith, f)) c.loop-p.invariant
