use Rattle.std.proofs.Common.{◌∙◌, sym, ap, arith, true, false}
use Rattle.nml_tree.specs.Table.{entry, is_trn}
use Rattle.attr_exec.proofs.Counting.{next_count}
use Rattle.attr_exec.proofs.count.count_trns.Goals.{then-declares_trn, else-declares_trn}
use Rattle.attr_exec.proofs.count.count_trns.Goals as goal

pub loop-i-preserved : goal.loop-i-preserved
loop-i-preserved c =
    elim c.if-declares_trn.branch [
      | then-declares_trn w ↦ (let e = next_count is_trn c.args.items.now c.loop-i.i c.loop-i.count c.index-items-i.result true c.loop-i-test.true (λ t. sym w.if-declares_trn.true ∙ c.declares_trn.ensures t ∙ ap (λ x. is_trn (entry t x)) c.index-items-i.is) c.loop-i.invariant.0 in rw w.count-is (e, omega (arith, c.loop-i.invariant.1)))
      | else-declares_trn w ↦ (let e = next_count is_trn c.args.items.now c.loop-i.i c.loop-i.count c.index-items-i.result false c.loop-i-test.true (λ t. sym w.if-declares_trn.false ∙ c.declares_trn.ensures t ∙ ap (λ x. is_trn (entry t x)) c.index-items-i.is) c.loop-i.invariant.0 in rw w.count-is (omega (arith, e), omega (arith, c.loop-i.invariant.1)))
    ]
