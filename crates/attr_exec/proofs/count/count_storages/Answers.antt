use Rattle.std.proofs.Common.{◌∙◌, sym, ap, arith, true, false}
use Rattle.nml_tree.specs.Table.{entry, is_storage}
use Rattle.attr_exec.proofs.Counting.{next_count}
use Rattle.attr_exec.proofs.count.count_storages.Goals.{then-declares_storage, else-declares_storage}
use Rattle.attr_exec.proofs.count.count_storages.Goals as goal

pub loop-i-preserved : goal.loop-i-preserved
loop-i-preserved c =
    elim c.if-declares_storage.branch [
      | then-declares_storage w ↦ (let e = next_count is_storage c.args.items.now c.loop-i.i c.loop-i.count c.index-items-i.result true c.loop-i-test.true (λ t. sym w.if-declares_storage.true ∙ c.declares_storage.ensures t ∙ ap (λ x. is_storage (entry t x)) c.index-items-i.is) c.loop-i.invariant.0 in rw w.count-is (e, omega (arith, c.loop-i.invariant.1)))
      | else-declares_storage w ↦ (let e = next_count is_storage c.args.items.now c.loop-i.i c.loop-i.count c.index-items-i.result false c.loop-i-test.true (λ t. sym w.if-declares_storage.false ∙ c.declares_storage.ensures t ∙ ap (λ x. is_storage (entry t x)) c.index-items-i.is) c.loop-i.invariant.0 in rw w.count-is (omega (arith, e), omega (arith, c.loop-i.invariant.1)))
    ]
