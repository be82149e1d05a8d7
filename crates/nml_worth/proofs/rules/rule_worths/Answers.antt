use Rattle.std.proofs.Common.{◌+◌, ◌<◌, ap, arith, length, refl, subst, sym}
use Rattle.std.specs.Prelude.{slice_index_or}
use Rattle.std.specs.Global.{Vec}
use Rattle.nml_worth.specs.declared.worth.Worth.{Worth}
use Rattle.nml_worth.specs.Around.{BelowKnown}
use Rattle.nml_worth.proofs.Passes.{Passed, all_passed, below_known, passed_more, passed_over, stands_at}
use Rattle.nml_worth.proofs.rules.rule_worths.Goals as goal
use Rattle.nml_worth.proofs.rules.rule_worths.Goals.{then-number-items+in_ok-worths-2, else-number-items}

pub worth_of_item-requires : goal.worth_of_item-requires
worth_of_item-requires c =
    subst (λ ws. BelowKnown c.args.names.now ws c.index-items-number.result) (sym c.as_slice.ensures.value)
    (below_known c.args.names.now c.args.order.now c.loop-p.p (slice_index_or c.args.order.now c.loop-p.p 0) c.loop-p.worths.items c.index-items-number.result c.requires.order c.loop-p.invariant c.loop-p-test.true refl
    (stands_at c.items-items.result.now _ _ c.index-items-number.result c.items-items.ensures c.if-number-items.true c.index-items-number.is))

pub loop-p-preserved : goal.loop-p-preserved
loop-p-preserved c = elim c.if-number-items.branch [
  | then-number-items+in_ok-worths-2 w ↦ (
      let n = slice_index_or c.args.order.now c.loop-p.p 0 in
      subst (Passed c.args.names.now c.args.order.now (c.loop-p.p + 1)) (sym (ap (λ (v : Vec Worth). v.items) w.worths-is))
      (passed_more c.args.names.now c.requires.free c.args.order.now c.loop-p.p n c.loop-p.worths.items w.index-items-number.result w.in_ok-worths-2.field-0 c.loop-p.invariant refl
      (subst (λ xs. n < length xs) c.items-items.ensures w.if-number-items.true)
      (stands_at c.items-items.result.now c.args.names.now.items n w.index-items-number.result c.items-items.ensures w.if-number-items.true w.index-items-number.is) w.in_ok-worths-2.ensures)
      )
  | else-number-items w ↦ (
      let n = slice_index_or c.args.order.now c.loop-p.p 0 in
      let high = w.if-number-items.false in
      subst (Passed c.args.names.now c.args.order.now (c.loop-p.p + 1)) (sym (ap (λ (v : Vec Worth). v.items) w.worths-is))
      (passed_over c.args.names.now c.args.order.now c.loop-p.p n c.loop-p.worths.items c.loop-p.invariant refl
      (λ low. let l : n < length c.items-items.result.now = subst (λ xs. n < length xs) (sym c.items-items.ensures) low in omega (arith, high, l)))
      )
]

pub returns : goal.returns
returns c = all_passed c.args.names.now c.args.order.now c.loop-p.p c.loop-p.worths.items c.requires.order c.loop-p.invariant (let f = c.loop-p-test.false in omega (arith, f))
