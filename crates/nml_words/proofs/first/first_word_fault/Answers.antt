use Rattle.std.proofs.Common.{◌∙◌, ap, sym, subst, arith}
use Rattle.nml_words.specs.Words.{AreSpans}
use Rattle.nml_words.proofs.Faults.{none_more, first_wrong, none_at_all}
use Rattle.nml_words.proofs.first.first_word_fault.Goals as goal

pub returns-then-is_fault : goal.returns-then-is_fault
returns-then-is_fault c =
    first_wrong c.args.names.now _ c.as_slice.result.now c.loop-number.number _ _ _ c.items-items.ensures (subst (λ xs. AreSpans c.args.names.now xs) (sym c.as_slice.ensures.value) c.in_ok-widths.ensures)
    c.loop-number-test.true c.index-items-number.is c.is_fault.ensures c.if-is_fault.true (c.in_ok-clone.ensures.cases ∙ ap (λ n. n.text) c.declared_name.ensures) c.loop-number.invariant

pub loop-number-preserved : goal.loop-number-preserved
loop-number-preserved c =
    none_more c.args.names.now _ c.as_slice.result.now c.loop-number.number _ _ c.items-items.ensures (subst (λ xs. AreSpans c.args.names.now xs) (sym c.as_slice.ensures.value) c.in_ok-widths.ensures)
    c.loop-number-test.true c.index-items-number.is c.is_fault.ensures c.if-is_fault.false c.loop-number.invariant

pub returns : goal.returns
returns c = none_at_all c.args.names.now _ c.loop-number.number c.items-items.ensures (let f = c.loop-number-test.false in omega (arith, f)) c.loop-number.invariant
