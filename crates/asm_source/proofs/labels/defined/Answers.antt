use Rattle.std.proofs.Common.{◌≤◌, length, refl, rules, arith}
use Rattle.asm_source.proofs.Defining.{none_defined, all_defined, all_doubled, defined_more}
use Rattle.asm_source.proofs.labels.defined.Goals as goal

pub loop-line-init : goal.loop-line-init
loop-line-init c = none_defined c.args.lines.now c.new-numbers.result.entries (search rules)

pub overflow_add-number : goal.overflow_add-number
overflow_add-number c = omega (arith, c.loop-line.invariant.number_is, c.loop-line-test.true)

pub overflow_add-words : goal.overflow_add-words
overflow_add-words c = omega (arith, c.loop-line.invariant.few, c.words_of-words.ensures.one, c.loop-line-test.true)

pub loop-line-preserved : goal.loop-line-preserved
loop-line-preserved c =
    defined_more c.args.lines.now c.loop-line.line-index c.loop-line.number c.loop-line.words c.words_of-words.result c.loop-line.numbers.entries c.define.new.numbers.entries
    c.loop-line.doubled c.in_ok-again.again c.line-item.result c.loop-line-test.true c.line-item.is c.in_ok-again.ensures.doubled c.in_ok-again.ensures.numbers
    c.words_of-words.ensures.one c.words_of-words.ensures.is c.loop-line.invariant _ _ _ _ refl refl (search rules) refl

pub returns-clause-numbers : goal.returns-clause-numbers
returns-clause-numbers c =
    let end : length c.args.lines.now ≤ c.loop-line.line-index = search rules in all_defined _ _ _ _ _ _ end c.loop-line.invariant

pub returns-clause-doubled : goal.returns-clause-doubled
returns-clause-doubled c =
    let end : length c.args.lines.now ≤ c.loop-line.line-index = search rules in all_doubled _ _ _ _ _ _ end c.loop-line.invariant
