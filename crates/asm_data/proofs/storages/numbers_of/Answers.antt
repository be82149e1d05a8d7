use Rattle.std.proofs.Common.{◌≡◌, rules}
use Rattle.std.specs.Prelude.{if◌then◌else◌, is_some}
use Rattle.asm_data.proofs.Numbers.{counted_next, all_counted}
use Rattle.asm_data.proofs.storages.numbers_of.Goals as goal

pub loop-item-preserved : goal.loop-item-preserved
loop-item-preserved c =
    let one : c.from-count.result ≡ (if is_some c.number_of-number.result then 1 else 0) = search rules in
    counted_next c.args.items.now c.loop-item.item-index c.item-item.result c.number_of-number.result c.loop-item.numbers.entries c.add.new.numbers.entries c.loop-item.count c.from-count.result c.declared_name.result.now
    c.loop-item.invariant c.loop-item-test.true c.item-item.is c.number_of-number.ensures c.declared_name.ensures c.in_ok-add.ensures one

pub returns : goal.returns
returns c = all_counted c.args.items.now c.loop-item.item-index c.loop-item.numbers.entries c.loop-item.count c.loop-item.invariant c.loop-item-test.false
