use Rattle.c_order.proofs.Sorting.{sorted_in_order}
use Rattle.c_order.proofs.order.in_order.Goals as goal

pub returns : goal.returns
returns c = sorted_in_order c.args.numbers.items _ _ c.in_ok-sort.ensures.permutation c.in_ok-sort.ensures.sorted c.dedup.ensures.filtered
