use Rattle.c_order.proofs.Sorting.{same_contained}
use Rattle.c_order.proofs.laws.order_is_given_by_members.Goals as goal

pub returns : goal.returns
returns c = same_contained
