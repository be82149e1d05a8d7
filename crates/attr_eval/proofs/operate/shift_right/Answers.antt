use Rattle.std.proofs.Common.{subst, pos, ◌<ℤ◌, ◌≤ℤ◌}
use Rattle.std.specs.Int.{w128}
use Rattle.std.proofs.lemmas.Int.{to_z-of_z}
use Rattle.attr_eval.proofs.Shifts.{right_negative, right_natural}
use Rattle.attr_eval.proofs.operate.shift_right.Goals as goal

pub returns-then-is_negative : goal.returns-then-is_negative
returns-then-is_negative c = right_negative c.args.x c.args.n c.if-n-gt126.true c.ranges.x (subst (λ z. z <ℤ pos 0) (to_z-of_z w128 c.args.x c.ranges.x) c.if-is_negative.ensures)

pub returns-else-is_negative : goal.returns-else-is_negative
returns-else-is_negative c = right_natural c.args.x c.args.n c.if-n-gt126.true c.ranges.x (subst (λ z. pos 0 ≤ℤ z) (to_z-of_z w128 c.args.x c.ranges.x) c.if-is_negative.ensures)
