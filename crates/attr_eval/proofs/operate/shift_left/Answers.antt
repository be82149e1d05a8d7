use Rattle.std.proofs.Common.{ap, of_z}
use Rattle.std.specs.Int.{w128}
use Rattle.attr_eval.proofs.Shifts.{left_far}
use Rattle.attr_eval.proofs.operate.shift_left.Goals as goal

pub returns-then-n-gt126 : goal.returns-then-n-gt126
returns-then-n-gt126 c = λ fits. left_far c.args.x c.args.n c.if-n-gt126.true fits (λ e. c.if-x-eq0.false (ap (of_z w128) e))
