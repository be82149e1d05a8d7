use Rattle.std.proofs.Common.{ap, sym, ◌+◌}
use Rattle.c_check.proofs.Counts.{count_is}
use Rattle.c_check.proofs.expression.with_first.Goals as goal

pub returns : goal.returns
returns c = ap (λ k. k + 1) (sym (count_is c.args.rest.now))
