use Rattle.std.proofs.Common.{refl}
use Rattle.attr_exec.specs.Seen.{view}
use Rattle.attr_exec.proofs.Running.{of_types}
use Rattle.isg_run.proofs.statement.worth.Goals as goal

pub returns : goal.returns
returns c = λ t ready narrow. c.value_at.ensures (narrow (view c.args.fields.now c.args.s.now c.args.next) refl (of_types t c.args.fields.now c.args.next c.args.s.now ready c.values_fit.ensures.cells c.values_fit.ensures.trns))
