use Rattle.std.proofs.Common.{subst}
use Rattle.nml_suite.specs.Running.{TellsRun, TellsNone}
use Rattle.nml_suite.proofs.Outputs.{opened_is, tells_cut, tells_whole}
use Rattle.nml_suite.proofs.run.tell_run.Goals as goal

pub returns-in-Ok-put_run : goal.returns-in-Ok-put_run
returns-in-Ok-put_run g c =
    let o = opened_is c.in-Ok.sim c.args.ready.now c.deref.result.now c.deref.ensures.value c.in-Ok.ensures in
    subst (λ s. TellsRun s c.args.steps (g.S.Sink.taken c.args.sink.now) (g.S.Sink.taken c.put_run.new.sink) (g.S.Sink.faults c.args.sink.now) (g.S.Sink.faults c.put_run.new.sink) c.in-Ok-put_run.status) o
    (tells_whole _ _ _ _ _ _ _ c.in-Ok-put_run.ensures.run c.in-Ok-put_run.ensures.counts)

pub returns : goal.returns
returns g c =
    let o = opened_is c.in-Ok.sim c.args.ready.now c.deref.result.now c.deref.ensures.value c.in-Ok.ensures in
    subst (λ s. TellsRun s c.args.steps (g.S.Sink.taken c.args.sink.now) (g.S.Sink.taken c.ended.new.sink) (g.S.Sink.faults c.args.sink.now) (g.S.Sink.faults c.ended.new.sink) c.ended.result) o
    (tells_cut _ _ _ _ _ _ _ _ c.in-Err-put_run.fault _ _ c.in-Err-put_run.ensures.run c.in-Err-put_run.ensures.counts c.ended.ensures)
