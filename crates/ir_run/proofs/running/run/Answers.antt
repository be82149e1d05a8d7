use Rattle.nk_outside.specs.Outcome.{lines}
use Rattle.std.proofs.lemmas.Result.{err_from_is_err_and}
use Rattle.ir_run.specs.Entry.{listing}
use Rattle.ir_run.specs.Run.{outcome}
use Rattle.ir_run.proofs.Runs.{nothing_taken}
use Rattle.ir_run.proofs.running.run.Goals as goal

pub returns-in_err-machine-clause-run : goal.returns-in_err-machine-clause-run
returns-in_err-machine-clause-run g c =
    let q = err_from_is_err_and c.from_residual-in_err-machine.result c.from_residual-in_err-machine.ensures.1 in
    rw q.1 (nothing_taken (g.S.Sink.taken c.args.sink.now) (lines (outcome (listing c.args.i.now) c.args.n c.args.input.now c.args.steps).out))
