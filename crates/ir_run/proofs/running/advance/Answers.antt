use Rattle.std.proofs.Common.{rules, ◌≡◌, map, subst, FitsSigned}
use Rattle.std.specs.Int.{w64}
use Rattle.std.proofs.lemmas.Int.{to_z-of_z}
use Rattle.std.proofs.lemmas.Result.{err_from_is_err_and}
use Rattle.nk_outside.specs.Outcome.{line}
use Rattle.nk_outside.specs.Taken.{Took, TookFront}
use Rattle.ir_run.specs.Entry.{entry}
use Rattle.ir_run.specs.Run.{step}
use Rattle.ir_run.specs.Stands.{state_of, turn_of}
use Rattle.ir_run.proofs.Runs.{puts, put_cut}
use Rattle.ir_run.proofs.running.advance.Goals as goal

pub returns-in_err-put_line-in-Puts-clause-run : goal.returns-in_err-put_line-in-Puts-clause-run
returns-in_err-put_line-in-Puts-clause-run g c = λ o start steps r.
    let fits : FitsSigned w64 c.in-Puts.z = search rules in
    let q = err_from_is_err_and c.from_residual.result c.from_residual.ensures.1 in
    let es = map entry c.args.code.now.statements.now in
    let s2 = state_of c.args.input.now c.step.new.self in
    rw q.1
    (put_cut es c.args.code.now.bits o start (g.S.Sink.taken c.args.sink.now) (g.S.Sink.taken c.put_line.new.sink) steps (state_of c.args.input.now c.args.machine.now) s2 c.in-Puts.z r
    (subst (λ m. turn_of m s2 ≡ step es c.args.code.now.bits (state_of c.args.input.now c.args.machine.now)) c.in-Puts.is c.step.ensures)
    (subst (λ y. TookFront (g.S.Sink.taken c.args.sink.now) (g.S.Sink.taken c.put_line.new.sink) (line y)) (to_z-of_z w64 c.in-Puts.z fits) c.in_err-put_line-in-Puts.ensures.err))

pub returns-in_ok-put_line-in-Puts-clause-run : goal.returns-in_ok-put_line-in-Puts-clause-run
returns-in_ok-put_line-in-Puts-clause-run g c = λ o start steps r.
    let fits : FitsSigned w64 c.in-Puts.z = search rules in
    let es = map entry c.args.code.now.statements.now in
    let s2 = state_of c.args.input.now c.step.new.self in
    puts es c.args.code.now.bits o start (g.S.Sink.taken c.args.sink.now) (g.S.Sink.taken c.put_line.new.sink) steps (state_of c.args.input.now c.args.machine.now) s2 c.in-Puts.z r
    (subst (λ m. turn_of m s2 ≡ step es c.args.code.now.bits (state_of c.args.input.now c.args.machine.now)) c.in-Puts.is c.step.ensures)
    (subst (λ y. Took (g.S.Sink.taken c.args.sink.now) (g.S.Sink.taken c.put_line.new.sink) (line y)) (to_z-of_z w64 c.in-Puts.z fits) c.in_ok-put_line-in-Puts.ensures.ok)
