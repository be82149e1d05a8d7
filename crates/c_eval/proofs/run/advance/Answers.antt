use Rattle.std.proofs.Common.{rules, ◌≡◌, subst, FitsSigned}
use Rattle.std.specs.Int.{w64}
use Rattle.std.proofs.lemmas.Int.{to_z-of_z}
use Rattle.nk_outside.specs.Outcome.{line}
use Rattle.nk_outside.specs.Taken.{Took, TookFront}
use Rattle.std.proofs.lemmas.Result.{err_from_is_err_and}
use Rattle.c_frames.specs.Steps.{step}
use Rattle.c_machine.specs.Stands.{config_of, move_of}
use Rattle.c_eval.proofs.Runs.{goes, puts, put_cut, cut, stops}
use Rattle.c_eval.proofs.run.advance.Goals as goal

pub returns-in_err-step-clause-run : goal.returns-in_err-step-clause-run
returns-in_err-step-clause-run g c = λ p code o most start r.
    let q = err_from_is_err_and c.from_residual.result c.from_residual.ensures.1 in
    rw q.1 (cut p c.args.code.now c.args.input.now o most start (g.S.Sink.taken c.args.sink.now) c.args.machine.now r)

pub returns-in_err-put_line-in-Puts-clause-run : goal.returns-in_err-put_line-in-Puts-clause-run
returns-in_err-put_line-in-Puts-clause-run g c = λ p code o most start r.
    let fits : FitsSigned w64 c.in-Puts.z = search rules in
    let q = err_from_is_err_and c.from_residual-in_err-put_line-in-Puts.result c.from_residual-in_err-put_line-in-Puts.ensures.1 in
    let n = c.args.code.now.bits in
    let ns = c.args.code.now.nodes.items in
    rw q.1
    (put_cut p c.args.code.now c.args.input.now o most start (g.S.Sink.taken c.args.sink.now) (g.S.Sink.taken c.put_line.new.sink) c.args.machine.now c.step.new.self c.in-Puts.z r
    (λ out. subst (λ x. move_of p n ns c.args.input.now c.step.new.self out x ≡ step p n (config_of p n ns c.args.input.now c.args.machine.now out)) c.in-Puts.is (c.in_ok-step.ensures p code out))
    (subst (λ y. TookFront (g.S.Sink.taken c.args.sink.now) (g.S.Sink.taken c.put_line.new.sink) (line y)) (to_z-of_z w64 c.in-Puts.z fits) c.in_err-put_line-in-Puts.ensures.err))

pub returns-in-Goes-clause-run : goal.returns-in-Goes-clause-run
returns-in-Goes-clause-run g c = λ p code o most start r.
    let n = c.args.code.now.bits in
    let ns = c.args.code.now.nodes.items in
    goes p c.args.code.now c.args.input.now o most start (g.S.Sink.taken c.args.sink.now) c.args.machine.now c.step.new.self r
    (λ out. subst (λ x. move_of p n ns c.args.input.now c.step.new.self out x ≡ step p n (config_of p n ns c.args.input.now c.args.machine.now out)) c.in-Goes.is (c.in_ok-step.ensures p code out))

pub returns-in_ok-put_line-in-Puts-clause-run : goal.returns-in_ok-put_line-in-Puts-clause-run
returns-in_ok-put_line-in-Puts-clause-run g c = λ p code o most start r.
    let fits : FitsSigned w64 c.in-Puts.z = search rules in
    let n = c.args.code.now.bits in
    let ns = c.args.code.now.nodes.items in
    puts p c.args.code.now c.args.input.now o most start (g.S.Sink.taken c.args.sink.now) (g.S.Sink.taken c.put_line.new.sink) c.args.machine.now c.step.new.self c.in-Puts.z r
    (λ out. subst (λ x. move_of p n ns c.args.input.now c.step.new.self out x ≡ step p n (config_of p n ns c.args.input.now c.args.machine.now out)) c.in-Puts.is (c.in_ok-step.ensures p code out))
    (subst (λ y. Took (g.S.Sink.taken c.args.sink.now) (g.S.Sink.taken c.put_line.new.sink) (line y)) (to_z-of_z w64 c.in-Puts.z fits) c.in_ok-put_line-in-Puts.ensures.ok)

pub returns-in-Stops-clause-run : goal.returns-in-Stops-clause-run
returns-in-Stops-clause-run g c = λ p code o most start r.
    let n = c.args.code.now.bits in
    let ns = c.args.code.now.nodes.items in
    stops p c.args.code.now c.args.input.now o most start (g.S.Sink.taken c.args.sink.now) c.args.machine.now c.step.new.self c.in-Stops.stop r
    (λ out. subst (λ x. move_of p n ns c.args.input.now c.step.new.self out x ≡ step p n (config_of p n ns c.args.input.now c.args.machine.now out)) c.in-Stops.is (c.in_ok-step.ensures p code out))
