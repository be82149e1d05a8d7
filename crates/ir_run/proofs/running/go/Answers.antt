use Rattle.std.proofs.Common.{◌≡◌, ◌-◌, ◌+◌, ◌∙◌, map, subst, suc, arith, Ok}
use Rattle.std.proofs.lemmas.Result.{err_from_is_err_and}
use Rattle.ir_run.specs.Entry.{entry}
use Rattle.ir_run.specs.Runs as runs
use Rattle.ir_run.specs.Run.{step}
use Rattle.ir_run.specs.Stands.{state_of}
use Rattle.ir_run.specs.Running.{Running, Advanced}
use Rattle.ir_run.proofs.running.go.Goals as goal

pub returns-in_err-stop-clause-run : goal.returns-in_err-stop-clause-run
returns-in_err-stop-clause-run g c =
    let es = map entry c.args.code.now.statements.now in
    let n = c.args.code.now.bits in
    let o = runs.run (step es n) c.args.steps (state_of c.args.input.now c.args.machine.now) in
    let start = g.S.Sink.taken c.args.sink.now in
    let now = g.S.Sink.taken c.advance.new.sink in
    let k = c.args.steps - (c.loop.counter + 1) in
    let left : c.args.steps - c.loop.counter ≡ suc k = omega (arith, c.loop-test.true) in
    let before = subst (λ k. Running es n o start (g.S.Sink.taken c.loop.sink) k (state_of c.args.input.now c.loop.machine)) left c.loop.invariant.runs in
    let s2 = state_of c.args.input.now c.advance.new.machine in
    let q = err_from_is_err_and c.from_residual.result c.from_residual.ensures.1 in
    rw q.1 (c.in_err-stop.ensures.run o start k before)

pub returns-in-Some-clause-run : goal.returns-in-Some-clause-run
returns-in-Some-clause-run g c =
    let es = map entry c.args.code.now.statements.now in
    let n = c.args.code.now.bits in
    let o = runs.run (step es n) c.args.steps (state_of c.args.input.now c.args.machine.now) in
    let start = g.S.Sink.taken c.args.sink.now in
    let now = g.S.Sink.taken c.advance.new.sink in
    let k = c.args.steps - (c.loop.counter + 1) in
    let left : c.args.steps - c.loop.counter ≡ suc k = omega (arith, c.loop-test.true) in
    let before = subst (λ k. Running es n o start (g.S.Sink.taken c.loop.sink) k (state_of c.args.input.now c.loop.machine)) left c.loop.invariant.runs in
    let s2 = state_of c.args.input.now c.advance.new.machine in
    subst (λ x. Advanced es n o start now k s2 (Ok x)) c.in-Some.is (c.in_ok-stop.ensures.run o start k before)

pub loop-preserved : goal.loop-preserved
loop-preserved g c =
    let es = map entry c.args.code.now.statements.now in
    let n = c.args.code.now.bits in
    let o = runs.run (step es n) c.args.steps (state_of c.args.input.now c.args.machine.now) in
    let start = g.S.Sink.taken c.args.sink.now in
    let now = g.S.Sink.taken c.advance.new.sink in
    let k = c.args.steps - (c.loop.counter + 1) in
    let left : c.args.steps - c.loop.counter ≡ suc k = omega (arith, c.loop-test.true) in
    let before = subst (λ k. Running es n o start (g.S.Sink.taken c.loop.sink) k (state_of c.args.input.now c.loop.machine)) left c.loop.invariant.runs in
    let s2 = state_of c.args.input.now c.advance.new.machine in
    record {
      runs = subst (λ x. Advanced es n o start now k s2 (Ok x)) c.in_default.is (c.in_ok-stop.ensures.run o start k before);
      same = c.in_ok-stop.ensures.counts ∙ c.loop.invariant.same;
    }
