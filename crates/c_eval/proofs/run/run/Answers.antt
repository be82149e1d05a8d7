use Rattle.std.proofs.Common.{refl, subst, Ok, None}
use Rattle.std.proofs.lemmas.Result.{err_from_is_err_and}
use Rattle.c_tree.specs.Meaning.{outcome}
use Rattle.c_tree.specs.Resolve.{resolved}
use Rattle.c_eval.specs.Running.{Advanced}
use Rattle.c_eval.proofs.Runs.{begun, most}
use Rattle.c_eval.proofs.run.run.Goals as goal

pub loop-stop-init : goal.loop-stop-init
loop-stop-init g c = record {
  runs = begun (resolved c.args.p.now.0) c.args.code.now c.args.input.now c.args.machine.now c.args.machine.now.turns (g.S.Sink.taken c.args.sink.now) c.requires.small c.requires.begins;
  same = refl;
}

pub returns-in_err-advance-clause-run : goal.returns-in_err-advance-clause-run
returns-in_err-advance-clause-run g c =
    let q = err_from_is_err_and c.from_residual.result c.from_residual.ensures.1 in
    let p = resolved c.args.p.now.0 in
    let k = c.args.code.now in
    let turns = c.args.machine.now.turns in
    rw q.1 (c.in_err-advance.ensures.run p c.requires.code (outcome p k.bits c.args.input.now turns) (most p k c.args.input.now turns) (g.S.Sink.taken c.args.sink.now) c.loop-stop.invariant.runs)

pub returns-in-Some-clause-run : goal.returns-in-Some-clause-run
returns-in-Some-clause-run g c =
    let p = resolved c.args.p.now.0 in
    let k = c.args.code.now in
    let turns = c.args.machine.now.turns in
    let o = outcome p k.bits c.args.input.now turns in
    let m = most p k c.args.input.now turns in
    let start = g.S.Sink.taken c.args.sink.now in
    subst (λ x. Advanced p k c.args.input.now o m start (g.S.Sink.taken c.advance.new.sink) c.loop-stop.machine c.advance.new.machine (Ok x)) c.in-Some.is
    (c.in_ok-advance.ensures.run p c.requires.code o m start c.loop-stop.invariant.runs)

pub loop-stop-smaller : goal.loop-stop-smaller
loop-stop-smaller g c =
    let p = resolved c.args.p.now.0 in
    let k = c.args.code.now in
    let turns = c.args.machine.now.turns in
    let o = outcome p k.bits c.args.input.now turns in
    let m = most p k c.args.input.now turns in
    let start = g.S.Sink.taken c.args.sink.now in
    let h : Advanced p k c.args.input.now o m start (g.S.Sink.taken c.advance.new.sink) c.loop-stop.machine c.advance.new.machine (Ok None) =
    subst (λ x. Advanced p k c.args.input.now o m start (g.S.Sink.taken c.advance.new.sink) c.loop-stop.machine c.advance.new.machine (Ok x)) c.in-None.is
    (c.in_ok-advance.ensures.run p c.requires.code o m start c.loop-stop.invariant.runs) in
    h.1
