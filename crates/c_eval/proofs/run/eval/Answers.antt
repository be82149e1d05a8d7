use Rattle.std.proofs.Common.{subst}
use Rattle.std.proofs.lemmas.Result.{err_from_is_err_and}
use Rattle.nk_outside.specs.Outcome.{lines}
use Rattle.c_tree.specs.Meaning.{outcome}
use Rattle.c_tree.specs.Resolve.{resolved}
use Rattle.c_eval.specs.Evaluates.{Evaluates}
use Rattle.c_eval.proofs.Runs.{nothing_taken}
use Rattle.c_eval.proofs.run.eval.Goals as goal

pub returns-in_err-code-clause-run : goal.returns-in_err-code-clause-run
returns-in_err-code-clause-run g c =
    let q = err_from_is_err_and c.from_residual.result c.from_residual.ensures.1 in
    rw q.1 (nothing_taken (g.S.Sink.taken c.args.sink.now) (lines (outcome (resolved c.args.p.now.0) c.args.p.now.1 c.args.input.now c.args.turns).out))

pub returns-clause-run : goal.returns-clause-run
returns-clause-run g c =
    let start = g.S.Sink.taken c.args.sink.now in
    let end = g.S.Sink.taken c.run.new.sink in
    let p = resolved c.args.p.now.0 in
    subst (λ n. Evaluates (outcome p n c.args.input.now c.args.turns) start end c.run.result) c.in_ok-code.ensures.bits
    (subst (λ t. Evaluates (outcome p c.in_ok-code.code.bits c.args.input.now t) start end c.run.result) c.in_ok-code.ensures.turns c.run.ensures.run)
