use Rattle.std.proofs.Common.{subst, arith, ◌∙◌}
use Rattle.std.proofs.lemmas.Result.{err_from_is_err_and}
use Rattle.nk_outside.specs.Taken.{Took, TookFront}
use Rattle.nml_reply.specs.Reply.{output_text}
use Rattle.nml_suite.proofs.Outputs.{after_turns, in_turn, one_more, put_all, put_cut, put_to_stop, stepped}
use Rattle.nml_suite.proofs.run.put_outputs.Goals as goal

pub returns-in_err-put_output-clause-put : goal.returns-in_err-put_output-clause-put
returns-in_err-put_output-clause-put g c =
    let p = err_from_is_err_and c.from_residual.result c.from_residual.ensures.1 in
    rw p.1
    (put_cut _ _ _ _ _ _ _ _ _ _ c.requires.decided (in_turn _ _ _ _ _ _ _ (omega (arith, c.loop-turn-test.true)) c.loop-turn.invariant.so_far)
    (stepped _ _ _ _ _ c.step-step.ensures.desc c.step-step.ensures.words c.next_of.ensures c.step-step.ensures.step)
    (subst (λ o. TookFront (g.S.Sink.taken c.loop-turn.sink) (g.S.Sink.taken c.put_output.new.sink) (output_text o)) c.output_of.ensures c.in_err-put_output.ensures.err))

pub returns-in-Some-clause-put : goal.returns-in-Some-clause-put
returns-in-Some-clause-put g c =
    put_to_stop _ _ _ _ _ _ _ _ _ _ _ (in_turn _ _ _ _ _ _ _ (omega (arith, c.loop-turn-test.true)) c.loop-turn.invariant.so_far)
    (stepped _ _ _ _ _ c.step-step.ensures.desc c.step-step.ensures.words c.next_of.ensures c.step-step.ensures.step) c.in-Some.ensures
    (subst (λ o. Took (g.S.Sink.taken c.loop-turn.sink) (g.S.Sink.taken c.put_output.new.sink) (output_text o)) c.output_of.ensures c.in_ok-put_output.ensures.ok)

pub loop-turn-preserved : goal.loop-turn-preserved
loop-turn-preserved g c = record {
  so_far = one_more _ _ _ _ _ _ _ _ _ _ _ (in_turn _ _ _ _ _ _ _ (omega (arith, c.loop-turn-test.true)) c.loop-turn.invariant.so_far)
      (stepped _ _ _ _ _ c.step-step.ensures.desc c.step-step.ensures.words c.next_of.ensures c.step-step.ensures.step) c.in_default.ensures
      (subst (λ o. Took (g.S.Sink.taken c.loop-turn.sink) (g.S.Sink.taken c.put_output.new.sink) (output_text o)) c.output_of.ensures c.in_ok-put_output.ensures.ok) c.behind-rest.ensures;
  same = c.in_ok-put_output.ensures.counts ∙ c.loop-turn.invariant.same;
}

pub returns-clause-put : goal.returns-clause-put
returns-clause-put g c = put_all _ _ _ _ _ _ (after_turns _ _ _ _ _ _ _ (omega (arith, c.loop-turn-test.false)) c.loop-turn.invariant.so_far)
