use Rattle.std.proofs.Common.{sym, subst, arith, ◌∙◌}
use Rattle.std.proofs.lemmas.Result.{err_from_is_err_and}
use Rattle.nk_outside.specs.Taken.{Took, TookFront}
use Rattle.nk_outside.proofs.Pieces.{took_append}
use Rattle.nml_reply.proofs.WordLines.{lines_more, cut_here, cut_in_line}
use Rattle.nml_reply.proofs.reply.put_words.Goals as goal

pub returns-in_err-line-clause-err : goal.returns-in_err-line-clause-err
returns-in_err-line-clause-err g c =
    let p = err_from_is_err_and c.from_residual.result c.from_residual.ensures.1 in
    rw p.1 (cut_here _ _ c.args.width c.args.words.now c.loop-word.word-index c.loop-word.invariant.took)

pub returns-in_err-put-clause-err : goal.returns-in_err-put-clause-err
returns-in_err-put-clause-err g c =
    let p = err_from_is_err_and c.from_residual-in_err-put.result c.from_residual-in_err-put.ensures.1 in
    rw p.1
    (cut_in_line _ _ _ c.args.width c.args.words.now c.loop-word.word-index (omega (arith, c.loop-word-test.true)) c.loop-word.invariant.took
    (subst (TookFront (g.S.Sink.taken c.loop-word.sink) (g.S.Sink.taken c.put.new.sink)) (c.as_bytes.ensures ∙ c.in_ok-line.ensures) c.in_err-put.ensures.err))

pub loop-word-preserved : goal.loop-word-preserved
loop-word-preserved g c = record {
  took = subst (Took (g.S.Sink.taken c.args.sink.now) (g.S.Sink.taken c.put.new.sink)) (sym (lines_more c.args.width c.args.words.now c.loop-word.word-index (omega (arith, c.loop-word-test.true))))
      (took_append _ _ _ _ _ c.loop-word.invariant.took (subst (Took (g.S.Sink.taken c.loop-word.sink) (g.S.Sink.taken c.put.new.sink)) (c.as_bytes.ensures ∙ c.in_ok-line.ensures) c.in_ok-put.ensures.ok));
  same = c.in_ok-put.ensures.counts ∙ c.loop-word.invariant.same;
}
