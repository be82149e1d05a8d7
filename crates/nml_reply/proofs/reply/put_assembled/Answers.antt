use Rattle.std.proofs.Common.{subst, ◌∙◌, length}
use Rattle.std.proofs.lemmas.Result.{err_from_is_err_and}
use Rattle.nk_outside.specs.Taken.{TookFront}
use Rattle.nk_outside.proofs.Pieces.{front_after, front_of_first}
use Rattle.nml_reply.specs.Reply.{word_lines, ok_line}
use Rattle.nml_reply.proofs.WordLines.{on_err}
use Rattle.nml_reply.proofs.reply.put_assembled.Goals as goal

pub returns-in_err-put_words-clause-err : goal.returns-in_err-put_words-clause-err
returns-in_err-put_words-clause-err g c =
    let p = err_from_is_err_and c.from_residual.result c.from_residual.ensures.1 in
    rw p.1 (front_of_first _ _ (word_lines c.args.width c.args.words.now) (ok_line (length c.args.words.now)) c.in_err-put_words.ensures.err)

pub returns-clause-err : goal.returns-clause-err
returns-clause-err g c =
    on_err (TookFront (g.S.Sink.taken c.put_words.new.sink) (g.S.Sink.taken c.put.new.sink) c.as_bytes.result.now) _ c.put.result
    (λ f. front_after _ _ _ (word_lines c.args.width c.args.words.now) (ok_line (length c.args.words.now)) c.in_ok-put_words.ensures.ok
    (subst (TookFront (g.S.Sink.taken c.put_words.new.sink) (g.S.Sink.taken c.put.new.sink)) (c.as_bytes.ensures ∙ c.in_ok-line.ensures) f))
    c.put.ensures.err
