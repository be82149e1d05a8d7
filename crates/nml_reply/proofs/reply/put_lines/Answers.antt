use Rattle.std.proofs.Common.{◌∙◌}
use Rattle.std.proofs.lemmas.Result.{err_from_is_err_and}
use Rattle.nml_reply.proofs.TextLines.{cut_line, line_sent, split_is}
use Rattle.nml_reply.proofs.reply.put_lines.Goals as goal

pub returns-in_err-put-clause-err : goal.returns-in_err-put-clause-err
returns-in_err-put-clause-err g c =
    let p = err_from_is_err_and c.from_residual.result c.from_residual.ensures.1 in
    rw p.1 (cut_line _ _ _ _ _ _ _ c.loop-rest.invariant.sent (split_is _ _ _ _ c.split_at.ensures.front c.split_at.ensures.back) c.in_err-put.ensures.err)

pub loop-rest-preserved : goal.loop-rest-preserved
loop-rest-preserved g c = record {
  sent = line_sent _ _ _ _ _ _ _ c.loop-rest.invariant.sent (split_is _ _ _ _ c.split_at.ensures.front c.split_at.ensures.back) c.in_ok-put.ensures.ok;
  same = c.in_ok-put.ensures.counts ∙ c.loop-rest.invariant.same;
}
