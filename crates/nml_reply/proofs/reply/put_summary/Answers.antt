use Rattle.std.proofs.Common.{subst, ◌∙◌}
use Rattle.nk_outside.specs.Taken.{TookFront}
use Rattle.nml_reply.proofs.WordLines.{on_err}
use Rattle.nml_reply.proofs.reply.put_summary.Goals as goal

pub returns-clause-err : goal.returns-clause-err
returns-clause-err g c =
    on_err (TookFront (g.S.Sink.taken c.args.sink.now) (g.S.Sink.taken c.put.new.sink) c.as_bytes.result.now) _ c.put.result
    (λ f. subst (TookFront (g.S.Sink.taken c.args.sink.now) (g.S.Sink.taken c.put.new.sink)) (c.as_bytes.ensures ∙ c.in_ok-line.ensures) f)
    c.put.ensures.err
