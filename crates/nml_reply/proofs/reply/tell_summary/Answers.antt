use Rattle.nml_reply.proofs.Telling.{told_by}
use Rattle.nml_reply.proofs.reply.tell_summary.Goals as goal

pub returns : goal.returns
returns g c = told_by _ _ _ _ _ _ _ _ _ c.put_summary-done.ensures.ok c.put_summary-done.ensures.err c.put_summary-done.ensures.counts c.ended.ensures
