use Rattle.nml_reply.proofs.Telling.{told_by}
use Rattle.nml_reply.proofs.reply.tell_refusal.Goals as goal

pub returns : goal.returns
returns g c = told_by _ _ _ _ _ _ _ _ _ c.put_refusal-done.ensures.ok c.put_refusal-done.ensures.err c.put_refusal-done.ensures.counts (rw c.status.ensures at c.ended.ensures)
