use Rattle.nml_reply.proofs.Telling.{told_by}
use Rattle.nml_reply.proofs.reply.tell.Goals as goal

pub returns : goal.returns
returns g c = told_by _ _ _ _ _ _ _ _ _ c.put-done.ensures.ok c.put-done.ensures.err c.put-done.ensures.counts c.ended.ensures
