use Rattle.nml_reply.proofs.Telling.{told_by}
use Rattle.nml_reply.proofs.reply.tell_assembled.Goals as goal

pub returns : goal.returns
returns g c =
    let p = c.put_assembled-done.ensures in
    told_by _ _ _ _ _ _ _ _ _ (rw (c.from.ensures, c.deref.ensures.value) at p.ok) (rw (c.from.ensures, c.deref.ensures.value) at p.err) p.counts c.ended.ensures
