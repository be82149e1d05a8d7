use Rattle.nml_reply.proofs.Telling.{told_by}
use Rattle.nml_reply.proofs.reply.tell_text.Goals as goal

pub returns : goal.returns
returns g c =
    let p = c.put_lines-done.ensures in
    told_by _ _ _ _ _ _ _ _ _ (rw c.as_bytes.ensures at p.ok) (rw c.as_bytes.ensures at p.err) p.counts c.ended.ensures
