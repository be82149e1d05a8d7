use Rattle.image_decode.proofs.Decoding.{none_legal, one_legal}
use Rattle.image_decode.proofs.word.legal.Goals as goal

pub returns-then-conflict : goal.returns-then-conflict
returns-then-conflict c = none_legal c.args.g.now c.is_whole.ensures c.args.i c.requires.short c.requires.has c.if-conflict.ensures

pub returns-else-conflict : goal.returns-else-conflict
returns-else-conflict c = one_legal c.args.g.now c.is_whole.ensures c.args.i c.requires.short c.requires.has c.if-conflict.ensures
