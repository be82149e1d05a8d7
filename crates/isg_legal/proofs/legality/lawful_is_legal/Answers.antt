use Rattle.isg_legal.proofs.WholeLegal.{never}
use Rattle.isg_legal.proofs.legality.lawful_is_legal.Goals as goal

pub returns : goal.returns
returns c = λ t x a same h. never t x a same h
