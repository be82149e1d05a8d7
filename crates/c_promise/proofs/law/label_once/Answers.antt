use Rattle.c_promise.proofs.Once as once
use Rattle.c_promise.proofs.law.label_once.Goals as goal

pub returns : goal.returns
returns c = once.label_once
