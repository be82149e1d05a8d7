use Rattle.c_promise.proofs.Promised as promised
use Rattle.c_promise.proofs.law.statements_keep_their_promises.Goals as goal

pub returns : goal.returns
returns c = promised.promised
