use Rattle.nml_reply.proofs.refusal.lacking.Goals as goal

pub returns-in-Dm : goal.returns-in-Dm
returns-in-Dm c = rw c.in-Dm.is c.named.ensures

pub returns-in-In : goal.returns-in-In
returns-in-In c = rw c.in-In.is c.named-in-In.ensures

pub returns-in-Out : goal.returns-in-Out
returns-in-Out c = rw c.in-Out.is c.named-in-Out.ensures
