use Rattle.pat_core.proofs.Closures.{closure_one, numbers_same}
use Rattle.pat_core.proofs.law.closures_agree.Goals as goal

pub returns-clause-reach : goal.returns-clause-reach
returns-clause-reach c = λ isa a b p q. (closure_one isa a b p q).bits

pub returns-clause-certs : goal.returns-clause-certs
returns-clause-certs c = λ isa a b p q. (closure_one isa a b p q).certs

pub returns-clause-closed : goal.returns-clause-closed
returns-clause-closed c = λ isa a b p q. numbers_same a b (closure_one isa a b p q).certs
