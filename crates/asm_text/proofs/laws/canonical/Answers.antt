use Rattle.asm_text.proofs.CanonicalTexts.{one_canonical, some_canonical}
use Rattle.asm_text.proofs.laws.canonical.Goals as goal

pub returns-clause-one : goal.returns-clause-one
returns-clause-one c = one_canonical

pub returns-clause-some : goal.returns-clause-some
returns-clause-some c = some_canonical
