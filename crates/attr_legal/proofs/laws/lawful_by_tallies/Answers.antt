use Rattle.attr_legal.proofs.Tallies.{by_tallies}
use Rattle.attr_legal.proofs.laws.lawful_by_tallies.Goals as goal

pub returns : goal.returns
returns c = λ v s. by_tallies v s
