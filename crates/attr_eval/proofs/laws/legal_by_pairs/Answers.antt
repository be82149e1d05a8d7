use Rattle.attr_eval.proofs.AllPaths.{lawful_legal}
use Rattle.attr_eval.proofs.laws.legal_by_pairs.Goals as goal

pub returns : goal.returns
returns c = λ t x. lawful_legal t x
