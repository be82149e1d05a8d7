use Rattle.syntax_match.proofs.Found.{answer}
use Rattle.syntax_match.proofs.matching.matched.Goals as goal

pub returns : goal.returns
returns c = answer c.args.shape.now c.args.tokens.now c.requires.single c.requires.full _ c.joined.ensures
