use Rattle.std.proofs.Common.{refl}
use Rattle.nml_edges.proofs.rule.of_item.Goals as goal

pub returns-in-OrRule : goal.returns-in-OrRule
returns-in-OrRule c = rw (c.in-OrRule.is, c.of_alternatives.ensures, c.both-first.ensures, c.none-in-OrRule.ensures, c.fact.ensures, c.number.ensures, c.as_slice.ensures) refl
