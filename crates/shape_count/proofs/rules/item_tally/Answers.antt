use Rattle.std.proofs.Common.{◌∙◌, refl}
use Rattle.shape_count.proofs.rules.item_tally.Goals as goal

pub returns-in-OrRule : goal.returns-in-OrRule
returns-in-OrRule c = c.or_tally.ensures ∙ rw (c.in-OrRule.is, c.as_slice.ensures) refl
