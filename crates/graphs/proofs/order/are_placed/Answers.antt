use Rattle.std.proofs.Common.{◌∙◌, refl, sym}
use Rattle.graphs.proofs.Search.{each_of, get_among}
use Rattle.graphs.proofs.order.are_placed.Goals as goal

pub returns : goal.returns
returns c = (λ yes b h. each_of _ _ c.loop-i.i c.loop-i.invariant c.loop-i-test.false b h, λ all. refl)

pub returns-then-not-is_placed : goal.returns-then-not-is_placed
returns-then-not-is_placed c = (λ yes. absurd cc, λ all. sym c.if-not-is_placed.true ∙ c.is_placed.ensures ∙ all _ (get_among _ c.loop-i.i c.loop-i-test.true))
