use Rattle.graphs.proofs.Ranks.{all_members}
use Rattle.graphs.proofs.rank.all_up.Goals as goal

pub returns : goal.returns
returns c = λ yes b h. all_members _ _ _ _ c.loop-i.i c.loop-i.invariant c.loop-i-test.false b h
