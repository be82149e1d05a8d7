use Rattle.std.proofs.Common.{◌≡◌, arith, length}
use Rattle.graphs.proofs.Settled.{settled_order}
use Rattle.graphs.proofs.settle.settled.Goals as goal

pub returns-then-len-before : goal.returns-then-len-before
returns-then-len-before c =
    let t = c.if-len-before.true in let l = c.len.ensures in let k = c.len-before.ensures in
    let same : length c.pass.new.order.items ≡ length c.loop-round.order.items = omega (arith, t, l, k) in
    settled_order _ _ _ c.requires.range c.requires.free c.in_ok-pass.ensures.ordering (c.in_ok-pass.ensures.stuck same)
