use Rattle.std.proofs.Common.{sym, subst}
use Rattle.std.specs.Prelude.{IfSome}
use Rattle.shape_count.specs.Weights.{AreRight, IsBest}
use Rattle.shape_count.proofs.Bests.{put_right}
use Rattle.shape_count.proofs.size.settle.Goals as goal

pub returns-in_ok-insert-in-Some : goal.returns-in_ok-insert-in-Some
returns-in_ok-insert-in-Some c =
    let one = subst (λ o. IfSome o (IsBest c.args.names.now c.args.key)) c.in-Some.is c.in_ok-item_best.ensures in
    subst (AreRight c.args.names.now) (sym c.in_ok-insert-in-Some.ensures.entries) (put_right c.args.names.now c.args.known.now.entries c.args.key c.in-Some.best c.requires.right one)
