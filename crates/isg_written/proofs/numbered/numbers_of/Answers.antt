use Rattle.std.proofs.Common.{◌≡◌, ◌+◌, ◌++◌, ◌∷◌, [], sym, subst}
use Rattle.isg_written.proofs.Numbering.{Numbering, numbering_more, numbering_all}
use Rattle.isg_written.proofs.numbered.numbers_of.Goals as goal

pub loop-i-preserved : goal.loop-i-preserved
loop-i-preserved c =
    subst (λ xs. Numbering c.args.items.now (c.loop-i.i + 1) xs c.in_ok-counts.counts) (sym c.in_ok-push.ensures.items)
    (numbering_more _ c.loop-i.i _ c.loop-i.counts c.in_ok-counts.counts c.index-items-i.result c.number_of.result c.loop-i.invariant c.loop-i-test.true c.index-items-i.is (λ t h. c.number_of.ensures t h) (λ t h. c.in_ok-counts.ensures t h))
