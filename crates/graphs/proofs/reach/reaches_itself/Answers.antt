use Rattle.std.proofs.Common.{◌∙◌, ◌<◌, arith, sym, length}
use Rattle.graphs.specs.Graphs.{at_once}
use Rattle.graphs.proofs.Search.{get_among, reaches_further, below, reached_marked}
use Rattle.graphs.proofs.reach.reaches_itself.Goals as goal
use Rattle.graphs.proofs.reach.reaches_itself.Goals.{else-loop-i-test, then-loop-i-test+then-i-len}

pub visit-requires-clause-reached : goal.visit-requires-clause-reached
visit-requires-clause-reached c = λ b e. at_once e

pub visit-requires-in-loop-i-clause-within : goal.visit-requires-in-loop-i-clause-within
visit-requires-in-loop-i-clause-within c =
    let t = c.if-i-len.false in let l = c.len.ensures in
    let low : c.loop-i.i < length c.loop-i.work.items = omega arith in
    rw c.item-next.ensures (below _ _ _ c.requires.range (c.loop-i.invariant.search.reached _ (get_among _ c.loop-i.i low)))

pub visit-requires-in-loop-i-clause-reached : goal.visit-requires-in-loop-i-clause-reached
visit-requires-in-loop-i-clause-reached c =
    let t = c.if-i-len.false in let l = c.len.ensures in
    let low : c.loop-i.i < length c.loop-i.work.items = omega arith in
    rw c.item-next.ensures (λ b e. reaches_further _ _ _ b (c.loop-i.invariant.search.reached _ (get_among _ c.loop-i.i low)) e)

pub returns : goal.returns
returns c = let s = c.loop-i.invariant.search in (
  λ yes. s.reached _ (s.listed _ (sym c.marked.ensures ∙ yes)),
  λ r. c.marked.ensures ∙ reached_marked _ _ _ _ c.loop-i.i s c.loop-i.invariant.first c.loop-i.invariant.done (elim c.loop-i-test.branch [ else-loop-i-test w ↦ (let t = w.loop-i-test.false in let k = c.loop-i.work.small in let o = c.loop-i.work.ok in omega arith) | then-loop-i-test+then-i-len w ↦ (let t = w.if-i-len.true in let l = w.len.ensures in omega arith) ]) _ r,
)
