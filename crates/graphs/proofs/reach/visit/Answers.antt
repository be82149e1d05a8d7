use Rattle.std.proofs.Common.{◌∙◌, arith, sym}
use Rattle.graphs.proofs.Search.{name_below, name_edge, visiting_new, visiting_old, visited_all}
use Rattle.graphs.proofs.reach.visit.Goals as goal
use Rattle.graphs.proofs.reach.visit.Goals.{then-not-marked+in_ok-push, else-not-marked}

pub marked-requires : goal.marked-requires
marked-requires c =
    let b = name_below _ _ _ _ c.loop-i.i c.requires.range c.requires.within c.index-graph-x.is c.as_slice-names.ensures c.loop-i-test.true in
    let l = c.loop-i.invariant.search.long in omega (arith, b, l)

pub index_mut-requires : goal.index_mut-requires
index_mut-requires c =
    let b = name_below _ _ _ _ c.loop-i.i c.requires.range c.requires.within c.index-graph-x.is c.as_slice-names.ensures c.loop-i-test.true in
    let l = c.loop-i.invariant.search.long in omega (arith, b, l)

pub loop-i-preserved : goal.loop-i-preserved
loop-i-preserved c =
    let low = name_below _ _ _ _ c.loop-i.i c.requires.range c.requires.within c.index-graph-x.is c.as_slice-names.ensures c.loop-i-test.true in
    let edge = name_edge _ _ _ _ c.loop-i.i c.requires.within c.index-graph-x.is c.as_slice-names.ensures c.loop-i-test.true in
    elim c.if-not-marked.branch [
      | then-not-marked+in_ok-push w ↦ rw (w.marks-is, w.work-is, w.in_ok-push.ensures.items) (visiting_new _ _ _ _ _ _ _ _ c.loop-i.invariant low (c.requires.reached _ edge))
      | else-not-marked w ↦ rw (w.marks-is, w.work-is) (visiting_old _ _ _ _ _ _ _ _ c.loop-i.invariant (sym c.marked.ensures ∙ w.if-not-marked.false))
    ]

pub returns-clause-visited : goal.returns-clause-visited
returns-clause-visited c = visited_all _ _ _ _ _ _ c.loop-i.i c.requires.within c.index-graph-x.is c.as_slice-names.ensures c.loop-i.invariant.kept c.loop-i.invariant.done c.loop-i-test.false
