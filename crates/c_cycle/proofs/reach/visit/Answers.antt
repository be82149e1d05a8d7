use Rattle.std.proofs.Common.{◌∙◌, ◌<◌, arith, sym, get_or, length}
use Rattle.c_cycle.proofs.Searches.{name_edge, visiting_new, visiting_old, visited_all}
use Rattle.c_cycle.proofs.reach.visit.Goals as goal
use Rattle.c_cycle.proofs.reach.visit.Goals.{then-name-len+then-not-marked+in_ok-push, else-name-len, else-name-len-via-then-name-len+else-not-marked, else-name-len-via-else-name-len}

pub loop-i-preserved : goal.loop-i-preserved
loop-i-preserved c =
    let edge = name_edge _ _ _ _ c.loop-i.i c.requires.within c.index-graph-x.is c.as_slice-names.ensures c.loop-i-test.true in
    elim c.if-name-len.branch [
      | then-name-len+then-not-marked+in_ok-push w ↦ (let t = w.if-name-len.true in let l = c.len.ensures in let m = c.loop-i.invariant.search.long in
          let low : get_or c.as_slice-names.result.now c.loop-i.i 0 < length c.args.graph.now = omega arith in
          rw (w.marks-is, w.work-is, w.in_ok-push.ensures.items) (visiting_new _ _ _ _ _ _ _ _ c.loop-i.invariant low (c.requires.reached _ edge)))
      | else-name-len w ↦ rw (w.marks-is, w.work-is) (visiting_old _ _ _ _ _ _ _ _ c.loop-i.invariant (elim w.else-name-len.branch [
        | else-name-len-via-then-name-len+else-not-marked v ↦ (λ h. sym v.marked.ensures ∙ v.if-not-marked.false)
        | else-name-len-via-else-name-len v ↦ (λ h. absurd (let t = v.if-name-len.false in let l = c.len.ensures in let m = c.loop-i.invariant.search.long in omega arith))
      ]))
    ]

pub returns-clause-visited : goal.returns-clause-visited
returns-clause-visited c = visited_all _ _ _ _ _ _ c.loop-i.i c.requires.within c.index-graph-x.is c.as_slice-names.ensures c.loop-i.invariant.kept c.loop-i.invariant.done c.loop-i-test.false
