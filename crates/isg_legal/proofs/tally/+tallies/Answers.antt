use Rattle.std.proofs.Common.{◌≡◌, ◌+◌, ◌*◌, ◌≤◌, length, sym, ◌∙◌, subst, arith}
use Rattle.isg_legal.proofs.Highest.{asked, below_at, below_more, highest, highest_low, under_highest}
use Rattle.isg_legal.proofs.Sums.{no_reads, other_sought, read_once, read_sought, read_twice, sums_begin, sums_next}
use Rattle.isg_legal.proofs.tally.+tallies.Goals as goal
use Rattle.isg_nodes.specs.Written.{AllBelow, IsBelow, action, term}
use Rattle.isg_nodes.specs.declared.node.Node.TheVariants as node

pub all-loop-m-init : goal.all-loop-m-init
all-loop-m-init t c = sums_begin _ _ _ _ _ _

pub all-one-more-requires : goal.all-one-more-requires
all-one-more-requires t c =
    let is : asked c.args.whole.now c.args.sought + 2 * highest c.args.list.now + 1 ≡ t = c.decreases in
    let low = under_highest c.args.list.now c.loop-m.m-index c.loop-m-test.true in
    (rw (← is) (omega (arith, low)), (c.requires.falls, (below_at c.args.list.now (length c.args.nodes.now) c.loop-m.m-index c.loop-m-test.true c.requires.within, c.requires.whole)))

pub all-loop-m-preserved : goal.all-loop-m-preserved
all-loop-m-preserved t c = sums_next _ _ _ _ _ _ _ c.loop-m.sum c.one-more.result _ c.loop-m-test.true c.loop-m.invariant c.one-more.ensures c.together-sum.ensures

pub one-all-some-requires : goal.one-all-some-requires
one-all-some-requires t c =
    let is : asked c.args.whole.now c.args.sought + 2 * c.args.n + 2 ≡ t = c.decreases in
    let below : IsBelow (node.When c.in-When.c c.in-When.xs c.in-When.ys) c.args.n = subst (λ x. IsBelow x c.args.n) c.in-When.is c.node_at.ensures.below in
    let low : highest c.as_slice.result.now ≤ c.args.n = rw c.as_slice.ensures (highest_low c.in-When.xs c.args.n below.1.0) in
    let within : AllBelow c.as_slice.result.now (length c.args.nodes.now) = rw c.as_slice.ensures (below_more c.in-When.xs c.args.n (length c.args.nodes.now) (omega (arith, c.requires.within)) below.1.0) in
    (rw (← is) (omega (arith, low)), (c.requires.falls, (within, c.requires.whole)))

pub one-all-others-requires : goal.one-all-others-requires
one-all-others-requires t c =
    let is : asked c.args.whole.now c.args.sought + 2 * c.args.n + 2 ≡ t = c.decreases in
    let below : IsBelow (node.When c.in-When.c c.in-When.xs c.in-When.ys) c.args.n = subst (λ x. IsBelow x c.args.n) c.in-When.is c.node_at.ensures.below in
    let low : highest c.as_slice-in-When.result.now ≤ c.args.n = rw c.as_slice-in-When.ensures (highest_low c.in-When.ys c.args.n below.1.1) in
    let within : AllBelow c.as_slice-in-When.result.now (length c.args.nodes.now) = rw c.as_slice-in-When.ensures (below_more c.in-When.ys c.args.n (length c.args.nodes.now) (omega (arith, c.requires.within)) below.1.1) in
    (rw (← is) (omega (arith, low)), (c.requires.falls, (within, c.requires.whole)))

pub taken-returns-then-count-eq0 : goal.taken-returns-then-count-eq0
taken-returns-then-count-eq0 t c = λ fit. no_reads c.args.put_in c.args.fields.now (action c.args.nodes.now c.args.whole.now) (term c.args.nodes.now c.args.n) c.args.sought c.reads-count.result c.reads-count.ensures c.if-count-eq0.true

pub taken-returns-then-times-le1 : goal.taken-returns-then-times-le1
taken-returns-then-times-le1 t c = λ fit. read_once c.args.put_in c.args.fields.now (action c.args.nodes.now c.args.whole.now) (term c.args.nodes.now c.args.n) c.args.sought c.all-times.result c.in-None.is (c.all-times.ensures fit fit) c.if-times-le1.true

pub taken-returns-else-times-le1 : goal.taken-returns-else-times-le1
taken-returns-else-times-le1 t c = λ fit.
    read_twice c.args.put_in c.args.fields.now (action c.args.nodes.now c.args.whole.now) (term c.args.nodes.now c.args.n) c.args.sought c.all-times.result c.reads-count.result c.in-None.is (c.all-times.ensures fit fit) (omega (arith, c.if-times-le1.false)) c.reads-count.ensures

pub taken-returns-then-meets : goal.taken-returns-then-meets
taken-returns-then-meets t c = λ fit. read_sought c.args.put_in c.args.fields.now (action c.args.nodes.now c.args.whole.now) (term c.args.nodes.now c.args.n) c.args.sought c.in-Some.first c.reads.result c.in-Some.is (sym c.meets.ensures ∙ c.if-meets.true) c.reads.ensures

pub taken-returns-else-meets : goal.taken-returns-else-meets
taken-returns-else-meets t c = λ fit. other_sought c.args.put_in c.args.fields.now (action c.args.nodes.now c.args.whole.now) (term c.args.nodes.now c.args.n) c.args.sought c.in-Some.first c.in-Some.is (sym c.meets.ensures ∙ c.if-meets.false)
