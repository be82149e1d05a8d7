use Rattle.std.proofs.Common.{rules, ◌≤◌, length}
use Rattle.isg_graph.proofs.Gathered.{got}
use Rattle.syntax_parse.proofs.Passed.{passed_none, passed_more, passed_all}
use Rattle.syntax_parse.proofs.search.found_among.Goals as goal

pub loop-number-init : goal.loop-number-init
loop-number-init c = passed_none _ _ _

pub matched_at-requires-clause-exists : goal.matched_at-requires-clause-exists
matched_at-requires-clause-exists c = c.requires.numbers c.loop-number.number-index _ (got _ _ 0 c.loop-number-test.true)

pub loop-number-preserved : goal.loop-number-preserved
loop-number-preserved c = passed_more _ _ _ c.loop-number.number-index _ (got _ _ 0 c.loop-number-test.true) c.in_default.ensures c.loop-number.invariant

pub returns-in-Some : goal.returns-in-Some
returns-in-Some c = c.in-Some.ensures

pub returns : goal.returns
returns c =
    let end : length c.args.numbers.now ≤ c.loop-number.number-index = search rules in
    passed_all _ _ _ _ end c.loop-number.invariant
