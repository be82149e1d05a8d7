use Rattle.std.proofs.Common.{rules, ◌≤◌, length}
use Rattle.syntax_parse.proofs.Passed.{below_none, below_more, below_all}
use Rattle.syntax_parse.proofs.search.found_in_all.Goals as goal

pub loop-number-init : goal.loop-number-init
loop-number-init c = below_none _ _

pub loop-number-preserved : goal.loop-number-preserved
loop-number-preserved c = below_more _ _ c.loop-number.number c.in_default.ensures c.loop-number.invariant

pub returns-in-Some : goal.returns-in-Some
returns-in-Some c = c.in-Some.ensures

pub returns : goal.returns
returns c =
    let end : length c.args.shapes.now ≤ c.loop-number.number = search rules in
    below_all _ _ _ end c.loop-number.invariant
