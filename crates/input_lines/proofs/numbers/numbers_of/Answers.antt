use Rattle.input_lines.proofs.Lines.{goes_on, fails_here}
use Rattle.input_lines.proofs.numbers.numbers_of.Goals as goal

pub returns-then-not-branch : goal.returns-then-not-branch
returns-then-not-branch c =
    fails_here c.args.ty c.args.text.now c.loop-rest.line c.loop-rest.rest c.in-Some.left c.loop-rest.numbers.items c.push_line.new.numbers.items
    c.first_line.result.0.now c.first_line.result.1 c.in-Some.is c.loop-rest.invariant c.first_line.ensures
    (rw c.if-not-branch.true at c.in_ok-push_line.ensures)

pub loop-rest-preserved : goal.loop-rest-preserved
loop-rest-preserved c =
    goes_on c.args.ty c.args.text.now c.loop-rest.line c.loop-rest.rest c.in-Some.left c.loop-rest.numbers.items c.push_line.new.numbers.items
    c.first_line.result.0.now c.first_line.result.1 c.in-Some.is c.loop-rest.invariant c.first_line.ensures
    (rw c.if-not-branch.false at c.in_ok-push_line.ensures)
