use Rattle.asm_source.proofs.Forming.{goes_on, fails_here}
use Rattle.asm_source.proofs.lines.read_lines.Goals as goal

pub returns-in-None : goal.returns-in-None
returns-in-None c =
    fails_here c.args.width c.args.text.now c.loop-rest.number c.loop-rest.rest c.in-Some.left c.loop-rest.lines.items
    c.first_line.result.0.now c.first_line.result.1 c.in-Some.is c.loop-rest.invariant c.first_line.ensures
    c.in_ok-read_line.field-0 c.in_ok-read_line.ensures c.in-None.is

pub loop-rest-preserved : goal.loop-rest-preserved
loop-rest-preserved c =
    goes_on c.args.width c.args.text.now c.loop-rest.number c.loop-rest.rest c.in-Some.left c.loop-rest.lines.items
    c.first_line.result.0.now c.first_line.result.1 c.in-Some.is c.loop-rest.invariant c.first_line.ensures
    c.in_ok-read_line.field-0 c.in-Some-2.line c.push.new.self.items c.in_ok-read_line.ensures c.in-Some-2.is c.in_ok-push-in-Some-2.ensures.items
