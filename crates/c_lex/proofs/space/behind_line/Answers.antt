-- The line ends here, or one byte more is passed over.
use Rattle.std.proofs.Common.{eq-eqb, ne_eqb}
use Rattle.nml_lex.proofs.Cuts.{line_found, line_more}
use Rattle.c_lex.proofs.space.behind_line.Goals as goal

pub returns-then-first-eq10 : goal.returns-then-first-eq10
returns-then-first-eq10 c =
    line_found c.args.bytes.now c.loop-first.rest.now c.in-Some.first.now c.in-Some.behind.now c.loop-first.invariant c.in-Some.ensures.cases.0 (eq-eqb c.in-Some.first.now 10 c.if-first-eq10.true)

pub loop-first-preserved : goal.loop-first-preserved
loop-first-preserved c =
    line_more c.args.bytes.now c.loop-first.rest.now c.in-Some.first.now c.in-Some.behind.now c.loop-first.invariant c.in-Some.ensures.cases.0 (ne_eqb c.in-Some.first.now 10 c.if-first-eq10.false)
