-- The comment ends here, or one byte more is passed over.
use Rattle.nml_lex.proofs.Cuts.{block_found, block_more}
use Rattle.c_lex.proofs.space.behind_block.Goals as goal

pub returns-in-Some : goal.returns-in-Some
returns-in-Some c = block_found c.args.bytes.now c.loop-behind.rest.now c.in-Some.behind.now c.loop-behind.invariant c.in-Some.ensures

pub loop-behind-preserved : goal.loop-behind-preserved
loop-behind-preserved c =
    block_more c.args.bytes.now c.loop-behind.rest.now c.in_ok-behind.field-0-0.now c.in_ok-behind.behind.now c.loop-behind.invariant c.in_ok-behind.ensures.cases.0 c.in_default.ensures
