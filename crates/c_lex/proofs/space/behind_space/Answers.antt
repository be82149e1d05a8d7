-- Each form of a space, or none.
use Rattle.std.proofs.Common.{sym, ◌∙◌}
use Rattle.nml_lex.proofs.Cuts.{line_behind, block_behind, blank_space, other_no_space}
use Rattle.c_lex.proofs.space.behind_space.Goals as goal

pub returns-in-Some : goal.returns-in-Some
returns-in-Some c = line_behind c.args.bytes.now c.in-Some.body.now c.behind_line.result c.in-Some.ensures c.behind_line.ensures

pub returns-in-Some-behind_prefix : goal.returns-in-Some-behind_prefix
returns-in-Some-behind_prefix c = block_behind c.args.bytes.now c.in-Some-behind_prefix.body.now c.behind_block.result c.in-Some-behind_prefix.ensures c.behind_block.ensures

pub returns-then-is_gap : goal.returns-then-is_gap
returns-then-is_gap c = blank_space c.args.bytes.now c.in_ok-first.first.now c.in_ok-first.rest.now c.in_ok-first.ensures.cases.0 (sym c.is_gap.ensures ∙ c.if-is_gap.true)

pub returns-else-is_gap : goal.returns-else-is_gap
returns-else-is_gap c =
    other_no_space c.args.bytes.now c.in_ok-first.first.now c.in_ok-first.rest.now c.in_ok-first.ensures.cases.0 (sym c.is_gap.ensures ∙ c.if-is_gap.false) c.in_default.ensures c.in_default-behind_prefix.ensures
