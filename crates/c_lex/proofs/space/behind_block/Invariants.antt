-- the bytes begin with a comment's text as the rest does
use Rattle.std.proofs.Common.{length}
use Rattle.nml_lex.specs.Form.{is_shut}
use Rattle.nml_lex.proofs.Cuts.{Narrows}
use Rattle.c_lex.proofs.space.behind_block.Given as goal

abbrev pub invariant-loop-behind : goal.invariant-loop-behind
invariant-loop-behind l = Narrows is_shut l.bytes l.rest

abbrev pub decreases-loop-behind : goal.decreases-loop-behind
decreases-loop-behind l = length l.rest
