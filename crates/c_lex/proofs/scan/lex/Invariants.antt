-- the tokens so far stand in front, and the rest behind them
use Rattle.std.proofs.Common.{length}
use Rattle.c_lex.specs.Lexed.{c}
use Rattle.c_lex.proofs.Begun.{Begun}
use Rattle.c_lex.proofs.scan.lex.Given as goal

abbrev pub invariant-loop-behind : goal.invariant-loop-behind
invariant-loop-behind l = Begun c l.bytes l.list.items l.rest

abbrev pub decreases-loop-behind : goal.decreases-loop-behind
decreases-loop-behind l = length l.rest
