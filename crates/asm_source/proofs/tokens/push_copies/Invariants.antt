use Rattle.std.proofs.Common.{◌≡◌, ◌++◌, drop}
use Rattle.asm_source.proofs.tokens.push_copies.Given as goal

abbrev pub invariant-loop-piece : goal.invariant-loop-piece
invariant-loop-piece l = l.pieces.items ++ drop l.piece-index l.more ≡ l.fn.pieces.items ++ l.more
