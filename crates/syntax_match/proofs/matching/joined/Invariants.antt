use Rattle.std.proofs.Common.{◌≡◌, drop}
use Rattle.syntax_match.specs.Bits.{joined}
use Rattle.syntax_match.proofs.matching.joined.Given as goal

abbrev pub invariant-loop-i : goal.invariant-loop-i
invariant-loop-i l = joined l.shape.fields.items l.shape.value l.shape.template.items l.tokens ≡ joined l.shape.fields.items l.word (drop l.i l.shape.template.items) (drop l.i l.tokens)
