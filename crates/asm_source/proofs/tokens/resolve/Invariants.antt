use Rattle.std.proofs.Common.{◌≡◌, ◌++◌, drop}
use Rattle.std.specs.Prelude.{flat_map}
use Rattle.asm_source.specs.Resolved.{pieces_at, pieces_of}
use Rattle.asm_source.proofs.tokens.resolve.Given as goal

abbrev pub invariant-loop-reference : goal.invariant-loop-reference
invariant-loop-reference l = l.pieces.items ++ flat_map (pieces_at l.labels) (drop l.reference-index l.tokens.references.items) ≡ pieces_of l.labels l.tokens
