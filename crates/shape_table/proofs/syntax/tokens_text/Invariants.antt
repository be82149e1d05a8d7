use Rattle.std.proofs.Common.{◌≡◌, ◌++◌, drop, map}
use Rattle.nml_tree.specs.Joined.{each_spaced}
use Rattle.nml_tree.specs.Outline.{with_numbers}
use Rattle.nml_tree.specs.Same as spec
use Rattle.nml_shape.specs.Common.{filled}
use Rattle.nml_shape.specs.Shown.{token_of}
use Rattle.shape_table.proofs.syntax.tokens_text.Given as goal

abbrev pub invariant-loop-piece : goal.invariant-loop-piece
invariant-loop-piece l = spec.tokens_text (filled l.shape l.numbers) ≡ l.text ++ each_spaced (map spec.token_text (map (with_numbers l.numbers) (map token_of (drop l.piece-index l.more))))
