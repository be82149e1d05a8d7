use Rattle.std.proofs.Common.{◌≡◌, ◌++◌, map, length}
use Rattle.nml_line.specs.Pushed.{HasShortNumbers}
use Rattle.nml_shape.specs.Shown.{token_of}
use Rattle.nml_tree.specs.LineToken.{line_tokens}
use Rattle.nml_tree.specs.Outline.{Written}
use Rattle.nml_line.proofs.line.push_tokens.Given as goal

abbrev pub invariant-loop-c : goal.invariant-loop-c
invariant-loop-c l =
    (map token_of l.tokens.items ++ map Written (line_tokens l.rest) ≡ map token_of l.fn.tokens.items ++ map Written (line_tokens l.fn.text))
    × HasShortNumbers l.rest

abbrev pub decreases-loop-c : goal.decreases-loop-c
decreases-loop-c l = length l.rest
