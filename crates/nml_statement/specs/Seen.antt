-- Readings of expressions and statements that are at most so deep.
use Rattle.std.specs.Prelude.{ℕ}
use Rattle.nml_tree.specs.Formula.{Formula}
use Rattle.nml_tree.specs.Block.{Block}
use Rattle.nml_grammar.specs.Reading.{climb}
use Rattle.nml_grammar.specs.ReadingStatements.{statements}
use Rattle.readings.specs.Readings.{Reading}

-- an expression of any level that is at most so deep
abbrev pub expression_of : ℕ → Reading Formula
expression_of room n ss = climb n 0 room ss

-- statements each of which is at most so deep
abbrev pub block_of : ℕ → Reading Block
block_of room n ss = statements n room ss
