use Rattle.shape_table.specs.declared.common.Common.TheVariants as common
use Rattle.shape_table.specs.Label.{AreLabels}
use Rattle.shape_table.proofs.pair.first_syntax_pair.Given as goal

abbrev pub invariant-loop-place : goal.invariant-loop-place
invariant-loop-place l = AreLabels common.Syntax l.shapes l.labels.items
