use Rattle.std.proofs.Common.{◌≡◌, drop}
use Rattle.nml_tree.specs.Block.{block}
use Rattle.nml_names.specs.Note.{noted}
use Rattle.nml_worth.specs.Around.{around}
use Rattle.nml_kinds.specs.Statements.{block_kinds, block_widths}
use Rattle.nml_kinds.proofs.statement.+statements.Given as goal

abbrev pub invariant-statements-loop-one : goal.invariant-statements-loop-one
invariant-statements-loop-one l = record {
  kind : noted l.found.kind (block_kinds (around l.s) (block (drop l.one-index l.stmts))) ≡ noted l.fn.found.kind (block_kinds (around l.s) (block l.stmts));
  width : noted l.found.width (block_widths (around l.s) (block (drop l.one-index l.stmts))) ≡ noted l.fn.found.width (block_widths (around l.s) (block l.stmts));
}
