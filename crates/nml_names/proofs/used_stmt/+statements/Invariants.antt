use Rattle.std.proofs.Common.{◌≡◌, drop}
use Rattle.nml_tree.specs.Block.{block}
use Rattle.nml_tree.specs.Uses.{in_block}
use Rattle.nml_names.specs.Found.{met, is_found}
use Rattle.nml_names.proofs.used_stmt.+statements.Given as goal

abbrev pub invariant-statements-loop-one : goal.invariant-statements-loop-one
invariant-statements-loop-one l = met (is_found l.s) l.found (in_block (block (drop l.one-index l.stmts))) ≡ met (is_found l.s) l.fn.found (in_block (block l.stmts))
