use Rattle.std.proofs.Common.{◌≡◌, ◌++◌, drop}
use Rattle.nml_tree.specs.Block.{block}
use Rattle.nml_tree.specs.Spell.{block_spelling}
use Rattle.nml_tree.specs.Ended.{ended}
use Rattle.nml_tree.proofs.spell_stmt.+statements.Given as goal

abbrev pub invariant-push_stmts-loop-one : goal.invariant-push_stmts-loop-one
invariant-push_stmts-loop-one l = l.text ++ ended (block_spelling (block (drop l.one-index l.stmts))) ≡ l.initial.text ++ ended (block_spelling (block l.stmts))
