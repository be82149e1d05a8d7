use Rattle.std.proofs.Common.{◌≡◌, ◌++◌, drop}
use Rattle.c_tree.specs.Statement.{body}
use Rattle.c_tree.specs.Spell.{body_spelling}
use Rattle.c_tree.specs.Ended.{ended}
use Rattle.c_tree.proofs.spell_stmt.+statements.Given as goal

abbrev pub invariant-push_parts-loop-one : goal.invariant-push_parts-loop-one
invariant-push_parts-loop-one l = l.text ++ ended (body_spelling (body (drop l.one-index l.parts))) ≡ l.initial.text ++ ended (body_spelling (body l.parts))
