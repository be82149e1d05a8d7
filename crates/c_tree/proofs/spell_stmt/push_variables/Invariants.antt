use Rattle.std.proofs.Common.{◌≡◌, ◌++◌, drop, map}
use Rattle.c_tree.specs.Statement.{variable}
use Rattle.c_tree.specs.Spell.{further_variables_spelling}
use Rattle.c_tree.specs.Ended.{ended}
use Rattle.c_tree.proofs.spell_stmt.push_variables.Given as goal

abbrev pub invariant-loop-one : goal.invariant-loop-one
invariant-loop-one l =
    l.text ++ ended (further_variables_spelling (map (λ (comma, v). (comma, variable v)) (drop l.one-index l.rest)))
    ≡ l.initial.text ++ ended (further_variables_spelling (map (λ (comma, v). (comma, variable v)) l.rest))
