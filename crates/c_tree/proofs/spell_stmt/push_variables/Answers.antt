use Rattle.std.proofs.Common.{refl, map}
use Rattle.c_tree.specs.Statement.{variable}
use Rattle.c_tree.specs.Spell.{variable_spelling, further_variables_spelling}
use Rattle.c_tree.proofs.EndedLaws.{loop_comma}
use Rattle.c_tree.proofs.spell_stmt.push_variables.Goals as goal

pub loop-one-preserved : goal.loop-one-preserved
loop-one-preserved c = loop_comma (λ v. variable_spelling (variable v)) (λ ys. further_variables_spelling (map (λ (comma, v). (comma, variable v)) ys)) (λ x xs. refl) c.args.rest.now c.loop-one.one-index c.loop-one-item.result c.loop-one.text _ _ _ c.loop-one-test.true c.loop-one-item.is c.loop-one.invariant c.in_ok-push_word.ensures c.in_ok-push_variable.ensures
