use Rattle.std.proofs.Common.{◌≡◌, ◌++◌, drop, map}
use Rattle.c_tree.specs.Formula.{formula, further}
use Rattle.c_tree.specs.Spell.{further_spelling}
use Rattle.c_tree.specs.Ended.{ended}
use Rattle.c_tree.proofs.spell_expr.+expressions.Given as goal

abbrev pub invariant-push_further-loop-one : goal.invariant-push_further-loop-one
invariant-push_further-loop-one l =
    l.text ++ ended (further_spelling (further (map (λ (comma, y). (comma, formula y)) (drop l.one-index l.rest))))
    ≡ l.initial.text ++ ended (further_spelling (further (map (λ (comma, y). (comma, formula y)) l.rest)))
