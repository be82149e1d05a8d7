use Rattle.std.proofs.Common.{map}
use Rattle.c_tree.specs.Formula.{formula, further}
use Rattle.c_tree.proofs.EndedLaws.{called_with}
use Rattle.c_tree.proofs.spell_stmt.push_simple.Goals as goal

pub returns-in_ok-push_further-in-Some : goal.returns-in_ok-push_further-in-Some
returns-in_ok-push_further-in-Some c =
    let whole = called_with c.in-Call.name c.in-Call.field-1 (formula c.in-Some.first) (further (map (λ (comma, y). (comma, formula y)) c.in-Some.rest)) c.in-Call.field-3 c.args.text.now _ _ _ _ c.in_ok-push_name-in-Some.ensures c.in_ok-push_word-in-Some.ensures c.in_ok-push_expr-in-Some.ensures (rw c.as_slice.ensures at c.in_ok-push_further-in-Some.ensures) in
    rw (c.in-Call.is, c.in-Some.is, ← whole) c.push_word-in-Some-2.ensures
