use Rattle.std.proofs.Common.{map}
use Rattle.c_tree.specs.Formula.{formula, further}
use Rattle.c_tree.specs.Names.{callee}
use Rattle.c_tree.specs.Program.{More}
use Rattle.c_tree.specs.Resolve.{term, terms, invoked}
use Rattle.c_names.specs.Shown.{names}
use Rattle.c_flat.specs.Written.{OfCommand}
use Rattle.c_flat.proofs.Chained.{called_ok}
use Rattle.c_flat.proofs.simple.push_simple.Goals as goal

pub returns-in_ok-xs-in-Some : goal.returns-in_ok-xs-in-Some
returns-in_ok-xs-in-Some c =
    rw (c.in-Call.is, c.in-Some.is) (called_ok c.args.nodes.now.items _ _ _ (term (names c.args.scopes.now) (formula c.in-Some.first)) (terms (names c.args.scopes.now) (further (map (λ (comma, y). (comma, formula y)) c.in-Some.rest))) (λ x xs. OfCommand (invoked (callee (names c.args.scopes.now) c.in-Call.name.text) (More x xs))) c.in_ok-x-in-Some.x c.in_ok-xs-in-Some.xs c.push_invoked_with.result c.in_ok-x-in-Some.ensures (rw c.as_slice-others.ensures at c.in_ok-xs-in-Some.ensures) (rw c.callee-in-Some.ensures at c.push_invoked_with.ensures))
