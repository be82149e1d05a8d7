use Rattle.std.proofs.Common.{rules, ◌≡◌, ◌≤◌, length, List, Some, subst, sym}
use Rattle.std.specs.Prelude.{slice_get, MatchOption}
use Rattle.nml_shape.specs.declared.shape.Shape.{Shape}
use Rattle.syntax_parse.specs.Search.{AreComparable, AreNumbers, HasMatch, HasNone, HasNoneOf}
use Rattle.syntax_parse.proofs.Lined.{found_lined, are_numbers}
use Rattle.syntax_parse.proofs.Instances.{comparable, few_shapes, none_of_none}
use Rattle.syntax_parse.proofs.search.found.Goals as goal

pub returns-in_err-first : goal.returns-in_err-first
returns-in_err-first c = subst (λ o. MatchOption o (HasNone c.args.g.now.shapes c.args.tokens.now) (λ i. HasMatch c.args.g.now.shapes c.args.tokens.now i)) (sym c.from_residual.ensures) (none_of_none c.args.g.now c.is_whole.ensures c.args.tokens.now c.in_err-first.ensures.value)

pub found_among-requires-clause-comparable : goal.found_among-requires-clause-comparable
found_among-requires-clause-comparable c = subst AreComparable (sym c.shapes.ensures) (comparable c.args.g.now c.is_whole.ensures)

pub found_among-requires-clause-numbers : goal.found_among-requires-clause-numbers
found_among-requires-clause-numbers c =
    subst (λ (ss : List Shape). AreNumbers ss c.of_line.result.now) (sym c.shapes.ensures) (are_numbers c.args.g.now.shapes c.in_ok-first.first.now c.in-Ok.count c.of_line.result.now c.of_line.ensures)

pub found_in_all-requires-clause-comparable : goal.found_in_all-requires-clause-comparable
found_in_all-requires-clause-comparable c = subst AreComparable (sym c.shapes-in-Err.ensures) (comparable c.args.g.now c.is_whole.ensures)

pub found_in_all-requires-clause-few : goal.found_in_all-requires-clause-few
found_in_all-requires-clause-few c = subst (λ (ss : List Shape). length ss ≤ 4096) (sym c.shapes-in-Err.ensures) (few_shapes c.args.g.now c.is_whole.ensures)

pub returns-in-Ok : goal.returns-in-Ok
returns-in-Ok c =
    let at : slice_get c.args.tokens.now 0 ≡ Some c.in_ok-first.first.now = search rules in
    let many : c.in-Ok.count ≡ length c.args.tokens.now = search rules in
    found_lined c.args.g.now.shapes c.args.tokens.now c.in_ok-first.first.now at c.in-Ok.count c.of_line.result.now c.found_among.result many c.of_line.ensures
    (subst (λ (ss : List Shape). MatchOption c.found_among.result (HasNoneOf ss c.of_line.result.now c.args.tokens.now) (λ i. HasMatch ss c.args.tokens.now i)) c.shapes.ensures c.found_among.ensures)
