-- What is read is the reading's, step by step, and each stop is its stop.
use Rattle.std.proofs.Common.{◌∷◌, ◌∙◌, ◌+◌, ap, sym, map, refl, arith}
use Rattle.std.proofs.lemmas.List.{length-map}
use Rattle.c_tree.specs.Depth.{depth, further_depth}
use Rattle.c_tree.specs.Formula.{formula, Binary}
use Rattle.c_tree.proofs.FormulaLaws.{formula-Number, formula-Name, formula-Name_index, formula-Call, formula-Call_with, formula-Paren}
use Rattle.readings.specs.Reading.{Found, Stuck}
use Rattle.readings.specs.Seen.{seen}
use Rattle.c_expression.specs.Seen.{others_of}
use Rattle.readings.proofs.Saying.{goes_on, says_later, stops_here}
use Rattle.readings.proofs.Fronts.{comes_stuck}
use Rattle.c_expression.proofs.Turns.{found_as, numeral, word_says, begun_none, begun_small, begun_form, no_index, index_comes, index_says, no_call, some_call, no_argument, call_depth, no_turn, no_room, turn_comes, turn_stops, first_operand, operand_stops, joint_depth}
use Rattle.c_expression.proofs.Others.{gathers_first, not_longer, gathers_step, gathers_end, gathers_fails, others_depth}
use Rattle.std.proofs.lemmas.Result.{err_from_is_err_and}
use Rattle.c_expression.proofs.expression.+expressions.Goals as goal

pub begun-returns-in-None-clause-says : goal.begun-returns-in-None-clause-says
begun-returns-in-None-clause-says t c = (map seen c.args.here.now, length-map c.args.here.now seen, begun_none _ _ _ _ _ c.in-None.ensures)

pub begun-returns-then-room-le1-clause-says : goal.begun-returns-then-room-le1-clause-says
begun-returns-then-room-le1-clause-says t c = (
  map seen c.args.here.now,
  length-map c.args.here.now seen,
  begun_small _ _ _ _ _ c.in-Some.form c.in-Some.ensures c.if-room-le1.true,
)

pub begun-returns-else-room-le1-clause-says : goal.begun-returns-else-room-le1-clause-says
begun-returns-else-room-le1-clause-says t c =
    begun_form _ _ _ _ _ _ _ c.in-Some.form c.in-Some.ensures c.if-room-le1.false c.node.ensures.says

pub named-returns-in_default-clause-says : goal.named-returns-in_default-clause-says
named-returns-in_default-clause-says t c = no_index _ _ _ _ _ c.in_default.ensures.behind c.called.ensures.says

pub named-returns-in_err-index-clause-says : goal.named-returns-in_err-index-clause-says
named-returns-in_err-index-clause-says t c =
    index_says _ _ _ _ _ _ _ c.in-Some.ensures.behind c.if-room-le1.false
    (stops_here _ _ _ _ _ _ c.from_residual.ensures.1 c.in_err-index.ensures.says)

pub named-returns-in_err-closing-clause-says : goal.named-returns-in_err-closing-clause-says
named-returns-in_err-closing-clause-says t c =
    index_says _ _ _ _ _ _ _ c.in-Some.ensures.behind c.if-room-le1.false
    (says_later _ _ _ _ _ _ _ c.in_ok-index.ensures.says
    (stops_here _ _ _ _ _ _ c.from_residual-in_err-closing.ensures.1 c.in_err-closing.ensures.says))

pub named-returns-clause-says : goal.named-returns-clause-says
named-returns-clause-says t c =
    index_comes _ _ _ _ _ _ c.in-Some.ensures.behind c.if-room-le1.false
    (goes_on _ c.in_ok-index.ensures.says (goes_on _ c.in_ok-closing.ensures.says (found_as _ _ _ (formula-Name_index _ _ _ _))))

pub named-returns-clause-deep : goal.named-returns-clause-deep
named-returns-clause-deep t c = ap depth (formula-Name_index _ _ _ _) ∙ ap (λ d. 1 + d) c.in_ok-index.ensures.deep

pub called-returns-in_default-clause-says : goal.called-returns-in_default-clause-says
called-returns-in_default-clause-says t c = no_call _ _ _ _ c.in_default.ensures.behind (formula-Name _)

pub called-returns-in_default-clause-deep : goal.called-returns-in_default-clause-deep
called-returns-in_default-clause-deep t c = ap depth (formula-Name _)

pub called-returns-clause-says : goal.called-returns-clause-says
called-returns-clause-says t c = some_call _ _ _ _ _ _ _ c.in-Some.ensures.behind c.call.ensures.says

pub expression-returns-in_err-left-clause-says : goal.expression-returns-in_err-left-clause-says
expression-returns-in_err-left-clause-says t c = operand_stops _ _ _ _ _ _ c.from_residual.ensures.1 c.in_err-left.ensures.says

pub expression-loop-turn-init : goal.expression-loop-turn-init
expression-loop-turn-init t c = (
  λ a h. first_operand _ _ _ _ _ a c.in_ok-left.ensures.says h,
  c.in_ok-left.ensures.deep,
  c.in_ok-left.ensures.within.0,
  c.in_ok-left.ensures.within.1,
  c.in_ok-left.ensures.shorter,
)

pub expression-returns-then-room-deep-clause-says :
    goal.expression-returns-then-room-deep-clause-says
expression-returns-then-room-deep-clause-says t c = (
  map seen c.loop-turn.rest.now,
  length-map c.loop-turn.rest.now seen,
  c.loop-turn.invariant.0 (Stuck (map seen c.loop-turn.rest.now))
      (no_room _ _ _ _ _ _ _ c.in-Some.ensures.operator (omega (arith, c.if-room-deep.true, c.loop-turn.invariant.1))),
)

pub expression-returns-in_err-right-clause-says : goal.expression-returns-in_err-right-clause-says
expression-returns-in_err-right-clause-says t c =
    turn_stops _ _ _ _ _ c.args.level c.args.room (formula c.loop-turn.left)
    (map seen c.loop-turn.rest.now) _ _ _ _ c.loop-turn.invariant.0 c.in-Some.ensures.operator
    (omega (arith, c.if-room-deep.false, c.loop-turn.invariant.1))
    (omega (arith, c.in-Some.ensures.level)) c.from_residual-in_err-right.ensures.1 c.in_err-right.ensures.says

pub expression-loop-turn-preserved : goal.expression-loop-turn-preserved
expression-loop-turn-preserved t c =
    let j = c.joined-left.ensures ∙ ap (λ x. Binary c.in-Some.turn.op (formula x) c.in-Some.turn.at
    (formula c.in_ok-right.right)) c.in_ok-former.ensures in (
      λ a h. c.loop-turn.invariant.0 a (turn_comes c.args.level c.args.room (formula c.loop-turn.left) (formula c.in_ok-right.right)
          (formula c.joined-left.result) (map seen c.loop-turn.rest.now) _ _ _ _ _ a c.in-Some.ensures.operator
          (omega (arith, c.if-room-deep.false, c.loop-turn.invariant.1)) (omega (arith, c.in-Some.ensures.level)) j c.in_ok-right.ensures.says h),
      joint_depth _ _ _ _ _ _ _ _ j c.loop-turn.invariant.1 c.in_ok-right.ensures.deep c.max-deep.ensures,
      omega arith,
      omega (arith, c.max-deep.ensures, c.if-room-deep.false, c.in_ok-right.ensures.within.1),
      omega (arith, c.in_ok-right.ensures.shorter, c.in-Some.ensures.shorter, c.loop-turn.invariant.4),
    )

pub expression-returns-clause-says : goal.expression-returns-clause-says
expression-returns-clause-says t c =
    c.loop-turn.invariant.0 (Found (formula c.loop-turn.left) (map seen c.loop-turn.rest.now)) (no_turn _ _ _ _ c.in_default.ensures.operator)

pub operand-returns-in-Number-clause-says : goal.operand-returns-in-Number-clause-says
operand-returns-in-Number-clause-says t c =
    numeral _ _ _ _ _ _ (c.in-Some.ensures.cases.0 ∙ ap (λ x. x ∷ c.in-Some.rest.now) c.in-Number.is) (formula-Number _)

pub operand-returns-in-Number-clause-deep : goal.operand-returns-in-Number-clause-deep
operand-returns-in-Number-clause-deep t c = ap depth (formula-Number _)

pub operand-returns-in-Quoted-clause-says : goal.operand-returns-in-Quoted-clause-says
operand-returns-in-Quoted-clause-says t c =
    comes_stuck _ _ _ _ (c.in-Some.ensures.cases.0 ∙ ap (λ x. x ∷ c.in-Some.rest.now) c.in-Quoted.is) (λ n t. refl)

pub operand-returns-in-Fixed-clause-says : goal.operand-returns-in-Fixed-clause-says
operand-returns-in-Fixed-clause-says t c =
    word_says _ _ _ _ _ _ _ (c.in-Some.ensures.cases.0 ∙ ap (λ x. x ∷ c.in-Some.rest.now) c.in-Fixed.is) c.begun.ensures.says

pub paren-returns-in_err-closing-clause-says : goal.paren-returns-in_err-closing-clause-says
paren-returns-in_err-closing-clause-says t c =
    says_later _ _ _ _ _ _ _ c.in_ok-inner.ensures.says
    (stops_here _ _ _ _ _ _ c.from_residual-in_err-closing.ensures.1 c.in_err-closing.ensures.says)

pub paren-returns-clause-says : goal.paren-returns-clause-says
paren-returns-clause-says t c =
    goes_on _ c.in_ok-inner.ensures.says (goes_on _ c.in_ok-closing.ensures.says (found_as _ _ _ (formula-Paren _ _ _)))

pub paren-returns-clause-deep : goal.paren-returns-clause-deep
paren-returns-clause-deep t c = ap depth (formula-Paren _ _ _) ∙ ap (λ d. 1 + d) c.in_ok-inner.ensures.deep

pub call-returns-in-Some-clause-says : goal.call-returns-in-Some-clause-says
call-returns-in-Some-clause-says t c = no_argument _ _ _ _ _ _ _ c.in-Some.ensures.behind (formula-Call _ _ _)

pub call-returns-in-Some-clause-deep : goal.call-returns-in-Some-clause-deep
call-returns-in-Some-clause-deep t c = ap depth (formula-Call _ _ _)

pub arguments-returns-in_err-more-clause-says : goal.arguments-returns-in_err-more-clause-says
arguments-returns-in_err-more-clause-says t c =
    says_later _ _ _ _ _ _ _ c.in_ok-first.ensures.says
    (stops_here _ _ _ _ _ _ c.from_residual-in_err-more.ensures.1 c.in_err-more.ensures.says)

pub arguments-returns-in_err-closing-clause-says : goal.arguments-returns-in_err-closing-clause-says
arguments-returns-in_err-closing-clause-says t c =
    says_later _ _ _ _ _ _ _ c.in_ok-first.ensures.says (says_later _ _ _ _ _ _ _ c.in_ok-more.ensures.says
    (stops_here _ _ _ _ _ _ c.from_residual-in_err-closing.ensures.1 c.in_err-closing.ensures.says))

pub arguments-returns-clause-says : goal.arguments-returns-clause-says
arguments-returns-clause-says t c =
    goes_on _ c.in_ok-first.ensures.says (goes_on _ c.in_ok-more.ensures.says (goes_on _ c.in_ok-closing.ensures.says
    (found_as _ _ _ (formula-Call_with _ _ _ _ _))))

pub arguments-returns-clause-deep : goal.arguments-returns-clause-deep
arguments-returns-clause-deep t c =
    call_depth _ _ _ _ _ _ _ _ _ (formula-Call_with _ _ _ _ _) c.in_ok-first.ensures.deep c.in_ok-more.ensures.deep c.max.ensures

pub others-loop-comma-init : goal.others-loop-comma-init
others-loop-comma-init t c = (
  gathers_first _ _ _ _ c.new-found.ensures (ap (λ xs. map seen xs) c.split_at.ensures.back),
  ap (λ xs. further_depth (others_of xs)) c.new-found.ensures,
  omega arith,
  not_longer _ _ c.split_at.ensures.back,
)

pub others-loop-comma-preserved : goal.others-loop-comma-preserved
others-loop-comma-preserved t c = (
  gathers_step _ _ _ _ _ _ _ _ _ c.in_ok-push.ensures.ok c.loop-comma.invariant.0 (sym c.in-Some.ensures.behind) c.in_ok-argument.ensures.says,
  others_depth _ _ _ _ _ _ _ c.in_ok-push.ensures.ok c.loop-comma.invariant.1 c.in_ok-argument.ensures.deep c.deeper-deep.ensures,
  omega (arith, c.deeper-deep.ensures, c.loop-comma.invariant.2, c.in_ok-argument.ensures.within.1),
  omega (arith, c.loop-comma.invariant.3, c.in-Some.ensures.shorter, c.in_ok-argument.ensures.shorter),
)

pub others-returns-in_err-argument-clause-says : goal.others-returns-in_err-argument-clause-says
others-returns-in_err-argument-clause-says t c =
    let p = err_from_is_err_and c.from_residual.result c.from_residual.ensures.1 in
    rw (p.1, p.2) (gathers_fails _ _ _ _ _ _ _ c.loop-comma.invariant.0 (sym c.in-Some.ensures.behind) c.in_err-argument.ensures.says)

pub others-returns-clause-says : goal.others-returns-clause-says
others-returns-clause-says t c = gathers_end _ _ _ _ c.loop-comma.invariant.0 (sym c.in_default.ensures.behind)

pub others-returns-clause-deep : goal.others-returns-clause-deep
others-returns-clause-deep t c = c.loop-comma.invariant.1
