-- What is read is the reading's, step by step, and each stop is its stop.
use Rattle.std.proofs.Common.{◌∷◌, ◌∙◌, ◌+◌, ap, sym, map, refl, arith}
use Rattle.std.proofs.lemmas.List.{length-map}
use Rattle.std.specs.Prelude.{Some}
use Rattle.nml_tree.specs.Depth.{depth}
use Rattle.nml_tree.specs.Formula.{formula, Binary}
use Rattle.nml_tree.proofs.FormulaLaws.{formula-Number, formula-Name, formula-Name_indexed, formula-Paren, formula-Bits, formula-If}
use Rattle.readings.specs.Reading.{Found, Stuck}
use Rattle.readings.specs.Seen.{seen}
use Rattle.nml_statement.specs.Forms.{beginning_of}
use Rattle.readings.proofs.Saying.{goes_on, says_later, stops_here}
use Rattle.readings.proofs.Fronts.{comes_stuck}
use Rattle.nml_statement.proofs.Turns.{found_as, numeral, word_says, begun_none, begun_small, begun_form, no_index, index_comes, index_says, choice_depth, no_turn, no_room, turn_comes, turn_stops, first_operand, operand_stops, joint_depth}
use Rattle.nml_statement.proofs.expression.+expressions.Goals as goal

pub begun-returns-in-None-clause-says : goal.begun-returns-in-None-clause-says
begun-returns-in-None-clause-says t c = (map seen c.args.here.now, length-map c.args.here.now seen, begun_none _ _ _ _ _ c.in-None.ensures)

pub begun-returns-then-room-le1-clause-says : goal.begun-returns-then-room-le1-clause-says
begun-returns-then-room-le1-clause-says t c = (
  map seen c.args.here.now,
  length-map c.args.here.now seen,
  begun_small _ _ _ _ _ c.in-Some-Node.form
      (sym (ap (λ b. Some (beginning_of b)) c.in-Some-Node.field-0-is) ∙ c.in-Some-Node.ensures) c.if-room-le1.true,
)

pub begun-returns-else-room-le1-clause-says : goal.begun-returns-else-room-le1-clause-says
begun-returns-else-room-le1-clause-says t c =
    begun_form _ _ _ _ _ _ _ c.in-Some-Node.form (sym (ap (λ b. Some (beginning_of b)) c.in-Some-Node.field-0-is)
    ∙ c.in-Some-Node.ensures) c.if-room-le1.false c.node.ensures.says

pub choice-returns-in_err-then_at-clause-says : goal.choice-returns-in_err-then_at-clause-says
choice-returns-in_err-then_at-clause-says t c =
    says_later _ _ _ _ _ _ _ c.in_ok-condition.ensures.says
    (stops_here _ _ _ _ _ _ c.from_residual-in_err-then_at.ensures.1 c.in_err-then_at.ensures.says)

pub choice-returns-in_err-chosen-clause-says : goal.choice-returns-in_err-chosen-clause-says
choice-returns-in_err-chosen-clause-says t c =
    says_later _ _ _ _ _ _ _ c.in_ok-condition.ensures.says (says_later _ _ _ _ _ _ _ c.in_ok-then_at.ensures.says
    (stops_here _ _ _ _ _ _ c.from_residual-in_err-chosen.ensures.1 c.in_err-chosen.ensures.says))

pub choice-returns-in_err-else_at-clause-says : goal.choice-returns-in_err-else_at-clause-says
choice-returns-in_err-else_at-clause-says t c =
    says_later _ _ _ _ _ _ _ c.in_ok-condition.ensures.says (says_later _ _ _ _ _ _ _ c.in_ok-then_at.ensures.says
    (says_later _ _ _ _ _ _ _ c.in_ok-chosen.ensures.says
    (stops_here _ _ _ _ _ _ c.from_residual-in_err-else_at.ensures.1 c.in_err-else_at.ensures.says)))

pub choice-returns-in_err-other-clause-says : goal.choice-returns-in_err-other-clause-says
choice-returns-in_err-other-clause-says t c =
    says_later _ _ _ _ _ _ _ c.in_ok-condition.ensures.says (says_later _ _ _ _ _ _ _ c.in_ok-then_at.ensures.says
    (says_later _ _ _ _ _ _ _ c.in_ok-chosen.ensures.says
    (says_later _ _ _ _ _ _ _ c.in_ok-else_at.ensures.says
    (stops_here _ _ _ _ _ _ c.from_residual-in_err-other.ensures.1 c.in_err-other.ensures.says))))

pub choice-returns-in_err-end_at-clause-says : goal.choice-returns-in_err-end_at-clause-says
choice-returns-in_err-end_at-clause-says t c =
    says_later _ _ _ _ _ _ _ c.in_ok-condition.ensures.says (says_later _ _ _ _ _ _ _ c.in_ok-then_at.ensures.says
    (says_later _ _ _ _ _ _ _ c.in_ok-chosen.ensures.says
    (says_later _ _ _ _ _ _ _ c.in_ok-else_at.ensures.says (says_later _ _ _ _ _ _ _ c.in_ok-other.ensures.says
    (stops_here _ _ _ _ _ _ c.from_residual-in_err-end_at.ensures.1 c.in_err-end_at.ensures.says)))))

pub choice-returns-clause-says : goal.choice-returns-clause-says
choice-returns-clause-says t c =
    goes_on _ c.in_ok-condition.ensures.says (goes_on _ c.in_ok-then_at.ensures.says (goes_on _ c.in_ok-chosen.ensures.says
    (goes_on _ c.in_ok-else_at.ensures.says (goes_on _ c.in_ok-other.ensures.says (goes_on _ c.in_ok-end_at.ensures.says
    (found_as _ _ _ (formula-If _ _ _ _ _ _ _)))))))

pub choice-returns-clause-deep : goal.choice-returns-clause-deep
choice-returns-clause-deep t c =
    choice_depth _ _ _ _ _ _ _ _ _ _ _ _ _ (formula-If _ _ _ _ _ _ _) c.in_ok-condition.ensures.deep
    c.in_ok-chosen.ensures.deep c.in_ok-other.ensures.deep c.max.ensures c.max-2.ensures

pub expression-returns-in_err-left-clause-says : goal.expression-returns-in_err-left-clause-says
expression-returns-in_err-left-clause-says t c = operand_stops _ _ _ _ _ _ c.from_residual.ensures.1 c.in_err-left.ensures.says

pub expression-loop-turn-init : goal.expression-loop-turn-init
expression-loop-turn-init t c = (
  λ a h. first_operand _ _ _ _ _ a c.in_ok-left.ensures.says h,
  c.in_ok-left.ensures.deep,
  c.in_ok-left.ensures.within.0,
  c.in_ok-left.ensures.within.1,
  c.in_ok-left.ensures.shorter,
)

pub expression-returns-then-room-deep-clause-says :
    goal.expression-returns-then-room-deep-clause-says
expression-returns-then-room-deep-clause-says t c = (
  map seen c.loop-turn.rest.now,
  length-map c.loop-turn.rest.now seen,
  c.loop-turn.invariant.0 (Stuck (map seen c.loop-turn.rest.now))
      (no_room _ _ _ _ _ _ _ c.in-Some.ensures.operator (omega (arith, c.if-room-deep.true, c.loop-turn.invariant.1))),
)

pub expression-returns-in_err-right-clause-says : goal.expression-returns-in_err-right-clause-says
expression-returns-in_err-right-clause-says t c =
    turn_stops _ _ _ _ _ c.args.level c.args.room (formula c.loop-turn.left)
    (map seen c.loop-turn.rest.now) _ _ _ _ c.loop-turn.invariant.0 c.in-Some.ensures.operator
    (omega (arith, c.if-room-deep.false, c.loop-turn.invariant.1))
    (omega (arith, c.in-Some.ensures.level)) c.from_residual-in_err-right.ensures.1 c.in_err-right.ensures.says

pub expression-loop-turn-preserved : goal.expression-loop-turn-preserved
expression-loop-turn-preserved t c =
    let j = c.joined-left.ensures ∙ ap (λ x. Binary c.in-Some.turn.op (formula x) c.in-Some.turn.at
    (formula c.in_ok-right.right)) c.in_ok-former.ensures in (
      λ a h. c.loop-turn.invariant.0 a (turn_comes c.args.level c.args.room (formula c.loop-turn.left) (formula c.in_ok-right.right)
          (formula c.joined-left.result) (map seen c.loop-turn.rest.now) _ _ _ _ _ a c.in-Some.ensures.operator
          (omega (arith, c.if-room-deep.false, c.loop-turn.invariant.1)) (omega (arith, c.in-Some.ensures.level)) j c.in_ok-right.ensures.says h),
      joint_depth _ _ _ _ _ _ _ _ j c.loop-turn.invariant.1 c.in_ok-right.ensures.deep c.max-deep.ensures,
      omega arith,
      omega (arith, c.max-deep.ensures, c.if-room-deep.false, c.in_ok-right.ensures.within.1),
      omega (arith, c.in_ok-right.ensures.shorter, c.in-Some.ensures.shorter, c.loop-turn.invariant.4),
    )

pub expression-returns-clause-says : goal.expression-returns-clause-says
expression-returns-clause-says t c =
    c.loop-turn.invariant.0 (Found (formula c.loop-turn.left) (map seen c.loop-turn.rest.now)) (no_turn _ _ _ _ c.in_default.ensures.operator)

pub fitted-returns-in_err-size-clause-says : goal.fitted-returns-in_err-size-clause-says
fitted-returns-in_err-size-clause-says t c =
    says_later _ _ _ _ _ _ _ c.in_ok-opening.ensures.says
    (stops_here _ _ _ _ _ _ c.from_residual-in_err-size.ensures.1 c.in_err-size.ensures.says)

pub fitted-returns-in_err-comma-clause-says : goal.fitted-returns-in_err-comma-clause-says
fitted-returns-in_err-comma-clause-says t c =
    says_later _ _ _ _ _ _ _ c.in_ok-opening.ensures.says (says_later _ _ _ _ _ _ _ c.in_ok-size.ensures.says
    (stops_here _ _ _ _ _ _ c.from_residual-in_err-comma.ensures.1 c.in_err-comma.ensures.says))

pub fitted-returns-in_err-inner-clause-says : goal.fitted-returns-in_err-inner-clause-says
fitted-returns-in_err-inner-clause-says t c =
    says_later _ _ _ _ _ _ _ c.in_ok-opening.ensures.says (says_later _ _ _ _ _ _ _ c.in_ok-size.ensures.says
    (says_later _ _ _ _ _ _ _ c.in_ok-comma.ensures.says
    (stops_here _ _ _ _ _ _ c.from_residual-in_err-inner.ensures.1 c.in_err-inner.ensures.says)))

pub fitted-returns-in_err-closing-clause-says : goal.fitted-returns-in_err-closing-clause-says
fitted-returns-in_err-closing-clause-says t c =
    says_later _ _ _ _ _ _ _ c.in_ok-opening.ensures.says (says_later _ _ _ _ _ _ _ c.in_ok-size.ensures.says
    (says_later _ _ _ _ _ _ _ c.in_ok-comma.ensures.says
    (says_later _ _ _ _ _ _ _ c.in_ok-inner.ensures.says
    (stops_here _ _ _ _ _ _ c.from_residual-in_err-closing.ensures.1 c.in_err-closing.ensures.says))))

pub fitted-returns-clause-says : goal.fitted-returns-clause-says
fitted-returns-clause-says t c =
    goes_on _ c.in_ok-opening.ensures.says (goes_on _ c.in_ok-size.ensures.says (goes_on _ c.in_ok-comma.ensures.says
    (goes_on _ c.in_ok-inner.ensures.says (goes_on _ c.in_ok-closing.ensures.says (found_as _ _ _ c.fitting.ensures)))))

pub indexed-returns-in_default-clause-says : goal.indexed-returns-in_default-clause-says
indexed-returns-in_default-clause-says t c = no_index _ _ _ _ c.in_default.ensures.behind (formula-Name _)

pub indexed-returns-in_default-clause-deep : goal.indexed-returns-in_default-clause-deep
indexed-returns-in_default-clause-deep t c = ap depth (formula-Name _)

pub indexed-returns-in_err-index-clause-says : goal.indexed-returns-in_err-index-clause-says
indexed-returns-in_err-index-clause-says t c =
    index_says _ _ _ _ _ _ _ c.in-Some.ensures.behind c.if-room-le1.false
    (stops_here _ _ _ _ _ _ c.from_residual.ensures.1 c.in_err-index.ensures.says)

pub indexed-returns-in_err-closing-clause-says : goal.indexed-returns-in_err-closing-clause-says
indexed-returns-in_err-closing-clause-says t c =
    index_says _ _ _ _ _ _ _ c.in-Some.ensures.behind c.if-room-le1.false
    (says_later _ _ _ _ _ _ _ c.in_ok-index.ensures.says
    (stops_here _ _ _ _ _ _ c.from_residual-in_err-closing.ensures.1 c.in_err-closing.ensures.says))

pub indexed-returns-clause-says : goal.indexed-returns-clause-says
indexed-returns-clause-says t c =
    index_comes _ _ _ _ _ _ c.in-Some.ensures.behind c.if-room-le1.false
    (goes_on _ c.in_ok-index.ensures.says (goes_on _ c.in_ok-closing.ensures.says (found_as _ _ _ (formula-Name_indexed _ _ _ _))))

pub indexed-returns-clause-deep : goal.indexed-returns-clause-deep
indexed-returns-clause-deep t c = ap depth (formula-Name_indexed _ _ _ _) ∙ ap (λ d. 1 + d) c.in_ok-index.ensures.deep

pub operand-returns-in-Number-clause-says : goal.operand-returns-in-Number-clause-says
operand-returns-in-Number-clause-says t c =
    numeral _ _ _ _ _ _ (c.in-Some.ensures.cases.0 ∙ ap (λ x. x ∷ c.in-Some.rest.now) c.in-Number.is) (formula-Number _)

pub operand-returns-in-Number-clause-deep : goal.operand-returns-in-Number-clause-deep
operand-returns-in-Number-clause-deep t c = ap depth (formula-Number _)

pub operand-returns-in-Quoted-clause-says : goal.operand-returns-in-Quoted-clause-says
operand-returns-in-Quoted-clause-says t c =
    comes_stuck _ _ _ _ (c.in-Some.ensures.cases.0 ∙ ap (λ x. x ∷ c.in-Some.rest.now) c.in-Quoted.is) (λ n t. refl)

pub operand-returns-in-Fixed-clause-says : goal.operand-returns-in-Fixed-clause-says
operand-returns-in-Fixed-clause-says t c =
    word_says _ _ _ _ _ _ _ (c.in-Some.ensures.cases.0 ∙ ap (λ x. x ∷ c.in-Some.rest.now) c.in-Fixed.is) c.begun.ensures.says

pub paren-returns-in_err-closing-clause-says : goal.paren-returns-in_err-closing-clause-says
paren-returns-in_err-closing-clause-says t c =
    says_later _ _ _ _ _ _ _ c.in_ok-inner.ensures.says
    (stops_here _ _ _ _ _ _ c.from_residual-in_err-closing.ensures.1 c.in_err-closing.ensures.says)

pub paren-returns-clause-says : goal.paren-returns-clause-says
paren-returns-clause-says t c =
    goes_on _ c.in_ok-inner.ensures.says (goes_on _ c.in_ok-closing.ensures.says (found_as _ _ _ (formula-Paren _ _ _)))

pub paren-returns-clause-deep : goal.paren-returns-clause-deep
paren-returns-clause-deep t c = ap depth (formula-Paren _ _ _) ∙ ap (λ d. 1 + d) c.in_ok-inner.ensures.deep

pub slice-returns-in_err-inner-clause-says : goal.slice-returns-in_err-inner-clause-says
slice-returns-in_err-inner-clause-says t c =
    says_later _ _ _ _ _ _ _ c.in_ok-opening.ensures.says
    (stops_here _ _ _ _ _ _ c.from_residual-in_err-inner.ensures.1 c.in_err-inner.ensures.says)

pub slice-returns-in_err-comma-clause-says : goal.slice-returns-in_err-comma-clause-says
slice-returns-in_err-comma-clause-says t c =
    says_later _ _ _ _ _ _ _ c.in_ok-opening.ensures.says (says_later _ _ _ _ _ _ _ c.in_ok-inner.ensures.says
    (stops_here _ _ _ _ _ _ c.from_residual-in_err-comma.ensures.1 c.in_err-comma.ensures.says))

pub slice-returns-in_err-high-clause-says : goal.slice-returns-in_err-high-clause-says
slice-returns-in_err-high-clause-says t c =
    says_later _ _ _ _ _ _ _ c.in_ok-opening.ensures.says
    (says_later _ _ _ _ _ _ _ c.in_ok-inner.ensures.says
    (says_later _ _ _ _ _ _ _ c.in_ok-comma.ensures.says
    (stops_here _ _ _ _ _ _ c.from_residual-in_err-high.ensures.1 c.in_err-high.ensures.says)))

pub slice-returns-in_err-second_comma-clause-says : goal.slice-returns-in_err-second_comma-clause-says
slice-returns-in_err-second_comma-clause-says t c =
    says_later _ _ _ _ _ _ _ c.in_ok-opening.ensures.says
    (says_later _ _ _ _ _ _ _ c.in_ok-inner.ensures.says
    (says_later _ _ _ _ _ _ _ c.in_ok-comma.ensures.says
    (says_later _ _ _ _ _ _ _ c.in_ok-high.ensures.says
    (stops_here _ _ _ _ _ _ c.from_residual-in_err-second_comma.ensures.1 c.in_err-second_comma.ensures.says))))

pub slice-returns-in_err-low-clause-says : goal.slice-returns-in_err-low-clause-says
slice-returns-in_err-low-clause-says t c =
    says_later _ _ _ _ _ _ _ c.in_ok-opening.ensures.says
    (says_later _ _ _ _ _ _ _ c.in_ok-inner.ensures.says
    (says_later _ _ _ _ _ _ _ c.in_ok-comma.ensures.says
    (says_later _ _ _ _ _ _ _ c.in_ok-high.ensures.says
    (says_later _ _ _ _ _ _ _ c.in_ok-second_comma.ensures.says
    (stops_here _ _ _ _ _ _ c.from_residual-in_err-low.ensures.1 c.in_err-low.ensures.says)))))

pub slice-returns-in_err-closing-clause-says : goal.slice-returns-in_err-closing-clause-says
slice-returns-in_err-closing-clause-says t c =
    says_later _ _ _ _ _ _ _ c.in_ok-opening.ensures.says
    (says_later _ _ _ _ _ _ _ c.in_ok-inner.ensures.says
    (says_later _ _ _ _ _ _ _ c.in_ok-comma.ensures.says
    (says_later _ _ _ _ _ _ _ c.in_ok-high.ensures.says
    (says_later _ _ _ _ _ _ _ c.in_ok-second_comma.ensures.says
    (says_later _ _ _ _ _ _ _ c.in_ok-low.ensures.says
    (stops_here _ _ _ _ _ _ c.from_residual-in_err-closing.ensures.1 c.in_err-closing.ensures.says))))))

pub slice-returns-clause-says : goal.slice-returns-clause-says
slice-returns-clause-says t c =
    goes_on _ c.in_ok-opening.ensures.says (goes_on _ c.in_ok-inner.ensures.says (goes_on _ c.in_ok-comma.ensures.says (goes_on _ c.in_ok-high.ensures.says (goes_on _ c.in_ok-second_comma.ensures.says (goes_on _ c.in_ok-low.ensures.says (goes_on _ c.in_ok-closing.ensures.says (found_as _ _ _ (formula-Bits _ _ _ _ _ _ _ _))))))))

pub slice-returns-clause-deep : goal.slice-returns-clause-deep
slice-returns-clause-deep t c = ap depth (formula-Bits _ _ _ _ _ _ _ _) ∙ omega (arith, c.in_ok-inner.ensures.deep, c.in_ok-inner.ensures.within.0)
