use Rattle.nk_base.specs.Text.{text_eq}
use Rattle.std.proofs.Common.{true, ◌≡◌, ◌∙◌, sym, ap, append-nil, arith, ◌++◌}
use Rattle.shape_list.proofs.Texts.{found_given, none_given}
use Rattle.shape_list.proofs.text.push_given.Goals as goal

pub returns-then-eq : goal.returns-then-eq
returns-then-eq c =
    let e : text_eq c.args.name.now c.g-item.result.name.now ≡ true = ap (λ x. text_eq x c.g-item.result.name.now) (sym c.as_bytes.ensures) ∙ ap (text_eq c.as_bytes.result.now) (sym c.as_bytes-in-loop-g.ensures) ∙ sym c.eq.ensures ∙ c.if-eq.true in
    c.in_ok-extend_from_slice.ensures.items ∙ ap (λ xs. xs ++ c.as_slice.result.now) c.loop-g.invariant.1
    ∙ ap (λ xs. c.args.out.now.items ++ xs) (c.as_slice.ensures.value ∙ sym (found_given c.args.given.now c.loop-g.g-index c.g-item.result c.args.name.now c.loop-g-test.true c.g-item.is e) ∙ c.loop-g.invariant.0)

pub returns : goal.returns
returns c = c.loop-g.invariant.1 ∙ sym (append-nil _) ∙ ap (λ xs. c.args.out.now.items ++ xs) (sym (none_given c.args.given.now c.loop-g.g-index c.args.name.now (omega (arith, c.loop-g-test.false))) ∙ c.loop-g.invariant.0)
