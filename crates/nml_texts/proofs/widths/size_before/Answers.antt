use Rattle.std.proofs.Common.{◌≡◌, ◌∙◌, ap, sym, true, false}
use Rattle.nml_known.specs.Known.{item_number}
use Rattle.nml_texts.specs.Widths.{is_before}
use Rattle.nml_texts.proofs.Fronts.{size_front, size_behind}
use Rattle.nml_texts.proofs.widths.size_before.Goals as goal

pub returns-then-is_before : goal.returns-then-is_before
returns-then-is_before c =
    let e : is_before c.args.k (item_number c.args.names.now c.in-Name.n.text) ≡ true = sym (ap (is_before c.args.k) c.number.ensures) ∙ sym c.is_before.ensures ∙ c.if-is_before.true in
    c.size_number.ensures ∙ rw c.in-Name.is (size_front c.args.names.now c.args.k c.in-Name.n e)

pub returns-else-is_before : goal.returns-else-is_before
returns-else-is_before c =
    let e : is_before c.args.k (item_number c.args.names.now c.in-Name.n.text) ≡ false = sym (ap (is_before c.args.k) c.number.ensures) ∙ sym c.is_before.ensures ∙ c.if-is_before.false in
    rw c.in-Name.is (size_behind c.args.names.now c.args.k c.in-Name.n e)
