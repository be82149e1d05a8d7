use Rattle.std.proofs.Common.{◌∙◌, sym}
use Rattle.nml_texts.proofs.Givens.{given_old, given_new}
use Rattle.nml_texts.proofs.parameters.add.Goals as goal

pub returns-then-has : goal.returns-then-has
returns-then-has c = λ ps are. given_old c.args.widths.now c.args.map.now.entries ps c.args.p.now are (sym c.has.ensures ∙ c.if-has.true)

pub returns : goal.returns
returns c = λ ps are.
    given_new c.args.widths.now c.args.map.now.entries c.tell.new.map.entries ps c.args.p.now c.in_ok-key.key c.given.result are (sym c.has.ensures ∙ c.if-has.false) c.in_ok-key.ensures.cases c.given.ensures c.in_ok-tell.ensures
