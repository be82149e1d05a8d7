use Rattle.std.proofs.Common.{◌∙◌, sym, ap, arith, Some}
use Rattle.std.specs.Prelude.{slice_get}
use Rattle.std.proofs.Common.{◌-◌}
use Rattle.std.proofs.lemmas.Option.{slice_get-get_or}
use Rattle.attr_eval.proofs.Steps.{later_name}
use Rattle.isg_written.proofs.turn.name_at.Goals as goal

pub returns-in-Some : goal.returns-in-Some
returns-in-Some c =
    let e = c.in-Some.ensures.lookup in
    let at = ap (λ xs. slice_get xs (c.args.k - 1)) (sym c.as_slice.ensures) ∙ slice_get-get_or c.as_slice.result.now (c.args.k - 1) c.in-Some.field-0.now e.3.0 ∙ ap Some (sym e.1) in
    later_name c.args.rule.now.first.text c.args.rule.now.rest c.args.k c.in-Some.field-0.now (omega (arith, c.if-k-eq0.false)) at
