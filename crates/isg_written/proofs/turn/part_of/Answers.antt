use Rattle.std.proofs.Common.{◌≡◌, ◌∙◌, sym, ap, subst, Some}
use Rattle.nml_tree.specs.Table as spec
use Rattle.nml_tree.specs.Table.{parameter_of, table}
use Rattle.isg_written.proofs.Named.{no_part}
use Rattle.isg_written.proofs.turn.part_of.Goals as goal

pub returns-else-is_rule : goal.returns-else-is_rule
returns-else-is_rule c = λ rule h.
    let k = subst (λ q. parameter_of (table q) c.args.ty.now ≡ Some (spec.Parameter.Part rule)) (sym c.names.ensures) h in
    no_part _ _ rule (sym (c.is_rule.ensures _ c.declared.ensures) ∙ c.if-is_rule.false) (ap (parameter_of (table c.names.result.now)) (sym c.in-Name.is) ∙ k)
