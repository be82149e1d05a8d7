use Rattle.std.proofs.Common.{sym, ap, ◌∙◌, option_map}
use Rattle.nml_known.specs.Known.{known}
use Rattle.nml_tree.specs.Table.{declared, table}
use Rattle.nml_target.proofs.Named.{not_declared, has_name}
use Rattle.nml_target.proofs.width.declared_as.Goals as goal

pub returns-in-None : goal.returns-in-None
returns-in-None c = sym (ap (option_map known) (not_declared c.args.names.now c.args.name.now (rw c.items.ensures at c.in-None.ensures)))

pub returns-in-Some : goal.returns-in-Some
returns-in-Some c =
    c.declared.ensures
    ∙ ap (λ name. option_map known (declared (table c.args.names.now) name))
    (ap (λ n. n.text) c.declared_name.ensures ∙ sym (has_name c.args.names.now.items c.args.name.now c.in-Some.item.now (rw c.items.ensures at c.in-Some.ensures)))
