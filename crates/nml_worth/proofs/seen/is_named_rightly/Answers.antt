use Rattle.std.proofs.Common.{◌∙◌, ap, option_map}
use Rattle.nml_known.specs.Known.{known}
use Rattle.nml_tree.specs.Table.{declared, table}
use Rattle.nml_worth.specs.Around.{around}
use Rattle.nml_worth.proofs.Nodes.{named_is}
use Rattle.nml_worth.proofs.seen.is_named_rightly.Goals as goal

pub returns : goal.returns
returns c =
    c.is_named.ensures
    ∙ named_is (around c.args.s.now) c.args.n.now c.args.indexed c.declared-known.result c.name.result
    (record { known_is = c.declared-known.ensures ∙ ap (λ d. option_map known (declared (table d) c.args.n.now.text)) c.names.ensures; worth_is = c.name.ensures })
