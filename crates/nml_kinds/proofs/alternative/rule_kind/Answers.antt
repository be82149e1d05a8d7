use Rattle.std.proofs.Common.{◌≡◌, ◌∙◌, ap, unwrap_or}
use Rattle.nml_tree.specs.Table.{table}
use Rattle.nml_tree.specs.Worth.{rule_worth}
use Rattle.nml_worth.specs.Around.{number_or_none}
use Rattle.nml_worth.specs.Shown.{seen_kind, shown}
use Rattle.nml_kinds.proofs.KindLaws.{seen_shown}
use Rattle.nml_kinds.proofs.alternative.rule_kind.Goals as goal

pub returns : goal.returns
returns c = λ h.
    let w = rule_worth (table c.args.names.now) c.args.name.now in
    let e : c.number_or_none.result ≡ number_or_none c.args.names.now c.args.name.now = c.number_or_none.ensures ∙ ap (λ o. unwrap_or o 0) c.number.ensures in
    ap seen_kind (c.kind_at.ensures (shown w) (rw e (c.requires c.args.name.now h))) ∙ seen_shown w.kind
