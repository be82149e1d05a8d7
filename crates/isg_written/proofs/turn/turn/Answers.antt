use Rattle.std.proofs.Common.{subst, None}
use Rattle.nml_tree.specs.Table.{table, declared}
use Rattle.attr_eval.specs.Turn.{IsTurn}
use Rattle.attr_eval.specs.declared.turn.Turn.TheVariants as turn
use Rattle.attr_eval.proofs.Steps.{no_rule}
use Rattle.isg_written.proofs.Numbering.{none_numbered, past_items, item_numbered}
use Rattle.isg_written.proofs.turn.turn.Goals as goal

pub returns-in-None : goal.returns-in-None
returns-in-None c =
    let k : IsTurn (table c.names-names.result.now) c.args.name.now c.args.picks.now turn.Nothing =
    λ d ks h p. no_rule (table c.names-names.result.now) c.args.name.now None d (none_numbered c.names-names.result.now c.args.name.now c.in-None.ensures) tt h in
    subst (λ q. IsTurn (table q) c.args.name.now c.args.picks.now turn.Nothing) c.names-names.ensures k

pub returns-in-None-get : goal.returns-in-None-get
returns-in-None-get c = absurd (past_items c.names-names.result.now c.args.name.now c.in-Some.n c.items.result.now c.in-Some.ensures c.items.ensures c.in-None-get.ensures.lookup.3)

pub returns-in-Some-get : goal.returns-in-Some-get
returns-in-Some-get c =
    let a = c.in-Some-get.ensures.lookup in
    let r = item_numbered c.names-names.result.now c.args.name.now c.in-Some.n c.items.result.now c.in-Some-get.item.now c.in-Some.ensures c.items.ensures a.3.0 a.1 in
    subst (λ q. IsTurn (table q) c.args.name.now c.args.picks.now c.item_turn.result) c.names-names.ensures (c.item_turn.ensures (table c.names-names.result.now) r.0 c.args.name.now r.1)
