use Rattle.std.proofs.Common.{ap, map, subst, Some, ◌≡◌}
use Rattle.nml_tree.specs.NameFault as kind
use Rattle.shape_count.specs.Weights.{IsBest, IsItemSummary, name_best, with_names}
use Rattle.shape_count.proofs.Bests.{no_rule, some_from, or_item, op_item, mode_item}
use Rattle.shape_count.proofs.size.rule_best.Goals as goal

pub returns-in-Let : goal.returns-in-Let
returns-in-Let c = no_rule c.args.names.now c.args.key c.args.item.now 0 c.requires.at (ap kind.is_rule c.in-Let.is)

pub returns-in-Type : goal.returns-in-Type
returns-in-Type c = no_rule c.args.names.now c.args.key c.args.item.now 0 c.requires.at (ap kind.is_rule c.in-Type.is)

pub returns-in-Storage : goal.returns-in-Storage
returns-in-Storage c = no_rule c.args.names.now c.args.key c.args.item.now 0 c.requires.at (ap kind.is_rule c.in-Storage.is)

pub returns-in-Port : goal.returns-in-Port
returns-in-Port c = no_rule c.args.names.now c.args.key c.args.item.now 0 c.requires.at (ap kind.is_rule c.in-Port.is)

pub returns-in-OrRule : goal.returns-in-OrRule
returns-in-OrRule c =
    let ask = name_best c.args.names.now c.args.known.now.entries c.args.key in
    let rule = c.in-OrRule.rule in
    some_from c.or_best.result _ (IsBest c.args.names.now c.args.key)
    (λ b h. or_item c.args.names.now c.requires.free c.args.known.now.entries c.requires.right c.args.key c.args.item.now c.requires.at rule b c.in-OrRule.is
    (subst (λ xs. with_names ask (ask rule.first.text) (map (λ (bar, y). y.text) xs) ≡ Some b) c.as_slice.ensures h))
    c.or_best.ensures

pub returns-in-OpRule : goal.returns-in-OpRule
returns-in-OpRule c =
    let d = c.args.names.now in
    some_from c.and_best.result _ (IsBest d c.args.key)
    (λ b h. op_item d c.requires.free c.args.known.now.entries c.requires.right c.args.key c.args.item.now c.requires.at c.in-OpRule.rule c.args.s.now b c.in-OpRule.is (subst (λ i. IsItemSummary d i c.args.s.now) c.in-OpRule.is c.requires.summary) h)
    c.and_best.ensures

pub returns-in-ModeRule : goal.returns-in-ModeRule
returns-in-ModeRule c =
    let d = c.args.names.now in
    some_from c.and_best-in-ModeRule.result _ (IsBest d c.args.key)
    (λ b h. mode_item d c.requires.free c.args.known.now.entries c.requires.right c.args.key c.args.item.now c.requires.at c.in-ModeRule.rule c.args.s.now b c.in-ModeRule.is (subst (λ i. IsItemSummary d i c.args.s.now) c.in-ModeRule.is c.requires.summary) h)
    c.and_best-in-ModeRule.ensures
