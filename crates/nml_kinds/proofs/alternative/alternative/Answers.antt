use Rattle.std.proofs.Common.{◌∙◌, ap, sym}
use Rattle.nml_tree.specs.Table.{declared, table}
use Rattle.nml_tree.specs.TypeFault.{is_rule_of}
use Rattle.nml_worth.specs.Shown.{seen_kind}
use Rattle.nml_tree.specs.Worth.{known_first}
use Rattle.nml_kinds.proofs.KindLaws.{seen_shown}
use Rattle.nml_kinds.proofs.Alternatives.{may_be_rule, alternative_rule, alternative_other}
use Rattle.nml_kinds.proofs.alternative.alternative.Goals as goal

pub returns-then-is_rule_of : goal.returns-then-is_rule_of
returns-then-is_rule_of c = λ ns.
    let t = table c.args.names.now in
    let n = c.args.n.now in
    let d = declared t n.text in
    let is = sym (c.is_rule_of.ensures d c.declared.ensures) ∙ c.if-is_rule_of.true in
    let b = seen_kind c.args.before.kind in
    alternative_rule t c.args.mode b (seen_kind c.rule_kind-kind.result) (seen_kind c.known_first.result) n ns c.is_other.result c.args.before.found c.note.result
    is (c.rule_kind-kind.ensures (may_be_rule c.args.mode d is)) c.is_other.ensures c.note.ensures (ap seen_kind c.known_first.ensures ∙ seen_shown (known_first b (seen_kind c.rule_kind-kind.result)))

pub returns-else-is_rule_of : goal.returns-else-is_rule_of
returns-else-is_rule_of c = λ ns.
    let t = table c.args.names.now in
    let n = c.args.n.now in
    let d = declared t n.text in
    alternative_other t c.args.mode (seen_kind c.args.before.kind) n ns c.args.before.found c.note-else-is_rule_of.result (sym (c.is_rule_of.ensures d c.declared.ensures) ∙ c.if-is_rule_of.false) c.note-else-is_rule_of.ensures
