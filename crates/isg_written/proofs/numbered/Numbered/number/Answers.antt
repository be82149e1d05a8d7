use Rattle.std.proofs.Common.{◌≡◌, sym, ap, subst}
use Rattle.nml_tree.specs.Table.{table, declared}
use Rattle.isg_written.specs.Numbers.{number_named}
use Rattle.isg_written.proofs.Numbering.{none_numbered, number_found, number_past}
use Rattle.isg_written.proofs.numbered.Numbered.number.Goals as goal

pub returns-in-None : goal.returns-in-None
returns-in-None c = subst (λ q. 0 ≡ number_named (declared (table q) c.args.name.now)) c.self.view_is (sym (ap number_named (none_numbered c.self.inside.names.now c.args.name.now c.in-None.ensures)))

pub returns-in-None-get : goal.returns-in-None-get
returns-in-None-get c = absurd (number_past c.self.inside.names.now c.args.name.now c.in-Some.n c.self.inside.numbers.items c.deref.result.now c.in-Some.ensures c.self.invariant c.deref.ensures.value c.in-None-get.ensures.lookup.3)

pub returns-in-Some-get : goal.returns-in-Some-get
returns-in-Some-get c =
    let a = c.in-Some-get.ensures.lookup in
    subst (λ q. c.in-Some-get.number.now ≡ number_named (declared (table q) c.args.name.now)) c.self.view_is (number_found c.self.inside.names.now c.args.name.now c.in-Some.n c.self.inside.numbers.items c.deref.result.now c.in-Some-get.number.now c.in-Some.ensures c.self.invariant c.deref.ensures.value a.3.0 a.1)
