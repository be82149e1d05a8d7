use Rattle.std.proofs.Common.{◌≡◌, [], Some, subst, sym}
use Rattle.std.specs.Prelude.{codes}
use Rattle.nml_tree.specs.Table.{declared, entries, entry, port_of, table, type_or_none}
use Rattle.isg_build.specs.Widths.{ArePcBits}
use Rattle.isg_build.proofs.Pc.{IsStorage, pc_storage, pc_there, pc_width}
use Rattle.isg_build.proofs.widths.pc_bits.Goals as goal

pub returns-in-None : goal.returns-in-None
returns-in-None c = absurd (pc_there c.args.d.now c.requires c.in-None.ensures)

pub returns-in-Storage : goal.returns-in-Storage
returns-in-Storage c =
    let at = subst (λ i. declared (table c.args.d.now) (codes "PC") ≡ Some (entry (entries [] c.in-Some.before.now) i).1) c.in-Storage.is c.in-Some.ensures in
    subst (ArePcBits c.args.d.now) (sym c.width.ensures) (pc_width c.args.d.now c.requires c.in-Some.before.now c.in-Storage.storage at c.type_value.result c.type_value.ensures)

pub returns-in-Let : goal.returns-in-Let
returns-in-Let c = absurd (pc_storage c.args.d.now c.requires _ (subst (λ i. declared (table c.args.d.now) (codes "PC") ≡ Some (entry (entries [] c.in-Some.before.now) i).1) c.in-Let.is c.in-Some.ensures))

pub returns-in-Type : goal.returns-in-Type
returns-in-Type c = absurd (pc_storage c.args.d.now c.requires _ (subst (λ i. declared (table c.args.d.now) (codes "PC") ≡ Some (entry (entries [] c.in-Some.before.now) i).1) c.in-Type.is c.in-Some.ensures))

pub returns-in-OrRule : goal.returns-in-OrRule
returns-in-OrRule c = absurd (pc_storage c.args.d.now c.requires _ (subst (λ i. declared (table c.args.d.now) (codes "PC") ≡ Some (entry (entries [] c.in-Some.before.now) i).1) c.in-OrRule.is c.in-Some.ensures))

pub returns-in-OpRule : goal.returns-in-OpRule
returns-in-OpRule c = absurd (pc_storage c.args.d.now c.requires _ (subst (λ i. declared (table c.args.d.now) (codes "PC") ≡ Some (entry (entries [] c.in-Some.before.now) i).1) c.in-OpRule.is c.in-Some.ensures))

pub returns-in-ModeRule : goal.returns-in-ModeRule
returns-in-ModeRule c = absurd (pc_storage c.args.d.now c.requires _ (subst (λ i. declared (table c.args.d.now) (codes "PC") ≡ Some (entry (entries [] c.in-Some.before.now) i).1) c.in-ModeRule.is c.in-Some.ensures))

pub returns-in-Trn : goal.returns-in-Trn
returns-in-Trn c =
    let s = pc_storage c.args.d.now c.requires _ (subst (λ i. declared (table c.args.d.now) (codes "PC") ≡ Some (entry (entries [] c.in-Some.before.now) i).1) c.in-Port.is c.in-Some.ensures) in
    absurd (subst (λ w. IsStorage (port_of (entries [] c.in-Some.before.now) w (type_or_none (entries [] c.in-Some.before.now) c.in-Port.port.ty))) c.in-Trn.is s)

pub returns-in-Inp : goal.returns-in-Inp
returns-in-Inp c =
    let s = pc_storage c.args.d.now c.requires _ (subst (λ i. declared (table c.args.d.now) (codes "PC") ≡ Some (entry (entries [] c.in-Some.before.now) i).1) c.in-Port.is c.in-Some.ensures) in
    absurd (subst (λ w. IsStorage (port_of (entries [] c.in-Some.before.now) w (type_or_none (entries [] c.in-Some.before.now) c.in-Port.port.ty))) c.in-Inp.is s)

pub returns-in-Out : goal.returns-in-Out
returns-in-Out c =
    let s = pc_storage c.args.d.now c.requires _ (subst (λ i. declared (table c.args.d.now) (codes "PC") ≡ Some (entry (entries [] c.in-Some.before.now) i).1) c.in-Port.is c.in-Some.ensures) in
    absurd (subst (λ w. IsStorage (port_of (entries [] c.in-Some.before.now) w (type_or_none (entries [] c.in-Some.before.now) c.in-Port.port.ty))) c.in-Out.is s)
