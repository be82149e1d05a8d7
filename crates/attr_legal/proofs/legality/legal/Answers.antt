use Rattle.std.proofs.Common.{[], refl, arith}
use Rattle.std.specs.Prelude.{codes}
use Rattle.nml_tree.specs.Refused.{IsFreeBelow, IsTyped}
use Rattle.nml_tree.specs.Table.{table}
use Rattle.nml_tree.specs.Walk.{IsWalkOf}
use Rattle.attr_eval.proofs.AloneLaws.{alone_whole}
use Rattle.attr_eval.proofs.Whole.{walks_whole}
use Rattle.attr_legal.proofs.WholeLegal.{actions_sound, legal_is}
use Rattle.attr_legal.proofs.legality.legal.Goals as goal

pub returns : goal.returns
returns c = λ x w.
    let typed : IsTyped c.d.inside.desc = c.d.invariant in
    let free : IsFreeBelow 8 c.d.inside.desc = λ k less. typed k (omega (arith, less)) in
    let v : IsWalkOf (table c.d.inside.desc) (codes "instruction") c.args.v.now.picks.items c.args.v.now.fields.items x = rw (← c.d.view_is) at w in
    let walks = walks_whole c.d.inside.desc typed x _ _ v in
    let a = alone_whole c.d.inside.desc free c.args.v.now.fields.items in
    let k = rw (c.as_slice-items.ensures, c.as_slice.ensures.value, c.as_slice-2.ensures.value, c.as_slice-3.ensures) at c.rule_action-count.ensures in
    let e = k x [] [] 0 c.args.v.now.fields.items x walks a (record { values = a.sound; actions = actions_sound c.d.inside.desc free c.args.v.now.fields.items; asked = (walks, refl) }) in
    rw (← c.d.view_is) (legal_is (table c.d.inside.desc) x c.args.v.now.fields.items _ v.fields e)
