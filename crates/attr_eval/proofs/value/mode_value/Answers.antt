use Rattle.std.proofs.Common.{◌∙◌, [], rules, arith}
use Rattle.std.specs.Prelude.{FitsSigned}
use Rattle.std.specs.Int.{w128}
use Rattle.std.proofs.lemmas.Int.{to_z-of_z}
use Rattle.nml_tree.specs.Table.{table}
use Rattle.nml_tree.specs.Refused.{IsTyped}
use Rattle.nml_tree.specs.Walk.{IsWalkOf}
use Rattle.attr_eval.proofs.AloneLaws.{alone_whole}
use Rattle.attr_eval.proofs.Whole.{walks_named}
use Rattle.attr_eval.proofs.value.mode_value.Goals as goal

pub returns : goal.returns
returns c = λ x w.
    let typed : IsTyped c.d.inside.desc = c.d.invariant in
    let v : IsWalkOf (table c.d.inside.desc) c.args.name.now c.args.v.now.picks.items c.args.v.now.fields.items x = rw (← c.d.view_is) at w in
    let walks = walks_named c.d.inside.desc typed c.args.name.now x _ _ v in
    let a = alone_whole c.d.inside.desc (λ k less. typed k (omega (arith, less))) c.args.v.now.fields.items in
    let k = rw (c.as_slice-items.ensures, c.as_slice.ensures.value, c.as_slice-2.ensures.value) at c.value.ensures in
    let fit : FitsSigned w128 c.value.result = search rules in
    to_z-of_z w128 c.value.result fit ∙ (rw (← c.d.view_is) (k x [] [] 0 c.args.v.now.fields.items walks a))
