use Rattle.std.proofs.Common.{[]}
use Rattle.nml_tree.specs.Image.{image}
use Rattle.std.specs.Prelude.{codes}
use Rattle.nml_tree.specs.Table.{table}
use Rattle.nml_tree.specs.Refused.{IsTyped}
use Rattle.nml_tree.specs.Walk.{IsWalkOf}
use Rattle.attr_eval.proofs.Whole.{narrow_image, walks_whole}
use Rattle.attr_eval.proofs.word.image.Goals as goal

pub returns : goal.returns
returns c = λ x w.
    let typed : IsTyped c.d.inside.desc = c.d.invariant in
    let v : IsWalkOf (table c.d.inside.desc) (codes "instruction") c.args.v.now.picks.items c.args.v.now.fields.items x = rw (← c.d.view_is) at w in
    let walks = walks_whole c.d.inside.desc typed x _ _ v in
    let k = rw (c.as_slice-items.ensures, c.as_slice.ensures, c.as_slice-2.ensures.value, c.as_slice-3.ensures.value) at c.write-run.ensures in
    let r = c.bits.ensures (image x) (narrow_image c.d.inside.desc typed x v.derivation) (k x [] [] walks) in
    record { width = r.0; value = r.1 }
