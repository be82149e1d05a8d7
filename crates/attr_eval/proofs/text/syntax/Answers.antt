use Rattle.std.proofs.Common.{◌∙◌, ap, [], ◌++◌}
use Rattle.nml_tree.specs.Syntax.{syntax_of}
use Rattle.std.specs.Prelude.{codes}
use Rattle.nml_tree.specs.Table.{table}
use Rattle.nml_tree.specs.Refused.{IsTyped}
use Rattle.nml_tree.specs.Walk.{IsWalkOf}
use Rattle.attr_eval.proofs.Whole.{walks_whole}
use Rattle.attr_eval.proofs.text.syntax.Goals as goal

pub returns : goal.returns
returns c = λ x w.
    let typed : IsTyped c.d.inside.desc = c.d.invariant in
    let v : IsWalkOf (table c.d.inside.desc) (codes "instruction") c.args.v.now.picks.items c.args.v.now.fields.items x = rw (← c.d.view_is) at w in
    let walks = walks_whole c.d.inside.desc typed x _ _ v in
    let k = rw (c.as_slice-items.ensures, c.as_slice.ensures, c.as_slice-2.ensures.value, c.as_slice-3.ensures.value) at c.in_ok-put.ensures in
    k x [] [] walks ∙ ap (λ xs. xs ++ syntax_of x) c.new-text.ensures
