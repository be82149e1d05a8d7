use Rattle.std.proofs.Common.{◌∙◌, [], sym, ap, subst}
use Rattle.nml_tree.specs.Block.{index}
use Rattle.nml_tree.specs.Table.{entries}
use Rattle.nml_tree.specs.Worth.{rule_scope}
use Rattle.nml_tree.specs.Written.{arguments, index_term}
use Rattle.nml_widths.specs.Fitting.{EachIndex, Everywhere, Sound}
use Rattle.attr_eval.specs.Alone.{alone}
use Rattle.attr_legal.specs.Target as spec
use Rattle.attr_legal.proofs.target.place_index.Goals as goal

pub returns-in-Some : goal.returns-in-Some
returns-in-Some c = λ args ks ys n zs rule w a s.
    let is = ap index c.in-Some.is in
    let e = subst (EachIndex (Everywhere (Sound (rule_scope (entries [] c.args.items.now) rule) (arguments (entries [] c.args.items.now) n args) (alone zs)))) is s in
    c.index_of.ensures args ks ys n zs rule w a e ∙ ap (λ o. spec.index_of (alone zs) c.args.input (index_term (entries [] c.args.items.now) (arguments (entries [] c.args.items.now) n args) o)) (sym is)
