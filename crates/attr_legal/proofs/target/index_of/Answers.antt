use Rattle.std.proofs.Common.{rules, ◌∙◌, sym, []}
use Rattle.std.specs.Prelude.{FitsSigned}
use Rattle.std.specs.Int.{w128}
use Rattle.std.proofs.lemmas.Int.{to_z-of_z}
use Rattle.nml_tree.specs.Formula.{formula}
use Rattle.nml_tree.specs.Table.{entries}
use Rattle.nml_tree.specs.Written.{arguments, term}
use Rattle.attr_eval.specs.Alone.{alone}
use Rattle.attr_legal.proofs.Targets.{index_is}
use Rattle.attr_legal.proofs.target.index_of.Goals as goal

pub returns : goal.returns
returns c = λ args ks ys n zs rule w a s.
    let fit : FitsSigned w128 c.worth-z.result = search rules in
    sym (index_is (alone zs) c.args.input (term (entries [] c.args.items.now) (arguments (entries [] c.args.items.now) n args) (formula c.args.e.now)) _ _ _ _ c.number_unless.ensures (c.reads-looks.ensures args ks ys n w) (to_z-of_z w128 c.worth-z.result fit ∙ c.worth-z.ensures args ks ys n zs rule w a s) (c.reads-taken.ensures args ks ys n w))
