use Rattle.std.proofs.Common.{sym, ◌∙◌}
use Rattle.attr_eval.specs.Lawful.{act_shape}
use Rattle.isg_legal.proofs.Coarse.{exact_coarse, lawful_coarse}
use Rattle.isg_legal.proofs.Splits.{none_fits}
use Rattle.isg_legal.proofs.legality.never_clashes.Goals as goal
use Rattle.isg_nodes.specs.Written.{action}

pub returns-clause-exact : goal.returns-clause-exact
returns-clause-exact c = λ v.
    let fits = none_fits c.new-none.result (action c.args.nodes.now c.args.effect.now) in
    exact_coarse v c.new-none.result (action c.args.nodes.now c.args.effect.now) c.all.result (c.all.ensures fits fits)

pub returns-clause-never : goal.returns-clause-never
returns-clause-never c = λ h v.
    let fits = none_fits c.new-none.result (action c.args.nodes.now c.args.effect.now) in
    lawful_coarse v (act_shape (action c.args.nodes.now c.args.effect.now)) (sym (exact_coarse v c.new-none.result (action c.args.nodes.now c.args.effect.now) c.all.result (c.all.ensures fits fits)) ∙ h)
