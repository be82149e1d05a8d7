use Rattle.std.proofs.Common.{◌∙◌, ap, subst}
use Rattle.nml_tree.specs.Formula.{formula}
use Rattle.shape_count.specs.Sizes.{finds, mentioned}
use Rattle.shape_count.specs.Weights.{AreActs, IsSummaryBy, numbered, mode_rule, par_names, zeros}
use Rattle.shape_count.proofs.Places.{same_finds}
use Rattle.shape_count.proofs.summary.mode_summary.Goals as goal

pub returns : goal.returns
returns c =
    let rule = mode_rule c.args.rule.now in
    let f = finds c.args.names.now c.in_ok-places.places.entries in
    subst (λ g. IsSummaryBy g rule (record { value = c.expr-value.result; value_counts = c.expr-value.new.counts; acts = c.in_ok-acts.acts })) (same_finds c.args.names.now c.in_ok-places.places.entries (numbered 0 (par_names rule.pars)) c.in_ok-places.ensures)
    (record {
      value = c.expr-value.ensures.own;
      value_counts = c.expr-value.ensures.counts ∙ ap (mentioned f (formula c.args.rule.now.value)) (c.in_ok-value_counts.ensures.items_if_clones_equal (λ y h. h) ∙ ap zeros c.par_count-count.ensures);
      acts = subst (λ n. AreActs f rule.action n c.in_ok-acts.acts) c.par_count-count.ensures c.in_ok-acts.ensures;
    })
