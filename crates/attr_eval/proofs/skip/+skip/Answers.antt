use Rattle.std.proofs.Common.{◌≡◌, ◌∙◌, ap, arith, ◌++◌}
use Rattle.std.proofs.Common.{add-one}
use Rattle.nml_tree.specs.Derivation.{picks_of, fields_of}
use Rattle.attr_eval.proofs.Steps.{no_limit, next_picked, next_made, walks_at, field_at, left_past, behind_all}
use Rattle.attr_eval.proofs.skip.+skip.Goals.{skip_pars-in-None, skip_pars-in-Some+in-Some-part_of, skip_pars-in-Some+in-None-part_of}
use Rattle.attr_eval.proofs.skip.+skip.Goals as goal

pub skip-returns-then-limit-eq0 : goal.skip-returns-then-limit-eq0
skip-returns-then-limit-eq0 t c = λ d ks ys w. absurd (no_limit _ _ _ _ _ _ _ d c.if-limit-eq0.true w)

pub skip-returns-in-Nothing : goal.skip-returns-in-Nothing
skip-returns-in-Nothing t c = λ d ks ys w. absurd (c.in-Nothing.ensures d ks w.is w.picks_are)

pub skip-returns-in-Picked : goal.skip-returns-in-Picked
skip-returns-in-Picked t c = λ d ks ys w. let s = next_picked _ _ _ _ _ _ _ d _ _ c.in-Picked.ensures w in let k = rw c.as_bytes.ensures at c.skip.ensures in k s.1 ks ys s.3

pub skip-returns-in-Made : goal.skip-returns-in-Made
skip-returns-in-Made t c = λ d ks ys w.
    let a = next_made _ _ _ _ _ _ _ _ c.in-Made.ensures d w in
    behind_all _ _ _ _ _ _ _ _ _ _ _ c.par_count.ensures a.2 (c.skip_pars.ensures a.0 ks ys a.2)

pub skip_pars-loop-i-preserved : goal.skip_pars-loop-i-preserved
skip_pars-loop-i-preserved t c = λ args ks ys w.
    let inv = c.loop-i.invariant args ks ys w in
    elim c.match-par_at.branch [
      | skip_pars-in-None b ↦ rw (b.picks-is, b.fields-is) (left_past _ _ _ _ _ _ _ _ c.loop-i.i _ _ w b.in-None.ensures inv)
      | skip_pars-in-Some+in-Some-part_of b ↦ (let s = walks_at _ _ _ _ _ _ _ _ c.loop-i.i _ _ _ _ w b.in-Some.ensures b.in-Some-part_of.ensures inv.0 inv.1 in let k = rw b.as_bytes.ensures at b.skip.ensures in let e = k s.0.of _ _ s.1 in rw (b.picks-is, b.fields-is, add-one) e)
      | skip_pars-in-Some+in-None-part_of b ↦ (let s = field_at _ _ _ c.loop-i.i _ w.fill b.in-Some.ensures b.in-None-part_of.ensures in rw (b.picks-is, b.fields-is, add-one) (inv.0 ∙ ap (λ a. picks_of a ++ ks) s.at, b.behind-fields.ensures _ _ (inv.1 ∙ ap (λ a. fields_of a ++ ys) s.at)))
    ]

pub skip_pars-returns : goal.skip_pars-returns
skip_pars-returns t c = λ args ks ys w.
    let inv = c.loop-i.invariant args ks ys w in
    let same : c.loop-i.i ≡ c.args.count = omega arith in
    (rw (← same) inv.0, rw (← same) inv.1)
