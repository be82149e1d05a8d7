use Rattle.std.proofs.Common.{◌≡◌, ◌∙◌, ◌+◌, sym, ap, arith, length, add-one}
use Rattle.nml_tree.specs.Derivation.{fields}
use Rattle.attr_eval.proofs.Steps.{field_at}
use Rattle.isg_written.proofs.Steps.{no_limit, next_picked, next_made, left_past, left_part, left_field, behind_all}
use Rattle.isg_written.proofs.skip.+skip.Goals.{skip_pars-in-None, skip_pars-in-Some+in-Some-part_of, skip_pars-in-Some+in-None-part_of}
use Rattle.isg_written.proofs.skip.+skip.Goals as goal

pub skip-returns-then-limit-eq0 : goal.skip-returns-then-limit-eq0
skip-returns-then-limit-eq0 t c = λ d ks w. absurd (no_limit _ _ _ _ _ _ d c.if-limit-eq0.true w)

pub skip-returns-in-Nothing : goal.skip-returns-in-Nothing
skip-returns-in-Nothing t c = λ d ks w. absurd (c.in-Nothing.ensures d ks w.is w.picks_are)

pub skip-returns-in-Picked : goal.skip-returns-in-Picked
skip-returns-in-Picked t c = λ d ks w.
    let s = next_picked _ _ _ _ _ _ d _ _ c.in-Picked.ensures w in
    let k = c.skip.ensures s.1 ks s.3 in
    (k.0, k.1 ∙ ap (λ y. c.args.first + length (fields y)) (sym s.2))

pub skip-returns-in-Made : goal.skip-returns-in-Made
skip-returns-in-Made t c = λ d ks w.
    let a = next_made _ _ _ _ _ _ _ c.in-Made.ensures d w in
    let b = behind_all _ _ _ _ _ _ _ _ _ _ c.par_count.ensures a.2 (c.skip_pars.ensures a.0 ks a.2) in
    (b.0, b.1 ∙ ap (λ y. c.args.first + length (fields y)) (sym a.1))

pub skip_pars-loop-i-preserved : goal.skip_pars-loop-i-preserved
skip_pars-loop-i-preserved t c = λ args ks w.
    let inv = c.loop-i.invariant args ks w in
    elim c.match-par_at.branch [
      | skip_pars-in-None b ↦ rw (b.picks-is, b.first-is, add-one) (left_past _ _ _ _ _ _ _ c.loop-i.i _ _ w b.in-None.ensures inv)
      | skip_pars-in-Some+in-Some-part_of b ↦ rw (b.picks-is, b.first-is, add-one) (left_part _ _ _ _ _ _ _ c.loop-i.i _ _ _ _ _ _ w b.in-Some.ensures b.in-Some-part_of.ensures inv b.skip-n.ensures)
      | skip_pars-in-Some+in-None-part_of b ↦ (let s = field_at _ _ _ c.loop-i.i _ w.fill b.in-Some.ensures b.in-None-part_of.ensures in rw (b.picks-is, b.first-is, add-one) (left_field _ _ _ _ _ _ _ c.loop-i.i _ _ _ _ w s b.behind-first.ensures inv))
    ]

pub skip_pars-returns : goal.skip_pars-returns
skip_pars-returns t c = λ args ks w.
    let inv = c.loop-i.invariant args ks w in
    let same : c.loop-i.i ≡ c.args.count = omega arith in
    (rw (← same) inv.0, rw (← same) inv.1)
