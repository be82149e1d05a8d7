use Rattle.std.proofs.Common.{◌≡◌, refl, subst, IfOk}
use Rattle.shape_count.proofs.best.and_best.Goals as goal

pub returns-in_ok-one-in-Some : goal.returns-in_ok-one-in-Some
returns-in_ok-one-in-Some c =
    subst (λ z. IfOk c.with_rest.result (λ o. o ≡ z))
    (rw (c.in-Some.is, c.as_slice.ensures, c.sum-first.ensures, c.in_ok-one-in-Some.ensures, ← c.own_weight.ensures) refl)
    c.with_rest.ensures
