use Rattle.std.proofs.Common.{◌≡◌, subst, IfOk}
use Rattle.nml_names.specs.Tallies.{first_other, names_of}
use Rattle.nml_names.proofs.Tallying.{same_tests}
use Rattle.nml_names.proofs.linear.first_in_rule.Goals as goal

pub returns : goal.returns
returns c =
    subst (λ h. IfOk c.first_of.result (λ o. o ≡ first_other h (names_of c.args.pars.now)))
    (same_tests c.in_ok-n.n c.args.a.now c.in_ok-n.ensures.syntax c.in_ok-n.ensures.image c.in_ok-n.ensures.action) c.first_of.ensures
