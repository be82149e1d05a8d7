use Rattle.std.proofs.Common.{◌≡◌, ◌∙◌, true, ap, subst, IfOk, rules}
use Rattle.nml_names.specs.Tallies.{first_other, named_linear}
use Rattle.nml_names.specs.Found.{names_in}
use Rattle.nml_names.proofs.Tallying.{skip_first}
use Rattle.nml_names.proofs.linear.first_of.Goals as goal

pub returns-else-not-is_linear : goal.returns-else-not-is_linear
returns-else-not-is_linear c =
    let yes : named_linear c.args.n.now c.in-Some.ps.first.name.text ≡ true = search rules in
    rw c.in-Some.is (subst (λ z. IfOk c.first_further.result (λ o. o ≡ z))
    (ap (λ r. first_other (named_linear c.args.n.now) (names_in r)) c.as_slice.ensures ∙ skip_first (named_linear c.args.n.now) c.in-Some.ps.first.name (names_in c.in-Some.ps.rest) yes)
    c.first_further.ensures)
