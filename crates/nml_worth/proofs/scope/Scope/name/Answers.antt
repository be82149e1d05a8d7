use Rattle.std.proofs.Common.{◌≡◌, ◌∙◌, ap, subst, sym}
use Rattle.nml_tree.specs.Worth.{of_name}
use Rattle.nml_worth.specs.Around.{around}
use Rattle.nml_worth.specs.Known.{of_known}
use Rattle.nml_worth.specs.Shown.{shown}
use Rattle.nml_worth.proofs.Scopes.{name_alone, name_given}
use Rattle.nml_worth.proofs.scope.Scope.name.Goals as goal

pub returns-in-None : goal.returns-in-None
returns-in-None c =
    subst (λ m. c.of_known.result ≡ shown (of_name (around m) c.args.name.now)) c.self.view_is
    (name_alone (c.self.inside.names.now, c.self.inside.pars.now) c.args.name.now c.self.inside.found.entries _ c.self.invariant (sym c.in-None.ensures.value) (c.of_known.ensures ∙ ap (λ k. shown (of_known k)) c.declared.ensures))

pub returns-in-Some : goal.returns-in-Some
returns-in-Some c =
    subst (λ m. c.in-Some.given.now.worth ≡ shown (of_name (around m) c.args.name.now)) c.self.view_is
    (name_given (c.self.inside.names.now, c.self.inside.pars.now) c.args.name.now c.self.inside.found.entries _ c.self.invariant (sym c.in-Some.ensures.value))
