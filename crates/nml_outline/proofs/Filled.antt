-- N6's part of what the images need: a text that is right has a directive for each argument.
use Rattle.std.proofs.Common.{ℕ, ◌≡◌, refl, Bool, true, false, List, [], ◌∷◌}
use Rattle.std.specs.Prelude.{◌&&◌}
use Rattle.nml_tree.specs.declared.attributes.Arg.{Arg}
use Rattle.nml_tree.specs.declared.attributes.Template.{Template}
use Rattle.nml_tree.specs.declared.attributes.Template.TheVariants as template
use Rattle.nml_tree.specs.Attribute.{FormatPiece, Letter, Directive, pieces}
use Rattle.nml_tree.specs.Directives.{Which, Pars, parameter, takes, are_taken, are_allowed, has_short_runs, is_right}
use Rattle.nml_outline.proofs.Stands.{Enough, IsFilled}

second_true : (a b : Bool) → (a && b) ≡ true → b ≡ true
second_true true b h = h
second_true false b h = absurd cc

first_true : (a b c : Bool) → (a && b && c) ≡ true → a ≡ true
first_true true b c h = refl
first_true false b c h = absurd cc

enough : (w : Which) (pars : Pars) (ps : List FormatPiece) (args : List (ℕ × Arg)) → are_taken w pars ps args ≡ true → Enough ps args
enough w pars ps [] h = tt
enough w pars [] (a ∷ args) h = absurd cc
enough w pars (Letter c ∷ ps) (a ∷ args) h = enough w pars ps (a ∷ args) h
enough w pars (Directive digits k ∷ ps) ((comma, a) ∷ args) h =
    enough w pars ps args (second_true (takes w digits k (parameter pars a.name.text) a.attribute) (are_taken w pars ps args) h)

pub right_filled : (w : Which) (pars : Pars) (text : Template) → is_right w pars text ≡ true → IsFilled text
right_filled w pars (template.Plain q) h = tt
right_filled w pars (template.Part n dot a) h = tt
right_filled w pars (template.Format at p q args r) h =
    enough w pars (pieces q.text) args (first_true (are_taken w pars (pieces q.text) args) (are_allowed w (pieces q.text)) (has_short_runs w (pieces q.text)) h)
