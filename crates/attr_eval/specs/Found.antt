-- A parameter by its name, and what it gives.
use Rattle.std.specs.Prelude.{◌≡◌, ◌<◌, ℕ, Bool, true, false, List, map, slice_get, Some}
use Rattle.nk_base.specs.Text.{text_eq}
use Rattle.nml_tree.specs.declared.attributes.Arg.{Arg}
use Rattle.nml_tree.specs.declared.tree.Par.{Par}
use Rattle.nml_tree.specs.Derivation.{Arguments}
use Rattle.nml_tree.specs.Image.{images}
use Rattle.nml_tree.specs.Syntax.{syntaxes}
use Rattle.nml_tree.specs.Table.{Text}
use Rattle.nml_tree.specs.Template.{given}

-- no parameter before this number has the name
abbrev pub Other : Text → List Par → ℕ → Type 0
Other name pars k = (i : ℕ) (p : Par) → i < k → slice_get pars i ≡ Some p → text_eq name p.name.text ≡ false

-- the first parameter of the name
pub record IsFirst (name : Text) (pars : List Par) (k : ℕ) (p : Par) : Type 0 where
  pub stands : slice_get pars k ≡ Some p
  pub named : text_eq name p.name.text ≡ true
  pub before : Other name pars k

-- what each argument of `format` gives
abbrev pub bits_given : Arguments → List (ℕ × Arg) → List (List Bool)
bits_given args list = map (λ (comma, a). given (images args) a.name.text) list

abbrev pub text_given : Arguments → List (ℕ × Arg) → List (List ℕ)
text_given args list = map (λ (comma, a). given (syntaxes args) a.name.text) list
