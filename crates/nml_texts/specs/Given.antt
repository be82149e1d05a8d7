-- What an argument's name is, as far as a directive asks.
use Rattle.std.specs.Prelude.{◌≡◌, ℕ, List, Option, Some, None, option_map}
use Rattle.std.specs.Map.{lookup}
use Rattle.nk_base.specs.Number.{width_of}
use Rattle.nk_base.specs.Text.{text_eq}
use Rattle.nml_tree.specs.Directives as directives
use Rattle.nml_tree.specs.Directives.{Pars}
use Rattle.nml_tree.specs.Table.{Text, Parameter}
use Rattle.nml_texts.specs.declared.directive.Given.{Given}
use Rattle.nml_texts.specs.declared.directive.Given.TheVariants as shown
use Rattle.nml_texts.specs.declared.text.Which.{Which}
use Rattle.nml_texts.specs.declared.text.Which.TheVariants as word

-- which of the two attributes a text is
abbrev pub which : Which → directives.Which
which word.Syntax = directives.Syntax
which word.Image = directives.Image

-- a field has a width, and of a part nothing more is asked
abbrev pub given : Option Parameter → Given
given (Some (Parameter.Field ty)) = shown.Field (width_of ty)
given (Some (Parameter.Part rule)) = shown.Part
given None = shown.Neither

-- the map gives each parameter's name what it is
abbrev pub AreGiven : List (Text × Given) → Pars → Type 0
AreGiven entries pars = (name : Text) → lookup (text_eq name) entries ≡ option_map given (lookup (text_eq name) pars)
