-- What is read where there are fields and nothing else; how deep the values of modes are.
use Rattle.std.specs.Prelude.{ℕ, ◌≡◌, max, ℤ, List, [], ◌∷◌, drop, Option, Some, None}
use Rattle.nml_tree.specs.Formula.{Formula}
use Rattle.nml_tree.specs.Depth.{depth}
use Rattle.nml_tree.specs.Table.{Text, Table, Rule, Declared}
use Rattle.nml_tree.specs.Derivation.{Arguments, Compose, IsDerivation, fields_of}
use Rattle.nml_tree.specs.Value.{View}
use Rattle.nml_tree.specs.Worth.{rule_scope}
use Rattle.nml_tree.specs.Written.{arguments}
use Rattle.nml_widths.specs.Fitting.{EachValue, Everywhere, Sound, StandAt}

-- these fields, and nothing else that could be read
abbrev pub alone : List ℤ → View
alone zs = record { fields = zs; cells = []; trns = []; next = None }

-- 128 bits hold the value of each expression in a mode's value
abbrev pub ValuesSound : Table → List ℤ → Type 0
ValuesSound t zs = (name : Text) (rule : Rule) (args : Arguments) (n : ℕ) → IsDerivation t name (Compose rule args) → StandAt zs n (fields_of args)
    → EachValue (Everywhere (Sound (rule_scope t rule) (arguments t n args) (alone zs))) rule.value

-- these are the fields from the number n on
pub record Alone (t : Table) (n : ℕ) (zs left : List ℤ) : Type 0 where
  pub sound : ValuesSound t zs
  pub left_are : drop n zs ≡ left

-- how deep a mode's value is
abbrev pub value_depth : Option Formula → ℕ
value_depth None = 0
value_depth (Some e) = depth e

-- and the deepest of all
abbrev pub deepest : Table → ℕ
deepest [] = 0
deepest ((name, Declared.And rule) ∷ t) = max (value_depth rule.value) (deepest t)
deepest ((name, _) ∷ t) = deepest t
