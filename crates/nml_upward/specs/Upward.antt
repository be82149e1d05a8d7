-- The rules of a description by their names, the numbers of the items that declare them, and what they are made of.
use Rattle.std.specs.Prelude.{ℕ, ◌≡◌, ◌≤◌, Bool, true, List, length, Option, Some, None, Contains, option_map}
use Rattle.nml_tree.specs.declared.tree.Par.{Par}
use Rattle.nml_tree.specs.declared.tree.Desc.{Desc}
use Rattle.nml_tree.specs.Table.{Text, Table, Rule, Declared, Parameter, declared, parameter_of}
use Rattle.nml_tree.specs.Worth.{is_rule, is_type}
use Rattle.nml_names.specs.Naming.{declaration}

-- the name is that of a rule
abbrev pub IsRule : Table → Text → Type 0
IsRule t name = is_rule (declared t name) ≡ true

-- the first item that declares the name has this number
abbrev pub HasNumber : Desc → Text → ℕ → Type 0
HasNumber d name n = option_map (λ k. k.first) (declaration 0 d.items name) ≡ Some n

-- a parameter is a field of a type of 1 to 64 bits, or a part, whose name is that of a rule
abbrev pub IsParameter : Table → Option Parameter → Type 0
IsParameter t None = ⊥
IsParameter t (Some (Parameter.Field ty)) = is_type ty ≡ true
IsParameter t (Some (Parameter.Part rule)) = IsRule t rule

-- what rules are made of where names and types are right: an or-rule of one rule or more, an and-rule of parameters
pub record AreMade (t : Table) : Type 0 where
  pub some : (name : Text) (mode : Bool) (names : List Text) → declared t name ≡ Some (Declared.Or mode names) → 1 ≤ length names
  pub alternatives : (name : Text) (mode : Bool) (names : List Text) → declared t name ≡ Some (Declared.Or mode names) → (chosen : Text) → Contains names chosen → IsRule t chosen
  pub parameters : (name : Text) (rule : Rule) → declared t name ≡ Some (Declared.And rule) → (p : Par) → Contains rule.pars p → IsParameter t (parameter_of t p.ty)
