-- The walk of a derivation stands at the front of two lists, of picks and of fields.
use Rattle.std.specs.Prelude.{◌≡◌, ◌≤◌, ◌+◌, ℕ, zero, suc, max, true, List, ◌++◌, ℤ, Some, Contains}
use Rattle.nk_base.specs.declared.number.Ty.{Ty}
use Rattle.nml_tree.specs.declared.tree.Par.{Par}
use Rattle.nml_tree.specs.Table.{Text, Table, Rule, Declared, Parameter, declared, parameter_of}
use Rattle.nml_tree.specs.Derivation.{Derivation, Arguments, Pick, Compose, NoMore, Part, Field, IsDerivation, Fill, picks, picks_of, fields, fields_of}
use Rattle.nml_tree.specs.Worth.{is_type}

abbrev mutual
  -- how many rules stand below one another
  pub height : Derivation → ℕ
  height (Pick n d) = 1 + height d
  height (Compose rule args) = 1 + height_of args

  pub height_of : Arguments → ℕ
  height_of NoMore = 0
  height_of (Part name d args) = max (height d) (height_of args)
  height_of (Field name ty z args) = height_of args

-- the arguments from this number on
abbrev pub from : ℕ → Arguments → Arguments
from zero args = args
from (suc k) NoMore = NoMore
from (suc k) (Part name d args) = from k args
from (suc k) (Field name ty z args) = from k args

-- the types of a rule's fields have 1 to 64 bits
abbrev pub FieldsRight : Table → List Par → Type 0
FieldsRight t pars = (p : Par) (ty : Ty) → Contains pars p → parameter_of t p.ty ≡ Some (Parameter.Field ty) → is_type ty ≡ true

-- and so those of every rule
abbrev pub RulesRight : Table → Type 0
RulesRight t = (name : Text) (rule : Rule) → declared t name ≡ Some (Declared.And rule) → FieldsRight t rule.pars

-- the derivation is one of this rule, not too high, and its walk is the front of these lists
pub record Walks (t : Table) (name : Text) (n : ℕ) (d : Derivation) (ps : List ℕ) (zs : List ℤ) (ks : List ℕ) (ys : List ℤ) : Type 0 where
  pub right : RulesRight t
  pub is : IsDerivation t name d
  pub low : height d ≤ n
  pub picks_are : ps ≡ picks d ++ ks
  pub fields_are : zs ≡ fields d ++ ys

-- the same of the arguments for these parameters
pub record WalksAll (t : Table) (pars : List Par) (n : ℕ) (args : Arguments) (ps : List ℕ) (zs : List ℤ) (ks : List ℕ) (ys : List ℤ) : Type 0 where
  pub right : RulesRight t
  pub here : FieldsRight t pars
  pub fill : Fill t pars args
  pub low : height_of args ≤ n
  pub picks_are : ps ≡ picks_of args ++ ks
  pub fields_are : zs ≡ fields_of args ++ ys
