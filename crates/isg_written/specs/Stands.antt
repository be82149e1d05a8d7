-- The picks of a derivation stand at the front of a list, and its fields have the numbers from one on.
use Rattle.std.specs.Prelude.{ℕ, zero, suc, ◌≡◌, ◌≤◌, ◌+◌, List, ◌++◌, length}
use Rattle.nml_tree.specs.declared.tree.Par.{Par}
use Rattle.nml_tree.specs.Table.{Text, Table}
use Rattle.nml_tree.specs.Derivation.{Derivation, Arguments, NoMore, Part, Field, IsDerivation, Fill, picks, picks_of, fields, fields_of}
use Rattle.attr_eval.specs.Walks.{height, height_of}

-- how many fields the first k arguments have
abbrev pub before : ℕ → Arguments → ℕ
before zero args = 0
before (suc k) NoMore = 0
before (suc k) (Part name d args) = length (fields d) + before k args
before (suc k) (Field name ty z args) = 1 + before k args

-- the derivation is one of this rule, at most so high, its first field has the number n, its picks are the front of ps, and ks is behind
pub record Stands (t : Table) (name : Text) (limit : ℕ) (d : Derivation) (n : ℕ) (ps ks : List ℕ) : Type 0 where
  pub is : IsDerivation t name d
  pub low : height d ≤ limit
  pub few : n + length (fields d) ≤ 64
  pub picks_are : ps ≡ picks d ++ ks

-- the same of the arguments for these parameters
pub record StandsAll (t : Table) (pars : List Par) (limit : ℕ) (args : Arguments) (n : ℕ) (ps ks : List ℕ) : Type 0 where
  pub fill : Fill t pars args
  pub low : height_of args ≤ limit
  pub few : n + length (fields_of args) ≤ 64
  pub picks_are : ps ≡ picks_of args ++ ks
