-- A description in which all is right, and a state of it.
use Rattle.std.specs.Prelude.{ℕ, ◌≡◌, ℤ, pos, max, List, [], ◌∷◌, map, Option, Some, unwrap_or, slice_get}
use Rattle.nk_base.specs.declared.number.Ty.{Ty}
use Rattle.nk_base.specs.Number.{InRange}
use Rattle.nml_tree.specs.Formula.{Formula}
use Rattle.nml_tree.specs.Block.{Block, Index}
use Rattle.nml_tree.specs.Depth.{block_depth}
use Rattle.nml_tree.specs.Table.{Text, Table, Rule, Declared, declared}
use Rattle.nml_tree.specs.Derivation.{Arguments, Compose, IsDerivation, fields_of}
use Rattle.nml_tree.specs.Value.{View}
use Rattle.nml_tree.specs.Worth.{rule_scope}
use Rattle.nml_tree.specs.Written as written
use Rattle.nml_tree.specs.Written.{arguments}
use Rattle.nml_tree.specs.Exec.{storages, trn_types}
use Rattle.nml_state.specs.Cells.{Shown}
use Rattle.nml_widths.specs.Fitting.{AreOfTypes, Each, EachIndex, EachValue, Everywhere, Sound, StandAt}

-- 128 bits hold the value of each expression of a rule
abbrev pub ActionsSound : Table → View → Type 0
ActionsSound t v = (name : Text) (rule : Rule) (args : Arguments) (n : ℕ) → IsDerivation t name (Compose rule args) → StandAt v.fields n (fields_of args)
    → Each (Everywhere (Sound (rule_scope t rule) (arguments t n args) v)) rule.action × EachValue (Everywhere (Sound (rule_scope t rule) (arguments t n args) v)) rule.value

-- and does whatever cells and transitories hold; these are numbered as their types are
pub record IsLawful (t : Table) : Type 0 where
  pub sound : (v : View) → AreOfTypes t v → ActionsSound t v
  pub storage_types : (name : Text) (n k : ℕ) (ty : Ty) → declared t name ≡ Some (Declared.Storage n k ty) → slice_get (map (λ s. s.1) (storages t)) n ≡ Some ty
  pub trn_types_are : (name : Text) (n : ℕ) (ty : Ty) → declared t name ≡ Some (Declared.Trn n ty) → slice_get (trn_types t) n ≡ Some ty

-- the next input is a number of the port's type, or there is none
abbrev pub NextFits : Table → Option ℤ → Type 0
NextFits t next = (name : Text) (ty : Ty) → declared t name ≡ Some (Declared.Inp ty) → InRange ty (unwrap_or next (pos 0))

-- the state has the types of the description
pub record Ready (t : Table) (next : Option ℤ) (s : Shown) : Type 0 where
  pub lawful : IsLawful t
  pub types_are : s.types ≡ map (λ x. x.1) (storages t)
  pub trn_types_are : s.trn_types ≡ trn_types t
  pub next_fits : NextFits t next

-- an expression, an index and statements of a rule, whatever cells and transitories hold
abbrev pub SoundNow : Table → Rule → written.Scope → List ℤ → Formula → Type 0
SoundNow t rule scope zs x = (v : View) → v.fields ≡ zs → AreOfTypes t v → Everywhere (Sound (rule_scope t rule) scope v) x

abbrev pub IndexSoundNow : Table → Rule → written.Scope → List ℤ → Index → Type 0
IndexSoundNow t rule scope zs i = (v : View) → v.fields ≡ zs → AreOfTypes t v → EachIndex (Everywhere (Sound (rule_scope t rule) scope v)) i

abbrev pub BlockSound : Table → Rule → written.Scope → List ℤ → Block → Type 0
BlockSound t rule scope zs b = (v : View) → v.fields ≡ zs → AreOfTypes t v → Each (Everywhere (Sound (rule_scope t rule) scope v)) b

-- how deep the statements of a rule are, and the deepest of all
abbrev pub declared_depth : Declared → ℕ
declared_depth (Declared.And rule) = block_depth rule.action
declared_depth _ = 0

abbrev pub deepest_action : Table → ℕ
deepest_action [] = 0
deepest_action ((name, d) ∷ t) = max (declared_depth d) (deepest_action t)
