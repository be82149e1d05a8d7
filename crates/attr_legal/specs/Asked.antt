-- What is asked of the events of an action, and where it is answered.
use Rattle.std.specs.Prelude.{ℕ, ◌≡◌, ◌*◌, ℤ, List, [], codes}
use Rattle.attr_eval.specs.Alone.{Alone, ValuesSound, alone}
use Rattle.attr_eval.specs.Lawful.{act_shape}
use Rattle.attr_eval.specs.Walks.{Walks, WalksAll}
use Rattle.attr_legal.specs.declared.key.Key.{Key}
use Rattle.attr_legal.specs.declared.act.Ask.{Ask}
use Rattle.attr_legal.specs.declared.act.Ask.TheVariants as ask
use Rattle.attr_legal.specs.Key.{key_of}
use Rattle.attr_legal.specs.Tally.{excess, hit, hits, tally}
use Rattle.nml_tree.specs.Block.{Block}
use Rattle.nml_tree.specs.Derivation.{Arguments, Compose, Derivation, IsDerivation, fields_of}
use Rattle.nml_tree.specs.Formula.{Formula}
use Rattle.nml_tree.specs.Legal.{Event}
use Rattle.nml_tree.specs.Table.{Rule, Table, Text}
use Rattle.nml_tree.specs.declared.tree.Par.{Par}
use Rattle.nml_tree.specs.Worth.{rule_scope}
use Rattle.nml_tree.specs.Written.{act, action, arguments}
use Rattle.nml_widths.specs.Fitting.{Each, Everywhere, Sound, StandAt}

-- 128 bits hold the values in the expression
abbrev pub SoundIn : Table → Rule → Arguments → ℕ → List ℤ → Formula → Type 0
SoundIn t rule args n zs = Everywhere (Sound (rule_scope t rule) (arguments t n args) (alone zs))

-- and so those of each action
abbrev pub ActionsSound : Table → List ℤ → Type 0
ActionsSound t zs = (name : Text) (rule : Rule) (args : Arguments) (n : ℕ) → IsDerivation t name (Compose rule args) → StandAt zs n (fields_of args) → Each (SoundIn t rule args n zs) rule.action

-- how much an event counts, as what it is: 1 where it is met, or where it is met twice on a path through the whole
abbrev pub weighed : Table → List ℤ → Derivation → Ask → Key → ℕ
weighed t zs x (ask.Count k) key = hit k key
weighed t zs x (ask.Check whole) key = excess (tally (hits (alone zs) key) (act_shape (action t x)))

-- how much an event counts
abbrev pub counts : Table → List ℤ → Derivation → Ask → Event → ℕ
counts t zs x a e = weighed t zs x a (key_of (alone zs) e)

-- the whole is this derivation, and has these fields
abbrev pub IsAsked : Table → List ℤ → Derivation → Ask → Type 0
IsAsked t zs x (ask.Count k) = Unit {0}
IsAsked t zs x (ask.Check whole) = Walks t (codes "instruction") whole.limit x whole.picks.now whole.fields.now [] [] × (whole.fields.now ≡ zs)

pub record Acting (t : Table) (zs : List ℤ) (x : Derivation) (a : Ask) : Type 0 where
  pub values : ValuesSound t zs
  pub actions : ActionsSound t zs
  pub asked : IsAsked t zs x a

-- arguments stand in front, and their fields have the numbers from n on
pub record Here (t : Table) (pars : List Par) (limit : ℕ) (args : Arguments) (ps : List ℕ) (fs : List ℤ) (ks : List ℕ) (ys : List ℤ) (n : ℕ) (zs : List ℤ) (x : Derivation) (a : Ask) : Type 0 where
  pub walks : WalksAll t pars limit args ps fs ks ys
  pub fields_are : Alone t n zs fs
  pub acting : Acting t zs x a

-- how much the events of statements count
abbrev pub weight : Table → Arguments → ℕ → List ℤ → Derivation → Ask → Block → ℕ
weight t args n zs x a b = tally (counts t zs x a) (act_shape (act t (arguments t n args) b))

-- what is added to the measure of a walk that asks for walks through the whole, each rule of which measures so much
abbrev pub asked_measure : ℕ → Ask → ℕ
asked_measure each (ask.Count k) = 0
asked_measure each (ask.Check whole) = whole.limit * each
