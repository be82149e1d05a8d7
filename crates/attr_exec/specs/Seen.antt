-- What is read of a written-out expression: its value, whether the input is read on the way, and the place that it names.
use Rattle.std.specs.Prelude.{ℕ, ◌≡◌, ℤ, unsigned_abs, Bool, ◌||◌, List, drop, Option}
use Rattle.nml_tree.specs.declared.operator.Un.{Un}
use Rattle.nml_tree.specs.declared.operator.Bin.{Bin}
use Rattle.nml_tree.specs.Table.{Text, Table, Rule}
use Rattle.nml_tree.specs.Derivation.{Arguments, Compose, IsDerivation, fields_of}
use Rattle.nml_tree.specs.Act.{Term, Cell, Trn, Out}
use Rattle.nml_tree.specs.Value.{View, value, takes, unary, binary}
use Rattle.nml_tree.specs.Worth.{rule_scope}
use Rattle.nml_tree.specs.Written.{arguments}
use Rattle.nml_state.specs.Cells.{Shown}
use Rattle.nml_widths.specs.Fitting.{EachValue, Everywhere, Sound, StandAt}
use Rattle.attr_exec.specs.declared.look.Spot.{Spot}
use Rattle.attr_exec.specs.declared.look.Spot.TheVariants as spot
use Rattle.attr_exec.specs.declared.look.Seen.{Seen}

-- these fields, and what a state holds, with the next input
abbrev pub view : List ℤ → Shown → Option ℤ → View
view zs s next = record { fields = zs; cells = s.cells; trns = s.trns; next = next }

-- the place that an expression names
abbrev pub spot_of : View → Term → Spot
spot_of v (Cell n i) = spot.Cell n (unsigned_abs (value v i))
spot_of v (Trn n) = spot.Trn n
spot_of v Out = spot.Out
spot_of v _ = spot.Nowhere

-- all that is read of it
abbrev pub seen : View → Term → Seen
seen v x = record { value = value v x; took = takes v x; spot = spot_of v x }

-- a value that names no place
abbrev pub plain : ℤ → Bool → Seen
plain z took = record { value = z; took = took; spot = spot.Nowhere }

-- what operators make of what is read
abbrev pub one_seen : Un → Seen → Seen
one_seen op a = plain (unary op a.value) a.took

abbrev pub two_seen : Bin → Seen → Seen → Seen
two_seen op a b = plain (binary op a.value b.value) (a.took || b.took)

-- and what is chosen behind a condition
abbrev pub behind_seen : Seen → Seen → Seen
behind_seen c a = plain a.value (c.took || a.took)

-- what is read of an index
abbrev pub IsIndex : View → Seen → Term → Type 0
IsIndex v index i = (index.value ≡ value v i) × (index.took ≡ takes v i)

-- 128 bits hold the value of each expression in a mode's value
abbrev pub ModesSound : Table → View → Type 0
ModesSound t v = (name : Text) (rule : Rule) (args : Arguments) (n : ℕ) → IsDerivation t name (Compose rule args) → StandAt v.fields n (fields_of args)
    → EachValue (Everywhere (Sound (rule_scope t rule) (arguments t n args) v)) rule.value

-- these are the fields from the number n on
pub record Stands (t : Table) (n : ℕ) (v : View) (left : List ℤ) : Type 0 where
  pub sound : ModesSound t v
  pub left_are : drop n v.fields ≡ left
