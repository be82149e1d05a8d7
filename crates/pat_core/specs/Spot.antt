-- A place as an action names it.
use Rattle.std.specs.Prelude.{ℕ, ◌==◌, unsigned_abs, Bool, true, false, ◌&&◌, ◌||◌, Option, Some, None, if◌then◌else◌}
use Rattle.nml_tree.specs.Act.{Term}
use Rattle.nml_tree.specs.Act as act
use Rattle.pat_core.specs.Machine.{Machine}

-- by a cell's number, by a field, or by any other index
pub data At : Type 0 where
  Cell : ℕ → At
  Field : ℕ → At
  Other : Term → At

-- a cell of a storage, as it is named
pub record Spot : Type 0 where
  pub storage : ℕ
  pub at : At

-- how an index names a cell
abbrev pub at : Term → At
at (act.Number z) = Cell (unsigned_abs z)
at (act.Field j) = Field j
at i = Other i

-- the spot of a storage at an index
abbrev pub spot : ℕ → Term → Spot
spot n i = record { storage = n; at = at i }

-- by a number or a field
abbrev pub is_named : At → Bool
is_named (Other i) = false
is_named _ = true

-- `R[i]` of a storage other than the data memory and PC is a cell where i is a number or a field
abbrev pub register : Machine → ℕ → Term → Option Spot
register m n i = if (n == m.dm) || (n == m.pc) then None else if is_named (at i) then Some (spot n i) else None

-- the same number, or the same field
abbrev pub same_at : At → At → Bool
same_at (Cell c) (Cell d) = c == d
same_at (Field j) (Field k) = j == k
same_at _ _ = false

-- the same storage, and the same number or field
abbrev pub same_spot : Spot → Spot → Bool
same_spot s t = (s.storage == t.storage) && same_at s.at t.at
