-- A machine with its shapes and its patterns.
use Rattle.std.specs.Prelude.{ℕ, ◌==◌, Bool, true, false, ◌&&◌, List, slice_get, Option, Some, None, option_and_then, option_map}
use Rattle.isg_places.specs.declared.place.Place.{Place}
use Rattle.pat_core.specs.Machine.{Machine}
use Rattle.pat_core.specs.Shape.{Shape}
use Rattle.pat_core.specs.Patterns.{Pattern, patterns}

-- the machine, its shapes in their order, its patterns in theirs
pub record Isa : Type 0 where
  pub machine : Machine
  pub shapes : List Shape
  pub patterns : List Pattern

-- with all patterns of the shapes
abbrev pub isa : Machine → List Shape → Isa
isa m shapes = record { machine = m; shapes = shapes; patterns = patterns m 0 shapes }

-- a pattern with its shape
abbrev pub pattern_at : Isa → ℕ → Option (Pattern × Shape)
pattern_at isa k = option_and_then (λ p. option_map (λ s. (p, s)) (slice_get isa.shapes p.shape)) (slice_get isa.patterns k)

-- the same cell, or none
abbrev pub same_index : Option ℕ → Option ℕ → Bool
same_index None None = true
same_index (Some c) (Some d) = c == d
same_index _ _ = false

-- the same place
abbrev pub same_place : Place → Place → Bool
same_place p q = (p.storage == q.storage) && same_index p.index q.index

-- a cell of the data memory, chosen at the use
abbrev pub home : Isa → Place
home isa = record { storage = isa.machine.dm; index = None }
