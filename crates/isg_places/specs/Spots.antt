-- Spots, and the cells that they name.
use Rattle.std.specs.Prelude.{ℕ, ◌^◌, ◌<◌, ◌≤◌, ◌≡◌, ℤ, pos, List, ◌++◌, length, map}
use Rattle.std.specs.List.{All}
use Rattle.nml_tree.specs.Act.{Term, Number, Field}
use Rattle.isg_nodes.specs.declared.node.Node.{Node}
use Rattle.isg_nodes.specs.Written.{term}
use Rattle.isg_places.specs.declared.place.At.{At}
use Rattle.isg_places.specs.declared.place.At.TheVariants as at
use Rattle.isg_places.specs.declared.place.Spot.{Spot}

-- the index
abbrev pub index : List Node → At → Term
index nodes (at.Cell k) = Number (pos k)
index nodes (at.Field n) = Field n
index nodes (at.Other i) = term nodes i

-- the cell that the spot names
abbrev pub named : List Node → Spot → ℕ × Term
named nodes s = (s.storage, index nodes s.at)

-- the node of another index is there
abbrev pub IsThere : List Node → At → Type 0
IsThere nodes (at.Other i) = i < length nodes
IsThere nodes _ = Unit {0}

-- neither a field nor a written number of 32 bits
abbrev pub IsOther : Term → Type 0
IsOther (Number (pos k)) = 2 ^ 32 ≤ k
IsOther (Field n) = ⊥
IsOther _ = Unit {0}

-- an index is named in the one way: by a number or a field where it can be
abbrev pub IsAt : List Node → At → Type 0
IsAt nodes (at.Other i) = (i < length nodes) × IsOther (term nodes i)
IsAt nodes _ = Unit {0}

-- the place of an index that is this number, as node i has it
abbrev pub IsPlaceOf : ℤ → ℕ → At → Type 0
IsPlaceOf z i (at.Cell k) = z ≡ pos k
IsPlaceOf z i (at.Field n) = ⊥
IsPlaceOf z i (at.Other j) = (j ≡ i) × IsOther (Number z)

abbrev pub AreSpots : List Node → List Spot → Type 0
AreSpots nodes ss = All (λ s. IsAt nodes s.at) ss

-- spots that name these cells were added
pub record Adds (nodes : List Node) (old new : List Spot) (ps : List (ℕ × Term)) : Type 0 where
  pub spots : AreSpots nodes old → AreSpots nodes new
  pub names : map (named nodes) new ≡ map (named nodes) old ++ ps
