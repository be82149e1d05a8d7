-- What a search through a graph of calls knows, and an order of its functions.
use Rattle.std.specs.Prelude.{ℕ, ◌≡◌, ◌≤◌, ◌<◌, Bool, true, false, List, length, slice_index_or, Option, Some, None}
use Rattle.c_tree.specs.Recursion.{Graph, Among, Edge, Reaches}

-- the least number of which this holds, or that there is none
abbrev pub LeastOf : (ℕ → Type 0) → Option ℕ → Type 0
LeastOf P None = (b : ℕ) → P b → ⊥
LeastOf P (Some at) = P at × ((b : ℕ) → P b → at ≤ b)

abbrev pub Marked : List Bool → ℕ → Type 0
Marked marks b = slice_index_or marks b false ≡ true

-- of a search from a: what is marked waits or was seen, and is reached
pub record IsSearch (g : Graph) (a : ℕ) (marks : List Bool) (work : List ℕ) : Type 0 where
  pub long : length marks ≡ length g
  pub listed : (b : ℕ) → Marked marks b → Among work b
  pub marked : (b : ℕ) → Among work b → Marked marks b
  pub reached : (b : ℕ) → Among work b → Reaches g a b
  pub below : (b : ℕ) → Among work b → b < length g

-- more is marked, and all that x names
pub record Visited (g : Graph) (x : ℕ) (before after : List Bool) : Type 0 where
  pub kept : (b : ℕ) → Marked before b → Marked after b
  pub all : (b : ℕ) → Edge g x b → b < length g → Marked after b

-- the rank of a function
abbrev pub rank : List ℕ → ℕ → ℕ
rank ranks x = slice_index_or ranks x 0

-- no function calls one of a higher rank
pub record IsRanked (g : Graph) (ranks : List ℕ) : Type 0 where
  pub each : (x y : ℕ) → Edge g x y → y < length g → rank ranks y ≤ rank ranks x

-- it calls functions of lower ranks alone
abbrev pub IsStrict : Graph → List ℕ → ℕ → Type 0
IsStrict g ranks x = (y : ℕ) → Edge g x y → y < length g → rank ranks y < rank ranks x

-- and so do all before this one
abbrev pub AreStrictBelow : Graph → List ℕ → ℕ → Type 0
AreStrictBelow g ranks a = (x : ℕ) → x < a → IsStrict g ranks x
