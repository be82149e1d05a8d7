-- How many shapes a rule has, and how many nodes its derivations have at most.
use Rattle.std.specs.Prelude.{ℕ, ◌≡◌, ◌==◌, nat_lt, ◌+◌, ◌*◌, max, Bool, false, ◌&&◌, ◌||◌, IsTrue, List, [], ◌∷◌, length, ◌⊎◌}
use Rattle.std.specs.List.{AllByRecursion}
use Rattle.nml_tree.specs.declared.tree.Par.{Par}
use Rattle.nml_tree.specs.Table.{Text, Table}
use Rattle.nml_tree.specs.Derivation.{IsDerivation, picks}
use Rattle.nml_tree.specs.Shapes.{nodes, counted, IsGreatest}
use Rattle.shape_count.specs.declared.tally.Tally.{Tally}

-- so many shapes, and so many nodes
abbrev pub tally : (count nodes : ℕ) → Tally
tally count nodes = record { count = count; nodes = nodes }

-- those of the one or the other
abbrev pub either : Tally → Tally → Tally
either a b = tally (counted (a.count + b.count)) (max a.nodes b.nodes)

-- those of the one beside the other
abbrev pub both : Tally → Tally → Tally
both a b = tally (counted (a.count * b.count)) (counted (a.nodes + b.nodes))

-- those below a node more
abbrev pub above : Tally → Tally
above a = tally a.count (counted (a.nodes + 1))

-- those of these or of further alternatives
abbrev pub with_alternatives : (Text → Tally) → Tally → List Text → Tally
with_alternatives given a [] = a
with_alternatives given a (n ∷ ns) = with_alternatives given (either a (given n)) ns

-- those of these beside further parameters
abbrev pub with_parameters : (Par → Tally) → Tally → List Par → Tally
with_parameters given a [] = a
with_parameters given a (p ∷ ps) = with_parameters given (both a (given p)) ps

-- it stands in the list
abbrev pub Among : List (List ℕ) → List ℕ → Type 0
Among [] x = ⊥
Among (y ∷ ys) x = (y ≡ x) ⊎ Among ys x

-- the smaller alternative at the first place where they differ: neither is a front of the other
abbrev pub stands_before : List ℕ → List ℕ → Bool
stands_before [] ys = false
stands_before (x ∷ xs) [] = false
stands_before (x ∷ xs) (y ∷ ys) = nat_lt x y || ((x == y) && stands_before xs ys)

-- each comes before all behind it
abbrev pub Ascends : List (List ℕ) → Type 0
Ascends [] = Unit {0}
Ascends (x ∷ xs) = AllByRecursion (λ y. IsTrue (stands_before x y)) xs × Ascends xs

-- the lists of picks of all that Q holds of, each once and in order
pub record AreListed {A : Type 0} (Q : A → Type 0) (picks : A → List ℕ) (shapes : List (List ℕ)) : Type 0 where
  pub ascends : Ascends shapes
  pub each : (x : List ℕ) → Among shapes x → (a : A) × Q a × (picks a ≡ x)
  pub every : (a : A) → Q a → Among shapes (picks a)

-- how many shapes those have that Q holds of, and the most nodes
pub record Tallied {A : Type 0} (Q : A → Type 0) (picks : A → List ℕ) (nodes : A → ℕ) (s : Tally) : Type 0 where
  pub shapes : List (List ℕ)
  pub listed : AreListed Q picks shapes
  pub count_is : s.count ≡ counted (length shapes)
  pub nodes_are : IsGreatest Q nodes s.nodes

-- those of a rule
abbrev pub IsTally : Table → Text → Tally → Type 0
IsTally t name s = Tallied (IsDerivation t name) picks nodes s
