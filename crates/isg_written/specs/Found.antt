-- What nodes write out for an expression.
use Rattle.std.specs.Prelude.{ℕ, ◌≡◌, ◌<◌, pos, List, length, Option, Some, None}
use Rattle.nml_tree.specs.Act.{Term, Out, Number, Cell}
use Rattle.nml_tree.specs.Block.{Index}
use Rattle.nml_tree.specs.Derivation.{Arguments, Derivation}
use Rattle.nml_tree.specs.Formula.{Formula}
use Rattle.nml_tree.specs.Table.{Text, Table, declared, table, pars_of}
use Rattle.nml_tree.specs.Written.{Scope, arguments, term, reference, source, index_term, written}
use Rattle.nml_widths.specs.Fitting.{Everywhere, EachIndex}
use Rattle.isg_nodes.specs.declared.node.Node.{Node}
use Rattle.isg_nodes.specs.Written as nodes
use Rattle.isg_nodes.specs.Written.{Falls}
use Rattle.isg_nodes.specs.Grow.{Extends}
use Rattle.isg_written.specs.declared.found.Found.{Found}
use Rattle.isg_written.specs.declared.found.Found.TheVariants as found
use Rattle.isg_written.specs.declared.front.Front.{Front}
use Rattle.isg_written.specs.Stands.{Stands, StandsAll}
use Rattle.isg_written.specs.Apt.{Apt, IsRead}

-- the new nodes write out the old ones as before
pub record Grows (old new : List Node) : Type 0 where
  pub extends : Extends old new
  pub falls : Falls new

-- what is found is a node, or the output
abbrev pub IsWithin : Found → ℕ → Type 0
IsWithin (found.At n) k = n < k
IsWithin found.Out k = Unit {0}

-- written out it is this
abbrev pub Is : List Node → Found → Term → Type 0
Is all (found.At n) t = nodes.term all n ≡ t
Is all found.Out t = t ≡ Out

-- both
pub record IsTerm (all : List Node) (f : Found) (t : Term) : Type 0 where
  pub within : IsWithin f (length all)
  pub is : Is all f t

-- the node of an index, where there is one
abbrev pub IsIndexWithin : Option ℕ → ℕ → Type 0
IsIndexWithin None k = Unit {0}
IsIndexWithin (Some n) k = n < k

-- the index is this; a name without one has the index 0
abbrev pub IsIndex : List Node → Option ℕ → Term → Type 0
IsIndex all None i = i ≡ Number (pos 0)
IsIndex all (Some n) i = nodes.term all n ≡ i

-- the declared names where an expression stands
abbrev pub here : Front → Table
here f = table f.numbered.now

-- these arguments stand in front
abbrev pub Holds : Front → Arguments → List ℕ → Type 0
Holds f args ks = StandsAll (here f) (pars_of f.pars.now) f.limit args f.first f.picks.now ks

-- what stands for the parameters
abbrev pub scope : Front → Arguments → Scope
scope f args = arguments (here f) f.first args

-- what is found, where arguments stand in front of which P holds, is T
pub record Gives (f : Front) (P : Scope → Type 0) (all : List Node) (x : Found) (T : Scope → Term) : Type 0 where
  pub within : IsWithin x (length all)
  pub is : (args : Arguments) (ks : List ℕ) → Holds f args ks → P (scope f args) → Is all x (T (scope f args))

-- an expression is written out
abbrev pub Writes : Front → List Node → Found → Formula → Type 0
Writes f all x e = Gives f (λ s. Everywhere (Apt (here f) s) e) all x (λ s. term (here f) s e)

-- and so one that is read
abbrev pub Reads : Front → List Node → ℕ → Formula → Type 0
Reads f all n e = Gives f (λ s. IsRead (here f) s e) all (found.At n) (λ s. term (here f) s e)

-- a name is written out, with whatever the index is
pub record Refers (f : Front) (old new : List Node) (x : Found) (name : Text) (index : Option ℕ) : Type 0 where
  pub within : IsWithin x (length new)
  pub is : (args : Arguments) (ks : List ℕ) (i : Term) → Holds f args ks → IsIndex old index i → Is new x (reference (here f) (scope f args) name i)

-- and what a declared name is
pub record Sources (t : Table) (old new : List Node) (x : Found) (name : Text) (index : Option ℕ) : Type 0 where
  pub within : IsWithin x (length new)
  pub is : (i : Term) → IsIndex old index i → Is new x (source (declared t name) i)

-- and a cell of a storage
pub record IsCell (old new : List Node) (x : Found) (storage : ℕ) (index : Option ℕ) : Type 0 where
  pub within : IsWithin x (length new)
  pub is : (i : Term) → IsIndex old index i → Is new x (Cell storage i)

-- a mode's value is written out, whichever derivation stands in front
pub record Values (t : Table) (name : Text) (limit n : ℕ) (ps : List ℕ) (all : List Node) (x : Found) : Type 0 where
  pub within : IsWithin x (length all)
  pub is : (d : Derivation) (ks : List ℕ) → Stands t name limit d n ps ks → Is all x (written t n d).value

-- the index of a place is written out
pub record Indexes (f : Front) (all : List Node) (index : Option ℕ) (i : Index) : Type 0 where
  pub within : IsIndexWithin index (length all)
  pub is : (args : Arguments) (ks : List ℕ) → Holds f args ks → EachIndex (IsRead (here f) (scope f args)) i → IsIndex all index (index_term (here f) (scope f args) i)
