-- Nodes one behind the other, and the node of an expression over its two parts.
use Rattle.std.specs.Prelude.{◌≡◌, ℕ, Bool, List, [], ◌∷◌, ◌++◌, length, map, ◌<◌, Option, None, Some, option_map}
use Rattle.c_tree.specs.Items.{Item}
use Rattle.c_tree.specs.Names.{first_names}
use Rattle.c_tree.specs.Program.{Term, Function, sizes}
use Rattle.c_tree.specs.Program as program
use Rattle.c_tree.specs.Formula.{Formula, Binary}
use Rattle.c_tree.specs.Formula as formula
use Rattle.c_tree.specs.Resolve.{unary, binary, resolved_functions, named_main}
use Rattle.c_tree.specs.Resolve as resolve
use Rattle.c_flat.specs.declared.node.Node.{Node}
use Rattle.c_flat.specs.declared.function.Body.{Body}
use Rattle.c_flat.specs.declared.chain.Chain.{Chain}
use Rattle.c_flat.specs.declared.chain.Chain.TheVariants as chain
use Rattle.c_flat.specs.Written.{Written, OfTerms, OfCommand, as_term, as_terms, as_command, written, AreBelow, Falls, Extends}

-- the end of arguments, or of commands
abbrev pub end_of : Chain → Written
end_of chain.Arguments = OfTerms program.NoMore
end_of chain.Commands = OfCommand program.Skip

-- one before the others
abbrev pub link : Chain → Written → Written → Written
link chain.Arguments x w = OfTerms (program.More (as_term x) (as_terms w))
link chain.Commands x w = OfCommand (program.Seq (as_command x) (as_command w))

-- several before the others
abbrev pub ahead : Chain → List Written → Written → Written
ahead c [] w = w
ahead c (x ∷ xs) w = link c x (ahead c xs w)

-- Nodes of these numbers stand, and with what is left behind them they are the whole; the old nodes are as before.
pub record Listed (c : Chain) (old nodes : List Node) (ks : List ℕ) (left whole : Written) : Type 0 where
  pub extends : Extends old nodes
  pub falls : Falls nodes
  pub within : AreBelow ks (length nodes)
  pub is : ahead c (map (written nodes) ks) left ≡ whole

-- an expression over what its one or two parts are
abbrev pub over : Formula → Term → Term → Term
over (Binary op x at y) s t = binary op s t (resolve.written y)
over (formula.Unary op at x) s t = unary op s
over _ s t = program.Number 0

-- where a `for` has a condition, what its node writes out
abbrev pub condition_of : (ℕ → Written) → Option ℕ → Option Term
condition_of f = option_map (λ i. as_term (f i))

-- the node of a condition stands before this number, where there is one
abbrev pub IsWithin : Option ℕ → ℕ → Type 0
IsWithin None n = Unit {0}
IsWithin (Some i) n = i < n

-- The node of a condition stands, where there is one; the old nodes are as before, and each names earlier ones.
pub record Conditioned (old new : List Node) (t : Option Term) (condition : Option ℕ) : Type 0 where
  pub extends : Extends old new
  pub falls : Falls new
  pub within : IsWithin condition (length new)
  pub is : condition_of (written new) condition ≡ t

-- what is known of a function: whether it is called `main`, what its body is, and how many cells its variables have
abbrev pub Outline : Type 0
Outline = Bool × (Written × ℕ)

abbrev pub outline : Function → Outline
outline f = (named_main f, (OfCommand f.body, sizes f.variables))

-- the functions of a program, in the text's order
abbrev pub outlines_of : List Item → List Outline
outlines_of gs = map outline (resolved_functions (first_names gs) gs)

-- a body, by what its node writes out
abbrev pub body_shown : List Node → Body → Outline
body_shown nodes b = (b.main, (written nodes b.node, b.cells))

abbrev pub body_nodes : List Body → List ℕ
body_nodes bs = map (λ b. b.node) bs

-- The nodes of these bodies stand, and what they are is the front of the whole, with this left; the old nodes are as before.
pub record Standing (old nodes : List Node) (bs : List Body) (left whole : List Outline) : Type 0 where
  pub extends : Extends old nodes
  pub falls : Falls nodes
  pub within : AreBelow (body_nodes bs) (length nodes)
  pub are : map (body_shown nodes) bs ++ left ≡ whole
