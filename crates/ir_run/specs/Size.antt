-- What is counted of statements: trees, jumps and halts, nodes, constants, operations.
use Rattle.std.specs.Prelude.{ℕ, ◌+◌, ◌==◌, max, ℤ, Bool, true, false, List, [], ◌∷◌, ◌++◌, flat_map}
use Rattle.std.specs.List.{list_any}
use Rattle.ir_core.specs.declared.operator.Prefix.{Prefix}
use Rattle.ir_core.specs.declared.operator.Prefix.TheVariants as prefix
use Rattle.ir_core.specs.declared.operator.Shift.{Shift}
use Rattle.ir_core.specs.declared.operator.Shift.TheVariants as shift
use Rattle.ir_core.specs.declared.operator.Arith.{Arith}
use Rattle.ir_core.specs.declared.operator.Arith.TheVariants as arith
use Rattle.ir_run.specs.Node.{Node, Const, In, Load, Unary, Shifted, Binary}
use Rattle.ir_run.specs.Entry.{Entry, Set, Store, Out, Branch, JumpCell, Jump, Mark, Halt}
use Rattle.ir_core.specs.declared.relation.Rel.{Rel}
use Rattle.ir_core.specs.declared.relation.Rel.TheVariants as rel

-- the statements with trees
abbrev pub is_tree : Entry → Bool
is_tree (Jump l) = false
is_tree (Mark l) = false
is_tree (Halt code) = false
is_tree _ = true

-- jumps and halts
abbrev pub is_control : Entry → Bool
is_control (Jump l) = true
is_control (Halt code) = true
is_control _ = false

-- the trees of a statement
abbrev pub trees_of : Entry → List Node
trees_of (Set k t) = t ∷ []
trees_of (Store t u) = t ∷ u ∷ []
trees_of (Out t) = t ∷ []
trees_of (Branch r t u l) = t ∷ u ∷ []
trees_of _ = []

-- ---- nodes

-- a tree's operators and leaves
abbrev pub nodes : Node → ℕ
nodes (Load t) = 1 + nodes t
nodes (Unary op t) = 1 + nodes t
nodes (Shifted op t k) = 1 + nodes t
nodes (Binary op t u) = 1 + nodes t + nodes u
nodes _ = 1

abbrev pub nodes_of_all : List Node → ℕ
nodes_of_all [] = 0
nodes_of_all (t ∷ ts) = nodes t + nodes_of_all ts

-- the nodes of the largest statement below its root
abbrev pub most_nodes : List Entry → ℕ
most_nodes [] = 0
most_nodes (e ∷ es) = max (nodes_of_all (trees_of e)) (most_nodes es)

-- ---- constants

abbrev pub constants : Node → List ℤ
constants (Const z) = z ∷ []
constants (Load t) = constants t
constants (Unary op t) = constants t
constants (Shifted op t k) = constants t
constants (Binary op t u) = constants t ++ constants u
constants _ = []

abbrev pub constants_of_all : List Entry → List ℤ
constants_of_all entries = flat_map constants (flat_map trees_of entries)

-- ---- operations

-- the operations, in the order in which the compiler lists them
pub data Operation : Type 0 where
  Copying : Operation
  Loading : Operation
  Storing : Operation
  Taking : Operation
  Putting : Operation
  By : Arith → Operation
  First : Prefix → Operation
  Moving : Shift → Operation
  Comparing : Rel → Operation
  Jumping : Operation
  JumpingByCell : Operation
  Halting : Operation

abbrev pub arith_number : Arith → ℕ
arith_number arith.Add = 5
arith_number arith.Sub = 6
arith_number arith.Mul = 7
arith_number arith.And = 9
arith_number arith.Or = 10
arith_number arith.Xor = 11

abbrev pub prefix_number : Prefix → ℕ
prefix_number prefix.Neg = 8
prefix_number prefix.Not = 12

abbrev pub shift_number : Shift → ℕ
shift_number shift.Shl = 13
shift_number shift.Shr = 14

abbrev pub rel_number : Rel → ℕ
rel_number rel.Eq = 15
rel_number rel.Ne = 16
rel_number rel.Lt = 17
rel_number rel.Le = 18
rel_number rel.Gt = 19
rel_number rel.Ge = 20

-- an operation's number: copy 0, load 1, store 2, in 3, out 4, add 5, sub 6, mul 7, neg 8, and 9, or 10, xor 11, not 12, shl 13, shr 14, eq 15,
-- ne 16, lt 17, le 18, gt 19, ge 20, jump 21, jumpcell 22, halt 23
abbrev pub operation_number : Operation → ℕ
operation_number Copying = 0
operation_number Loading = 1
operation_number Storing = 2
operation_number Taking = 3
operation_number Putting = 4
operation_number (By op) = arith_number op
operation_number (First op) = prefix_number op
operation_number (Moving op) = shift_number op
operation_number (Comparing r) = rel_number r
operation_number Jumping = 21
operation_number JumpingByCell = 22
operation_number Halting = 23

-- one for each node with a name, in prefix order
abbrev pub node_operations : Node → List Operation
node_operations In = Taking ∷ []
node_operations (Load t) = Loading ∷ node_operations t
node_operations (Unary op t) = First op ∷ node_operations t
node_operations (Shifted op t k) = Moving op ∷ node_operations t
node_operations (Binary op t u) = By op ∷ node_operations t ++ node_operations u
node_operations _ = []

-- one for the root of a statement; a mark has none
abbrev pub root_operations : Entry → List Operation
root_operations (Set k t) = Copying ∷ []
root_operations (Store t u) = Storing ∷ []
root_operations (Out t) = Putting ∷ []
root_operations (Branch r t u l) = Comparing r ∷ []
root_operations (JumpCell k) = JumpingByCell ∷ []
root_operations (Jump l) = Jumping ∷ []
root_operations (Mark l) = []
root_operations (Halt code) = Halting ∷ []

-- the operations of a statement: its root's, and those of its trees
abbrev pub operations : Entry → List Operation
operations e = root_operations e ++ flat_map node_operations (trees_of e)

-- the numbers of the operations that statements use
abbrev pub uses : List Entry → ℕ → Bool
uses entries number = list_any (λ op. operation_number op == number) (flat_map operations entries)
