-- What the nodes of a graph write out.
use Rattle.std.specs.Prelude.{ℕ, ◌<◌, ◌≡◌, List, [], ◌∷◌, length, reverse, pos, slice_get, ◌==◌, if◌then◌else◌, Some}
use Rattle.std.specs.List.{AllByRecursion}
use Rattle.nml_tree.specs.Act.{Term, Act, Done, Number, Field, Cell, Trn, Inp, Unary, Binary, Choose, SetCell, SetTrn, Put, Halt, When}
use Rattle.isg_nodes.specs.declared.node.Node.{Node}
use Rattle.isg_nodes.specs.declared.node.Node.TheVariants as node

-- one node as an expression, over what the older ones write out; a statement is the number 0
abbrev pub one_term : Node → (ℕ → Term) → Term
one_term (node.Number z) f = Number z
one_term (node.Field n) f = Field n
one_term (node.Cell n i) f = Cell n (f i)
one_term (node.Trn n) f = Trn n
one_term node.Inp f = Inp
one_term (node.Unary op x) f = Unary op (f x)
one_term (node.Binary op x y) f = Binary op (f x) (f y)
one_term (node.Choose c x y) f = Choose (f c) (f x) (f y)
one_term _ f = Number (pos 0)

-- the statements of a list, then the rest
abbrev pub in_order : (ℕ → Act → Act) → List ℕ → Act → Act
in_order a [] rest = rest
in_order a (x ∷ xs) rest = a x (in_order a xs rest)

-- one node as a statement, then the rest; an expression is no statement
abbrev pub one_act : Node → (ℕ → Term) → (ℕ → Act → Act) → Act → Act
one_act (node.SetCell n i e) f a rest = SetCell n (f i) (f e) rest
one_act (node.SetTrn n e) f a rest = SetTrn n (f e) rest
one_act (node.Put e) f a rest = Put (f e) rest
one_act (node.Halt e) f a rest = Halt (f e) rest
one_act (node.When c xs ys) f a rest = When (f c) (in_order a xs Done) (in_order a ys Done) rest
one_act _ f a rest = rest

-- the node of this number, of nodes that stand from the newest on
abbrev pub grown_term : List Node → ℕ → Term
grown_term [] n = Number (pos 0)
grown_term (x ∷ older) n = if n == length older then one_term x (grown_term older) else grown_term older n

abbrev pub grown_act : List Node → ℕ → Act → Act
grown_act [] n rest = rest
grown_act (x ∷ older) n rest = if n == length older then one_act x (grown_term older) (grown_act older) rest else grown_act older n rest

-- the node of this number as an expression
unfoldable pub term : List Node → ℕ → Term
term nodes n = grown_term (reverse nodes) n

-- the node of this number as a statement, then the rest
unfoldable pub statement : List Node → ℕ → Act → Act
statement nodes n rest = grown_act (reverse nodes) n rest

-- a list of statements, written out
abbrev pub action : List Node → List ℕ → Act
action nodes effect = in_order (statement nodes) effect Done

-- numbers of nodes below this one
abbrev pub AllBelow : List ℕ → ℕ → Type 0
AllBelow xs n = AllByRecursion (λ x. x < n) xs

-- the node's operands are below this number
abbrev pub IsBelow : Node → ℕ → Type 0
IsBelow (node.Number z) n = Unit {0}
IsBelow (node.Field k) n = Unit {0}
IsBelow (node.Cell k i) n = i < n
IsBelow (node.Trn k) n = Unit {0}
IsBelow node.Inp n = Unit {0}
IsBelow (node.Unary op x) n = x < n
IsBelow (node.Binary op x y) n = (x < n) × (y < n)
IsBelow (node.Choose c x y) n = (c < n) × ((x < n) × (y < n))
IsBelow (node.SetCell k i e) n = (i < n) × (e < n)
IsBelow (node.SetTrn k e) n = e < n
IsBelow (node.Put e) n = e < n
IsBelow (node.Halt e) n = e < n
IsBelow (node.When c xs ys) n = (c < n) × (AllBelow xs n × AllBelow ys n)

-- each operand of a node is an older node
pub record Falls (nodes : List Node) : Type 0 where
  pub each : (n : ℕ) (x : Node) → slice_get nodes n ≡ Some x → IsBelow x n
