-- By which formulas an operation is done that no pattern does.
use Rattle.std.specs.Prelude.{ℤ, pos, negsuc, Bool, true, false, List, [], ◌∷◌, ◌++◌, map, flat_map, filter, Option, Some, None, slice_get}
use Rattle.std.specs.List.{list_all}
use Rattle.ir_core.specs.declared.relation.Rel.{Rel}
use Rattle.ir_core.specs.declared.relation.Rel.TheVariants as rel
use Rattle.ir_core.specs.declared.operator.Prefix.{Prefix}
use Rattle.ir_core.specs.declared.operator.Prefix.TheVariants as prefixes
use Rattle.ir_core.specs.declared.operator.Shift.{Shift}
use Rattle.ir_core.specs.declared.operator.Shift.TheVariants as shifts
use Rattle.ir_core.specs.declared.operator.Arith.{Arith}
use Rattle.ir_core.specs.declared.operator.Arith.TheVariants as ariths
use Rattle.ir_run.specs.Node.{Node, Const, Cell, Unary, Binary}
use Rattle.ir_run.specs.Size.{By, First, Moving, Comparing, Jumping, node_operations}
use Rattle.pat_core.specs.Operation.{Test, Related, IsZero, IsNegative, Op, Of, ZeroTest, NegativeTest, test_op}

-- a part of a formula for a relation
pub data Step : Type 0 where
  To : Test → Node → Node → Step  -- a branch to the target
  Past : Test → Node → Node → Step  -- a branch past the end
  Go : Step  -- the jump to the target

-- what stands for an operation over its two operands; of one operand, for that one alone
pub data Formula : Type 0 where
  InTree : (Node → Node → Node) → Formula  -- for a result: a tree, put in its place in the tree
  ByCells : (Node → Node → Node) → Formula  -- for a result: a tree over cells, computed one operation at a time
  Instead : Test → (Node → Node → Node) → (Node → Node → Node) → Formula  -- for a relation: another one over two trees, in its place
  ByBranches : (Node → Node → List Step) → Formula  -- for a relation: steps over cells

-- a + b
abbrev add : Node → Node → Node
add a b = Binary ariths.Add a b

-- a - b
abbrev sub : Node → Node → Node
sub a b = Binary ariths.Sub a b

-- a & b
abbrev and : Node → Node → Node
and a b = Binary ariths.And a b

-- a | b
abbrev or : Node → Node → Node
or a b = Binary ariths.Or a b

-- a ^ b
abbrev xor : Node → Node → Node
xor a b = Binary ariths.Xor a b

-- -a
abbrev neg : Node → Node
neg a = Unary prefixes.Neg a

-- ~a
abbrev not : Node → Node
not a = Unary prefixes.Not a

-- a number
abbrev number : ℤ → Node
number z = Const z

-- a - b with its sign turned where it has wrapped: its sign tells whether a < b
abbrev pub less : Node → Node → Node
less a b = xor (sub a b) (and (xor a b) (xor (sub a b) a))

-- a branch past a jump to the target
abbrev pub skip : Test → (Node → Node → Node) → (Node → Node → Node) → Formula
skip test x y = ByBranches (λ a b. Past test (x a b) (y a b) ∷ Go ∷ [])

-- the first operand
abbrev left : Node → Node → Node
left a b = a

-- the second operand
abbrev right : Node → Node → Node
right a b = b

-- the number 0
abbrev nought : Node → Node → Node
nought a b = number (pos 0)

-- of `+ - * & | ^`
abbrev arith_formulas : Arith → List Formula
arith_formulas ariths.Add = InTree (λ a b. sub a (neg b)) ∷ InTree (λ a b. sub a (sub (number (pos 0)) b)) ∷ []
arith_formulas ariths.Sub = InTree (λ a b. add a (neg b)) ∷ InTree (λ a b. add (add a (not b)) (number (pos 1))) ∷ []
arith_formulas ariths.Mul = []
arith_formulas ariths.And = ByCells (λ a b. sub (add a b) (or a b)) ∷ []
arith_formulas ariths.Or = ByCells (λ a b. sub (add a b) (and a b)) ∷ []
arith_formulas ariths.Xor = ByCells (λ a b. sub (or a b) (and a b)) ∷ []

-- of `-` and `~`
abbrev prefix_formulas : Prefix → List Formula
prefix_formulas prefixes.Neg = InTree (λ a b. sub (number (pos 0)) a) ∷ []
prefix_formulas prefixes.Not = InTree (λ a b. xor a (number (negsuc 0))) ∷ InTree (λ a b. sub (number (negsuc 0)) a) ∷ []

-- `<<` by 1
abbrev shift_formulas : Shift → List Formula
shift_formulas shifts.Shl = ByCells (λ a b. add a a) ∷ []
shift_formulas shifts.Shr = []

-- of the relations
abbrev relation_formulas : Rel → List Formula
relation_formulas rel.Eq = Instead IsZero sub nought ∷ skip (Related rel.Ne) left right
    ∷ ByBranches (λ a b. Past (Related rel.Lt) a b ∷ Past (Related rel.Lt) b a ∷ Go ∷ []) ∷ []
relation_formulas rel.Ne = skip (Related rel.Eq) left right
    ∷ ByBranches (λ a b. To (Related rel.Lt) a b ∷ To (Related rel.Lt) b a ∷ []) ∷ skip IsZero sub nought ∷ []
relation_formulas rel.Lt = Instead (Related rel.Gt) right left ∷ skip (Related rel.Ge) left right
    ∷ ByBranches (λ a b. To IsNegative (less a b) (number (pos 0)) ∷ []) ∷ []
relation_formulas rel.Gt = Instead (Related rel.Lt) right left ∷ skip (Related rel.Le) left right
    ∷ ByBranches (λ a b. To IsNegative (less b a) (number (pos 0)) ∷ []) ∷ []
relation_formulas rel.Ge = Instead (Related rel.Le) right left ∷ skip (Related rel.Lt) left right ∷ skip IsNegative less nought ∷ []
relation_formulas rel.Le = Instead (Related rel.Ge) right left ∷ skip (Related rel.Gt) left right ∷ skip (Related rel.Lt) right left
    ∷ skip IsNegative (λ a b. less b a) nought ∷ []

-- the formulas of an operation, in order
abbrev pub formulas : Op → List Formula
formulas (Of (By op)) = arith_formulas op
formulas (Of (First op)) = prefix_formulas op
formulas (Of (Moving op)) = shift_formulas op
formulas (Of (Comparing r)) = relation_formulas r
formulas ZeroTest = Instead (Related rel.Eq) left nought ∷ []
formulas NegativeTest = Instead (Related rel.Lt) left nought ∷ []
formulas _ = []

-- ---- the operations of a formula

-- the operations of a tree
abbrev pub node_ops : Node → List Op
node_ops t = map (λ op. Of op) (node_operations t)

-- the operations of a step
abbrev pub step_ops : Step → List Op
step_ops (To test x y) = test_op test ∷ node_ops x ++ node_ops y
step_ops (Past test x y) = test_op test ∷ node_ops x ++ node_ops y
step_ops Go = Of Jumping ∷ []

-- over two leaves
abbrev pub formula_ops : Formula → List Op
formula_ops (InTree f) = node_ops (f (Cell 0) (Cell 1))
formula_ops (ByCells f) = node_ops (f (Cell 0) (Cell 1))
formula_ops (Instead test f g) = test_op test ∷ node_ops (f (Cell 0) (Cell 1)) ++ node_ops (g (Cell 0) (Cell 1))
formula_ops (ByBranches f) = flat_map step_ops (f (Cell 0) (Cell 1))

-- a formula is usable where all its operations have Certs; the first one is taken
abbrev pub usable : (Op → Bool) → Op → Option Formula
usable has op = slice_get (filter (λ f. list_all has (formula_ops f)) (formulas op)) 0

-- there is one
abbrev pub is_usable : Option Formula → Bool
is_usable None = false
is_usable (Some f) = true
