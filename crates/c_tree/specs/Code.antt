-- The statements of an expression: its steps, each with a cell of its own, and the tree that is left.
use Rattle.std.specs.Prelude.{ℕ, zero, suc, ◌+◌, ◌-◌, ◌^◌, nat_lt, pos, Bool, true, false, ◌||◌, List, [], ◌∷◌, ◌++◌, Option, Some, None, slice_get, if◌then◌else◌}
use Rattle.ir_core.specs.Operator.{wrap}
use Rattle.ir_core.specs.declared.operator.Shift.{Shift}
use Rattle.ir_core.specs.declared.operator.Arith.TheVariants as operator
use Rattle.ir_run.specs.Node.{Node, Const, Base, Label, Cell, In, Load, Binary}
use Rattle.ir_run.specs.Node as node
use Rattle.ir_run.specs.Entry.{Entry, Branch, Jump, Mark}
use Rattle.ir_run.specs.Entry as entry
use Rattle.ir_core.specs.declared.relation.Rel.{Rel}
use Rattle.ir_core.specs.declared.relation.Rel.TheVariants as rel
use Rattle.c_tree.specs.declared.meaning.Place.{Place}
use Rattle.c_tree.specs.declared.meaning.Place.TheVariants as places
use Rattle.c_tree.specs.Program.{Term, Terms, Number, Scalar, Element, Input, Call, Unary, Shifted, Arithmetic, Compare, Not, AndAlso, OrElse, NoMore, More}

-- ---- what is seen of a full expression

-- a call of one of the program's functions stands in it
abbrev mutual
  pub has_call : Term → Bool
  has_call (Number z) = false
  has_call (Scalar p) = false
  has_call (Element p n i) = has_call i
  has_call Input = false
  has_call (Call f xs) = true
  has_call (Unary op x) = has_call x
  has_call (Shifted op x k) = has_call x
  has_call (Arithmetic op x y) = has_call x || has_call y
  has_call (Compare r x y) = has_call x || has_call y
  has_call (Not x) = has_call x
  has_call (AndAlso x y) = has_call x || has_call y
  has_call (OrElse x y) = has_call x || has_call y

  pub have_call : Terms → Bool
  have_call NoMore = false
  have_call (More x xs) = has_call x || have_call xs

-- a global scalar is saved where a call begins to its right
abbrev pub is_saved : Bool → Place → Bool
is_saved later (places.Global k) = later
is_saved later (places.Local k) = false

-- what an expression aims at: its value, or to go to a label where it holds, or where it fails
pub data Aim : Type 0 where
  Value : Aim
  When : (label : ℕ) → Aim
  Unless : (label : ℕ) → Aim

-- the same without the label
pub data Side : Type 0 where
  AsValue : Side
  IfHolds : Side
  IfFails : Side

abbrev pub side : Aim → Side
side Value = AsValue
side (When label) = IfHolds
side (Unless label) = IfFails

abbrev pub is_value : Side → Bool
is_value AsValue = true
is_value IfHolds = false
is_value IfFails = false

abbrev pub one_if : Bool → ℕ
one_if true = 1
one_if false = 0

-- How many cells its steps have. `later` tells that a call begins further right in the full expression, `valued` that the value is used otherwise
-- than as a condition.
abbrev mutual
  pub cells : (later valued : Bool) → Term → ℕ
  cells later valued (Number z) = 0
  cells later valued (Scalar p) = one_if (is_saved later p)
  cells later valued (Element p n i) = cells later true i + 1
  cells later valued Input = 1
  cells later valued (Call f xs) = argument_cells later xs + 1
  cells later valued (Unary op x) = cells later true x
  cells later valued (Shifted op x k) = cells later true x
  cells later valued (Arithmetic op x y) = cells (later || has_call y) true x + cells later true y
  cells later valued (Compare r x y) = one_if valued + cells (later || has_call y) true x + cells later true y
  cells later valued (Not x) = one_if valued + cells later false x
  cells later valued (AndAlso x y) = one_if valued + cells (later || has_call y) false x + cells later false y
  cells later valued (OrElse x y) = one_if valued + cells (later || has_call y) false x + cells later false y

  pub argument_cells : (later : Bool) → Terms → ℕ
  argument_cells later NoMore = 0
  argument_cells later (More x xs) = cells (later || have_call xs) true x + 1 + argument_cells later xs

-- the side of what is negated; a value is found out by whether the condition holds
abbrev pub other_side : Side → Side
other_side AsValue = IfFails
other_side IfHolds = IfFails
other_side IfFails = IfHolds

abbrev pub condition_side : Side → Side
condition_side AsValue = IfHolds
condition_side side = side

-- `&&` marks the label behind it, unless it goes to a label where it fails; `||` does where it goes to a label where it fails
abbrev pub and_marks : Side → ℕ
and_marks IfFails = 0
and_marks side = 1

abbrev pub or_marks : Side → ℕ
or_marks IfFails = 1
or_marks side = 0

-- how many labels are marked
abbrev mutual
  pub marks : Side → Term → ℕ
  marks side (Number z) = 0
  marks side (Scalar p) = 0
  marks side (Element p n i) = marks AsValue i
  marks side Input = 0
  marks side (Call f xs) = argument_marks xs + 1
  marks side (Unary op x) = marks AsValue x
  marks side (Shifted op x k) = marks AsValue x
  marks side (Arithmetic op x y) = marks AsValue x + marks AsValue y
  marks side (Compare r x y) = marks AsValue x + marks AsValue y + one_if (is_value side)
  marks side (Not x) = marks (other_side side) x + one_if (is_value side)
  marks side (AndAlso x y) = marks IfFails x + marks (condition_side side) y + and_marks side + one_if (is_value side)
  marks side (OrElse x y) = marks IfHolds x + marks (condition_side side) y + or_marks side + one_if (is_value side)

  pub argument_marks : Terms → ℕ
  argument_marks NoMore = 0
  argument_marks (More x xs) = marks AsValue x + argument_marks xs

-- ---- statements

-- a function's first cell, which is that of its first parameter, its result cell, its return cell and its label
pub record Frame : Type 0 where
  pub first : ℕ
  pub result : ℕ
  pub ret : ℕ
  pub label : ℕ

-- numbers of so many bits, the first cell of the function's own, the frames of the functions that are called, and the trap's label
pub record Layout : Type 0 where
  pub bits : ℕ
  pub base : ℕ
  pub frames : List Frame
  pub trap : ℕ

-- the steps, and the tree that is left
pub record Piece : Type 0 where
  pub steps : List Entry
  pub tree : Node

abbrev pub cell_of : Layout → Place → ℕ
cell_of t (places.Global k) = k
cell_of t (places.Local k) = t.base + k

-- what is done with a value: nothing yet, or a branch where it isn't 0, or is 0
abbrev pub used : Aim → Piece → Piece
used Value p = p
used (When label) p = record { steps = p.steps ++ Branch rel.Ne p.tree (Const (pos 0)) label ∷ []; tree = Const (pos 0) }
used (Unless label) p = record { steps = p.steps ++ Branch rel.Eq p.tree (Const (pos 0)) label ∷ []; tree = Const (pos 0) }

-- a value that is in a cell after these steps
abbrev pub in_cell : List Entry → ℕ → Piece
in_cell steps s = record { steps = steps; tree = Cell s }

-- a scalar that is saved stands in a step's cell
abbrev pub scalar_read : Bool → ℕ → ℕ → Piece
scalar_read true k x = in_cell (entry.Set k (Cell x) ∷ []) k
scalar_read false k x = in_cell [] x

-- the address of an array's element whose index is in a cell
abbrev pub element_address : Layout → Place → ℕ → Node
element_address t p s = Binary operator.Add (Cell s) (Base (cell_of t p))

-- the index goes into its cell and is tested; no index outgrows an array of more than 2^(N-1)-1 elements, which is tested twice against 0
abbrev pub is_below_length : Layout → ℕ → ℕ → Entry
is_below_length t n s =
    if nat_lt n (2 ^ (t.bits - 1)) then Branch rel.Ge (Cell s) (Const (pos n)) t.trap else Branch rel.Lt (Cell s) (Const (pos 0)) t.trap

abbrev pub index_steps : Layout → ℕ → Piece → ℕ → List Entry
index_steps t n i s =
    i.steps ++ entry.Set s i.tree ∷ Branch rel.Lt (Cell s) (Const (pos 0)) t.trap ∷ is_below_length t n s ∷ []

-- `x << 0` and `x >> 0` are x
abbrev pub shifted_tree : Shift → Node → ℕ → Node
shifted_tree op x zero = x
shifted_tree op x (suc k) = node.Shifted op x (suc k)

-- what is negated aims at the label on the other side
abbrev pub negated : Aim → Aim
negated Value = Value
negated (When label) = Unless label
negated (Unless label) = When label

abbrev pub opposite : Rel → Rel
opposite rel.Eq = rel.Ne
opposite rel.Ne = rel.Eq
opposite rel.Lt = rel.Ge
opposite rel.Le = rel.Gt
opposite rel.Gt = rel.Le
opposite rel.Ge = rel.Lt

-- a comparison as a condition
abbrev pub branch : Aim → Rel → Node → Node → List Entry
branch Value r x y = []
branch (When label) r x y = Branch r x y label ∷ []
branch (Unless label) r x y = Branch (opposite r) x y label ∷ []

-- a comparison, `!`, `&&` or `||`: as a value it is 1, and 0 where the condition doesn't go past that to the label
abbrev pub truth : Aim → (k label : ℕ) → (ℕ → Aim → List Entry) → Piece
truth Value k label condition =
    in_cell (entry.Set k (Const (pos 1)) ∷ condition (k + 1) (When label) ++ entry.Set k (Const (pos 0)) ∷ Mark label ∷ []) k
truth aim k label condition = record { steps = condition k aim; tree = Const (pos 0) }

-- `&&` and `||`, `past` being the label behind them
abbrev pub both : Aim → (past : ℕ) → (Aim → List Entry) → (Aim → List Entry) → List Entry
both Value past x y = []
both (When label) past x y = x (Unless past) ++ y (When label) ++ Mark past ∷ []
both (Unless label) past x y = x (Unless label) ++ y (Unless label)

abbrev pub one_of : Aim → (past : ℕ) → (Aim → List Entry) → (Aim → List Entry) → List Entry
one_of Value past x y = []
one_of (When label) past x y = x (When label) ++ y (When label)
one_of (Unless label) past x y = x (When past) ++ y (Unless label) ++ Mark past ∷ []

-- the values in the cells go to parameters
abbrev pub passed : ℕ → List ℕ → List Entry
passed parameter [] = []
passed parameter (s ∷ ss) = entry.Set parameter (Cell s) ∷ passed (parameter + 1) ss

abbrev pub no_frame : Frame
no_frame = record { first = 0; result = 0; ret = 0; label = 0 }

abbrev pub or_no_frame : Option Frame → Frame
or_no_frame None = no_frame
or_no_frame (Some f) = f

abbrev pub frame_of : Layout → ℕ → Frame
frame_of t f = or_no_frame (slice_get t.frames f)

-- behind the arguments' steps: the parameters, the return word, the jump, and where it comes back
abbrev pub jump_steps : Frame → List ℕ → (back : ℕ) → List Entry
jump_steps f ss back = passed f.first ss ++ entry.Set f.ret (Label back) ∷ Jump f.label ∷ Mark back ∷ []

-- the steps of arguments, and the cells in which their values stand
pub record Passing : Type 0 where
  pub steps : List Entry
  pub values : List ℕ

abbrev pub call_steps : Layout → ℕ → Passing → (back : ℕ) → List Entry
call_steps t f xs back = xs.steps ++ jump_steps (frame_of t f) xs.values back

-- The piece of an expression whose first step has cell k, and whose first mark has label l. Steps are done in the order of evaluation.
abbrev mutual
  pub piece : Layout → (k l : ℕ) → (later : Bool) → Aim → Term → Piece
  piece t k l later aim (Number z) = used aim (record { steps = []; tree = Const (wrap t.bits (pos z)) })
  piece t k l later aim (Scalar p) = used aim (scalar_read (is_saved later p) k (cell_of t p))
  piece t k l later aim (Element p n i) =
      let s = k + cells later true i in
      used aim (in_cell (index_steps t n (piece t k l later Value i) s ++ entry.Set s (Load (element_address t p s)) ∷ []) s)
  piece t k l later aim Input = used aim (in_cell (entry.Set k In ∷ []) k)
  piece t k l later aim (Call f xs) =
      let s = k + argument_cells later xs in
      used aim (in_cell (call_steps t f (passing t k l later xs) (l + argument_marks xs) ++ entry.Set s (Cell (frame_of t f).result) ∷ []) s)
  piece t k l later aim (Unary op x) =
      let a = piece t k l later Value x in used aim (record { steps = a.steps; tree = node.Unary op a.tree })
  piece t k l later aim (Shifted op x j) =
      let a = piece t k l later Value x in used aim (record { steps = a.steps; tree = shifted_tree op a.tree j })
  piece t k l later aim (Arithmetic op x y) =
      let a = piece t k l (later || has_call y) Value x in
      let b = piece t (k + cells (later || has_call y) true x) (l + marks AsValue x) later Value y in
      used aim (record { steps = a.steps ++ b.steps; tree = Binary op a.tree b.tree })
  piece t k l later aim (Compare r x y) =
      truth aim k (l + marks AsValue x + marks AsValue y) (λ k u.
      let a = piece t k l (later || has_call y) Value x in
      let b = piece t (k + cells (later || has_call y) true x) (l + marks AsValue x) later Value y in
      a.steps ++ b.steps ++ branch u r a.tree b.tree)
  piece t k l later aim (Not x) =
      truth aim k (l + marks (other_side (side aim)) x) (λ k u. (piece t k l later (negated u) x).steps)
  piece t k l later aim (AndAlso x y) =
      truth aim k (l + marks IfFails x + marks IfHolds y + 1) (λ k u.
      both u (l + marks IfFails x + marks IfHolds y)
      (λ v. (piece t k l (later || has_call y) v x).steps)
      (λ v. (piece t (k + cells (later || has_call y) false x) (l + marks IfFails x) later v y).steps))
  piece t k l later aim (OrElse x y) =
      truth aim k (l + marks IfHolds x + marks IfHolds y) (λ k u.
      one_of u (l + marks IfHolds x + marks IfFails y)
      (λ v. (piece t k l (later || has_call y) v x).steps)
      (λ v. (piece t (k + cells (later || has_call y) false x) (l + marks IfHolds x) later v y).steps))

  pub passing : Layout → (k l : ℕ) → (later : Bool) → Terms → Passing
  passing t k l later NoMore = record { steps = []; values = [] }
  passing t k l later (More x xs) =
      let a = piece t k l (later || have_call xs) Value x in
      let s = k + cells (later || have_call xs) true x in
      let rest = passing t (s + 1) (l + marks AsValue x) later xs in
      record { steps = a.steps ++ entry.Set s a.tree ∷ rest.steps; values = s ∷ rest.values }
