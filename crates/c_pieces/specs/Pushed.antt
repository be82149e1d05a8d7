-- For contracts: statements that were put behind others, and the tree that is left.
use Rattle.std.specs.Prelude.{◌≡◌, ℕ, suc, ◌+◌, ◌||◌, true, pos, Bool, List, [], ◌∷◌, ◌++◌, map}
use Rattle.ir_core.specs.declared.relation.Rel.TheVariants as rel
use Rattle.ir_run.specs.Node.{Node, Const, Cell, Load, node}
use Rattle.ir_run.specs.Entry.{Entry, Set, Branch, Mark, entry}
use Rattle.ir_run.specs.Entry as entries
use Rattle.ir_run.specs.declared.tree.Tree.{Tree}
use Rattle.ir_run.specs.declared.statement.Stmt.{Stmt}
use Rattle.c_tree.specs.Code as code
use Rattle.c_tree.specs.Code.{Aim, Value, When, Unless, Piece, Passing, piece, passing, has_call, is_value, side, cells, marks, argument_cells, argument_marks, branch, both, one_of, in_cell, index_steps, call_steps, element_address, frame_of}
use Rattle.c_tree.specs.Program.{Term, Terms}
use Rattle.c_tree.specs.declared.meaning.Place.{Place}
use Rattle.ir_core.specs.declared.relation.Rel.{Rel}
use Rattle.c_flat.specs.declared.node.Node as flat
use Rattle.c_flat.specs.Written.{Falls}
use Rattle.c_count.specs.declared.size.Size.{Size}
use Rattle.c_count.specs.Sized.{AreCounted}
use Rattle.c_pieces.specs.declared.layout.Frame.{Frame}
use Rattle.c_pieces.specs.declared.layout.Layout.{Layout}
use Rattle.c_pieces.specs.declared.layout.Aim as aims
use Rattle.c_pieces.specs.declared.layout.Aim.TheVariants as aim

-- these statements stand behind the old ones
pub record Pushed (old new : List Stmt) (es : List Entry) : Type 0 where
  pub is : map entry new ≡ map entry old ++ es

-- the steps of an expression stand behind the old statements, and this tree is left
pub record Left (old new : List Stmt) (p : Piece) (left : Tree) : Type 0 where
  pub steps : map entry new ≡ map entry old ++ p.steps
  pub tree : node left ≡ p.tree

-- the steps of arguments stand behind the old statements, and their values in these cells
pub record Passed (old new : List Stmt) (p : Passing) (cells : List ℕ) : Type 0 where
  pub steps : map entry new ≡ map entry old ++ p.steps
  pub values : cells ≡ p.values

-- nodes with what is counted of them
pub record IsProgram (nodes : List flat.Node) (sizes : List Size) : Type 0 where
  pub falls : Falls nodes
  pub counted : AreCounted nodes sizes

-- a frame as the table of lowering sees it
abbrev pub frame_shown : Frame → code.Frame
frame_shown f = record { first = f.first; result = f.result; ret = f.ret; label = f.label }

-- a layout as the table of lowering sees it
abbrev pub layout_shown : Layout → code.Layout
layout_shown t = record { bits = t.bits; base = t.base; frames = map frame_shown t.frames.now; trap = t.trap }

-- what an expression aims at
abbrev pub aim_shown : aims.Aim → Aim
aim_shown aim.Value = Value
aim_shown (aim.When l) = When l
aim_shown (aim.Unless l) = Unless l

-- what is put behind the steps of a value
abbrev pub used_steps : Aim → Node → List Entry
used_steps Value t = []
used_steps (When l) t = Branch rel.Ne t (Const (pos 0)) l ∷ []
used_steps (Unless l) t = Branch rel.Eq t (Const (pos 0)) l ∷ []

-- the tree that is left then
abbrev pub used_tree : Aim → Node → Node
used_tree Value t = t
used_tree (When l) t = Const (pos 0)
used_tree (Unless l) t = Const (pos 0)

-- these statements stand behind the old ones, and this tree is left
pub record Ends (old new : List Stmt) (es : List Entry) (t : Node) (left : Tree) : Type 0 where
  pub steps : map entry new ≡ map entry old ++ es
  pub tree : node left ≡ t

-- the steps of two parts stand behind the old statements, and these trees are left
pub record Both (old new : List Stmt) (a b : Piece) (left right : Tree) : Type 0 where
  pub steps : map entry new ≡ map entry old ++ (a.steps ++ b.steps)
  pub first : node left ≡ a.tree
  pub second : node right ≡ b.tree

-- where a condition begins that may be a value
abbrev pub inner_cell : Aim → ℕ → ℕ
inner_cell Value k = suc k
inner_cell (When l) k = k
inner_cell (Unless l) k = k

-- what it aims at
abbrev pub inner_aim : Aim → (label : ℕ) → Aim
inner_aim Value label = When label
inner_aim (When l) label = When l
inner_aim (Unless l) label = Unless l

-- what stands before such a condition
abbrev pub truth_before : Aim → (k : ℕ) → List Entry
truth_before Value k = Set k (Const (pos 1)) ∷ []
truth_before (When l) k = []
truth_before (Unless l) k = []

-- what stands behind it
abbrev pub truth_behind : Aim → (k label : ℕ) → List Entry
truth_behind Value k label = Set k (Const (pos 0)) ∷ Mark label ∷ []
truth_behind (When l) k label = []
truth_behind (Unless l) k label = []

-- the tree that is left of it
abbrev pub truth_tree : Aim → (k : ℕ) → Node
truth_tree Value k = Cell k
truth_tree (When l) k = Const (pos 0)
truth_tree (Unless l) k = Const (pos 0)

-- the first of two parts that are done one after the other, which aims at v
abbrev pub first_piece : code.Layout → (k l : ℕ) → (later : Bool) → (v : Aim) → (x y : Term) → Piece
first_piece t k l later v x y = piece t k l (later || has_call y) v x

-- the second, which aims at w
abbrev pub second_piece : code.Layout → (k l : ℕ) → (later : Bool) → (v w : Aim) → (x y : Term) → Piece
second_piece t k l later v w x y = piece t (k + cells (later || has_call y) (is_value (side v)) x) (l + marks (side v) x) later w y

-- the steps of a comparison as a condition
abbrev pub compared : code.Layout → (k l : ℕ) → (later : Bool) → Aim → Rel → (x y : Term) → List Entry
compared t k l later u r x y =
    (first_piece t k l later Value x y).steps ++ (second_piece t k l later Value Value x y).steps ++ branch u r (first_piece t k l later Value x y).tree (second_piece t k l later Value Value x y).tree

-- the steps of `&&` as a condition
abbrev pub and_steps : code.Layout → (k l : ℕ) → (later : Bool) → Aim → (past : ℕ) → (x y : Term) → List Entry
and_steps t k l later u past x y =
    both u past (λ v. (first_piece t k l later v x y).steps) (λ v. (second_piece t k l later (Unless past) v x y).steps)

-- the steps of `||` as a condition
abbrev pub or_steps : code.Layout → (k l : ℕ) → (later : Bool) → Aim → (past : ℕ) → (x y : Term) → List Entry
or_steps t k l later u past x y =
    one_of u past (λ v. (first_piece t k l later v x y).steps) (λ v. (second_piece t k l later (When past) v x y).steps)

-- the piece of an array's element
abbrev pub element_piece : code.Layout → (k l : ℕ) → (later : Bool) → Place → ℕ → Term → Piece
element_piece t k l later p n i =
    let s = k + cells later true i in
    in_cell (index_steps t n (piece t k l later Value i) s ++ entries.Set s (Load (element_address t p s)) ∷ []) s

-- the piece of a call whose value is used
abbrev pub called_piece : code.Layout → (k l : ℕ) → (later : Bool) → ℕ → Terms → Piece
called_piece t k l later g xs =
    let s = k + argument_cells later xs in
    in_cell (call_steps t g (passing t k l later xs) (l + argument_marks xs) ++ entries.Set s (Cell (frame_of t g).result) ∷ []) s
