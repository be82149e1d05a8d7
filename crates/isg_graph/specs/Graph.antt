-- The graph of a description: its nodes, its shapes, and for each shape what it does.
use Rattle.std.specs.Prelude.{ℕ, ◌≡◌, ◌≤◌, Bool, List, length, Result, Some, IsTrue, slice_get}
use Rattle.nk_base.specs.declared.number.Ty.{Ty}
use Rattle.nk_base.specs.declared.number.Ty.TheVariants as ty
use Rattle.nml_tree.specs.declared.tree.Desc.{Desc}
use Rattle.nml_tree.specs.Table.{table}
use Rattle.nml_tree.specs.Derivation.{Derivation, picks}
use Rattle.nml_tree.specs.Exec as exec
use Rattle.nml_tree.specs.Legal.{IsLegal}
use Rattle.nml_tree.specs.Refused.{IsChecked}
use Rattle.nml_tree.specs.Valid.{IsRoot, IsWordWidth}
use Rattle.nml_tree.specs.Written as written
use Rattle.nml_shape.specs.declared.shape.Shape.{Shape}
use Rattle.nml_shape.specs.Shown.{AreAllShapes}
use Rattle.nml_target.specs.Target as spec
use Rattle.nml_target.specs.declared.width.Lacking.{Lacking}
use Rattle.isg_nodes.specs.Fields.{AreTyped}
use Rattle.isg_nodes.specs.declared.node.Node.{Node}
use Rattle.isg_nodes.specs.Written.{AllBelow, Falls, action}

-- the description; the nodes; all shapes in order, and for each its statements by their nodes; the bits of a word and of PC; the number of
-- PC's storage, and the type of the `out`; what programs compute with
pub record Graph : Type 0 where
  pub desc : Desc
  pub nodes : List Node
  pub shapes : List Shape
  pub effects : List (List ℕ)
  pub word_bits : ℕ
  pub pc_bits : ℕ
  pub pc : ℕ
  pub out : Ty
  pub target : Result ℕ Lacking

-- an instruction of the shape, legal or not
abbrev pub IsOf : Desc → Shape → Derivation → Type 0
IsOf d s x = IsRoot (table d) x × (picks x ≡ s.picks.items)

-- for each of the first there is one of the second at its place, and it is so
pub record AreFor {A B : Type 0} (P : A → B → Type 0) (xs : List A) (ys : List B) : Type 0 where
  pub many : length ys ≡ length xs
  pub each : (n : ℕ) (x : A) (y : B) → slice_get xs n ≡ Some x → slice_get ys n ≡ Some y → P x y

-- the statements of these nodes, written out in order, are the action of each instruction of the shape
pub record IsEffect (d : Desc) (nodes : List Node) (s : Shape) (effect : List ℕ) : Type 0 where
  pub below : AllBelow effect (length nodes)
  pub is : (x : Derivation) → IsOf d s x → action nodes effect ≡ written.action (table d) x

-- where it is said that none can clash, each instruction of the shape is legal
abbrev pub IsQuiet : Desc → Shape → Bool → Type 0
IsQuiet d s quiet = IsTrue quiet → (x : Derivation) → IsOf d s x → IsLegal (table d) x

-- the numbers of each field of the shape can be read off a word
abbrev pub HasTyped : Shape → Type 0
HasTyped s = AreTyped s.fields.items

-- what holds of each graph
pub record IsGraph (g : Graph) : Type 0 where
  pub checked : IsChecked g.desc
  pub falls : Falls g.nodes
  pub shapes_are : AreAllShapes g.desc g.shapes
  pub typed : (n : ℕ) (s : Shape) → slice_get g.shapes n ≡ Some s → HasTyped s
  pub effects_are : AreFor (IsEffect g.desc g.nodes) g.shapes g.effects
  pub word_bits_are : IsWordWidth (table g.desc) g.word_bits
  pub word_least : 8 ≤ g.word_bits
  pub word_most : g.word_bits ≤ 64
  pub pc_is : g.pc ≡ exec.pc (table g.desc)
  pub pc_bits_are : slice_get (exec.storages (table g.desc)) g.pc ≡ Some (1, ty.Card g.pc_bits)
  pub pc_least : 1 ≤ g.pc_bits
  pub pc_most : g.pc_bits ≤ 16
  pub out_is : g.out ≡ exec.out_type (table g.desc)
  pub target_is : g.target ≡ spec.target g.desc
