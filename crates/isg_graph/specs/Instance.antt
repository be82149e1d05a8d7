-- Instructions of the shapes of a graph.
use Rattle.std.specs.Prelude.{ℕ, ◌≡◌, ◌<◌, length, Some, slice_get}
use Rattle.nml_tree.specs.Derivation.{Derivation}
use Rattle.nml_tree.specs.Image.{word_of}
use Rattle.nml_shape.specs.declared.shape.Inst.{Inst}
use Rattle.nml_shape.specs.declared.shape.Shape.{Shape}
use Rattle.isg_graph.specs.Graph.{Graph, IsOf}

-- an instruction of the shape of this number, legal or not
pub record IsOfShape (g : Graph) (number : ℕ) (x : Derivation) : Type 0 where
  pub shape : Shape
  pub stands : slice_get g.shapes number ≡ Some shape
  pub is : IsOf g.desc shape x

-- the instruction of the shape of this number whose image is the word
pub record IsInstOf (g : Graph) (i : Inst) (x : Derivation) : Type 0 where
  pub of : IsOfShape g i.shape x
  pub word_is : word_of x ≡ i.word

-- the shape of this number has a field of this number
pub record HasField (g : Graph) (number j : ℕ) : Type 0 where
  pub shape : Shape
  pub stands : slice_get g.shapes number ≡ Some shape
  pub field : j < length shape.fields.items
