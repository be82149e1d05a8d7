-- What is told of a description that is accepted: how many shapes its instructions have, and how many bits its words.
use Rattle.std.specs.Prelude.{ℕ, ◌≡◌, List, length}
use Rattle.nml_tree.specs.Table.{Table}
use Rattle.nml_tree.specs.Derivation.{Derivation}
use Rattle.nml_tree.specs.Shapes.{AreShapes}
use Rattle.nml_tree.specs.Valid.{IsRoot, IsWordWidth}

-- there are so many shapes, and each word has so many bits; there is an instruction, so it is one number
pub record IsSummary (t : Table) (count width : ℕ) : Type 0 where
  pub shapes : List (List ℕ)
  pub all : AreShapes t shapes
  pub count_is : count ≡ length shapes
  pub some : (x : Derivation) × IsRoot t x
  pub width_is : IsWordWidth t width
