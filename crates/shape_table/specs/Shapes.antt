-- When the shapes of a description are listed, and when not.
use Rattle.std.specs.Prelude.{ℕ, ◌≤◌, List, length}
use Rattle.nml_tree.specs.Table.{table}
use Rattle.nml_tree.specs.Refused.{IsTyped}
use Rattle.nml_tree.specs.Shapes.{ShapesFault}
use Rattle.nml_tree.specs.declared.tree.Desc.{Desc}
use Rattle.nml_shape.specs.declared.shape.Shape.{Shape}
use Rattle.nml_shape.specs.Shown.{AreAllShapes}
use Rattle.shape_table.specs.declared.listed.ShapeFault.{ShapeFault}
use Rattle.shape_table.specs.declared.listed.ShapeFault.TheVariants as fault

-- these are all shapes of a typed description, and there are neither too many nor too large ones
pub record HasShapes (d : Desc) (shapes : List Shape) : Type 0 where
  pub typed : IsTyped d
  pub are : AreAllShapes d shapes
  pub few : length shapes ≤ 4096
  pub none : (count nodes size : ℕ) → ShapesFault (table d) count nodes size → ⊥

-- why those of a typed description aren't listed
abbrev pub IsShapeFault : Desc → ShapeFault → Type 0
IsShapeFault d (fault.Many count nodes size) = IsTyped d × ShapesFault (table d) count nodes size
IsShapeFault d fault.Memory = Unit {0}
