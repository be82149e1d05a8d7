use Rattle.std.proofs.Common.{◌≡◌, ◌<◌, ℕ, length, Some}
use Rattle.std.specs.Prelude.{slice_get, slice_index_or}
use Rattle.nml_shape.specs.declared.shape.Shape.{Shape}
use Rattle.shape_table.specs.Label.{first_label}
use Rattle.shape_table.proofs.label.labels.Given as goal

abbrev pub invariant-loop-shape : goal.invariant-loop-shape
invariant-loop-shape l = record {
  long : length l.labels.items ≡ l.shape-index;
  each : (k : ℕ) (s : Shape) → k < l.shape-index → slice_get l.shapes k ≡ Some s → slice_index_or l.labels.items k 0 ≡ first_label l.common s;
}
