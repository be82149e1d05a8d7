use Rattle.std.proofs.Common.{◌≡◌, ◌<◌, ℕ, length, nat_cmp, Some}
use Rattle.std.specs.Prelude.{slice_get, slice_index_or, unwrap_or}
use Rattle.std.specs.BTreeMap.{get}
use Rattle.nml_shape.specs.declared.shape.Shape.{Shape}
use Rattle.shape_table.specs.Label.{all_bits, told}
use Rattle.shape_table.proofs.label.refined.Given as goal

abbrev pub invariant-loop-i : goal.invariant-loop-i
invariant-loop-i l = record {
  long : length l.refined.items ≡ l.i;
  each : (k : ℕ) (s : Shape) → k < l.i → slice_get l.shapes k ≡ Some s → slice_index_or l.refined.items k 0 ≡ told l.part s (unwrap_or (get nat_cmp l.commons (slice_index_or l.labels k 0)) all_bits) (slice_index_or l.labels k 0);
}
