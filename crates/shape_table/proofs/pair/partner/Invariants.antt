use Rattle.std.proofs.Common.{◌≡◌, ◌<◌, ◌≤◌, ◌-◌, length}
use Rattle.std.specs.Prelude.{slice_index_or}
use Rattle.shape_table.specs.Label.{MeetsNone}
use Rattle.shape_table.proofs.pair.partner.Given as goal

abbrev pub decreases-loop-j : goal.decreases-loop-j
decreases-loop-j l = length l.shapes - l.j

abbrev pub invariant-loop-j : goal.invariant-loop-j
invariant-loop-j l = record {
  behind : l.i < l.j;
  within : l.j ≤ length l.shapes;
  same : l.j < length l.shapes → slice_index_or l.labels l.j 0 ≡ slice_index_or l.labels l.i 0;
  none : MeetsNone l.common l.shapes l.i l.j;
}
