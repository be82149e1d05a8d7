use Rattle.std.proofs.Common.{nat_cmp}
use Rattle.std.specs.Prelude.{unwrap_or}
use Rattle.std.specs.BTreeMap.{get}
use Rattle.shape_table.specs.Label.{AreCommon, all_bits}
use Rattle.shape_table.proofs.label.commons.Given as goal

abbrev pub invariant-loop-i : goal.invariant-loop-i
invariant-loop-i l = AreCommon l.part l.shapes l.labels (λ label. unwrap_or (get nat_cmp l.commons label) all_bits) l.i
