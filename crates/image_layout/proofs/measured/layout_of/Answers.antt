use Rattle.std.proofs.Common.{◌<◌, arith}
use Rattle.image_layout.proofs.Limits.{pc_low}
use Rattle.image_layout.proofs.measured.layout_of.Goals as goal

pub overflow_cast-result : goal.overflow_cast-result
overflow_cast-result c =
    let low : c.storage_number-pc.result < 65536 = pc_low _ c.d-inside.invariant _ _ _ c.as_slice.ensures c.as_slice-2.ensures c.storage_number-pc.ensures in
    omega (arith, low)
