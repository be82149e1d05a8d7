use Rattle.std.proofs.Common.{arith}
use Rattle.image_file.proofs.Numbers.{seven_bytes, number_more, below_more}
use Rattle.image_file.proofs.reader.number_of.Goals as goal

pub overflow_mul-n : goal.overflow_mul-n
overflow_mul-n c = omega (arith, seven_bytes c.loop-byte.byte-index c.loop-byte.n (omega arith) c.loop-byte.invariant.below)

pub overflow_add-n : goal.overflow_add-n
overflow_add-n c =
    omega (arith, c.from.ensures, c.type_inv.bytes c.loop-byte.byte-index, seven_bytes c.loop-byte.byte-index c.loop-byte.n (omega arith) c.loop-byte.invariant.below)

pub loop-byte-preserved : goal.loop-byte-preserved
loop-byte-preserved c = record {
  exact = omega (arith, c.from.ensures, c.loop-byte.invariant.exact, number_more c.args.bytes.now c.loop-byte.byte-index (omega arith));
  below = below_more c.loop-byte.byte-index c.loop-byte.n c.from.result c.loop-byte.invariant.below (omega (arith, c.from.ensures, c.type_inv.bytes c.loop-byte.byte-index));
}
