use Rattle.std.proofs.Common.{◌≤◌, ◌^◌, arith, sym}
use Rattle.std.proofs.Math.Nat.{div-eq_of_lt}
use Rattle.std.proofs.Math.Pow.{pow_mono}
use Rattle.isg_nodes.proofs.fields.word_from.Goals as goal

pub returns-else-low-lt128 : goal.returns-else-low-lt128
returns-else-low-lt128 c =
    let high = c.if-low-lt128.false in let fits = c.ranges.word.fits in
    let most : 2 ^ 128 ≤ 2 ^ c.args.low = pow_mono {i = 128} {j = c.args.low} (omega (arith, high)) in
    sym (div-eq_of_lt (omega (arith, fits, most)))
