use Rattle.std.proofs.Common.{◌^◌, sym, ◌∙◌, arith}
use Rattle.std.proofs.lemmas.Bool.{le-leb, lt-ltb}
use Rattle.std.proofs.Math.Pow.{pow_mono}
use Rattle.image_file.proofs.fields.is_narrow.Goals as goal

pub returns-then-n-ge64 : goal.returns-then-n-ge64
returns-then-n-ge64 c =
    le-leb 64 c.args.n c.if-n-ge64.true ∙ sym (lt-ltb c.args.value (2 ^ c.args.n) (omega (arith, c.ranges.value, pow_mono {i = 64} {j = c.args.n} c.if-n-ge64.true)))
