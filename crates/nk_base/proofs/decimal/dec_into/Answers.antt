use Rattle.std.proofs.Common.{ap, ◌∙◌, ◌++◌, take, set, arith}
use Rattle.std.specs.Fmt.{decimal}
use Rattle.std.specs.Int.{w128}
use Rattle.std.specs.Prelude.{unsigned_abs}
use Rattle.std.proofs.lemmas.Int.{to_z-of_z, ints}
use Rattle.nk_base.proofs.Digits.{signed_text}
use Rattle.nk_base.proofs.decimal.dec_into.Goals as goal

pub returns-then-z-lt0-clause-text : goal.returns-then-z-lt0-clause-text
returns-then-z-lt0-clause-text c =
    let same = to_z-of_z w128 c.args.z c.ranges.z in
    c.write_digits.ensures.text
    ∙ ap (λ n. take 1 (set c.args.buf.now 0 45) ++ decimal n) (c.unsigned_abs.ensures.value ∙ ap unsigned_abs same)
    ∙ signed_text c.args.z c.args.buf.now (omega (arith, ints)) (omega arith)
