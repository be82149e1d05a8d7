use Rattle.std.proofs.Common.{arith}
use Rattle.attr_eval.proofs.Digits.{exact_is}
use Rattle.attr_eval.proofs.run.Run.bits.Goals.{then-self-gt64-via-then-self-gt64, then-self-gt64-via-else-self-gt64+then-not-is_below}
use Rattle.attr_eval.proofs.run.Run.bits.Goals as goal

pub returns : goal.returns
returns c = λ xs low is. let e = exact_is c.args.self xs low is in (e.0, e.1)

pub returns-then-self-gt64 : goal.returns-then-self-gt64
returns-then-self-gt64 c = λ xs low is.
    let e = exact_is c.args.self xs low is in
    elim c.then-self-gt64.branch [
      | then-self-gt64-via-then-self-gt64 b ↦ absurd (omega (arith, e.0, low, b.if-self-gt64.true))
      | then-self-gt64-via-else-self-gt64+then-not-is_below b ↦ absurd (let f = b.if-not-is_below.ensures in omega (arith, e.2, f))
    ]
