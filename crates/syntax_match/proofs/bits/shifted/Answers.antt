use Rattle.std.proofs.Common.{◌≡◌, ◌+◌, ◌-◌, ◌*◌, ◌%◌, ◌^◌, ◌∙◌, ap, sym, arith, ℕ}
use Rattle.std.proofs.lemmas.Nat.{pow-add, mod-mul-add}
use Rattle.syntax_match.proofs.bits.shifted.Goals as goal

pub returns-else-low-lt128 : goal.returns-else-low-lt128
returns-else-low-lt128 c =
    let high = c.if-low-lt128.false in
    let more : ℕ = c.args.low - 128 in
    let split : 2 ^ c.args.low ≡ 2 ^ more * 2 ^ 128 = ap (λ k. 2 ^ k) (omega (arith, high)) ∙ pow-add 2 more 128 in
    let whole : c.args.bits * 2 ^ c.args.low ≡ (c.args.bits * 2 ^ more) * 2 ^ 128 + 0 = ap (λ x. c.args.bits * x) split ∙ omega arith in
    sym (ap (λ x. x % 2 ^ 128) whole ∙ mod-mul-add (c.args.bits * 2 ^ more) (2 ^ 128) 0 (omega arith))
