-- An expression, and a block, of a rule is less than one more rule.
use Rattle.std.proofs.Common.{ℕ, zero, suc, ◌+◌, ◌-◌, ◌*◌, ◌<◌, ◌≤◌, ◌≡◌, arith, suc-mul}

pub less_deep : (limit d most : ℕ) → 0 < limit → d ≤ most → (limit - 1) * (3 * most + 5) + 3 * d + 2 < limit * (3 * most + 5)
less_deep zero d most some low = absurd (omega arith)
less_deep (suc n) d most some low = let e : suc n - 1 ≡ n = omega arith in let f : suc n * (3 * most + 5) ≡ n * (3 * most + 5) + (3 * most + 5) = suc-mul n (3 * most + 5) in rw e (omega (arith, f, low))

pub less_action : (limit d most : ℕ) → 0 < limit → d ≤ most → (limit - 1) * (5 * most + 6) + 5 * d + 2 < limit * (5 * most + 6)
less_action zero d most some low = absurd (omega arith)
less_action (suc n) d most some low = let e : suc n - 1 ≡ n = omega arith in let f : suc n * (5 * most + 6) ≡ n * (5 * most + 6) + (5 * most + 6) = suc-mul n (5 * most + 6) in rw e (omega (arith, f, low))
