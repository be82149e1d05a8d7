-- One more digit.
use Rattle.std.proofs.Common.{◌≡◌, ℕ, ◌+◌, ◌/◌, ◌%◌, ◌^◌, ◌<◌, ◌≤◌, List, [], ◌∷◌, ◌++◌, length, take, set, ℤ, pos, negsuc, suc, ap, arith, length-append}
use Rattle.std.specs.Fmt.{decimal, signed_decimal}
use Rattle.std.specs.Prelude.{unsigned_abs, ◌<ℤ◌}
use Rattle.std.proofs.lemmas.Int.{ints}
use Rattle.std.proofs.lemmas.List.{take_more_set}
use Rattle.std.proofs.lemmas.Fmt.{decimal_digit, decimal_step_wide, length-decimal-le_wide}

pub decimal_length : (n : ℕ) → n < 10 ^ 39 → length (decimal n) ≤ 39
decimal_length n h = length-decimal-le_wide 39 n (omega arith) h (omega arith)

pub length_step : (n : ℕ) → 10 ≤ n → n < 10 ^ 39 → length (decimal n) ≡ length (decimal (n / 10)) + 1
length_step n low high = rw (decimal_step_wide n low (omega arith)) (length-append (decimal (n / 10)) ((48 + n % 10) ∷ []))

pub ruleset digits_steps = (decimal_digit, decimal_length, length_step)

-- a sign, and the digits
pub signed_text : (z : ℤ) (b : List ℕ) → z <ℤ pos 0 → 0 < length b → take 1 (set b 0 45) ++ decimal (unsigned_abs z) ≡ signed_decimal z
signed_text (pos n) b h p = absurd (omega (arith, ints))
signed_text (negsuc n) b h p = ap (λ l. l ++ decimal (suc n)) (take_more_set b 0 45 p)
