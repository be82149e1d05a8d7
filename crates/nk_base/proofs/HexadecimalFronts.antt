-- A front of the higher digits is one of all, and so are all but the last.
use Rattle.std.proofs.Common.{◌≡◌, ap, refl, ◌∙◌, ℕ, zero, suc, ◌/◌, ◌-◌, ◌%◌, ◌<◌, List, [], ◌∷◌, ◌++◌, arith, append_assoc, sym, subst}
use Rattle.std.specs.Char.{digit_char}
use Rattle.nk_base.specs.Hexadecimal.{hexadecimal}
use Rattle.nk_base.specs.Text.{GrewByFront}

one_fewer : (digits : ℕ) → suc digits - 1 ≡ digits
one_fewer digits = omega arith

one_more : (old new : List ℕ) (digits n : ℕ) → GrewByFront old new (hexadecimal digits (n / 16)) → GrewByFront old new (hexadecimal (suc digits) n)
one_more old new digits n p = (p.0, p.1 ++ digit_char (n % 16) ∷ [], sym (append_assoc p.0 p.1 (digit_char (n % 16) ∷ [])) ∙ ap (λ l. l ++ digit_char (n % 16) ∷ []) p.2, p.3)

pub front_more : (old new : List ℕ) (digits n : ℕ) → 0 < digits → GrewByFront old new (hexadecimal (digits - 1) (n / 16)) → GrewByFront old new (hexadecimal digits n)
front_more old new zero n h p = absurd (omega arith)
front_more old new (suc digits) n h p = one_more old new digits n (subst (λ k. GrewByFront old new (hexadecimal k (n / 16))) (one_fewer digits) p)

pub all_but_last : (old new : List ℕ) (digits n : ℕ) → 0 < digits → new ≡ old ++ hexadecimal (digits - 1) (n / 16) → GrewByFront old new (hexadecimal digits n)
all_but_last old new zero n h e = absurd (omega arith)
all_but_last old new (suc digits) n h e = (hexadecimal digits (n / 16), digit_char (n % 16) ∷ [], refl, e ∙ ap (λ k. old ++ hexadecimal k (n / 16)) (one_fewer digits))
