-- Whether a number is a member of a list, told by a weight.
use Rattle.std.proofs.Common.{◌≡◌, refl, ap, ◌∙◌, inl, inr, ⊎_elim, ℕ, zero, suc, ◌≤◌, ℤ, int_lt, Bool, true, false, List, [], ◌∷◌, arith, if◌then◌else◌}
use Rattle.c_counted.proofs.Weights.{greatest}
use Rattle.c_counted.proofs.Members.{Among, less, alike, never}

-- 1 for a number itself, and 0 for others
abbrev pub tally : ℤ → ℤ → ℕ
tally z y = if int_lt z y then 0 else if int_lt y z then 0 else 1

tally_self : (z : ℤ) → tally z z ≡ 1
tally_self z = by (int_lt z z) refl
  where
    one : ℕ
    one = 1

    by : (b : Bool) → int_lt z z ≡ b → (if b then 0 else if b then 0 else one) ≡ one
    by true h = absurd (never z z (less z z h) (less z z h))
    by false h = refl

tally_same : (z y : ℤ) → 1 ≤ tally z y → y ≡ z
tally_same z y = by (int_lt z y) (int_lt y z) refl refl
  where
    by : (b c : Bool) → int_lt z y ≡ b → int_lt y z ≡ c → 1 ≤ (if b then 0 else if c then 0 else 1) → y ≡ z
    by true c h g some = absurd (omega (arith, some))
    by false true h g some = absurd (omega (arith, some))
    by false false h g some = alike y z g h

pub tallied : (z : ℤ) (xs : List ℤ) → Among xs z → 1 ≤ greatest (tally z) xs
tallied z [] h = absurd h
tallied z (x ∷ xs) h = ⊎_elim
    (λ e. let one : tally z x ≡ 1 = ap (tally z) e ∙ tally_self z in omega (arith, one))
    (λ i. let rest = tallied z xs i in omega (arith, rest)) h

pub found : (z : ℤ) (xs : List ℤ) → 1 ≤ greatest (tally z) xs → Among xs z
found z [] h = absurd (omega (arith, h))
found z (x ∷ xs) h = by (tally z x) refl (found z xs)
  where
    by : (m : ℕ) → tally z x ≡ m → (1 ≤ greatest (tally z) xs → Among xs z) → Among (x ∷ xs) z
    by zero is rest = inr (rest (omega (arith, is, h)))
    by (suc m) is rest = inl (tally_same z x (omega (arith, is)))
