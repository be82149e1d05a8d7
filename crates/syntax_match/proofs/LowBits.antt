-- The lowest bits of the number that these bits write are these.
use Rattle.std.proofs.Common.{ℕ, zero, suc, ◌-◌, ◌*◌, ◌^◌, ◌≡◌, ◌<◌, ◌≤◌, refl, ◌∙◌, ap, ℤ, pos, negsuc, arith, inl, inr}
use Rattle.std.specs.Prelude.{◌-ℤ◌, unsigned_abs, int_lt, if◌then◌else◌}
use Rattle.std.proofs.lemmas.Bool.{cases_lt}
use Rattle.std.proofs.lemmas.Bool.Decides.{nat_tests}
use Rattle.std.proofs.lemmas.Int.{ints, int_rem_euclid_is}
use Rattle.std.proofs.lemmas.Nat.{pow_pos}
use Rattle.std.proofs.Math.Nat.{pow-suc}
use Rattle.nk_base.specs.Number.{IsTy, width_of, low_bits, wrapped}
use Rattle.nk_base.specs.declared.number.Ty.{Ty}
use Rattle.nk_base.specs.declared.number.Ty.TheVariants as tys
use Rattle.syntax_match.proofs.Under.{small}

pub low_pos : (n a : ℕ) → a < 2 ^ n → low_bits n (pos a) ≡ pos a
low_pos n a h = int_rem_euclid_is (pos a) (pos (2 ^ n)) (2 ^ n) 0 a (pow_pos n) refl (omega (arith, ints)) ∙ ap pos (small a n h)

low_neg : (n a : ℕ) → a < 2 ^ n → unsigned_abs (low_bits n (negsuc a)) ≡ 2 ^ n - 1 - a
low_neg n a h = ap unsigned_abs (int_rem_euclid_is (negsuc a) (pos (2 ^ n)) (2 ^ n) 1 (2 ^ n - 1 - a) (pow_pos n) refl (omega (arith, ints, h))) ∙ small (2 ^ n - 1 - a) n (omega (arith, h))

half : (n : ℕ) → 1 ≤ n → 2 ^ n ≡ 2 * 2 ^ (n - 1)
half zero h = absurd (omega (arith, h))
half (suc n) h = let e : suc n - 1 ≡ n = omega arith in rw e (pow-suc 2 n ∙ omega arith)

-- the number of two's complement that these lowest bits write
abbrev signed : ℕ → ℤ → ℤ
signed n low = if int_lt low (pos (2 ^ (n - 1))) then low else low -ℤ pos (2 ^ n)

signed_low : (n a : ℕ) → a < 2 ^ (n - 1) → signed n (pos a) ≡ pos a
signed_low n a h = grind (arith, nat_tests)

signed_high : (n a : ℕ) → 2 ^ (n - 1) ≤ a → signed n (pos a) ≡ pos a -ℤ pos (2 ^ n)
signed_high n a h = grind (arith, nat_tests)

pub low_written : (ty : Ty) (u : ℕ) → IsTy ty → u < 2 ^ width_of ty → unsigned_abs (low_bits (width_of ty) (wrapped ty (pos u))) ≡ u
low_written tys.Bool u h low = ap unsigned_abs (low_pos 1 u low)
low_written (tys.Card n) u h low = ap (λ z. unsigned_abs (low_bits n z)) (low_pos n u low) ∙ ap unsigned_abs (low_pos n u low)
low_written (tys.Int n) u h low =
    ap (λ z. unsigned_abs (low_bits n (signed n z))) (low_pos n u low)
    ∙ elim (cases_lt u (2 ^ (n - 1))) [
      | inl less ↦ ap (λ z. unsigned_abs (low_bits n z)) (signed_low n u less) ∙ ap unsigned_abs (low_pos n u low)
      | inr more ↦
          let is : signed n (pos u) ≡ negsuc (2 ^ n - 1 - u) = signed_high n u more ∙ omega (arith, ints, low) in
          ap (λ z. unsigned_abs (low_bits n z)) is ∙ (low_neg n (2 ^ n - 1 - u) (omega (arith, low)) ∙ omega (arith, low))
    ]
