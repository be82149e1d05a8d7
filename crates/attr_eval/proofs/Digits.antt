-- The next bit of a number; so many bits as a number.
use Rattle.std.proofs.Common.{ℕ, zero, suc, ◌≡◌, ◌∙◌, ap, sym, subst, ◌≤◌, ◌<◌, ◌^◌, ◌/◌, ◌%◌, ◌-◌, ◌+◌, ◌*◌, arith, refl, false, true, List, [], ◌∷◌, length, min}
use Rattle.std.specs.Prelude.{Bool, ◌==◌, if◌then◌else◌}
use Rattle.std.proofs.Math.Pow.{pow_mono}
use Rattle.nml_tree.specs.Attribute.{bits_below, number_behind, number_of}
use Rattle.attr_eval.specs.declared.run.Run.{Run}
use Rattle.attr_eval.specs.Run.{pushed, pushed_one}

pub next : (out new : Run) (r z : ℕ) → 0 < r → new ≡ pushed_one out (z / 2 ^ (r - 1) % 2 == 1) → pushed new (bits_below (r - 1) z) ≡ pushed out (bits_below r z)
next out new zero z low is = absurd (omega (arith, low))
next out new (suc r) z low is = let e : suc r - 1 ≡ r = omega arith in rw (is, e) refl

one_more : (w v : ℕ) (b : Bool) → v < 2 ^ w → w + 1 ≤ 64 → (pushed_one (record { width = w; value = v }) b ≡ record { width = w + 1; value = v * 2 + (if b then 1 else 0) }) × (v * 2 + (if b then 1 else 0) < 2 ^ (w + 1))
one_more w v b low small =
    let p : 2 ^ w ≤ 2 ^ 63 = pow_mono {i = w} {j = 63} (omega (arith, small)) in
    let e : w + 1 ≡ suc w = omega arith in
    let q : 2 ^ (w + 1) ≡ 2 * 2 ^ w = ap (λ k. 2 ^ k) e ∙ omega arith in
    one b p q
  where
    one : (b : Bool) → 2 ^ w ≤ 2 ^ 63 → 2 ^ (w + 1) ≡ 2 * 2 ^ w → (pushed_one (record { width = w; value = v }) b ≡ record { width = w + 1; value = v * 2 + (if b then 1 else 0) }) × (v * 2 + (if b then 1 else 0) < 2 ^ (w + 1))
    one true p q =
        let x : (v * 2 % 2 ^ 128 + 1) % 2 ^ 128 ≡ v * 2 + 1 = omega (arith, low, p) in
        let y : min (w + 1) (2 ^ 32 - 1) ≡ w + 1 = omega (arith, small) in
        (rw (x, y) refl, omega (arith, low, q))
    one false p q =
        let x : (v * 2 % 2 ^ 128 + 0) % 2 ^ 128 ≡ v * 2 + 0 = omega (arith, low, p) in
        let y : min (w + 1) (2 ^ 32 - 1) ≡ w + 1 = omega (arith, small) in
        (rw (x, y) refl, omega (arith, low, q))

pub pushed_exact : (xs : List Bool) (w v : ℕ) → v < 2 ^ w → w + length xs ≤ 64 → (pushed (record { width = w; value = v }) xs ≡ record { width = w + length xs; value = number_behind v xs }) × (number_behind v xs < 2 ^ (w + length xs))
pushed_exact [] w v low small =
    let e : w ≡ w + 0 = omega arith in
    (ap (λ k. record { width = k; value = v }) e, omega (arith, low, ap (λ k. 2 ^ k) e))
pushed_exact (b ∷ xs) w v low small =
    let o = one_more w v b low (omega (arith, small)) in
    let r = pushed_exact xs (w + 1) (v * 2 + (if b then 1 else 0)) o.1 (omega (arith, small)) in
    let e : w + 1 + length xs ≡ w + suc (length xs) = omega arith in
    (ap (λ out. pushed out xs) o.0 ∙ r.0 ∙ ap (λ k. record { width = k; value = number_behind (v * 2 + (if b then 1 else 0)) xs }) e, omega (arith, r.1, ap (λ k. 2 ^ k) e))

pub exact_is : (out : Run) (xs : List Bool) → length xs ≤ 64 → out ≡ pushed (record { width = 0; value = 0 }) xs → (out.width ≡ length xs) × (out.value ≡ number_of xs) × (out.value < 2 ^ out.width)
exact_is out xs low is =
    let e = pushed_exact xs 0 0 (omega arith) (omega (arith, low)) in
    let f = is ∙ e.0 in
    let n : 0 + length xs ≡ length xs = omega arith in
    (ap (λ r. r.width) f ∙ n, ap (λ r. r.value) f, subst (λ r. r.value < 2 ^ r.width) (sym f) e.1)
