-- Numbers that differ by a multiple of m, and what is left of them.
use Rattle.std.proofs.Common.{◌≡◌, ℕ, ◌+◌, ◌-◌, ◌*◌, ◌/◌, ◌%◌, ◌^◌, ◌<◌, ◌≤◌, ℤ, pos, negsuc, neg_ℤ, ◌+ℤ◌, ◌-ℤ◌, ◌*ℤ◌, refl, sym, ap, ◌∙◌, subst, arith}
use Rattle.std.specs.Prelude.{Bool, true, false, int_lt, if◌then◌else◌}
use Rattle.std.specs.Int.{int_rem_euclid}
use Rattle.std.proofs.lemmas.Int.{ints, int_rem_euclid_is}
use Rattle.std.proofs.lemmas.Nat.{pow_pos, pow-add, div-add-mod'}
use Rattle.std.proofs.Math.Nat.{mul-le-mul_left}
use borrow.Author.Differences.{up, down, same_in, same_out, sum_is_lem, neg_is, product_is}
use Rattle.nk_base.specs.Number.{low_bits}
use Rattle.ir_core.specs.Operator.{wrap}

-- the two differ by a multiple of m
abbrev pub Same : ℕ → ℤ → ℤ → Type 0
Same m a b = (j : ℕ) × (k : ℕ) × (a +ℤ pos (j * m) ≡ b +ℤ pos (k * m))

-- what is left of them is equal
pub same_rest : (m : ℕ) (a b : ℤ) → 0 < m → Same m a b → int_rem_euclid a (pos m) ≡ int_rem_euclid b (pos m)
same_rest m a b some (j, k, e) =
    let t = down a + down b in
    let far : t * 1 ≤ t * m = mul-le-mul_left t some in
    let n = up a + (j + t) * m - down a in
    let from : (z : ℤ) (i : ℕ) → z +ℤ pos ((i + t) * m) ≡ pos n → int_rem_euclid z (pos m) ≡ pos (n % m) = λ z i h. int_rem_euclid_is z (pos m) m (i + t) n some refl h in
    from a j (omega (arith, ints, e)) ∙ sym (from b k (omega (arith, ints, e)))

-- what is left of a number differs from it by a multiple
pub rest_same : (m : ℕ) (z : ℤ) → 0 < m → Same m (int_rem_euclid z (pos m)) z
rest_same m (pos a) some = (a / m, 0, omega (arith, same_in, same_out, sum_is_lem, div-add-mod' a m))
rest_same m (negsuc a) some = (0, a / m + 1, omega (arith, same_in, same_out, sum_is_lem, div-add-mod' a m))

-- it goes both ways
pub turned : (m : ℕ) (a b : ℤ) → Same m a b → Same m b a
turned m a b (j, k, e) = (k, j, sym e)

-- and through a third
pub joined : (m : ℕ) (a b c : ℤ) → Same m a b → Same m b c → Same m a c
joined m a b c (j, k, e) (x, y, f) = (j + x, k + y, omega (arith, same_in, same_out, sum_is_lem, e, f))

-- sums
pub added : (m : ℕ) (a b c d : ℤ) → Same m a b → Same m c d → Same m (a +ℤ c) (b +ℤ d)
added m a b c d (j, k, e) (x, y, f) = (j + x, k + y, omega (arith, same_in, same_out, sum_is_lem, e, f))

-- negative numbers
pub negated : (m : ℕ) (a b : ℤ) → Same m a b → Same m (neg_ℤ a) (neg_ℤ b)
negated m a b (j, k, e) = (k, j, omega (arith, same_in, same_out, sum_is_lem, neg_is, e))

-- differences
pub lessened : (m : ℕ) (a b c d : ℤ) → Same m a b → Same m c d → Same m (a -ℤ c) (b -ℤ d)
lessened m a b c d (j, k, e) (x, y, f) = (j + y, k + x, omega (arith, same_in, same_out, sum_is_lem, neg_is, e, f))

-- products with one number
pub times : (m : ℕ) (a b c : ℤ) → Same m a b → Same m (a *ℤ c) (b *ℤ c)
times m a b c (j, k, e) =
    let sum : up a + j * m + down b ≡ up b + k * m + down a = omega (arith, same_out, sum_is_lem, e) in
    let above = ap (λ x. x * up c) sum in
    let below = ap (λ x. x * down c) sum in
    (j * up c + k * down c, k * up c + j * down c, omega (arith, same_in, sum_is_lem, product_is))

-- by a multiple of a multiple of m
pub divided : (p m : ℕ) (a b : ℤ) → Same (p * m) a b → Same m a b
divided p m a b (j, k, e) = (j * p, k * p, omega (arith, same_in, same_out, sum_is_lem, e))

less_one : (m : ℕ) (a b : ℤ) → Same m a b → Same m (a -ℤ pos m) b
less_one m a b (j, k, e) = (j + 1, k, omega (arith, same_in, same_out, sum_is_lem, neg_is, e))

chosen_same : (m : ℕ) (a z : ℤ) (b : Bool) → Same m a z → Same m (if b then a else a -ℤ pos m) z
chosen_same m a z true s = s
chosen_same m a z false s = less_one m a z s

-- a wrapped number differs from the number by a multiple of 2^n
pub wrap_same : (n : ℕ) (z : ℤ) → Same (2 ^ n) (wrap n z) z
wrap_same n z = chosen_same (2 ^ n) (low_bits n z) z (int_lt (low_bits n z) (pos (2 ^ (n - 1)))) (rest_same (2 ^ n) z (pow_pos n))

-- numbers that differ by a multiple of 2^n have the same low bits
pub same_low : (n : ℕ) (a b : ℤ) → Same (2 ^ n) a b → low_bits n a ≡ low_bits n b
same_low n a b s = same_rest (2 ^ n) a b (pow_pos n) s

-- those with the same low bits are wrapped to the same
pub low_wrap : (n : ℕ) (a b : ℤ) → low_bits n a ≡ low_bits n b → wrap n a ≡ wrap n b
low_wrap n a b s = ap (λ l. if int_lt l (pos (2 ^ (n - 1))) then l else l -ℤ pos (2 ^ n)) s

pub same_wrap : (n : ℕ) (a b : ℤ) → Same (2 ^ n) a b → wrap n a ≡ wrap n b
same_wrap n a b s = low_wrap n a b (same_low n a b s)

-- at k bits, and so at n bits
pub narrower : (n k : ℕ) (a b : ℤ) → n ≤ k → Same (2 ^ k) a b → Same (2 ^ n) a b
narrower n k a b h s =
    let sum : k ≡ (k - n) + n = omega (arith, h) in
    divided (2 ^ (k - n)) (2 ^ n) a b (subst (λ m. Same m a b) (ap (λ k. 2 ^ k) sum ∙ pow-add 2 (k - n) n) s)
