-- The lowest bits of `& | ^ ~` of whole numbers are made of the lowest bits of their operands.
use Rattle.std.proofs.Common.{◌≡◌, ℕ, suc, ◌+◌, ◌-◌, ◌*◌, ◌/◌, ◌%◌, ◌^◌, ◌<◌, ◌≤◌, ℤ, pos, negsuc, neg_ℤ, ◌+ℤ◌, ◌-ℤ◌, refl, sym, ap, ◌∙◌, arith}
use Rattle.std.specs.Prelude.{Bool, true, false, int_lt, bit_and, bit_or}
use Rattle.std.specs.Int.{int_rem_euclid}
use Rattle.std.specs.Int.Bits.{and_comm, and_le_l, and_le_r, or_add_and, xor_add_and}
use Rattle.std.proofs.lemmas.Int.{ints}
use Rattle.std.proofs.lemmas.Nat.{and_mod, or_mod, or_comm, xor_comm, pow_pos, div-add-mod'}
use Rattle.std.proofs.Math.Nat.{mod-lt, mul-le-mul_right}
use Rattle.std.proofs.Math.Arith.{digits_mod}
use Rattle.nk_base.specs.Whole.{and_ℤ, or_ℤ, xor_ℤ, not_ℤ}
use Rattle.ir_core.proofs.Bits.{and_complement}
use Rattle.pat_core.proofs.Multiples.{Same, same_rest, rest_same, turned, joined, added, lessened, negated}

-- what is left of a number, as a natural number
abbrev rest : ℕ → ℤ → ℕ
rest m (pos a) = a % m
rest m (negsuc a) = m - 1 - a % m

rest_is : (m : ℕ) (z : ℤ) → int_rem_euclid z (pos m) ≡ pos (rest m z)
rest_is m (pos a) = refl
rest_is m (negsuc a) = refl

quotient_below : (a c m : ℕ) → c ≤ a → 0 < m → c / m ≤ a / m
quotient_below a c m h some = by (int_lt (pos (a / m)) (pos (c / m))) refl where
  by : (t : Bool) → int_lt (pos (a / m)) (pos (c / m)) ≡ t → c / m ≤ a / m
  by true e =
      let over : suc (a / m) ≤ c / m = omega (arith, ints, e) in
      let far : suc (a / m) * m ≤ c / m * m = mul-le-mul_right m over in
      absurd (omega (arith, far, h, div-add-mod' a m, div-add-mod' c m, mod-lt a some))
  by false e = omega (arith, ints, e)

-- of a difference that is taken place by place
difference_rest : (a c m : ℕ) → 0 < m → c ≤ a → c % m ≤ a % m → (a - c) % m ≡ a % m - c % m
difference_rest a c m some h g =
    let q = quotient_below a c m h some in
    let sum : a / m ≡ (a / m - c / m) + c / m = omega (arith, q) in
    let times = ap (λ x. x * m) sum in
    let is : a - c ≡ (a / m - c / m) * m + (a % m - c % m) = omega (arith, times, div-add-mod' a m, div-add-mod' c m, h, g) in
    ap (λ x. x % m) is ∙ digits_mod (a / m - c / m) (omega (arith, mod-lt a some))

-- the bits of a that b hasn't
without_rest : (k a b : ℕ) → (a - bit_and a b) % 2 ^ k ≡ bit_and (a % 2 ^ k) (2 ^ k - 1 - b % 2 ^ k)
without_rest k a b =
    let m = 2 ^ k in
    let some = pow_pos k in
    let low = and_mod a b k in
    let fits : bit_and a b % m ≤ a % m = omega (arith, low, and_le_l (a % m) (b % m)) in
    let cut = difference_rest a (bit_and a b) m some (and_le_l a b) fits in
    let turn = and_complement k (a % m) (b % m) (mod-lt a some) (mod-lt b some) in
    let seam : m - 1 - b % m ≡ m - suc (b % m) = omega arith in
    omega (arith, low, cut, turn, ap (bit_and (a % m)) seam)

and_rest : (k : ℕ) (x y : ℤ) → rest (2 ^ k) (and_ℤ x y) ≡ bit_and (rest (2 ^ k) x) (rest (2 ^ k) y)
and_rest k (pos a) (pos b) = and_mod a b k
and_rest k (pos a) (negsuc b) = without_rest k a b
and_rest k (negsuc a) (pos b) = without_rest k b a ∙ and_comm (b % 2 ^ k) (2 ^ k - 1 - a % 2 ^ k)
and_rest k (negsuc a) (negsuc b) =
    let m = 2 ^ k in
    let some = pow_pos k in
    let x = a % m in
    let y = b % m in
    let p : x < m = mod-lt a some in
    let q : y < m = mod-lt b some in
    let left : m - 1 - x ≡ m - suc x = omega arith in
    let right : m - 1 - y ≡ m - suc y = omega arith in
    let seam : bit_and (m - 1 - x) (m - 1 - y) ≡ bit_and (m - suc x) (m - suc y) = ap (λ u. bit_and u (m - 1 - y)) left ∙ ap (bit_and (m - suc x)) right in
    let both : bit_and (m - suc x) (m - suc y) ≡ m - suc (bit_or x y) =
    omega (arith, and_complement k (m - suc x) y (omega (arith, p)) q, and_comm (m - suc x) y, and_complement k y x q p, and_comm y x, or_add_and x y, and_le_l x y, and_le_r x y) in
    omega (arith, or_mod a b k, seam, both)

-- operands of `&` may be exchanged for those that differ by a multiple of 2^k
pub and_same : (k : ℕ) (a b c d : ℤ) → Same (2 ^ k) a b → Same (2 ^ k) c d → Same (2 ^ k) (and_ℤ a c) (and_ℤ b d)
and_same k a b c d s t =
    let m = 2 ^ k in
    let some = pow_pos k in
    let left : pos (rest m a) ≡ pos (rest m b) = sym (rest_is m a) ∙ same_rest m a b some s ∙ rest_is m b in
    let right : pos (rest m c) ≡ pos (rest m d) = sym (rest_is m c) ∙ same_rest m c d some t ∙ rest_is m d in
    let p : rest m a ≡ rest m b = omega (arith, ints, left) in
    let q : rest m c ≡ rest m d = omega (arith, ints, right) in
    let equal : int_rem_euclid (and_ℤ a c) (pos m) ≡ int_rem_euclid (and_ℤ b d) (pos m) =
    rest_is m (and_ℤ a c) ∙ ap pos (and_rest k a c ∙ ap (λ u. bit_and u (rest m c)) p ∙ ap (bit_and (rest m b)) q ∙ sym (and_rest k b d)) ∙ sym (rest_is m (and_ℤ b d)) in
    let near : (z : ℤ) → Same m z (int_rem_euclid z (pos m)) = λ z. turned m (int_rem_euclid z (pos m)) z (rest_same m z some) in
    joined m (and_ℤ a c) (int_rem_euclid (and_ℤ b d) (pos m)) (and_ℤ b d)
    (joined m (and_ℤ a c) (int_rem_euclid (and_ℤ a c) (pos m)) (int_rem_euclid (and_ℤ b d) (pos m)) (near (and_ℤ a c)) (0, 0, ap (λ z. z +ℤ pos (0 * m)) equal)) (rest_same m (and_ℤ b d) some)

-- `|` is the sum without `&`
or_sum : (x y : ℤ) → or_ℤ x y ≡ (x +ℤ y) -ℤ and_ℤ x y
or_sum (pos a) (pos b) = omega (arith, ints, or_add_and a b)
or_sum (pos a) (negsuc b) = omega (arith, ints, and_comm a b, and_le_l a b, and_le_r a b)
or_sum (negsuc a) (pos b) = omega (arith, ints, and_comm a b, and_le_l a b, and_le_r a b)
or_sum (negsuc a) (negsuc b) = omega (arith, ints, or_add_and a b)

-- `^` is the sum without twice `&`
xor_sum : (x y : ℤ) → xor_ℤ x y ≡ (x +ℤ y) -ℤ (and_ℤ x y +ℤ and_ℤ x y)
xor_sum (pos a) (pos b) = omega (arith, ints, xor_add_and a b)
xor_sum (pos a) (negsuc b) = omega (arith, ints, xor_add_and a b, and_le_l a b)
xor_sum (negsuc a) (pos b) = omega (arith, ints, xor_add_and a b, and_comm a b, and_le_r a b)
xor_sum (negsuc a) (negsuc b) = omega (arith, ints, xor_add_and a b, or_add_and a b)

not_sum : (z : ℤ) → not_ℤ z ≡ neg_ℤ z -ℤ pos 1
not_sum (pos a) = omega (arith, ints)
not_sum (negsuc a) = omega (arith, ints)

same_by : (m : ℕ) (a b c d : ℤ) → a ≡ c → b ≡ d → Same m c d → Same m a b
same_by m a b c d e f (j, k, s) = (j, k, ap (λ z. z +ℤ pos (j * m)) e ∙ s ∙ ap (λ z. z +ℤ pos (k * m)) (sym f))

-- those of `|`
pub or_same : (k : ℕ) (a b c d : ℤ) → Same (2 ^ k) a b → Same (2 ^ k) c d → Same (2 ^ k) (or_ℤ a c) (or_ℤ b d)
or_same k a b c d s t =
    same_by (2 ^ k) (or_ℤ a c) (or_ℤ b d) ((a +ℤ c) -ℤ and_ℤ a c) ((b +ℤ d) -ℤ and_ℤ b d) (or_sum a c) (or_sum b d)
    (lessened (2 ^ k) (a +ℤ c) (b +ℤ d) (and_ℤ a c) (and_ℤ b d) (added (2 ^ k) a b c d s t) (and_same k a b c d s t))

-- those of `^`
pub xor_same : (k : ℕ) (a b c d : ℤ) → Same (2 ^ k) a b → Same (2 ^ k) c d → Same (2 ^ k) (xor_ℤ a c) (xor_ℤ b d)
xor_same k a b c d s t =
    let both = and_same k a b c d s t in
    same_by (2 ^ k) (xor_ℤ a c) (xor_ℤ b d) ((a +ℤ c) -ℤ (and_ℤ a c +ℤ and_ℤ a c)) ((b +ℤ d) -ℤ (and_ℤ b d +ℤ and_ℤ b d)) (xor_sum a c) (xor_sum b d)
    (lessened (2 ^ k) (a +ℤ c) (b +ℤ d) (and_ℤ a c +ℤ and_ℤ a c) (and_ℤ b d +ℤ and_ℤ b d) (added (2 ^ k) a b c d s t) (added (2 ^ k) (and_ℤ a c) (and_ℤ b d) (and_ℤ a c) (and_ℤ b d) both both))

-- that of `~`
pub not_same : (k : ℕ) (a b : ℤ) → Same (2 ^ k) a b → Same (2 ^ k) (not_ℤ a) (not_ℤ b)
not_same k a b s =
    same_by (2 ^ k) (not_ℤ a) (not_ℤ b) (neg_ℤ a -ℤ pos 1) (neg_ℤ b -ℤ pos 1) (not_sum a) (not_sum b)
    (lessened (2 ^ k) (neg_ℤ a) (neg_ℤ b) (pos 1) (pos 1) (negated (2 ^ k) a b s) (0, 0, refl))

-- which of two numbers stands first doesn't matter
pub and_turned : (x y : ℤ) → and_ℤ x y ≡ and_ℤ y x
and_turned (pos a) (pos b) = ap pos (and_comm a b)
and_turned (pos a) (negsuc b) = refl
and_turned (negsuc a) (pos b) = refl
and_turned (negsuc a) (negsuc b) = ap negsuc (or_comm a b)

pub or_turned : (x y : ℤ) → or_ℤ x y ≡ or_ℤ y x
or_turned (pos a) (pos b) = ap pos (or_comm a b)
or_turned (pos a) (negsuc b) = refl
or_turned (negsuc a) (pos b) = refl
or_turned (negsuc a) (negsuc b) = ap negsuc (and_comm a b)

pub xor_turned : (x y : ℤ) → xor_ℤ x y ≡ xor_ℤ y x
xor_turned (pos a) (pos b) = ap pos (xor_comm a b)
xor_turned (pos a) (negsuc b) = ap negsuc (xor_comm a b)
xor_turned (negsuc a) (pos b) = ap negsuc (xor_comm a b)
xor_turned (negsuc a) (negsuc b) = ap pos (xor_comm a b)
