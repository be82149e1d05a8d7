-- The operators on 128 bits are those on endless two's complement.
use Rattle.std.proofs.Common.{◌≡◌, ℕ, zero, suc, ◌-◌, ◌^◌, ◌<◌, ◌/◌, ◌%◌, ℤ, pos, negsuc, refl, ap, sym, ◌∙◌, arith, to_z, of_z, FitsSigned}
use Rattle.std.specs.Int.{w128}
use Rattle.std.specs.Int.Bits.{bit_and, bit_or, bit_xor, and_step, and_comm, and_le_l, and_le_r, or_lt, xor_lt, or_add_and, xor_add_and}
use Rattle.std.proofs.lemmas.Int.{to_z-of_z, to_z_pos}
use Rattle.nk_base.specs.Whole.{and_ℤ, or_ℤ, xor_ℤ}

-- the bits of a where those of b are turned
pub and_complement : (k a b : ℕ) → a < 2 ^ k → b < 2 ^ k → bit_and a (2 ^ k - suc b) ≡ a - bit_and a b
and_complement zero a b p q =
    let e : a ≡ 0 = omega arith in
    ap (λ x. bit_and x (2 ^ 0 - suc b)) e ∙ sym (ap (λ x. x - bit_and x b) e)
and_complement (suc k) a b p q =
    let half : (2 ^ suc k - suc b) / 2 ≡ 2 ^ k - suc (b / 2) = omega arith in
    let low : (2 ^ suc k - suc b) % 2 ≡ 1 - b % 2 = omega arith in
    let ih = and_complement k (a / 2) (b / 2) (omega arith) (omega arith) in
    let h1 = and_step a (2 ^ suc k - suc b) in
    let h2 = and_step a b in
    let h3 : bit_and (a / 2) ((2 ^ suc k - suc b) / 2) ≡ a / 2 - bit_and (a / 2) (b / 2) = ap (bit_and (a / 2)) half ∙ ih in
    omega (arith, h1, h2, h3, low, and_le_l (a / 2) (b / 2))

pub or_complement : (k a b : ℕ) → a < 2 ^ k → b < 2 ^ k → bit_or a (2 ^ k - suc b) ≡ 2 ^ k - suc (b - bit_and b a)
or_complement k a b p q = omega (arith, or_add_and a (2 ^ k - suc b), and_complement k a b p q, and_le_l a b, and_le_r a b, ap (λ x. x) (and_comm a b))

pub xor_complement : (k a b : ℕ) → a < 2 ^ k → b < 2 ^ k → bit_xor a (2 ^ k - suc b) ≡ 2 ^ k - suc (bit_xor a b)
xor_complement k a b p q = omega (arith, xor_add_and a (2 ^ k - suc b), xor_add_and a b, and_complement k a b p q, and_le_l a b, and_le_r a b)

and_both : (k a b : ℕ) → a < 2 ^ k → b < 2 ^ k → bit_and (2 ^ k - suc a) (2 ^ k - suc b) ≡ 2 ^ k - suc (bit_or a b)
and_both k a b p q =
    omega (arith, and_complement k (2 ^ k - suc a) b (omega arith) q, and_comm (2 ^ k - suc a) b, and_complement k b a q p, and_comm b a, or_add_and a b, and_le_l a b, and_le_r a b)

or_both : (k a b : ℕ) → a < 2 ^ k → b < 2 ^ k → bit_or (2 ^ k - suc a) (2 ^ k - suc b) ≡ 2 ^ k - suc (bit_and a b)
or_both k a b p q =
    omega (arith, or_add_and (2 ^ k - suc a) (2 ^ k - suc b), and_both k a b p q, or_add_and a b, or_lt k a b p q, and_le_l a b)

xor_both : (k a b : ℕ) → a < 2 ^ k → b < 2 ^ k → bit_xor (2 ^ k - suc a) (2 ^ k - suc b) ≡ bit_xor a b
xor_both k a b p q =
    omega (arith, xor_add_and (2 ^ k - suc a) (2 ^ k - suc b), and_both k a b p q, or_add_and a b, xor_add_and a b, or_lt k a b p q)

up_to : (m n : ℕ) → m < 2 ^ 127 → n ≡ 2 ^ 128 - suc m → to_z w128 n ≡ negsuc m
up_to m n h e = ap (to_z w128) e ∙ to_z-of_z w128 (negsuc m) (record { sfits = h })

at_pos : (m n : ℕ) → m < 2 ^ 127 → n ≡ m → to_z w128 n ≡ pos m
at_pos m n h e = ap (to_z w128) e ∙ to_z_pos w128 m h

pub and_is : (a b : ℤ) → FitsSigned w128 a → FitsSigned w128 b → to_z w128 (bit_and (of_z w128 a) (of_z w128 b)) ≡ and_ℤ a b
and_is (pos a) (pos b) p q = at_pos _ _ (omega (arith, p.sfits, and_le_l a b)) refl
and_is (pos a) (negsuc b) p q = at_pos _ _ (omega (arith, p.sfits)) (and_complement 128 a b (omega (arith, p.sfits)) (omega (arith, q.sfits)))
and_is (negsuc a) (pos b) p q = at_pos _ _ (omega (arith, q.sfits)) (and_comm (2 ^ 128 - suc a) b ∙ and_complement 128 b a (omega (arith, q.sfits)) (omega (arith, p.sfits)))
and_is (negsuc a) (negsuc b) p q = up_to _ _ (or_lt 127 a b p.sfits q.sfits) (and_both 128 a b (omega (arith, p.sfits)) (omega (arith, q.sfits)))

pub or_is : (a b : ℤ) → FitsSigned w128 a → FitsSigned w128 b → to_z w128 (bit_or (of_z w128 a) (of_z w128 b)) ≡ or_ℤ a b
or_is (pos a) (pos b) p q = at_pos _ _ (or_lt 127 a b p.sfits q.sfits) refl
or_is (pos a) (negsuc b) p q = up_to _ _ (omega (arith, q.sfits)) (or_complement 128 a b (omega (arith, p.sfits)) (omega (arith, q.sfits)))
or_is (negsuc a) (pos b) p q = up_to _ _ (omega (arith, p.sfits)) (omega (arith, or_add_and (2 ^ 128 - suc a) b, or_add_and b (2 ^ 128 - suc a), and_comm (2 ^ 128 - suc a) b, or_complement 128 b a (omega (arith, q.sfits)) (omega (arith, p.sfits))))
or_is (negsuc a) (negsuc b) p q = up_to _ _ (omega (arith, p.sfits, and_le_l a b)) (or_both 128 a b (omega (arith, p.sfits)) (omega (arith, q.sfits)))

pub xor_is : (a b : ℤ) → FitsSigned w128 a → FitsSigned w128 b → to_z w128 (bit_xor (of_z w128 a) (of_z w128 b)) ≡ xor_ℤ a b
xor_is (pos a) (pos b) p q = at_pos _ _ (xor_lt 127 a b p.sfits q.sfits) refl
xor_is (pos a) (negsuc b) p q = up_to _ _ (xor_lt 127 a b p.sfits q.sfits) (xor_complement 128 a b (omega (arith, p.sfits)) (omega (arith, q.sfits)))
xor_is (negsuc a) (pos b) p q = up_to _ _ (xor_lt 127 a b p.sfits q.sfits) (omega (arith, xor_add_and (2 ^ 128 - suc a) b, xor_add_and b (2 ^ 128 - suc a), and_comm (2 ^ 128 - suc a) b, xor_add_and a b, xor_add_and b a, and_comm a b, xor_complement 128 b a (omega (arith, q.sfits)) (omega (arith, p.sfits))))
xor_is (negsuc a) (negsuc b) p q = at_pos _ _ (xor_lt 127 a b p.sfits q.sfits) (xor_both 128 a b (omega (arith, p.sfits)) (omega (arith, q.sfits)))
