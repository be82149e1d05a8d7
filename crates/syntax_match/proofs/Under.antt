-- Numbers of which each bit is one of another.
use Rattle.std.proofs.Common.{ℕ, ◌≡◌, ◌≤◌, ◌<◌, ◌+◌, ◌-◌, ◌*◌, ◌/◌, ◌%◌, ◌^◌, sym, ◌∙◌, ap, subst, min, bit_and, bit_or, arith}
use Rattle.std.specs.Int.{bit_at}
use Rattle.std.proofs.lemmas.Nat.{and_le_r, and_comm, and_assoc, and_mask, and_shr, and_mod, shl-shr, mod_low}
use Rattle.std.proofs.lemmas.Nat.Bits.{bit_at_and, bit_at_or, bit_at-zero, same_from_bits, and_high}

-- each bit of a is one of b
pub record Under (a b : ℕ) : Type 0 where
  pub is : bit_and a b ≡ a

-- a bit of the one is a bit of the other
bit_under : (a b : ℕ) → Under a b → (i : ℕ) → bit_at a i ≡ min (bit_at a i) (bit_at b i)
bit_under a b h i = ap (λ x. bit_at x i) (sym h.is) ∙ bit_at_and a b i

pub under_le : (a b : ℕ) → Under a b → a ≤ b
under_le a b h = subst (λ x. x ≤ b) h.is (and_le_r a b)

pub under_same : (a b : ℕ) → Under a b → Under b a → a ≡ b
under_same a b h k = sym h.is ∙ (and_comm a b ∙ k.is)

pub under_on : (a b c : ℕ) → Under a b → Under b c → Under a c
under_on a b c h k = record { is = ap (λ x. bit_and x c) (sym h.is) ∙ (and_assoc c a b ∙ (ap (λ x. bit_and a x) k.is ∙ h.is)) }

pub under_itself : (a : ℕ) → Under a a
under_itself a = record { is = same_from_bits _ _ (λ i. rw bit_at_and (omega arith)) }

pub zero_under : (a : ℕ) → Under 0 a
zero_under a = record { is = same_from_bits _ _ (λ i. rw (bit_at_and, bit_at-zero) (omega arith)) }

pub under_or : (a b c : ℕ) → Under a c → Under b c → Under (bit_or a b) c
under_or a b c h k = record {
  is = same_from_bits _ _ (λ i. let e = bit_under a c h i in let f = bit_under b c k i in rw (bit_at_and, bit_at_or) (omega arith));
}

pub left_under : (a b : ℕ) → Under a (bit_or a b)
left_under a b = record { is = same_from_bits _ _ (λ i. rw (bit_at_and, bit_at_or) (omega arith)) }

pub right_under : (a b : ℕ) → Under b (bit_or a b)
right_under a b = record { is = same_from_bits _ _ (λ i. rw (bit_at_and, bit_at_or) (omega arith)) }

pub and_under : (a m : ℕ) → Under (bit_and a m) a
and_under a m = record { is = same_from_bits _ _ (λ i. rw (bit_at_and, bit_at_and) (omega arith)) }

pub and_under_mask : (a m : ℕ) → Under (bit_and a m) m
and_under_mask a m = record { is = same_from_bits _ _ (λ i. rw (bit_at_and, bit_at_and) (omega arith)) }

pub under_both : (a b m : ℕ) → Under a b → Under a m → Under a (bit_and b m)
under_both a b m h k = record {
  is = same_from_bits _ _ (λ i. let e = bit_under a b h i in let f = bit_under a m k i in rw (bit_at_and, bit_at_and) (omega arith));
}

pub masked_under : (a b m : ℕ) → Under a b → Under (bit_and a m) (bit_and b m)
masked_under a b m h = under_both (bit_and a m) b m (under_on _ a b (and_under a m) h) (and_under_mask a m)

-- some bits of the one are under those of the other
pub part_of_under : (a b k n : ℕ) → Under a b → Under (a / 2 ^ k % 2 ^ n) (b / 2 ^ k % 2 ^ n)
part_of_under a b k n h = record { is = sym (and_mod (a / 2 ^ k) (b / 2 ^ k) n) ∙ ap (λ x. x % 2 ^ n) (sym (and_shr a b k) ∙ ap (λ x. x / 2 ^ k) h.is) }

-- some bits of a number, at their place, are under it
pub part_under : (v k n : ℕ) → Under (v / 2 ^ k % 2 ^ n * 2 ^ k) v
part_under v k n = subst (λ x. Under x v) (and_high v n k) (and_under v (2 ^ (n + k) - 2 ^ k))

pub lowest_under : (x k : ℕ) → Under (x % 2 ^ k) x
lowest_under x k = subst (λ y. Under y x) (and_mask x k) (and_under x (2 ^ k - 1))

pub small : (a n : ℕ) → a < 2 ^ n → a % 2 ^ n ≡ a
small a n h = let e : 0 * 2 ^ n + a ≡ a = omega arith in ap (λ x. x % 2 ^ n) (sym e) ∙ mod_low 0 n a h

-- some bits at their place are those bits there
pub part_back : (u k n : ℕ) → u < 2 ^ n → u * 2 ^ k / 2 ^ k % 2 ^ n ≡ u
part_back u k n h = ap (λ x. x % 2 ^ n) (shl-shr u k) ∙ small u n h
