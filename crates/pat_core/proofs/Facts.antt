-- The facts of arithmetic of which the laws are made, at each width.
use Rattle.std.proofs.Common.{◌≡◌, ℕ, ◌^◌, ◌≤◌, ℤ, pos, neg_ℤ, ◌+ℤ◌, ◌-ℤ◌, ◌*ℤ◌, ◌<ℤ◌, refl, sym, ap, ◌∙◌, subst, arith}
use Rattle.std.specs.Prelude.{IsTrue, not, ◌&&◌, nat_le, Some}
use Rattle.std.proofs.lemmas.Int.{ints}
use Rattle.std.proofs.lemmas.Nat.{pow_pos}
use Rattle.std.proofs.Math.IntN.{+ℤ_comm, *ℤ_comm}
use Rattle.std.proofs.Math.Nat.{pow-le-pow_right}
use Rattle.nk_base.specs.declared.number.Ty.{Ty}
use Rattle.nk_base.specs.declared.number.Ty.TheVariants as ty
use Rattle.nk_base.specs.Number.{InRange, low_bits}
use Rattle.nk_base.specs.Whole.{and_ℤ, or_ℤ, xor_ℤ, not_ℤ}
use Rattle.nml_tree.specs.declared.operator.Bin.{Bin}
use Rattle.nml_tree.specs.declared.operator.Bin.TheVariants as bin
use Rattle.nml_tree.specs.Value.{binary}
use Rattle.ir_core.specs.Operator.{wrap, prefixed, shifted, arithmetic}
use Rattle.ir_core.specs.declared.operator.Prefix.{Prefix}
use Rattle.ir_core.specs.declared.operator.Prefix.TheVariants as prefixes
use Rattle.ir_core.specs.declared.operator.Shift.{Shift}
use Rattle.ir_core.specs.declared.operator.Shift.TheVariants as shifts
use Rattle.ir_core.specs.declared.operator.Arith.{Arith}
use Rattle.ir_core.specs.declared.operator.Arith.TheVariants as ariths
use Rattle.pat_core.specs.Machine.{is_card, not_wide}
use Rattle.pat_core.specs.Tile.{is_commutative}
use Rattle.pat_core.specs.Low.{arith_of}
use Rattle.pat_core.proofs.Laws.{Arithmetic}
use Rattle.pat_core.proofs.Multiples.{Same, turned, added, lessened, negated, times, rest_same, wrap_same, same_low, same_wrap, narrower}
use Rattle.pat_core.proofs.EndlessBits.{and_same, or_same, xor_same, not_same, and_turned, or_turned, xor_turned}
use Rattle.pat_core.proofs.Ranges.{own_not, own_shr, own_and, own_or, own_xor, own_small, own_within, own_int, own_low, low_natural}

-- to wrap again changes nothing
again : (n : ℕ) (z : ℤ) → wrap n (wrap n z) ≡ wrap n z
again n z = same_wrap n (wrap n z) z (wrap_same n z)

-- a number differs from its wrap by a multiple
near : (n : ℕ) (z : ℤ) → Same (2 ^ n) z (wrap n z)
near n z = turned (2 ^ n) (wrap n z) z (wrap_same n z)

-- ---- two operands

multiplied : (n : ℕ) (x y : ℤ) → wrap n (x *ℤ y) ≡ wrap n (wrap n x *ℤ wrap n y)
multiplied n x y =
    same_wrap n (x *ℤ y) (wrap n x *ℤ y) (times (2 ^ n) x (wrap n x) y (near n x)) ∙ ap (wrap n) (*ℤ_comm (wrap n x) y)
    ∙ same_wrap n (y *ℤ wrap n x) (wrap n y *ℤ wrap n x) (times (2 ^ n) y (wrap n y) (wrap n x) (near n y)) ∙ ap (wrap n) (*ℤ_comm (wrap n y) (wrap n x))

by_arith : (n : ℕ) → 1 ≤ n → (o : Arith) (op : Bin) (x y : ℤ) → arith_of op ≡ Some o → wrap n (binary op x y) ≡ arithmetic n o (wrap n x) (wrap n y)
by_arith n w o bin.OrElse x y h = absurd cc
by_arith n w o bin.AndAlso x y h = absurd cc
by_arith n w o bin.Or x y h =
    let e : ariths.Or ≡ o = cc in
    subst (λ o. wrap n (or_ℤ x y) ≡ arithmetic n o (wrap n x) (wrap n y)) e
    (same_wrap n (or_ℤ x y) (or_ℤ (wrap n x) (wrap n y)) (or_same n x (wrap n x) y (wrap n y) (near n x) (near n y)) ∙ own_or n (wrap n x) (wrap n y) w (again n x) (again n y))
by_arith n w o bin.Xor x y h =
    let e : ariths.Xor ≡ o = cc in
    subst (λ o. wrap n (xor_ℤ x y) ≡ arithmetic n o (wrap n x) (wrap n y)) e
    (same_wrap n (xor_ℤ x y) (xor_ℤ (wrap n x) (wrap n y)) (xor_same n x (wrap n x) y (wrap n y) (near n x) (near n y)) ∙ own_xor n (wrap n x) (wrap n y) w (again n x) (again n y))
by_arith n w o bin.And x y h =
    let e : ariths.And ≡ o = cc in
    subst (λ o. wrap n (and_ℤ x y) ≡ arithmetic n o (wrap n x) (wrap n y)) e
    (same_wrap n (and_ℤ x y) (and_ℤ (wrap n x) (wrap n y)) (and_same n x (wrap n x) y (wrap n y) (near n x) (near n y)) ∙ own_and n (wrap n x) (wrap n y) w (again n x) (again n y))
by_arith n w o bin.Eq x y h = absurd cc
by_arith n w o bin.Ne x y h = absurd cc
by_arith n w o bin.Lt x y h = absurd cc
by_arith n w o bin.Le x y h = absurd cc
by_arith n w o bin.Gt x y h = absurd cc
by_arith n w o bin.Ge x y h = absurd cc
by_arith n w o bin.Shl x y h = absurd cc
by_arith n w o bin.Shr x y h = absurd cc
by_arith n w o bin.Add x y h =
    let e : ariths.Add ≡ o = cc in
    subst (λ o. wrap n (x +ℤ y) ≡ arithmetic n o (wrap n x) (wrap n y)) e
    (same_wrap n (x +ℤ y) (wrap n x +ℤ wrap n y) (added (2 ^ n) x (wrap n x) y (wrap n y) (near n x) (near n y)))
by_arith n w o bin.Sub x y h =
    let e : ariths.Sub ≡ o = cc in
    subst (λ o. wrap n (x -ℤ y) ≡ arithmetic n o (wrap n x) (wrap n y)) e
    (same_wrap n (x -ℤ y) (wrap n x -ℤ wrap n y) (lessened (2 ^ n) x (wrap n x) y (wrap n y) (near n x) (near n y)))
by_arith n w o bin.Mul x y h =
    let e : ariths.Mul ≡ o = cc in subst (λ o. wrap n (x *ℤ y) ≡ arithmetic n o (wrap n x) (wrap n y)) e (multiplied n x y)

swapped : (n : ℕ) (o : Arith) → IsTrue (is_commutative o) → (x y : ℤ) → arithmetic n o x y ≡ arithmetic n o y x
swapped n ariths.Add h x y = ap (wrap n) (+ℤ_comm x y)
swapped n ariths.Sub h x y = absurd cc
swapped n ariths.Mul h x y = ap (wrap n) (*ℤ_comm x y)
swapped n ariths.And h x y = and_turned x y
swapped n ariths.Or h x y = or_turned x y
swapped n ariths.Xor h x y = xor_turned x y

-- ---- results are their own wraps

kept_prefixed : (n : ℕ) → 1 ≤ n → (op : Prefix) (z : ℤ) → wrap n z ≡ z → wrap n (prefixed n op z) ≡ prefixed n op z
kept_prefixed n w prefixes.Neg z h = again n (neg_ℤ z)
kept_prefixed n w prefixes.Not z h = own_not n z w h

kept_shifted : (n : ℕ) → 1 ≤ n → (op : Shift) (z : ℤ) (k : ℕ) → wrap n z ≡ z → wrap n (shifted n op z k) ≡ shifted n op z k
kept_shifted n w shifts.Shl z k h = again n (z *ℤ pos (2 ^ k))
kept_shifted n w shifts.Shr z k h = own_shr n z k w h

kept_arithmetic : (n : ℕ) → 1 ≤ n → (op : Arith) (x y : ℤ) → wrap n x ≡ x → wrap n y ≡ y → wrap n (arithmetic n op x y) ≡ arithmetic n op x y
kept_arithmetic n w ariths.Add x y h i = again n (x +ℤ y)
kept_arithmetic n w ariths.Sub x y h i = again n (x -ℤ y)
kept_arithmetic n w ariths.Mul x y h i = again n (x *ℤ y)
kept_arithmetic n w ariths.And x y h i = own_and n x y w h i
kept_arithmetic n w ariths.Or x y h i = own_or n x y w h i
kept_arithmetic n w ariths.Xor x y h i = own_xor n x y w h i

-- ---- one operand

negative : (n : ℕ) (z : ℤ) → wrap n (neg_ℤ z) ≡ wrap n (neg_ℤ (wrap n z))
negative n z = same_wrap n (neg_ℤ z) (neg_ℤ (wrap n z)) (negated (2 ^ n) z (wrap n z) (near n z))

inverted : (n : ℕ) → 1 ≤ n → (z : ℤ) → wrap n (not_ℤ z) ≡ not_ℤ (wrap n z)
inverted n w z = same_wrap n (not_ℤ z) (not_ℤ (wrap n z)) (not_same n z (wrap n z) (near n z)) ∙ own_not n (wrap n z) w (again n z)

moved : (n : ℕ) (z : ℤ) (k : ℕ) → wrap n (z *ℤ pos (2 ^ k)) ≡ wrap n (wrap n z *ℤ pos (2 ^ k))
moved n z k = same_wrap n (z *ℤ pos (2 ^ k)) (wrap n z *ℤ pos (2 ^ k)) (times (2 ^ n) z (wrap n z) (pos (2 ^ k)) (near n z))

at_most : (a b : ℕ) → IsTrue (nat_le a b) → a ≤ b
at_most a b h = grind arith

wider_int : (n k : ℕ) → IsTrue (nat_le n k) → (z : ℤ) → wrap n (wrap k z) ≡ wrap n z
wider_int n k h z = same_wrap n (wrap k z) z (narrower n k (wrap k z) z (at_most n k h) (wrap_same k z))

wider_card : (n k : ℕ) → IsTrue (nat_le n k) → (z : ℤ) → wrap n (low_bits k z) ≡ wrap n z
wider_card n k h z = same_wrap n (low_bits k z) z (narrower n k (low_bits k z) z (at_most n k h) (rest_same (2 ^ k) z (pow_pos k)))

-- ---- addresses

low_of_wrap : (n : ℕ) (z : ℤ) → low_bits n (wrap n z) ≡ low_bits n z
low_of_wrap n z = same_low n (wrap n z) z (wrap_same n z)

by_index : (n k : ℕ) → k ≤ n → (z : ℤ) → low_bits n z <ℤ pos (2 ^ k) → low_bits k z ≡ low_bits n (wrap n z)
by_index n k h z below =
    let l = low_bits n z in
    let same : Same (2 ^ k) l z = narrower k n l z h (rest_same (2 ^ n) z (pow_pos n)) in
    sym (same_low k l z same) ∙ own_low k l (low_natural n z) below ∙ sym (low_of_wrap n z)

not_below : (n k : ℕ) → IsTrue (not (nat_le n k)) → k ≤ n
not_below n k h = grind arith

by_register : (n : ℕ) (t : Ty) → IsTrue (is_card t && not_wide n t) → (z : ℤ) → InRange t z → z ≡ low_bits n (wrap n z)
by_register n ty.Bool h z r = absurd cc
by_register n (ty.Int k) h z r = absurd cc
by_register n (ty.Card k) h z r =
    let powers : 2 ^ k ≤ 2 ^ n = pow-le-pow_right {n = 2} (omega arith) {i = k} {j = n} (not_below n k h) in
    sym (low_of_wrap n z ∙ own_low n z r.0 (omega (arith, ints, r.1, powers)))

-- ---- all of them

pub arithmetic_facts : (n : ℕ) → 1 ≤ n → Arithmetic n
arithmetic_facts n w = record {
  again = again n;
  two = λ op o h x y. by_arith n w o op x y h;
  swap = swapped n;
  neg = negative n;
  not = inverted n w;
  shl = moved n;
  shr = λ z k. refl;
  int = wider_int n;
  card = wider_card n;
  prefixed_kept = kept_prefixed n w;
  shifted_kept = kept_shifted n w;
  arithmetic_kept = kept_arithmetic n w;
  small = λ z h. own_small n z w h;
  within = own_within n w;
  exactly = own_int n w;
  address = by_index n;
  register = by_register n;
}
