-- Where some two derivations are alike there are first shapes of two that are, and one pair of first shapes alone.
use Rattle.std.proofs.Common.{ℕ, zero, suc, ◌≤◌, ◌<◌, ◌≡◌, refl, sym, ap, ◌∙◌, subst, arith, List, [], ◌∷◌, Option, Some, None, Contains, ◌⊎◌, inl, inr}
use Rattle.std.specs.Prelude.{IsTrue, slice_get}
use Rattle.nml_tree.specs.Table.{Table}
use Rattle.nml_tree.specs.Derivation.{Derivation, picks}
use Rattle.nml_tree.specs.Valid.{IsRoot}
use Rattle.nml_tree.specs.Shapes.{comes_before, AreShapes}
use Rattle.nml_tree.specs.Same.{HasFirstShapes, AreNoLater}
use Rattle.nml_shape.proofs.Order.{Before, three, before_forth, before_back, not_both, got, rises_at}

-- two that are alike, the shape of the one at this place of the list, that of the other at this
record PairAt (P : Derivation → Derivation → Type 0) (shapes : List (List ℕ)) (k l : ℕ) : Type 0 where
  pub a : Derivation
  pub b : Derivation
  pub first : slice_get shapes k ≡ Some (picks a)
  pub second : slice_get shapes l ≡ Some (picks b)
  pub holds : P a b
  pub order : Before (picks a) (picks b)

-- both are instructions
abbrev pub AreRoots : Table → (Derivation → Derivation → Type 0) → Type 0
AreRoots t P = (a b : Derivation) → P a b → IsRoot t a × IsRoot t b

-- the place is an earlier one
abbrev IsEarlier : (k l m n : ℕ) → Type 0
IsEarlier k l m n = (k < m) ⊎ ((k ≡ m) × (l < n))

same_at : (shapes : List (List ℕ)) (k m : ℕ) (x y : List ℕ) → slice_get shapes k ≡ Some x → slice_get shapes m ≡ Some y → k ≡ m → x ≡ y
same_at shapes k m x y h j e = let f : slice_get shapes k ≡ slice_get shapes m = ap (slice_get shapes) e in cc (h, j, f)

-- no pair at an earlier place: this one's shapes are the first
no_later : (P : Derivation → Derivation → Type 0) (t : Table) (shapes : List (List ℕ)) → AreShapes t shapes → AreRoots t P → (k l : ℕ) (p : PairAt P shapes k l)
    → ((m n : ℕ) → IsEarlier m n k l → PairAt P shapes m n → ⊥) → (c e : Derivation) → P c e → IsTrue (comes_before (picks c) (picks e)) → AreNoLater p.a p.b c e
no_later P t shapes all roots k l p none c e h o =
    let r = roots c e h in
    let x = got shapes (picks c) (all.every c r.0) in
    let y = got shapes (picks e) (all.every e r.1) in
    by x.0 y.0 x.1 y.1 (record { a = c; b = e; first = x.1; second = y.1; holds = h; order = before_forth (picks c) (picks e) o })
  where
    second : (m n : ℕ) → slice_get shapes n ≡ Some (picks e) → PairAt P shapes m n → m ≡ k → IsTrue (comes_before (picks p.b) (picks e)) ⊎ (picks p.b ≡ picks e)
    second m n y q same = elim (three n l) [
      | inl low ↦ absurd (none m n (inr (same, low)) q)
      | inr s ↦ elim s [
        | inl here ↦ inr (same_at shapes l n (picks p.b) (picks e) p.second y (sym here))
        | inr high ↦ inl (before_back (picks p.b) (picks e) (rises_at shapes l n (picks p.b) (picks e) all.rises p.second y high))
      ]
    ]

    by : (m n : ℕ) → slice_get shapes m ≡ Some (picks c) → slice_get shapes n ≡ Some (picks e) → PairAt P shapes m n → AreNoLater p.a p.b c e
    by m n x y q = elim (three m k) [
      | inl low ↦ absurd (none m n (inl low) q)
      | inr s ↦ elim s [
        | inl same ↦ inr (same_at shapes k m (picks p.a) (picks c) p.first x (sym same), second m n y q same)
        | inr high ↦ inl (before_back (picks p.a) (picks c) (rises_at shapes k m (picks p.a) (picks c) all.rises p.first x high))
      ]
    ]

none_earlier : (P : Derivation → Derivation → Type 0) (shapes : List (List ℕ)) (k l : ℕ) → ((m n : ℕ) → m < k → PairAt P shapes m n → ⊥) → ((n : ℕ) → n < l → PairAt P shapes k n → ⊥)
    → (m n : ℕ) → IsEarlier m n k l → PairAt P shapes m n → ⊥
none_earlier P shapes k l above left m n (inl less) q = above m n less q
none_earlier P shapes k l above left m n (inr e) q = left n e.1 (subst (λ j. PairAt P shapes j n) e.0 q)

-- where no pair has first shapes there is none at any place
no_row : (P : Derivation → Derivation → Type 0) (t : Table) (shapes : List (List ℕ)) → AreShapes t shapes → AreRoots t P → ((a b : Derivation) → HasFirstShapes P a b → ⊥)
    → (k : ℕ) → ((m n : ℕ) → m < k → PairAt P shapes m n → ⊥) → (limit l : ℕ) → l < limit → PairAt P shapes k l → ⊥
no_row P t shapes all roots none k above zero l low p = omega (arith, low)
no_row P t shapes all roots none k above (suc limit) l low p =
    none p.a p.b (record {
      holds = p.holds;
      order = before_back (picks p.a) (picks p.b) p.order;
      first = no_later P t shapes all roots k l p (none_earlier P shapes k l above (λ n less q. no_row P t shapes all roots none k above limit n (omega (arith, low, less)) q));
    })

no_place : (P : Derivation → Derivation → Type 0) (t : Table) (shapes : List (List ℕ)) → AreShapes t shapes → AreRoots t P → ((a b : Derivation) → HasFirstShapes P a b → ⊥)
    → (limit k l : ℕ) → k < limit → PairAt P shapes k l → ⊥
no_place P t shapes all roots none zero k l low p = omega (arith, low)
no_place P t shapes all roots none (suc limit) k l low p =
    no_row P t shapes all roots none k (λ m n less q. no_place P t shapes all roots none limit m n (omega (arith, low, less)) q) (suc l) l (omega arith) p

pub no_pair : (P : Derivation → Derivation → Type 0) (t : Table) (shapes : List (List ℕ)) → AreShapes t shapes → AreRoots t P → ((a b : Derivation) → HasFirstShapes P a b → ⊥)
    → (a b : Derivation) → P a b → Before (picks a) (picks b) → ⊥
no_pair P t shapes all roots none a b h o =
    let r = roots a b h in
    let x = got shapes (picks a) (all.every a r.0) in
    let y = got shapes (picks b) (all.every b r.1) in
    no_place P t shapes all roots none (suc x.0) x.0 y.0 (omega arith) (record { a = a; b = b; first = x.1; second = y.1; holds = h; order = o })

-- a pair of the same shapes has first shapes too
pub moved : (P : Derivation → Derivation → Type 0) (a b c e : Derivation) → HasFirstShapes P a b → P c e → picks c ≡ picks a → picks e ≡ picks b → HasFirstShapes P c e
moved P a b c e f h x y = record {
  holds = h;
  order = subst (λ q. IsTrue (comes_before (picks c) q)) (sym y) (subst (λ p. IsTrue (comes_before p (picks b))) (sym x) f.order);
  first = λ u v k o. later u v (f.first u v k o);
}
  where
    behind : (v : Derivation) → IsTrue (comes_before (picks b) (picks v)) ⊎ (picks b ≡ picks v) → IsTrue (comes_before (picks e) (picks v)) ⊎ (picks e ≡ picks v)
    behind v (inl k) = inl (subst (λ q. IsTrue (comes_before q (picks v))) (sym y) k)
    behind v (inr k) = inr (y ∙ k)

    later : (u v : Derivation) → AreNoLater a b u v → AreNoLater c e u v
    later u v (inl k) = inl (subst (λ q. IsTrue (comes_before q (picks u))) (sym x) k)
    later u v (inr k) = inr (x ∙ k.0, behind v k.1)

-- two pairs of first shapes have the same
pub one_pair : (P : Derivation → Derivation → Type 0) (a b c e : Derivation) → HasFirstShapes P a b → HasFirstShapes P c e → (picks a ≡ picks c) × (picks b ≡ picks e)
one_pair P a b c e f g = by (f.first c e g.holds g.order) (g.first a b f.holds f.order)
  where
    second : IsTrue (comes_before (picks b) (picks e)) ⊎ (picks b ≡ picks e) → IsTrue (comes_before (picks e) (picks b)) ⊎ (picks e ≡ picks b) → picks b ≡ picks e
    second (inl h) (inl k) = absurd (not_both (picks b) (picks e) (before_forth (picks b) (picks e) h) (before_forth (picks e) (picks b) k))
    second (inl h) (inr k) = sym k
    second (inr h) k = h

    by : AreNoLater a b c e → AreNoLater c e a b → (picks a ≡ picks c) × (picks b ≡ picks e)
    by (inl h) (inl k) = absurd (not_both (picks a) (picks c) (before_forth (picks a) (picks c) h) (before_forth (picks c) (picks a) k))
    by (inl h) (inr k) = let o = before_forth (picks a) (picks c) h in absurd (not_both (picks a) (picks c) o (subst (λ p. Before (picks c) p) k.0 (subst (λ p. Before p (picks c)) (sym k.0) o)))
    by (inr h) (inl k) = let o = before_forth (picks c) (picks a) k in absurd (not_both (picks c) (picks a) o (subst (λ p. Before (picks a) p) h.0 (subst (λ p. Before p (picks a)) (sym h.0) o)))
    by (inr h) (inr k) = (h.0, second h.1 k.1)
