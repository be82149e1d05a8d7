-- Two instructions with one attribute stand in two shapes that meet; and where only one instruction of a shape has it, in the first of these.
use Rattle.std.proofs.Common.{ℕ, ◌<◌, ◌≤◌, ◌≡◌, sym, ◌∙◌, ap, subst, List, Some, Contains, arith, ◌⊎◌, inl, inr}
use Rattle.std.specs.Prelude.{IsTrue, slice_get}
use Rattle.nml_tree.specs.declared.tree.Desc.{Desc}
use Rattle.nml_tree.specs.Table.{table}
use Rattle.nml_tree.specs.Derivation.{Derivation, picks}
use Rattle.nml_tree.specs.Same.{AreAlike, AreNoLater, HasFirstShapes}
use Rattle.nml_tree.specs.Shapes.{comes_before}
use Rattle.nml_tree.specs.Valid.{IsRoot}
use Rattle.nml_shape.specs.declared.shape.Shape.{Shape}
use Rattle.nml_shape.specs.Shown.{AreAllShapes}
use Rattle.nml_shape.specs.First.{IsPair, IsFirstPair, HasNoPair}
use Rattle.nml_outline.proofs.Listed.{before_itself, contains_at, at_of, lower_before, before_lower, one_shape_at, compare}

-- the instructions of two shapes with one attribute make the shapes meet
abbrev pub Meets : (d : Desc) → List Shape → (A : Type 0) → (Derivation → A) → (Shape → Shape → Type 0) → Type 0
Meets d shapes A attribute P =
    (s u : Shape) (x y : Derivation) → Contains shapes s → Contains shapes u → IsRoot (table d) x → IsRoot (table d) y → picks x ≡ s.picks.items → picks y ≡ u.picks.items → attribute x ≡ attribute y → P s u

module _ (d : Desc) (shapes : List Shape) (all : AreAllShapes d shapes) where
  -- the shape of an instruction, by its number
  pub standing : (x : Derivation) → IsRoot (table d) x → (k : ℕ) × (s : Shape) × (slice_get shapes k ≡ Some s) × (s.picks.items ≡ picks x)
  standing x h = at_of shapes (picks x) (all.all.every x h)

  at_before : (i k : ℕ) (a c : Shape) (x v : Derivation) → slice_get shapes i ≡ Some a → slice_get shapes k ≡ Some c → picks x ≡ a.picks.items → picks v ≡ c.picks.items → i < k → IsTrue (comes_before (picks x) (picks v))
  at_before i k a c x v e f p q low =
      subst (λ z. IsTrue (comes_before z (picks v))) (sym p) (subst (λ z. IsTrue (comes_before a.picks.items z)) (sym q) (lower_before shapes i k a c all.all.rises e f low))

  at_same : (i k : ℕ) (a c : Shape) (x v : Derivation) → slice_get shapes i ≡ Some a → slice_get shapes k ≡ Some c → picks x ≡ a.picks.items → picks v ≡ c.picks.items → i ≡ k → picks x ≡ picks v
  at_same i k a c x v e f p q same = p ∙ (ap (λ (s : Shape). s.picks.items) (one_shape_at shapes i k a c same e f) ∙ sym q)

  no_later : (i j k l : ℕ) (a b c e : Shape) (x y v w : Derivation) → slice_get shapes i ≡ Some a → slice_get shapes j ≡ Some b → slice_get shapes k ≡ Some c → slice_get shapes l ≡ Some e
      → picks x ≡ a.picks.items → picks y ≡ b.picks.items → picks v ≡ c.picks.items → picks w ≡ e.picks.items → (i < k) ⊎ ((i ≡ k) × (j ≤ l)) → AreNoLater x y v w
  no_later i j k l a b c e x y v w ea eb ec ee px py pv pw (inl low) = inl (at_before i k a c x v ea ec px pv low)
  no_later i j k l a b c e x y v w ea eb ec ee px py pv pw (inr (same, most)) =
      inr (
        at_same i k a c x v ea ec px pv same,
        elim (compare j l) [
          | inl low ↦ inl (at_before j l b e y w eb ee py pw low)
          | inr r ↦ elim r [ inl equal ↦ inr (at_same j l b e y w eb ee py pw equal) | inr high ↦ absurd (omega (arith, high, most)) ]
        ],
      )

  module _ (A : Type 0) (attribute : Derivation → A) (P : Shape → Shape → Type 0) (meet : Meets d shapes A attribute P) where
    pair_of : (v w : Derivation) (k l : ℕ) (c e : Shape) → IsRoot (table d) v → IsRoot (table d) w → slice_get shapes k ≡ Some c → slice_get shapes l ≡ Some e → picks v ≡ c.picks.items → picks w ≡ e.picks.items
        → attribute v ≡ attribute w → k < l → IsPair P shapes k l
    pair_of v w k l c e hv hw ec ee pv pw same low =
        record { rises = low; a = c; b = e; first = ec; second = ee; have = meet c e v w (contains_at shapes k c ec) (contains_at shapes l e ee) hv hw pv pw same }

    -- where no two shapes meet, and no two instructions of one shape are alike, no two are
    pub none_alike : ((x y : Derivation) → IsRoot (table d) x → IsRoot (table d) y → picks x ≡ picks y → attribute x ≡ attribute y → x ≡ y) → HasNoPair P shapes
        → (x y : Derivation) → IsRoot (table d) x → IsRoot (table d) y → attribute x ≡ attribute y → x ≡ y
    none_alike within none x y h k same =
        let p = standing x h in
        let q = standing y k in
        elim (compare p.0 q.0) [
          | inl low ↦ absurd (none p.0 q.0 (pair_of x y p.0 q.0 p.1 q.1 h k p.2 q.2 (sym p.3) (sym q.3) same low))
          | inr r ↦ elim r [
            | inl equal ↦ within x y h k (at_same p.0 q.0 p.1 q.1 x y p.2 q.2 (sym p.3) (sym q.3) equal) same
            | inr high ↦ absurd (none q.0 p.0 (pair_of y x q.0 p.0 q.1 p.1 k h q.2 p.2 (sym q.3) (sym p.3) (sym same) high))
          ]
        ]

    -- two instructions of the first two shapes that meet are in the first two shapes with two that are alike
    pub first_shapes : (i j : ℕ) (a b : Shape) (x y : Derivation) → IsFirstPair P shapes i j → slice_get shapes i ≡ Some a → slice_get shapes j ≡ Some b → IsRoot (table d) x → IsRoot (table d) y
        → picks x ≡ a.picks.items → picks y ≡ b.picks.items → attribute x ≡ attribute y → HasFirstShapes (AreAlike (table d) attribute) x y
    first_shapes i j a b x y fp ea eb hx hy px py same =
        let order = at_before i j a b x y ea eb px py fp.pair.rises in
        record {
          holds = record { first = hx; second = hy; differ = λ e. before_itself (picks x) (subst (λ (z : Derivation). IsTrue (comes_before (picks x) (picks z))) (sym e) order); same = same };
          order = order;
          first = λ v w alike before.
              let p = standing v alike.first in
              let q = standing w alike.second in
              let low = before_lower shapes p.0 q.0 p.1 q.1 all.all.rises p.2 q.2 (subst (λ z. IsTrue (comes_before z q.1.picks.items)) (sym p.3) (subst (λ z. IsTrue (comes_before (picks v) z)) (sym q.3) before)) in
              no_later i j p.0 q.0 a b p.1 q.1 x y v w ea eb p.2 q.2 px py (sym p.3) (sym q.3)
              (fp.first p.0 q.0 (pair_of v w p.0 q.0 p.1 q.1 alike.first alike.second p.2 q.2 (sym p.3) (sym q.3) alike.same low));
        }
