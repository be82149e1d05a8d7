-- A checked description has 4096 shapes at most.
use Rattle.std.proofs.Common.{ℕ, zero, suc, ◌≤◌, ◌<◌, ◌≡◌, sym, ap, arith, List, length, inl, inr}
use Rattle.std.proofs.lemmas.List.{length-map}
use Rattle.nml_tree.specs.declared.tree.Desc.{Desc}
use Rattle.nml_tree.specs.Derivation.{Derivation}
use Rattle.nml_tree.specs.Refused.{IsChecked, By_shapes}
use Rattle.nml_tree.specs.Shapes.{IsGreatest, counted, nodes, size_of_action}
use Rattle.nml_tree.specs.Table.{table}
use Rattle.nml_tree.specs.Valid.{IsRoot}
use Rattle.nml_shape.specs.declared.shape.Shape.{Shape}
use Rattle.nml_shape.specs.Shown.{AreAllShapes, picks_of}
use Rattle.nml_shape.proofs.Order.{le_or_lt}
use Rattle.nml_outline.proofs.Listed.{contains_at, picks_at}
use Rattle.isg_graph.proofs.Gathered.{there}

below : (k n : ℕ) → n ≤ suc k → (n ≡ suc k → ⊥) → n ≤ k
below k n low not = elim (le_or_lt n k) [ inl h ↦ h | inr h ↦ absurd (not (omega (arith, low, h))) ]

-- it can't be that bounded numbers have no greatest
no_bound : {A : Type 0} (P : A → Type 0) (of : A → ℕ) → ((n : ℕ) → IsGreatest P of n → ⊥) → (a : A) → P a → (k : ℕ) → ((b : A) → P b → counted (of b) ≤ k) → ⊥
no_bound P of none a p zero h = let low = h a p in none 0 (record { bound = h; reached = (a, p, omega (arith, low)) })
no_bound P of none a p (suc k) h =
    no_bound P of none a p k (λ b q. below k (counted (of b)) (h b q) (λ e. none (suc k) (record { bound = h; reached = (b, q, e) })))

counted_low : (n : ℕ) → counted n ≤ 1000000
counted_low n = omega arith

some_greatest : {A : Type 0} (P : A → Type 0) (of : A → ℕ) (a : A) → P a → ((n : ℕ) → IsGreatest P of n → ⊥) → ⊥
some_greatest P of a p none = no_bound P of none a p 1000000 (λ b q. counted_low (of b))

counted_high : (n : ℕ) → 4096 < n → 4096 < counted n
counted_high n high = omega (arith, high)

module _ (d : Desc) (checked : IsChecked d) (shapes : List Shape) (all : AreAllShapes d shapes) where
  some_root : 4096 < length shapes → (x : Derivation) × IsRoot (table d) x
  some_root high =
      let s = there shapes 0 (omega (arith, high)) in
      let x = all.all.each s.0.picks.items (picks_at shapes s.0 (contains_at shapes 0 s.0 s.1)) in (x.0, x.1)

  not_many : 4096 < length shapes → ⊥
  not_many high =
      let x = some_root high in
      some_greatest (IsRoot (table d)) nodes x.0 x.1 (λ n nodes_are.
      some_greatest (IsRoot (table d)) (size_of_action (table d)) x.0 x.1 (λ m size_is.
      checked.free 12 (omega arith) (By_shapes (counted (length shapes)) n m (record {
        counts = record {
          shapes = picks_of shapes;
          all = all.all;
          count_is = ap counted (sym (length-map shapes (λ (s : Shape). s.picks.items)));
          nodes_are = nodes_are;
          size_is = size_is;
        };
        over = inl (counted_high (length shapes) high);
      }))))

  pub few : length shapes ≤ 4096
  few = elim (le_or_lt (length shapes) 4096) [ inl low ↦ low | inr high ↦ absurd (not_many high) ]
