-- Shapes that were counted, and then listed.
use Rattle.std.proofs.Common.{ℕ, ◌≤◌, ◌<◌, ◌≡◌, sym, ap, ◌∙◌, arith, List, length, min, ◌⊎◌, inl, inr}
use Rattle.std.proofs.lemmas.List.{length-map}
use Rattle.nml_tree.specs.declared.tree.Desc.{Desc}
use Rattle.nml_tree.specs.Refused.{IsTyped}
use Rattle.nml_tree.specs.Shapes.{AreCounts, AreTooMany, ShapesFault, counted}
use Rattle.nml_tree.specs.Table.{table}
use Rattle.nml_shape.specs.declared.shape.Shape.{Shape}
use Rattle.nml_shape.specs.Shown.{AreAllShapes, picks_of}
use Rattle.nml_shape.proofs.Order.{le_or_lt}
use Rattle.nml_shape.proofs.OneList.{one_list_of_shapes, one_counts}
use Rattle.shape_table.specs.Shapes.{HasShapes}

few_counted : (m n : ℕ) → m ≡ counted n → m ≤ 4096 → n ≤ 4096
few_counted m n e low = omega (arith, e, low)

-- another count would be the same
within : (c n s b m r : ℕ) → (c ≡ b) × (n ≡ m) × (s ≡ r) → (AreTooMany c n s → ⊥) → AreTooMany b m r → ⊥
within c n s b m r e none (inl h) = none (inl (let f = e.0 in omega (arith, f, h)))
within c n s b m r e none (inr (inl h)) = none (inr (inl (let f = e.1 in omega (arith, f, h))))
within c n s b m r e none (inr (inr h)) = none (inr (inr (let f = e.2 in omega (arith, f, h))))

pub has_shapes : (d : Desc) (all : List Shape) (c n s : ℕ) → IsTyped d → AreCounts (table d) c n s → (AreTooMany c n s → ⊥) → AreAllShapes d all → HasShapes d all
has_shapes d all c n s typed counts none are = record {
  typed = typed;
  are = are;
  few = few_counted c (length all) count (elim (le_or_lt c 4096) [ inl low ↦ low | inr high ↦ absurd (none (inl high)) ]);
  none = λ b m r h. within c n s b m r (one_counts (table d) c n s b m r counts h.counts) none h.over;
}
  where
    count : c ≡ counted (length all)
    count = counts.count_is ∙ ap counted (ap length (one_list_of_shapes (table d) counts.shapes (picks_of all) counts.all are.all) ∙ length-map all (λ (t : Shape). t.picks.items))
