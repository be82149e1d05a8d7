-- The bits of an instruction's image.
use Rattle.std.proofs.Common.{ℕ, ◌≤◌, ◌<◌, ◌≡◌, refl, sym, ◌∙◌, ap, subst, arith, ℤ, List, [], length, Some, None}
use Rattle.std.specs.Prelude.{Contains, ◌^◌, codes, slice_get}
use Rattle.nk_base.specs.declared.number.Bits.{Bits}
use Rattle.nml_tree.specs.declared.tree.Desc.{Desc}
use Rattle.nml_tree.specs.Table.{table}
use Rattle.nml_tree.specs.Derivation.{Derivation, picks}
use Rattle.nml_tree.specs.Image.{image}
use Rattle.nml_tree.specs.Refused.{IsFreeBelow, IsImageOf, IsTyped, By_word}
use Rattle.nml_tree.specs.Valid.{IsRoot, IsWordWidth, WordFault}
use Rattle.nml_tree.specs.Walk.{IsWalkOf}
use Rattle.nml_shape.specs.declared.shape.Shape.{Shape}
use Rattle.nml_shape.specs.Shown.{AreAllShapes, numbers_in, picks_of}
use Rattle.nml_outline.proofs.LeastWord.{value_inside}
use Rattle.nml_outline.proofs.Listed.{contains_at}
use Rattle.nml_outline.proofs.Premises.{has_types, one_width}
use Rattle.nml_outline.proofs.ShapesMeet.{value_below}
use Rattle.nml_outline.proofs.ShapeWord.{shape_type, some_root, word_is_root}
use Rattle.shape_table.specs.Meet.{HasTypes}
use Rattle.isg_build.specs.Widths.{AreWordBits}

below : (d : Desc) (n : ℕ) → n ≤ 12 → IsTyped d → IsFreeBelow n d
below d n le typed k low = typed k (omega (arith, low, le))

not_below : (m n : ℕ) → (m < n → ⊥) → n ≤ m
not_below m n h = omega (arith, h)

nothing : (ps : List ℕ) → Contains [] ps → ⊥
nothing ps c = omega (arith, c.1)

module _ (d : Desc) (typed : IsTyped d) (shapes : List Shape) (all : AreAllShapes d shapes) where
  -- where there is no shape there is no instruction
  pub none_wide : (n : ℕ) → 8 ≤ n → n ≤ 64 → shapes ≡ [] → AreWordBits d n
  none_wide n least most none = record {
    are = λ x root. absurd (nothing (picks x) (subst (λ ss. Contains (picks_of ss) (picks x)) none (all.all.every x root)));
    least = least;
    most = most;
  }

  pub types_of_shape : (s : Shape) → Contains shapes s → HasTypes s
  types_of_shape s c =
      let x = some_root d typed shapes all s c in
      record { each = λ n f at. has_types d (below d 8 (omega arith) typed) (codes "instruction") x.0 x.1 n f.ty (shape_type x.0 s x.3 n f at) }

  -- the image of an instruction of the shape
  pub wide_as : (s : Shape) (ps : List ℕ) (zs : List ℤ) (b : Bits) → Contains shapes s → ps ≡ s.picks.items → zs ≡ numbers_in s.value s.fields.items
      → ((x : Derivation) → IsWalkOf (table d) (codes "instruction") ps zs x → IsImageOf x b) → AreWordBits d b.width
  wide_as s ps zs b c p z f =
      let o = some_root d typed shapes all s c in
      let even : IsWordWidth (table d) (length (image o.0)) = λ y k. one_width d (below d 10 (omega arith) typed) y o.0 k o.1 in
      let r = word_is_root d typed shapes all (length (image o.0)) even s s.value c (value_inside d typed shapes all s c) (subst (λ n. n < 2 ^ length (image o.0)) (sym o.3.value_is) (value_below o.0)) in
      let is = f r.0 (record { derivation = r.1; picks = r.2 ∙ sym p; fields = r.4 ∙ sym z }) in
      record {
        are = λ y k. even y k ∙ (sym (even r.0 r.1) ∙ sym is.width);
        least = subst (λ n. 8 ≤ n) (sym is.width) (not_below _ _ (λ low. typed 9 (omega arith) (By_word (codes "instruction") (WordFault.Narrow r.0 refl r.1 low))));
        most = subst (λ n. n ≤ 64) (sym is.width) (not_below _ _ (λ high. typed 9 (omega arith) (By_word (codes "instruction") (WordFault.Wide r.0 refl r.1 high))));
      }
