-- The least word of two shapes is what is fixed in one of them, where their fixed bits agree; where they don't, there is none.
use Rattle.std.proofs.Common.{ℕ, ◌≡◌, sym, ◌∙◌, ap, List, Some, None, Contains, bit_and, bit_or}
use Rattle.std.specs.Prelude.{bit_xor}
use Rattle.nml_tree.specs.declared.tree.Desc.{Desc}
use Rattle.nml_tree.specs.Refused.{IsFreeBelow}
use Rattle.nml_shape.specs.declared.shape.Shape.{Shape}
use Rattle.nml_shape.specs.Shown.{AreAllShapes}
use Rattle.nml_shape.specs.Common.{IsLeastWord}
use Rattle.nml_outline.proofs.Bitwise.{agree, least_word, has_first, has_second}
use Rattle.nml_outline.proofs.ShapesMeet.{value_within}
use Rattle.nml_outline.proofs.ShapeWord.{some_root}

-- the bits that are fixed in both and differ
abbrev clash : Shape → Shape → ℕ
clash a b = bit_and (bit_and (bit_xor a.value b.value) a.mask) b.mask

-- where they differ there is no word of both
pub no_word : (a b : Shape) → (clash a b ≡ 0 → ⊥) → IsLeastWord a b None
no_word a b differ w first second = differ (agree w a.mask b.mask a.value b.value first second)

module _ (d : Desc) (free : IsFreeBelow 12 d) (shapes : List Shape) (all : AreAllShapes d shapes) where
  -- a shape's value has no bit outside its mask
  pub value_inside : (s : Shape) → Contains shapes s → bit_and s.value s.mask ≡ s.value
  value_inside s c =
      let p = some_root d free shapes all s c in
      ap (λ v. bit_and v s.mask) p.3.value_is ∙ (ap (bit_and _) p.3.mask_is ∙ (value_within p.0 ∙ sym p.3.value_is))

  -- where they agree it is the bits that either has
  pub least_both : (a b : Shape) → Contains shapes a → Contains shapes b → clash a b ≡ 0 → IsLeastWord a b (Some (bit_or a.value b.value))
  least_both a b ca cb none =
      let p = value_inside a ca in
      let q = value_inside b cb in
      (has_first a.mask b.mask a.value b.value p q none, has_second a.mask b.mask a.value b.value p q none, λ v first second. least_word v a.mask b.mask a.value b.value first second)
