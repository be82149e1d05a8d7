-- From N12 on: what is free of faults, one number after the other.
use Rattle.std.proofs.Common.{ℕ, ◌≤◌, ◌≡◌, refl, arith}
use Rattle.nml_tree.specs.declared.tree.Desc.{Desc}
use Rattle.nml_tree.specs.Table.{table}
use Rattle.nml_tree.specs.Derivation.{Derivation}
use Rattle.nml_tree.specs.Shapes.{ShapesFault}
use Rattle.nml_tree.specs.Same.{SameImage, SameSyntax}
use Rattle.nml_tree.specs.Refused.{Holds, By_name, By_cycle, By_type, By_width, By_mention, By_word, By_edge, By_root, By_shapes, By_image, By_syntax, IsFreeBelow, IsTyped}
use Rattle.nml_types.proofs.Refusals.{next_free}

-- what holds from N12 on
data IsLate (d : Desc) (n : ℕ) : Type 0 where
  Shapes : (c m s : ℕ) → n ≡ 12 → ShapesFault (table d) c m s → IsLate d n
  Image : (a b : Derivation) → n ≡ 13 → SameImage (table d) a b → IsLate d n
  Syntax : (a b : Derivation) → n ≡ 14 → SameSyntax (table d) a b → IsLate d n

late : (d : Desc) (n : ℕ) → 12 ≤ n → Holds d n → IsLate d n
late d n le (By_name at h) = absurd (omega (arith, le))
late d n le (By_cycle rule h) = absurd (omega (arith, le))
late d n le (By_type at h) = absurd (omega (arith, le))
late d n le (By_width at h) = absurd (omega (arith, le))
late d n le (By_mention rule p h) = absurd (omega (arith, le))
late d n le (By_word rule h) = absurd (omega (arith, le))
late d n le (By_edge rule h) = absurd (omega (arith, le))
late d n le (By_root what h) = absurd (omega (arith, le))
late d n le (By_shapes c m s h) = Shapes c m s refl h
late d n le (By_image a b h) = Image a b refl h
late d n le (By_syntax a b h) = Syntax a b refl h

pub free_shapes : (d : Desc) → IsTyped d → ((c n s : ℕ) → ShapesFault (table d) c n s → ⊥) → IsFreeBelow 13 d
free_shapes d typed none = next_free d 12 typed (λ h. by (late d 12 (omega arith) h))
  where
    by : IsLate d 12 → ⊥
    by (Shapes c m s e h) = none c m s h
    by (Image a b e h) = omega (arith, e)
    by (Syntax a b e h) = omega (arith, e)

pub free_images : (d : Desc) → IsFreeBelow 13 d → ((a b : Derivation) → SameImage (table d) a b → ⊥) → IsFreeBelow 14 d
free_images d free none = next_free d 13 free (λ h. by (late d 13 (omega arith) h))
  where
    by : IsLate d 13 → ⊥
    by (Shapes c m s e h) = omega (arith, e)
    by (Image a b e h) = none a b h
    by (Syntax a b e h) = omega (arith, e)
