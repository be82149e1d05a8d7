-- An image in outline has as many bits as the image.
use Rattle.std.proofs.Common.{◌≡◌, ℕ, zero, suc, ◌+◌, List, [], ◌∷◌, map, length, replicate, refl, ap, sym, ◌∙◌}
use Rattle.nk_base.specs.Number.{width_of}
use Rattle.nml_tree.specs.Attribute.{bits_below}
use Rattle.nml_tree.specs.Derivation.{Derivation, Arguments, Pick, Compose, NoMore, Part, Field, fields}
use Rattle.nml_tree.specs.Image.{image, images, bit}
use Rattle.nml_tree.specs.Outline as outline
use Rattle.nml_tree.specs.Outline.{OutlineBit, outline_bits, outlines}
use Rattle.nml_tree.specs.Template.{text_of}
use Rattle.shape_list.proofs.Texts.{seen, seen_text}

-- of each element nothing is kept
abbrev mark : {A : Type 0} → A → Unit {0}
mark x = tt

abbrev marks : ℕ → List (Unit {0})
marks n = replicate n tt

marks_below : (n v : ℕ) → map mark (bits_below n v) ≡ marks n
marks_below zero v = refl
marks_below (suc n) v = ap (λ xs. tt ∷ xs) (marks_below n v)

marks_same : (n : ℕ) (b : OutlineBit) → map mark (replicate n b) ≡ marks n
marks_same zero b = refl
marks_same (suc n) b = ap (λ xs. tt ∷ xs) (marks_same n b)

mutual
  same_marks : (d : Derivation) (n : ℕ) → map mark (outline_bits n d) ≡ map mark (image d)
  same_marks (Pick k d) n = same_marks d n
  same_marks (Compose rule args) n =
      seen_text mark (λ c. outline.Fixed (bit c)) (outlines n args) rule.image ∙ ap (λ ps. text_of (λ c. tt) ps rule.image) (same_all args n) ∙ sym (seen_text mark bit (images args) rule.image)

  same_all : (a : Arguments) (n : ℕ) → seen mark (outlines n a) ≡ seen mark (images a)
  same_all NoMore n = refl
  same_all (Part name d args) n = rw (same_marks d n, same_all args (n + length (fields d))) refl
  same_all (Field name u z args) n = rw (marks_same (width_of u) (outline.Free n), same_all args (n + 1), marks_below (width_of u) _) refl

pub map_length : {A B : Type 0} (f : A → B) (xs : List A) → length (map f xs) ≡ length xs
map_length f [] = refl
map_length f (x ∷ xs) = ap suc (map_length f xs)

pub image_length : (d : Derivation) (n : ℕ) → length (outline_bits n d) ≡ length (image d)
image_length d n = sym (map_length mark (outline_bits n d)) ∙ ap length (same_marks d n) ∙ map_length mark (image d)
