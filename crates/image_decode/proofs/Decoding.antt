-- A word and the shapes that have it.
use Rattle.std.proofs.Common.{ℕ, ◌<◌, ◌≤◌, ◌≡◌, refl, sym, ◌∙◌, ap, subst, arith, List, Some, None, Option, Bool, true, false}
use Rattle.std.specs.Prelude.{◌^◌, not, slice_get, IsTrue, codes}
use Rattle.nml_tree.specs.declared.tree.Desc.{Desc}
use Rattle.nml_tree.specs.Table.{table}
use Rattle.nml_tree.specs.Derivation.{Derivation, picks}
use Rattle.nml_tree.specs.Image.{image, word_of}
use Rattle.nml_tree.specs.Legal.{IsLegal, is_legal}
use Rattle.nml_tree.specs.Machine.{IsInstruction}
use Rattle.nml_tree.specs.Refused.{IsChecked, IsFreeBelow}
use Rattle.nml_tree.specs.Valid.{IsRoot, IsWordWidth}
use Rattle.nml_shape.specs.declared.shape.Inst.{Inst}
use Rattle.nml_shape.specs.declared.shape.Shape.{Shape}
use Rattle.nml_shape.specs.Shown.{AreAllShapes}
use Rattle.nml_shape.specs.Common.{HasWord}
use Rattle.nml_outline.proofs.Listed.{at_of, contains_at}
use Rattle.nml_outline.proofs.Marks.{same_bits}
use Rattle.nml_outline.proofs.ShapeWord.{has_word, word_is_root}
use Rattle.nml_outline.proofs.WordBits.{number_below}
use Rattle.isg_lists.specs.Masks.{HasAt, HasNone}
use Rattle.isg_graph.specs.Graph.{Graph, IsGraph}
use Rattle.isg_graph.specs.Instance.{IsInstOf}

pub free_of : (d : Desc) → IsChecked d → IsFreeBelow 12 d
free_of d checked k low = checked.free k (omega (arith, low))

module _ (d : Desc) (checked : IsChecked d) (shapes : List Shape) (all : AreAllShapes d shapes) (width : ℕ) (wide : IsWordWidth (table d) width) (w : ℕ) where
  -- a word of more bits is no instruction
  pub none_above : 2 ^ width ≤ w → (x : Derivation) → IsInstruction (table d) w x → ⊥
  none_above high x is =
      let low = number_below (image x) in
      let e : w ≡ word_of x = sym is.image in
      let l : word_of x < 2 ^ width = subst (λ n. word_of x < 2 ^ n) (wide x is.derivation) low in
      omega (arith, high, l, e)

  -- nor one that no shape has
  pub none_without : ((n : ℕ) (s : Shape) → slice_get shapes n ≡ Some s → HasWord s w → ⊥) → (x : Derivation) → IsInstruction (table d) w x → ⊥
  none_without none x is =
      let at = at_of shapes (picks x) (all.all.every x is.derivation) in
      none at.0 at.1 at.2 (subst (HasWord at.1) is.image (has_word d (free_of d checked) shapes all at.1 x (contains_at shapes at.0 at.1 at.2) is.derivation (sym at.3)))

  -- one that a shape has is that of a derivation of the shape
  pub root_with : (n : ℕ) (s : Shape) → slice_get shapes n ≡ Some s → HasWord s w → w < 2 ^ width → (x : Derivation) × IsRoot (table d) x × (picks x ≡ s.picks.items) × (word_of x ≡ w)
  root_with n s at has low =
      let x = word_is_root d (free_of d checked) shapes all width wide s w (contains_at shapes n s at) has low in (x.0, x.1, x.2, x.3)

  -- and of that one alone
  pub one_root : (x y : Derivation) → IsRoot (table d) x → word_of x ≡ w → IsInstruction (table d) w y → y ≡ x
  one_root x y root word is =
      checked.by_image y x is.derivation root (same_bits (image y) (image x) (wide y is.derivation ∙ sym (wide x root)) (is.image ∙ sym word))

  pub none_by : (x : Derivation) → IsRoot (table d) x → word_of x ≡ w → true ≡ not (is_legal (table d) x) → (y : Derivation) → IsInstruction (table d) w y → ⊥
  none_by x root word not_legal y is =
      let legal : is_legal (table d) y ≡ true = is.legal in
      let f : is_legal (table d) x ≡ true = subst (λ z. is_legal (table d) z ≡ true) (one_root x y root word is) legal in
      let e : true ≡ false = not_legal ∙ ap not f in
      absurd cc

  pub legal_by : (x : Derivation) → IsRoot (table d) x → word_of x ≡ w → false ≡ not (is_legal (table d) x) → IsInstruction (table d) w x
  legal_by x root word legal = record { derivation = root; legal = back (is_legal (table d) x) (sym legal); image = word }
    where
      back : (b : Bool) → not b ≡ false → IsTrue b
      back true h = refl
      back false h = absurd cc

module _ (g : Graph) (whole : IsGraph g) where
  pub none_high : (w : ℕ) → 2 ^ g.word_bits ≤ w → (x : Derivation) → IsInstruction (table g.desc) w x → ⊥
  none_high w high x is = none_above g.desc whole.checked g.shapes whole.shapes_are g.word_bits whole.word_bits_are w high x is

  pub none_found : (w : ℕ) → HasNone g.shapes w → (x : Derivation) → IsInstruction (table g.desc) w x → ⊥
  none_found w none x is = none_without g.desc whole.checked g.shapes whole.shapes_are g.word_bits whole.word_bits_are w none x is

  instance : (i : Inst) → i.word < 2 ^ g.word_bits → HasAt g.shapes i.word i.shape → (x : Derivation) × IsInstOf g i x
  instance i low has =
      let r = root_with g.desc whole.checked g.shapes whole.shapes_are g.word_bits whole.word_bits_are i.word i.shape has.0 has.1 has.2 low in
      (r.0, record { of = record { shape = has.0; stands = has.1; is = (r.1, r.2) }; word_is = r.3 })

  pub none_legal : (i : Inst) → i.word < 2 ^ g.word_bits → HasAt g.shapes i.word i.shape → ((x : Derivation) → IsInstOf g i x → true ≡ not (is_legal (table g.desc) x)) → (x : Derivation) → IsInstruction (table g.desc) i.word x → ⊥
  none_legal i low has h y is =
      let x = instance i low has in none_by g.desc whole.checked g.shapes whole.shapes_are g.word_bits whole.word_bits_are i.word x.0 x.1.of.is.0 x.1.word_is (h x.0 x.1) y is

  pub one_legal : (i : Inst) → i.word < 2 ^ g.word_bits → HasAt g.shapes i.word i.shape → ((x : Derivation) → IsInstOf g i x → false ≡ not (is_legal (table g.desc) x)) → (i.word ≡ i.word) × ((x : Derivation) × IsInstOf g i x × IsInstruction (table g.desc) i.word x)
  one_legal i low has h =
      let x = instance i low has in (refl, (x.0, x.1, legal_by g.desc whole.checked g.shapes whole.shapes_are g.word_bits whole.word_bits_are i.word x.0 x.1.of.is.0 x.1.word_is (h x.0 x.1)))
