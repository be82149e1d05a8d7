-- Instructions are known by their images where no two shapes have a word in common; and else the first two shapes tell the first two instructions with one image.
use Rattle.std.proofs.Common.{ℕ, ◌^◌, ◌<◌, ◌≤◌, ◌≡◌, sym, ◌∙◌, ap, subst, Bool, List, Some, Contains, codes, length, arith}
use Rattle.std.specs.Prelude.{slice_get}
use Rattle.nml_tree.specs.declared.tree.Desc.{Desc}
use Rattle.nml_tree.specs.Attribute.{number_of}
use Rattle.nml_tree.specs.Table.{table}
use Rattle.nml_tree.specs.Derivation.{Derivation, picks, fields}
use Rattle.nml_tree.specs.Image.{image, word_of}
use Rattle.nml_tree.specs.Outline.{mask, fixed_value, HasFixed}
use Rattle.nml_tree.specs.Refused.{IsFreeBelow}
use Rattle.nml_tree.specs.Same.{IsFirstImage}
use Rattle.nml_tree.specs.Valid.{IsRoot}
use Rattle.nml_shape.specs.declared.shape.Shape.{Shape}
use Rattle.nml_shape.specs.Shown.{numbers_in, IsShapeOf, AreAllShapes}
use Rattle.nml_shape.specs.Common.{HasWord, IsLeastWord}
use Rattle.nml_shape.specs.First.{HaveWord, IsFirstPair, HasNoPair}
use Rattle.nml_outline.proofs.Bitwise.{agree}
use Rattle.nml_outline.proofs.Marks.{same_bits}
use Rattle.nml_outline.proofs.WordBits.{number_below}
use Rattle.nml_outline.proofs.ShapesMeet.{agreeing_meet}
use Rattle.nml_outline.proofs.Premises.{linear_images, one_width}
use Rattle.nml_outline.proofs.Listed.{contains_at}
use Rattle.nml_outline.proofs.ShapeWord.{typed, same_word, some_root, has_word, root_of}
use Rattle.nml_outline.proofs.FirstPair.{Meets, none_alike, first_shapes}

fixed_in : (x : Derivation) (s : Shape) (w : ℕ) → IsShapeOf x s → HasWord s w → HasFixed (mask x) (fixed_value x) w
fixed_in x s w is has = subst (λ m. HasFixed m (fixed_value x) w) is.mask_is (subst (λ v. HasFixed s.mask v w) is.value_is has)

-- two instructions of the shapes with this word, and that they are the first with one image
pub record FirstImage (d : Desc) (a b : Shape) (w : ℕ) : Type 0 where
  pub x : Derivation
  pub y : Derivation
  pub is : IsFirstImage (table d) x y
  pub first : picks x ≡ a.picks.items
  pub second : picks y ≡ b.picks.items
  pub first_fields : fields x ≡ numbers_in w a.fields.items
  pub second_fields : fields y ≡ numbers_in w b.fields.items
  pub word : word_of x ≡ w

module _ (d : Desc) (free : IsFreeBelow 12 d) (shapes : List Shape) (all : AreAllShapes d shapes) where
  meet : Meets d shapes (List Bool) image HaveWord
  meet s u x y cs cu hx hy px py same = (word_of x, has_word d free shapes all s x cs hx px, subst (HasWord u) (sym (ap number_of same)) (has_word d free shapes all u y cu hy py))

  pub one_image : HasNoPair HaveWord shapes → (x y : Derivation) → IsRoot (table d) x → IsRoot (table d) y → image x ≡ image y → x ≡ y
  one_image none x y h k same =
      none_alike d shapes all (List Bool) image HaveWord meet (λ v w hv hw e f. same_word d free v w hv hw e (ap number_of f)) none x y h k same

  long : (x y : Derivation) → IsRoot (table d) x → IsRoot (table d) y → length (image x) ≡ length (image y)
  long x y h k = one_width d (λ n low. free n (omega (arith, low))) x y h k

  -- the least word of both is no wider than their images
  least_low : (a b : Shape) (w : ℕ) → Contains shapes a → Contains shapes b → IsLeastWord a b (Some w) → (x : Derivation) → IsRoot (table d) x → w < 2 ^ length (image x)
  least_low a b w ca cb least x h =
      let p = some_root d free shapes all a ca in
      let q = some_root d free shapes all b cb in
      let none = agree w (mask p.0) (mask q.0) (fixed_value p.0) (fixed_value q.0) (fixed_in p.0 a w p.3 least.0) (fixed_in q.0 b w q.3 least.1) in
      let m = agreeing_meet (table d) (codes "instruction") p.0 q.0 (linear_images d (λ n low. free n (omega (arith, low)))) p.1 q.1 (typed d free p.0 p.1) (typed d free q.0 q.1) (long p.0 q.0 p.1 q.1) none in
      let first = has_word d free shapes all a m.0 ca m.2.first (m.2.first_picks ∙ p.2) in
      let second = subst (HasWord b) (sym m.2.word) (has_word d free shapes all b m.1 cb m.2.second (m.2.second_picks ∙ q.2)) in
      let most = least.2 (word_of m.0) first second in
      let below : word_of m.0 < 2 ^ length (image x) = subst (λ n. word_of m.0 < 2 ^ n) (long m.0 x m.2.first h) (number_below (image m.0)) in
      omega (arith, most, below)

  pub first_image_pair : (i j : ℕ) (a b : Shape) (w : ℕ) → IsFirstPair HaveWord shapes i j → slice_get shapes i ≡ Some a → slice_get shapes j ≡ Some b → IsLeastWord a b (Some w) → FirstImage d a b w
  first_image_pair i j a b w fp ea eb least =
      let ca = contains_at shapes i a ea in
      let cb = contains_at shapes j b eb in
      let p = some_root d free shapes all a ca in
      let q = some_root d free shapes all b cb in
      let x = root_of d free shapes all a p.0 w ca p.1 p.2 least.0 (least_low a b w ca cb least p.0 p.1) in
      let y = root_of d free shapes all b q.0 w cb q.1 q.2 least.1 (least_low a b w ca cb least q.0 q.1) in
      let same = same_bits (image x.0) (image y.0) (long x.0 y.0 x.1 y.1) (x.3 ∙ sym y.3) in
      record {
        x = x.0;
        y = y.0;
        is = record {
          shapes = first_shapes d shapes all (List Bool) image HaveWord meet i j a b x.0 y.0 fp ea eb x.1 y.1 x.2 y.2 same;
          least = λ v w alike pv pw. subst (λ n. n ≤ word_of v) (sym x.3) (least.2 (word_of v) (has_word d free shapes all a v ca alike.first (pv ∙ x.2))
              (subst (HasWord b) (sym (ap number_of alike.same)) (has_word d free shapes all b w cb alike.second (pw ∙ y.2))));
        };
        first = x.2;
        second = y.2;
        first_fields = x.4;
        second_fields = y.4;
        word = x.3;
      }
