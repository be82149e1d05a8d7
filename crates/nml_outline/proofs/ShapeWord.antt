-- The words of a shape are those of its instructions, and the numbers in their fields are read off them.
use Rattle.std.proofs.Common.{ℕ, zero, suc, ◌+◌, ◌-◌, ◌/◌, ◌%◌, ◌^◌, ◌<◌, ◌≤◌, ◌≡◌, refl, sym, ◌∙◌, ap, subst, ℤ, pos, negsuc, List, [], ◌∷◌, length, Some, Contains, codes, arith, inl, inr}
use Rattle.std.specs.Prelude.{◌-ℤ◌, unsigned_abs, int_lt, if◌then◌else◌, slice_get}
use Rattle.std.proofs.lemmas.Bool.Decides.{nat_tests}
use Rattle.std.proofs.lemmas.Int.{ints, int_rem_euclid_is}
use Rattle.std.proofs.lemmas.Nat.{pow_pos}
use Rattle.std.proofs.lemmas.List.{length-map}
use Rattle.nk_base.specs.Number.{IsTy, InRange, width_of, low_bits, wrapped}
use Rattle.nk_base.specs.declared.number.Ty.{Ty}
use Rattle.nk_base.specs.declared.number.Ty.TheVariants as tys
use Rattle.nml_tree.specs.declared.tree.Desc.{Desc}
use Rattle.nml_tree.specs.Table.{table}
use Rattle.nml_tree.specs.Derivation.{Derivation, picks, fields}
use Rattle.nml_tree.specs.Image.{image, word_of}
use Rattle.nml_tree.specs.Outline.{types, mask, fixed_value, HasFixed, low}
use Rattle.nml_tree.specs.Value.{number_at}
use Rattle.nml_tree.specs.Valid.{IsRoot, IsWordWidth}
use Rattle.nml_tree.specs.Refused.{IsFreeBelow}
use Rattle.nml_shape.specs.declared.shape.FieldAt.{FieldAt}
use Rattle.nml_shape.specs.declared.shape.Shape.{Shape}
use Rattle.nml_shape.specs.Shown.{types_of, number_in, numbers_in, IsShapeOf, AreAllShapes}
use Rattle.nml_shape.specs.Common.{HasWord}
use Rattle.nml_outline.proofs.Ranges.{small, pos_low, neg_low, half}
use Rattle.nml_outline.proofs.Stands.{TypeAt, types_long}
use Rattle.nml_outline.proofs.SameShape.{word_has}
use Rattle.nml_outline.proofs.ShapeWords.{HasTypes, each_word}
use Rattle.nml_outline.proofs.ShapesMeet.{own_ranged, field_read, one_word}
use Rattle.nml_outline.proofs.Premises.{linear_images, has_types}
use Rattle.nml_outline.proofs.Listed.{picks_at}

low_pos : (n a : ℕ) → a < 2 ^ n → low_bits n (pos a) ≡ pos a
low_pos n a h = int_rem_euclid_is (pos a) (pos (2 ^ n)) (2 ^ n) 0 a (pow_pos n) refl (omega (arith, ints)) ∙ ap pos (small a n h)

-- the number of two's complement that these lowest bits write
abbrev signed : ℕ → ℤ → ℤ
signed n low = if int_lt low (pos (2 ^ (n - 1))) then low else low -ℤ pos (2 ^ n)

signed_low : (n a : ℕ) → a < 2 ^ (n - 1) → signed n (pos a) ≡ pos a
signed_low n a h = grind (arith, nat_tests)

signed_high : (n a : ℕ) → 2 ^ (n - 1) ≤ a → signed n (pos a) ≡ pos a -ℤ pos (2 ^ n)
signed_high n a h = grind (arith, nat_tests)

-- a number in range is what its lowest bits write
pub wrapped_low : (ty : Ty) (z : ℤ) → IsTy ty → InRange ty z → wrapped ty (pos (unsigned_abs (low_bits (width_of ty) z))) ≡ z
wrapped_low tys.Bool (pos a) h r = ap pos (pos_low 1 a (omega (arith, ints, r.1)))
wrapped_low tys.Bool (negsuc a) h r = absurd (omega (arith, ints, r.0))
wrapped_low (tys.Card n) (pos a) h r =
    let l : a < 2 ^ n = omega (arith, ints, r.1) in ap (λ u. low_bits n (pos u)) (pos_low n a l) ∙ low_pos n a l
wrapped_low (tys.Card n) (negsuc a) h r = absurd (omega (arith, ints, r.0))
wrapped_low (tys.Int n) (pos a) h r =
    let two = half n h.0 in
    let l : a < 2 ^ (n - 1) = omega (arith, ints, r.1) in
    let m : a < 2 ^ n = omega (arith, l, two) in
    ap (λ u. wrapped (tys.Int n) (pos u)) (pos_low n a m) ∙ (ap (signed n) (low_pos n a m) ∙ signed_low n a l)
wrapped_low (tys.Int n) (negsuc a) h r =
    let two = half n h.0 in
    let l : a < 2 ^ (n - 1) = omega (arith, ints, r.0) in
    let m : a < 2 ^ n = omega (arith, l, two) in
    let x : ℕ = 2 ^ n - 1 - a in
    ap (λ u. wrapped (tys.Int n) (pos u)) (neg_low n a m)
    ∙ (ap (signed n) (low_pos n x (omega (arith, m))) ∙ (signed_high n x (omega (arith, l, two)) ∙ omega (arith, ints, m)))

numbers_same : (w : ℕ) (fs : List FieldAt) (zs : List ℤ) → length zs ≡ length fs → ((n : ℕ) (f : FieldAt) → slice_get fs n ≡ Some f → number_at zs n ≡ number_in w f) → zs ≡ numbers_in w fs
numbers_same w [] [] long h = refl
numbers_same w [] (z ∷ zs) long h = absurd (omega (arith, long))
numbers_same w (f ∷ fs) [] long h = absurd (omega (arith, long))
numbers_same w (f ∷ fs) (z ∷ zs) long h =
    ap (λ y. y ∷ zs) (h 0 f refl) ∙ ap (λ ys. number_in w f ∷ ys) (numbers_same w fs zs (omega (arith, long)) (λ n g e. h (suc n) g e))

type_at : (fs : List FieldAt) (m n : ℕ) (f : FieldAt) → slice_get fs n ≡ Some f → TypeAt (types_of fs) m (m + n) f.ty
type_at [] m n f e = absurd cc
type_at (g ∷ fs) m zero f e = let s : g ≡ f = cc in inl (omega arith, ap (λ (x : FieldAt). x.ty) s)
type_at (g ∷ fs) m (suc n) f e =
    let s : m + 1 + n ≡ m + suc n = omega arith in inr (subst (λ k. TypeAt (types_of fs) (m + 1) k f.ty) s (type_at fs (m + 1) n f e))

-- a field of the shape has its type in each instruction of it
pub shape_type : (x : Derivation) (s : Shape) → IsShapeOf x s → (n : ℕ) (f : FieldAt) → slice_get s.fields.items n ≡ Some f → TypeAt (types x) 0 n f.ty
shape_type x s is n f e =
    let z : 0 + n ≡ n = omega arith in subst (λ ts. TypeAt ts 0 n f.ty) is.types_are (subst (λ k. TypeAt (types_of s.fields.items) 0 k f.ty) z (type_at s.fields.items 0 n f e))

pub fields_many : (x : Derivation) (s : Shape) → IsShapeOf x s → length (fields x) ≡ length s.fields.items
fields_many x s is = sym (types_long x) ∙ (sym (ap length is.types_are) ∙ length-map s.fields.items (λ (f : FieldAt). f.ty))

module _ (d : Desc) (free : IsFreeBelow 12 d) where
  free9 : IsFreeBelow 9 d
  free9 k low = free k (omega (arith, low))

  pub typed : (x : Derivation) → IsRoot (table d) x → HasTypes x
  typed x h = has_types d (λ k low. free k (omega (arith, low))) (codes "instruction") x h

  pub numbers_read : (x : Derivation) (s : Shape) → IsRoot (table d) x → IsShapeOf x s → fields x ≡ numbers_in (word_of x) s.fields.items
  numbers_read x s h is =
      numbers_same (word_of x) s.fields.items (fields x) (fields_many x s is) (λ n f e.
      let at = shape_type x s is n f e in
      let z = number_at (fields x) n in
      let read = field_read (table d) (codes "instruction") x n f.ty (linear_images d free9) h (typed x h) at in
      sym (wrapped_low f.ty z (typed x h n f.ty at) (own_ranged x (table d) (codes "instruction") n f.ty h at))
      ∙ (ap (λ u. wrapped f.ty (pos u)) (sym read) ∙ ap (λ k. wrapped f.ty (pos (word_of x / 2 ^ k % 2 ^ width_of f.ty))) (sym (is.lows_are n f e))))

  pub same_word : (x y : Derivation) → IsRoot (table d) x → IsRoot (table d) y → picks x ≡ picks y → word_of x ≡ word_of y → x ≡ y
  same_word x y h k e f = one_word (table d) (codes "instruction") x y (linear_images d free9) h k (typed x h) e f

  module _ (shapes : List Shape) (all : AreAllShapes d shapes) where
    -- an instruction of the shape
    pub some_root : (s : Shape) → Contains shapes s → (x : Derivation) × IsRoot (table d) x × (picks x ≡ s.picks.items) × IsShapeOf x s
    some_root s c =
        let x = all.all.each s.picks.items (picks_at shapes s c) in (x.0, x.1, x.2, all.each s x.0 c x.1 (sym x.2))

    pub has_word : (s : Shape) (x : Derivation) → Contains shapes s → IsRoot (table d) x → picks x ≡ s.picks.items → HasWord s (word_of x)
    has_word s x c h e =
        let is = all.each s x c h (sym e) in
        subst (λ m. HasFixed m s.value (word_of x)) (sym is.mask_is) (subst (λ v. HasFixed (mask x) v (word_of x)) (sym is.value_is) (word_has x))

    pub root_of : (s : Shape) (x : Derivation) (w : ℕ) → Contains shapes s → IsRoot (table d) x → picks x ≡ s.picks.items → HasWord s w → w < 2 ^ length (image x)
        → (y : Derivation) × IsRoot (table d) y × (picks y ≡ s.picks.items) × (word_of y ≡ w) × (fields y ≡ numbers_in w s.fields.items)
    root_of s x w c h e has low =
        let is = all.each s x c h (sym e) in
        let fixed : HasFixed (mask x) (fixed_value x) w = subst (λ m. HasFixed m (fixed_value x) w) is.mask_is (subst (λ v. HasFixed s.mask v w) is.value_is has) in
        let y = each_word (table d) (codes "instruction") x w (linear_images d free9) h (typed x h) low fixed in
        let same : picks y.0 ≡ s.picks.items = y.2 ∙ e in
        (y.0, y.1, same, y.3, numbers_read y.0 s y.1 (all.each s y.0 c y.1 (sym same)) ∙ ap (λ v. numbers_in v s.fields.items) y.3)

    -- a word of the shape is that of an instruction
    pub word_is_root : (width : ℕ) → IsWordWidth (table d) width → (s : Shape) (w : ℕ) → Contains shapes s → HasWord s w → w < 2 ^ width
        → (x : Derivation) × IsRoot (table d) x × (picks x ≡ s.picks.items) × (word_of x ≡ w) × (fields x ≡ numbers_in w s.fields.items)
    word_is_root width wide s w c has low =
        let x = some_root s c in root_of s x.0 w c x.1 x.2 has (subst (λ n. w < 2 ^ n) (sym (wide x.0 x.1)) low)

    -- and the word of an instruction is one of its shape
    pub root_is_word : (s : Shape) (x : Derivation) → Contains shapes s → IsRoot (table d) x → picks x ≡ s.picks.items → HasWord s (word_of x) × (fields x ≡ numbers_in (word_of x) s.fields.items)
    root_is_word s x c h e = (has_word s x c h e, numbers_read x s h (all.each s x c h (sym e)))
