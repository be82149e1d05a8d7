-- The words of a shape: those with its fixed value under its mask, each of one derivation.
use Rattle.std.proofs.Common.{ℕ, zero, suc, ◌+◌, ◌/◌, ◌%◌, ◌^◌, ◌==◌, ◌≡◌, ◌<◌, ◌≤◌, refl, sym, ◌∙◌, ap, subst, Bool, ℤ, List, [], ◌∷◌, map, length, arith, ◌⊎◌, inl, inr}
use Rattle.std.specs.Prelude.{unsigned_abs}
use Rattle.std.proofs.lemmas.List.{length-map}
use Rattle.nk_base.specs.Number.{IsTy, width_of, low_bits, InRange}
use Rattle.nk_base.specs.declared.number.Ty.{Ty}
use Rattle.nml_tree.specs.Attribute.{bits_below, number_of}
use Rattle.nml_tree.specs.declared.tree.Par.{Par}
use Rattle.nml_tree.specs.Table.{Text, Table}
use Rattle.nml_tree.specs.Derivation.{Derivation, Arguments, Pick, Compose, NoMore, Part, Field, IsDerivation, Fill, picks, picks_of, fields}
use Rattle.nml_tree.specs.Template.{given}
use Rattle.nml_tree.specs.Image.{bit, image, word_of}
use Rattle.nml_tree.specs.Value.{number_at}
use Rattle.nml_tree.specs.Outline.{types, types_of, outline_bits, mask, fixed_value, HasFixed, low}
use Rattle.nml_outline.proofs.ExactBits.{ExactBit, Given, BitOf, exact, exacts, run_below, with_fields, with_args, fill, forget, outline_is, image_with}
use Rattle.nml_outline.proofs.MaskBits.{Fits, is_fits}
use Rattle.nml_outline.proofs.SameShape.{image_is}
use Rattle.nml_outline.proofs.WordBits.{below_is}
use Rattle.nml_outline.proofs.Stands.{Each, each_text, each_given, TypeAt, type_left, type_right, types_long, without}
use Rattle.nml_outline.proofs.Stood.{HasLinearImages, stands}
use Rattle.nml_outline.proofs.Marks.{AtMost, from_once, from_without, mark, assign, numbers}

-- its fields have types of 1 to 64 bits
abbrev pub HasTypes : Derivation → Type 0
HasTypes d = (n : ℕ) (ty : Ty) → TypeAt (types d) 0 n ty → IsTy ty

-- a bit of a field of these
abbrev Known : List Ty → ExactBit → Type 0
Known ts (Given b) = Unit {0}
Known ts (BitOf n ty k) = TypeAt ts 0 n ty × (k < width_of ty)

known_run : (ts : List Ty) (n : ℕ) (ty : Ty) (k : ℕ) → TypeAt ts 0 n ty → k ≤ width_of ty → Each (Known ts) (run_below n ty k)
known_run ts n ty zero at low = tt
known_run ts n ty (suc k) at low = ((at, omega (arith, low)), known_run ts n ty k at (omega (arith, low)))

mutual
  known : (d : Derivation) (m : ℕ) (ts : List Ty) → ((n : ℕ) (ty : Ty) → TypeAt (types d) m n ty → TypeAt ts 0 n ty) → Each (Known ts) (exact m d)
  known (Pick k d) m ts h = known d m ts h
  known (Compose rule args) m ts h = each_text (Known ts) (λ c. Given (bit c)) rule.image (exacts m args) (λ c. tt) (λ q. knowns args m ts q h)

  knowns : (a : Arguments) (m : ℕ) (ts : List Ty) (q : Text) → ((n : ℕ) (ty : Ty) → TypeAt (types_of a) m n ty → TypeAt ts 0 n ty) → Each (Known ts) (given (exacts m a) q)
  knowns NoMore m ts q h = tt
  knowns (Part name d args) m ts q h =
      let long = types_long d in
      each_given (Known ts) (name, exact m d) (exacts (m + length (fields d)) args) q (known d m ts (λ n ty at. h n ty (type_left (types d) (types_of args) m n ty at)))
      (knowns args (m + length (fields d)) ts q (λ n ty at. h n ty (type_right (types d) (types_of args) m n ty (subst (λ k. TypeAt (types_of args) (m + k) n ty) (sym long) at))))
  knowns (Field name u z args) m ts q h =
      each_given (Known ts) (name, run_below m u (width_of u)) (exacts (m + 1) args) q (known_run ts m u (width_of u) (h m u (inl (refl, refl))) (omega arith))
      (knowns args (m + 1) ts q (λ n ty at. h n ty (inr at)))

-- a type for each number
pub type_get : (ts : List Ty) (m n : ℕ) → (n < m) ⊎ ((m + length ts ≤ n) ⊎ ((ty : Ty) × TypeAt ts m n ty))
type_get [] m n = elim (below n m) [ inl h ↦ inl h | inr h ↦ inr (inl (omega (arith, h))) ] where
  below : (n m : ℕ) → (n < m) ⊎ (m ≤ n)
  below n zero = inr (omega arith)
  below zero (suc m) = inl (omega arith)
  below (suc n) (suc m) = elim (below n m) [ inl h ↦ inl (omega (arith, h)) | inr h ↦ inr (omega (arith, h)) ]
type_get (t ∷ ts) m n =
    elim (type_get ts (m + 1) n) [
      | inl h ↦ elim (same n m h) [ inl e ↦ inr (inr (t, inl (e, refl))) | inr l ↦ inl l ]
      | inr h ↦ elim h [ inl l ↦ inr (inl (omega (arith, l))) | inr g ↦ inr (inr (g.0, inr g.1)) ]
    ] where
      same : (n m : ℕ) → n < m + 1 → (n ≡ m) ⊎ (n < m)
      same zero zero h = inl refl
      same zero (suc m) h = inr (omega arith)
      same (suc n) zero h = absurd (omega (arith, h))
      same (suc n) (suc m) h = elim (same n m (omega (arith, h))) [ inl e ↦ inl (ap suc e) | inr l ↦ inr (omega (arith, l)) ]

at_most : (d : Derivation) (t : Table) (name : Text) → HasLinearImages t → IsDerivation t name d → (n : ℕ) → AtMost n (exact 0 d)
at_most d t name lin h n =
    elim (type_get (types d) 0 n) [
      | inl l ↦ absurd (omega (arith, l))
      | inr r ↦ elim r [
        | inl l ↦ let long = types_long d in from_without n (exact 0 d) (without d 0 n (inr (omega (arith, l, long))))
        | inr g ↦ from_once n g.0 (exact 0 d) (stands d t name 0 n g.0 lin h g.1)
      ]
    ]

mutual
  -- other numbers in range make a derivation with the same picks
  pub refilled : (d : Derivation) (t : Table) (name : Text) (f : ℕ → ℤ) (m : ℕ) → IsDerivation t name d → ((n : ℕ) (ty : Ty) → TypeAt (types d) m n ty → InRange ty (f n)) → IsDerivation t name (with_fields f m d)
  refilled (Pick k d) t name f m h r = (h.0, h.1, refilled d t h.0 f m h.2 r)
  refilled (Compose rule args) t name f m h r = (h.0, refilled_args args t rule.pars f m h.1 r)

  refilled_args : (a : Arguments) (t : Table) (pars : List Par) (f : ℕ → ℤ) (m : ℕ) → Fill t pars a → ((n : ℕ) (ty : Ty) → TypeAt (types_of a) m n ty → InRange ty (f n)) → Fill t pars (with_args f m a)
  refilled_args NoMore t pars f m h r = h
  refilled_args (Part name d args) t pars f m h r =
      let long = types_long d in (
        h.0,
        h.1,
        h.2,
        h.3,
        h.4,
        h.5,
        refilled d t h.2 f m h.6 (λ n ty at. r n ty (type_left (types d) (types_of args) m n ty at)),
        refilled_args args t h.1 f (m + length (fields d)) h.7 (λ n ty at. r n ty (type_right (types d) (types_of args) m n ty (subst (λ k. TypeAt (types_of args) (m + k) n ty) (sym long) at))),
      )
  refilled_args (Field name u z args) t pars f m h r =
      (h.0, h.1, h.2, h.3, h.4, r m u (inl (refl, refl)), refilled_args args t h.1 f (m + 1) h.6 (λ n ty at. r n ty (inr at)))

mutual
  pub picks_with : (d : Derivation) (f : ℕ → ℤ) (m : ℕ) → picks (with_fields f m d) ≡ picks d
  picks_with (Pick k d) f m = ap (λ ks. k ∷ ks) (picks_with d f m)
  picks_with (Compose rule args) f m = picks_args args f m

  picks_args : (a : Arguments) (f : ℕ → ℤ) (m : ℕ) → picks_of (with_args f m a) ≡ picks_of a
  picks_args NoMore f m = refl
  picks_args (Part name d args) f m = rw (picks_with d f m, picks_args args f (m + length (fields d))) refl
  picks_args (Field name u z args) f m = picks_args args f (m + 1)

filled_same : (xs : List ExactBit) (ts : List Ty) (f : ℕ → ℤ) (marks : ℕ → ℕ → Bool) → Each (Known ts) xs
    → ((n : ℕ) (ty : Ty) → TypeAt ts 0 n ty → (k : ℕ) → k < width_of ty → (unsigned_abs (low_bits (width_of ty) (f n)) / 2 ^ k % 2 == 1) ≡ marks n k) → map (fill f) xs ≡ map (mark marks) xs
filled_same [] ts f marks h g = refl
filled_same (Given b ∷ xs) ts f marks h g = ap (λ ys. b ∷ ys) (filled_same xs ts f marks h.1 g)
filled_same (BitOf n ty k ∷ xs) ts f marks h g =
    ap (λ b. b ∷ map (fill f) xs) (g n ty h.0.0 k h.0.1) ∙ ap (λ ys. marks n k ∷ ys) (filled_same xs ts f marks h.1 g)

-- bits that fit the outline are the image of a derivation with these picks
pub each_image : (t : Table) (name : Text) (d : Derivation) (bs : List Bool) → HasLinearImages t → IsDerivation t name d → HasTypes d → Fits (outline_bits 0 d) bs
    → (e : Derivation) × IsDerivation t name e × (picks e ≡ picks d) × (image e ≡ bs)
each_image t name d bs lin h types_are fit =
    let a = assign (exact 0 d) bs (subst (λ os. Fits os bs) (outline_is d 0) fit) (at_most d t name lin h) in
    let f = numbers a.0 (types d) 0 types_are in
    let same = filled_same (exact 0 d) (types d) f.0 a.0 (known d 0 (types d) (λ n ty at. at)) (λ n ty at k l. (f.1 n ty at).1 k l) in
    (with_fields f.0 0 d, refilled d t name f.0 0 h (λ n ty at. (f.1 n ty at).0), picks_with d f.0 0, image_with d f.0 0 ∙ (same ∙ a.1))

pub image_long : (d : Derivation) → length (image d) ≡ length (outline_bits 0 d)
image_long d =
    ap length (image_is d) ∙ (length-map (exact 0 d) (fill (number_at (fields d))) ∙ (sym (length-map (exact 0 d) forget) ∙ sym (ap length (outline_is d 0))))

below_long : (n v : ℕ) → length (bits_below n v) ≡ n
below_long zero v = refl
below_long (suc n) v = ap suc (below_long n v)

-- each word with the shape's fixed value is the image of one with these picks
pub each_word : (t : Table) (name : Text) (d : Derivation) (w : ℕ) → HasLinearImages t → IsDerivation t name d → HasTypes d → w < 2 ^ length (image d) → HasFixed (mask d) (fixed_value d) w
    → (e : Derivation) × IsDerivation t name e × (picks e ≡ picks d) × (word_of e ≡ w)
each_word t name d w lin h types_are small has =
    let n = length (image d) in
    let bs = bits_below n w in
    let is : number_of bs ≡ w = below_is n w small in
    let fit = is_fits (outline_bits 0 d) bs (below_long n w ∙ image_long d) (subst (HasFixed (mask d) (fixed_value d)) (sym is) has) in
    let e = each_image t name d bs lin h types_are fit in
    (e.0, e.1, e.2, ap number_of e.3 ∙ is)
