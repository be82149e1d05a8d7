-- A word is one derivation of a shape at most; two shapes whose fixed bits agree have a word in common.
use Rattle.std.proofs.Common.{ℕ, ◌+◌, ◌/◌, ◌%◌, ◌^◌, ◌≡◌, ◌<◌, ◌≤◌, refl, sym, ◌∙◌, ap, subst, ℤ, pos, List, [], ◌∷◌, map, length, arith, inl, inr, bit_and, bit_or}
use Rattle.std.specs.Prelude.{unsigned_abs, bit_xor, not, reverse}
use Rattle.std.specs.List.{prefix_len}
use Rattle.std.specs.Int.Bits.{or_lt}
use Rattle.std.proofs.lemmas.List.{length-map}
use Rattle.nk_base.specs.Number.{IsTy, width_of, low_bits, InRange}
use Rattle.nk_base.specs.declared.number.Ty.{Ty}
use Rattle.nk_base.specs.declared.number.Ty.TheVariants as tys
use Rattle.nml_tree.specs.declared.tree.Par.{Par}
use Rattle.nml_tree.specs.Table.{Text, Table}
use Rattle.nml_tree.specs.Derivation.{Derivation, Arguments, Pick, Compose, NoMore, Part, Field, IsDerivation, Fill, picks, fields, fields_of}
use Rattle.nml_tree.specs.Image.{image, word_of}
use Rattle.nml_tree.specs.Value.{number_at}
use Rattle.nml_tree.specs.Outline.{OutlineBit, Fixed, Free, fixed_bit, is_free, types, types_of, outline_bits, mask, fixed_value, low}
use Rattle.nml_outline.proofs.ExactBits.{with_fields, with_args}
use Rattle.nml_outline.proofs.MaskBits.{Fits, fits_is}
use Rattle.nml_outline.proofs.SameShape.{Agrees, agrees_front, agrees_back, agrees_at, own, one_shape, one_outline}
use Rattle.nml_outline.proofs.WordBits.{number_below}
use Rattle.nml_outline.proofs.Ranges.{one_number}
use Rattle.nml_outline.proofs.Stands.{TypeAt, type_left, type_right, type_either, types_long}
use Rattle.nml_outline.proofs.Stood.{HasLinearImages, stands}
use Rattle.nml_outline.proofs.PlaceOf.{read_at}
use Rattle.nml_outline.proofs.ShapeWords.{HasTypes, each_word, image_long}
use Rattle.nml_outline.proofs.Bitwise.{has_first, has_second}

mutual
  -- its numbers are in range
  ranged : (d : Derivation) (t : Table) (name : Text) (f : ℕ → ℤ) (m n : ℕ) (ty : Ty) → IsDerivation t name d → Agrees f m (fields d) → TypeAt (types d) m n ty → InRange ty (f n)
  ranged (Pick k d) t name f m n ty h g at = ranged d t h.0 f m n ty h.2 g at
  ranged (Compose rule args) t name f m n ty h g at = ranged_args args t rule.pars f m n ty h.1 g at

  ranged_args : (a : Arguments) (t : Table) (pars : List Par) (f : ℕ → ℤ) (m n : ℕ) (ty : Ty) → Fill t pars a → Agrees f m (fields_of a) → TypeAt (types_of a) m n ty → InRange ty (f n)
  ranged_args NoMore t pars f m n ty h g at = absurd at
  ranged_args (Part name d args) t pars f m n ty h g at =
      let long = types_long d in
      elim (type_either (types d) (types_of args) m n ty at) [
        | inl here ↦ ranged d t h.2 f m n ty h.6 (agrees_front (fields d) (fields_of args) f m g) here
        | inr there ↦ ranged_args args t h.1 f (m + length (fields d)) n ty h.7 (agrees_back (fields d) (fields_of args) f m g) (subst (λ k. TypeAt (types_of args) (m + k) n ty) long there)
      ]
  ranged_args (Field name u z args) t pars f m n ty h g (inl at) = subst (λ v. InRange v (f n)) at.1 (subst (λ k. InRange u (f k)) (sym at.0) (subst (InRange u) (sym g.0) h.5))
  ranged_args (Field name u z args) t pars f m n ty h g (inr at) = ranged_args args t h.1 f (m + 1) n ty h.6 g.1 at

pub own_ranged : (d : Derivation) (t : Table) (name : Text) (n : ℕ) (ty : Ty) → IsDerivation t name d → TypeAt (types d) 0 n ty → InRange ty (number_at (fields d) n)
own_ranged d t name n ty h at =
    ranged d t name (number_at (fields d)) 0 n ty h (agrees_at (fields d) (number_at (fields d)) 0 (λ k. let e : 0 + k ≡ k = omega arith in ap (number_at (fields d)) e)) at

mutual
  types_with : (d : Derivation) (f : ℕ → ℤ) (m : ℕ) → types (with_fields f m d) ≡ types d
  types_with (Pick k d) f m = types_with d f m
  types_with (Compose rule args) f m = types_args args f m

  types_args : (a : Arguments) (f : ℕ → ℤ) (m : ℕ) → types_of (with_args f m a) ≡ types_of a
  types_args NoMore f m = refl
  types_args (Part name d args) f m = rw (types_with d f m, types_args args f (m + length (fields d))) refl
  types_args (Field name u z args) f m = ap (λ ts. u ∷ ts) (types_args args f (m + 1))

pub one_types : (t : Table) (name : Text) (d e : Derivation) → IsDerivation t name d → IsDerivation t name e → picks d ≡ picks e → types d ≡ types e
one_types t name d e h k same =
    sym (types_with d (λ i. pos 0) 0) ∙ (ap types (one_shape t name d e (λ i. pos 0) h k same) ∙ types_with e (λ i. pos 0) 0)

mutual
  pub with_same : (d : Derivation) (f g : ℕ → ℤ) (m : ℕ) → ((n : ℕ) (ty : Ty) → TypeAt (types d) m n ty → f n ≡ g n) → with_fields f m d ≡ with_fields g m d
  with_same (Pick k d) f g m h = ap (λ x. Pick k x) (with_same d f g m h)
  with_same (Compose rule args) f g m h = ap (λ x. Compose rule x) (args_same args f g m h)

  args_same : (a : Arguments) (f g : ℕ → ℤ) (m : ℕ) → ((n : ℕ) (ty : Ty) → TypeAt (types_of a) m n ty → f n ≡ g n) → with_args f m a ≡ with_args g m a
  args_same NoMore f g m h = refl
  args_same (Part name d args) f g m h =
      let long = types_long d in
      rw (
        with_same d f g m (λ n ty at. h n ty (type_left (types d) (types_of args) m n ty at)),
        args_same args f g (m + length (fields d)) (λ n ty at. h n ty (type_right (types d) (types_of args) m n ty (subst (λ k. TypeAt (types_of args) (m + k) n ty) (sym long) at))),
      ) refl
  args_same (Field name u z args) f g m h = rw (h m u (inl (refl, refl)), args_same args f g (m + 1) (λ n ty at. h n ty (inr at))) refl

wide : (ty : Ty) → IsTy ty → 1 ≤ width_of ty
wide tys.Bool h = omega arith
wide (tys.Card n) h = h.0
wide (tys.Int n) h = h.0

-- a field's number is what stands in the word at its place
pub field_read : (t : Table) (name : Text) (d : Derivation) (n : ℕ) (ty : Ty) → HasLinearImages t → IsDerivation t name d → HasTypes d → TypeAt (types d) 0 n ty
    → word_of d / 2 ^ low n d % 2 ^ width_of ty ≡ unsigned_abs (low_bits (width_of ty) (number_at (fields d) n))
field_read t name d n ty lin h types_are at = read_at d n ty (stands d t name 0 n ty lin h at) (wide ty (types_are n ty at))

pub one_low : (t : Table) (name : Text) (d e : Derivation) (n : ℕ) → IsDerivation t name d → IsDerivation t name e → picks d ≡ picks e → low n d ≡ low n e
one_low t name d e n h k same = ap (λ w. prefix_len (λ b. not (is_free n b)) (reverse w)) (one_outline t name d e h k same)

-- of the derivations of a shape each has its own word
pub one_word : (t : Table) (name : Text) (d e : Derivation) → HasLinearImages t → IsDerivation t name d → IsDerivation t name e → HasTypes d → picks d ≡ picks e → word_of d ≡ word_of e → d ≡ e
one_word t name d e lin h k types_are same word =
    let f = number_at (fields d) in
    let g = number_at (fields e) in
    let ts = one_types t name d e h k same in
    let types_too : HasTypes e = λ n ty at. types_are n ty (subst (λ x. TypeAt x 0 n ty) (sym ts) at) in
    let each : (n : ℕ) (ty : Ty) → TypeAt (types d) 0 n ty → f n ≡ g n = λ n ty at.
    let there = subst (λ x. TypeAt x 0 n ty) ts at in
    one_number ty (f n) (g n) (types_are n ty at) (own_ranged d t name n ty h at) (own_ranged e t name n ty k there)
    (sym (field_read t name d n ty lin h types_are at) ∙ (ap (λ w. w / 2 ^ low n d % 2 ^ width_of ty) word ∙ (ap (λ p. word_of e / 2 ^ p % 2 ^ width_of ty) (one_low t name d e n h k same) ∙ field_read t name e n ty lin k types_too there))) in
    sym (own d) ∙ (with_same d f g 0 each ∙ (one_shape t name d e g h k same ∙ own e))

fixed_fits : (os : List OutlineBit) → Fits os (map fixed_bit os)
fixed_fits [] = tt
fixed_fits (Fixed b ∷ os) = (refl, fixed_fits os)
fixed_fits (Free n ∷ os) = fixed_fits os

-- the fixed value lies under the mask
pub value_within : (d : Derivation) → bit_and (fixed_value d) (mask d) ≡ fixed_value d
value_within d = fits_is (outline_bits 0 d) (map fixed_bit (outline_bits 0 d)) (fixed_fits (outline_bits 0 d))

pub value_below : (d : Derivation) → fixed_value d < 2 ^ length (image d)
value_below d =
    subst (λ n. fixed_value d < 2 ^ n) (length-map (outline_bits 0 d) fixed_bit ∙ sym (image_long d)) (number_below (map fixed_bit (outline_bits 0 d)))

-- the bits that are fixed in both shapes and differ
abbrev pub clash : Derivation → Derivation → ℕ
clash d e = bit_and (bit_and (bit_xor (fixed_value d) (fixed_value e)) (mask d)) (mask e)

-- derivations of two shapes that have one word
pub record Meeting (t : Table) (name : Text) (d e a b : Derivation) : Type 0 where
  pub first : IsDerivation t name a
  pub second : IsDerivation t name b
  pub first_picks : picks a ≡ picks d
  pub second_picks : picks b ≡ picks e
  pub word : word_of a ≡ word_of b

-- shapes without a clash meet in the word of what is fixed in one of them
pub agreeing_meet : (t : Table) (name : Text) (d e : Derivation) → HasLinearImages t → IsDerivation t name d → IsDerivation t name e → HasTypes d → HasTypes e → length (image d) ≡ length (image e) → clash d e ≡ 0
    → (a : Derivation) × (b : Derivation) × Meeting t name d e a b × (word_of a ≡ bit_or (fixed_value d) (fixed_value e))
agreeing_meet t name d e lin h k types_are types_too long none =
    let w = bit_or (fixed_value d) (fixed_value e) in
    let small : w < 2 ^ length (image d) = or_lt (length (image d)) (fixed_value d) (fixed_value e) (value_below d) (subst (λ n. fixed_value e < 2 ^ n) (sym long) (value_below e)) in
    let a = each_word t name d w lin h types_are small (has_first (mask d) (mask e) (fixed_value d) (fixed_value e) (value_within d) (value_within e) none) in
    let b = each_word t name e w lin k types_too (subst (λ n. w < 2 ^ n) long small) (has_second (mask d) (mask e) (fixed_value d) (fixed_value e) (value_within d) (value_within e) none) in
    (a.0, b.0, record { first = a.1; second = b.1; first_picks = a.2; second_picks = b.2; word = a.3 ∙ sym b.3 }, a.3)
