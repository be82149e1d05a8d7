-- Each bit of an image by itself: a fixed one, or the bit of a field; outline, mask and image are what it says.
use Rattle.std.proofs.Common.{ℕ, zero, suc, ◌+◌, ◌/◌, ◌%◌, ◌^◌, ◌==◌, ◌≡◌, refl, sym, ◌∙◌, ap, Bool, true, false, ℤ, List, [], ◌∷◌, ◌++◌, map, length, Option, Some}
use Rattle.std.specs.Prelude.{cond, unwrap_or, replicate, unsigned_abs}
use Rattle.std.specs.Map.{lookup}
use Rattle.nk_base.specs.Number.{width_of, low_bits}
use Rattle.nk_base.specs.declared.number.Ty.{Ty}
use Rattle.nk_base.specs.Text.{text_eq}
use Rattle.nml_tree.specs.declared.attributes.Arg.{Arg}
use Rattle.nml_tree.specs.declared.attributes.Template.{Template}
use Rattle.nml_tree.specs.declared.attributes.Template.TheVariants as template
use Rattle.nml_tree.specs.Attribute.{FormatPiece, Letter, Directive, pieces, bits_below}
use Rattle.nml_tree.specs.Table.{Text}
use Rattle.nml_tree.specs.Derivation.{Derivation, Arguments, Pick, Compose, NoMore, Part, Field, fields}
use Rattle.nml_tree.specs.Template.{put_in, given, text_of}
use Rattle.nml_tree.specs.Image.{bit, image, images}
use Rattle.nml_tree.specs.Outline.{OutlineBit, Fixed, Free, outline_bits, outlines}

-- a fixed bit, or the bit of this place of a field of this type
pub data ExactBit : Type 0 where
  Given : Bool → ExactBit
  BitOf : (field : ℕ) → Ty → (place : ℕ) → ExactBit

-- the bits of a field below this place, the highest first
abbrev pub run_below : ℕ → Ty → ℕ → List ExactBit
run_below n ty zero = []
run_below n ty (suc k) = BitOf n ty k ∷ run_below n ty k

abbrev mutual
  pub exact : ℕ → Derivation → List ExactBit
  exact n (Pick k d) = exact n d
  exact n (Compose rule args) = text_of (λ c. Given (bit c)) (exacts n args) rule.image

  pub exacts : ℕ → Arguments → List (Text × List ExactBit)
  exacts n NoMore = []
  exacts n (Part name d args) = (name, exact n d) ∷ exacts (n + length (fields d)) args
  exacts n (Field name ty z args) = (name, run_below n ty (width_of ty)) ∷ exacts (n + 1) args

-- the same derivation with other numbers in its fields, the first of which has the number n
abbrev mutual
  pub with_fields : (ℕ → ℤ) → ℕ → Derivation → Derivation
  with_fields f n (Pick k d) = Pick k (with_fields f n d)
  with_fields f n (Compose rule args) = Compose rule (with_args f n args)

  pub with_args : (ℕ → ℤ) → ℕ → Arguments → Arguments
  with_args f n NoMore = NoMore
  with_args f n (Part name d args) = Part name (with_fields f n d) (with_args f (n + length (fields d)) args)
  with_args f n (Field name ty z args) = Field name ty (f n) (with_args f (n + 1) args)

-- a bit of a field without its place in it
abbrev pub forget : ExactBit → OutlineBit
forget (Given b) = Fixed b
forget (BitOf n ty k) = Free n

-- the bit with these numbers in the fields
abbrev pub fill : (ℕ → ℤ) → ExactBit → Bool
fill f (Given b) = b
fill f (BitOf n ty k) = unsigned_abs (low_bits (width_of ty) (f n)) / 2 ^ k % 2 == 1

-- the lists with h at each place
abbrev pub each : {A B : Type 0} → (A → B) → List (Text × List A) → List (Text × List B)
each h [] = []
each h (x ∷ xs) = (x.0, map h x.1) ∷ each h xs

map_after : {A B C : Type 0} (h : B → C) (g : A → B) (xs : List A) → map h (map g xs) ≡ map (λ x. h (g x)) xs
map_after h g [] = refl
map_after h g (x ∷ xs) = ap (λ ys. h (g x) ∷ ys) (map_after h g xs)

map_both : {A B : Type 0} (h : A → B) (xs ys : List A) → map h (xs ++ ys) ≡ map h xs ++ map h ys
map_both h [] ys = refl
map_both h (x ∷ xs) ys = ap (λ zs. h x ∷ zs) (map_both h xs ys)

chosen_each : {A B : Type 0} (h : A → B) (b : Bool) (x : List A) (o : Option (List A)) (p : Option (List B)) → unwrap_or p [] ≡ map h (unwrap_or o []) → unwrap_or (cond b (Some (map h x)) p) [] ≡ map h (unwrap_or (cond b (Some x) o) [])
chosen_each h true x o p e = refl
chosen_each h false x o p e = e

pub given_each : {A B : Type 0} (h : A → B) (xs : List (Text × List A)) (name : Text) → given (each h xs) name ≡ map h (given xs name)
given_each h [] name = refl
given_each h (x ∷ xs) name = chosen_each h (text_eq name x.0) x.1 (lookup (text_eq name) xs) (lookup (text_eq name) (each h xs)) (given_each h xs name)

put_each : {A B : Type 0} (h : A → B) (letter : ℕ → A) (ps : List FormatPiece) (args : List (ℕ × Arg)) (xs : List (Text × List A))
    → put_in (λ c. h (letter c)) ps (map (λ (comma, a). given (each h xs) a.name.text) args) ≡ map h (put_in letter ps (map (λ (comma, a). given xs a.name.text) args))
put_each h letter [] args xs = refl
put_each h letter (Letter c ∷ ps) args xs = ap (λ ys. h (letter c) ∷ ys) (put_each h letter ps args xs)
put_each h letter (Directive digits k ∷ ps) [] xs = put_each h letter ps [] xs
put_each h letter (Directive digits k ∷ ps) ((comma, a) ∷ args) xs =
    rw (given_each h xs a.name.text, put_each h letter ps args xs)
    (sym (map_both h (given xs a.name.text) (put_in letter ps (map (λ (comma, a). given xs a.name.text) args))))

pub text_each : {A B : Type 0} (h : A → B) (letter : ℕ → A) (text : Template) (xs : List (Text × List A)) → text_of (λ c. h (letter c)) (each h xs) text ≡ map h (text_of letter xs text)
text_each h letter (template.Plain q) xs = sym (map_after h letter q.text)
text_each h letter (template.Part n dot a) xs = given_each h xs n.text
text_each h letter (template.Format at p q args r) xs = put_each h letter (pieces q.text) args xs

run_outline : (n : ℕ) (ty : Ty) (k : ℕ) → replicate k (Free n) ≡ map forget (run_below n ty k)
run_outline n ty zero = refl
run_outline n ty (suc k) = ap (λ ys. Free n ∷ ys) (run_outline n ty k)

mutual
  pub outline_is : (d : Derivation) (n : ℕ) → outline_bits n d ≡ map forget (exact n d)
  outline_is (Pick k d) n = outline_is d n
  outline_is (Compose rule args) n =
      ap (λ xs. text_of (λ c. Fixed (bit c)) xs rule.image) (outlines_are args n) ∙ text_each forget (λ c. Given (bit c)) rule.image (exacts n args)

  outlines_are : (a : Arguments) (n : ℕ) → outlines n a ≡ each forget (exacts n a)
  outlines_are NoMore n = refl
  outlines_are (Part name d args) n = rw (outline_is d n, outlines_are args (n + length (fields d))) refl
  outlines_are (Field name ty z args) n = rw (run_outline n ty (width_of ty), outlines_are args (n + 1)) refl

pub run_image : (f : ℕ → ℤ) (n : ℕ) (ty : Ty) (k : ℕ) → bits_below k (unsigned_abs (low_bits (width_of ty) (f n))) ≡ map (fill f) (run_below n ty k)
run_image f n ty zero = refl
run_image f n ty (suc k) = ap (λ ys. (unsigned_abs (low_bits (width_of ty) (f n)) / 2 ^ k % 2 == 1) ∷ ys) (run_image f n ty k)

mutual
  -- the image with these numbers in the fields
  pub image_with : (d : Derivation) (f : ℕ → ℤ) (n : ℕ) → image (with_fields f n d) ≡ map (fill f) (exact n d)
  image_with (Pick k d) f n = image_with d f n
  image_with (Compose rule args) f n =
      ap (λ xs. text_of bit xs rule.image) (images_with args f n) ∙ text_each (fill f) (λ c. Given (bit c)) rule.image (exacts n args)

  images_with : (a : Arguments) (f : ℕ → ℤ) (n : ℕ) → images (with_args f n a) ≡ each (fill f) (exacts n a)
  images_with NoMore f n = refl
  images_with (Part name d args) f n = rw (image_with d f n, images_with args f (n + length (fields d))) refl
  images_with (Field name ty z args) f n = rw (run_image f n ty (width_of ty), images_with args f (n + 1)) refl
