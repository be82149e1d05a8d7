-- The syntax of a derivation is its flattened syntax with its numbers; the flattened syntax and the template are one for a shape.
use Rattle.std.proofs.Common.{ℕ, ◌+◌, ◌≡◌, refl, sym, ◌∙◌, ap, Bool, true, false, ℤ, pos, List, [], ◌∷◌, ◌++◌, append-nil, map, length, Option, Some, append_assoc}
use Rattle.std.specs.Prelude.{cond, unwrap_or}
use Rattle.std.specs.Map.{lookup}
use Rattle.std.specs.Fmt.{signed_decimal}
use Rattle.nk_base.specs.Text.{text_eq}
use Rattle.nml_tree.specs.declared.attributes.Arg.{Arg}
use Rattle.nml_tree.specs.declared.attributes.Template.{Template}
use Rattle.nml_tree.specs.declared.attributes.Template.TheVariants as template
use Rattle.nml_tree.specs.Attribute as attribute
use Rattle.nml_tree.specs.Attribute.{FormatPiece, pieces}
use Rattle.nml_tree.specs.Table.{Text, Table}
use Rattle.nml_tree.specs.Derivation.{Derivation, Arguments, Pick, Compose, NoMore, Part, Field, IsDerivation, picks, fields}
use Rattle.nml_tree.specs.Template.{put_in, given, text_of}
use Rattle.nml_tree.specs.Syntax.{syntax_of, syntaxes}
use Rattle.nml_tree.specs.Value.{number_at}
use Rattle.nml_tree.specs.Edge.{Flat, Letter, Number, Seam, flat, flats}
use Rattle.nml_tree.specs.Outline as outline
use Rattle.nml_outline.proofs.ExactBits.{with_fields, with_args}
use Rattle.nml_outline.proofs.SameShape.{own, one_shape, fields_long}

-- the characters with these numbers in the fields
abbrev pub written : (ℕ → ℤ) → List Flat → List ℕ
written f [] = []
written f (Letter c ∷ fs) = c ∷ written f fs
written f (Number n ∷ fs) = signed_decimal (f n) ++ written f fs
written f (Seam ∷ fs) = written f fs

pub written_both : (f : ℕ → ℤ) (xs ys : List Flat) → written f (xs ++ ys) ≡ written f xs ++ written f ys
written_both f [] ys = refl
written_both f (Letter c ∷ xs) ys = ap (λ zs. c ∷ zs) (written_both f xs ys)
written_both f (Number n ∷ xs) ys = ap (λ zs. signed_decimal (f n) ++ zs) (written_both f xs ys) ∙ sym (append_assoc (signed_decimal (f n)) (written f xs) (written f ys))
written_both f (Seam ∷ xs) ys = written_both f xs ys

-- of each parameter
abbrev each_written : (ℕ → ℤ) → List (Text × List Flat) → List (Text × List ℕ)
each_written f [] = []
each_written f (x ∷ xs) = (x.0, written f x.1) ∷ each_written f xs

chosen_written : (f : ℕ → ℤ) (b : Bool) (x : List Flat) (o : Option (List Flat)) (p : Option (List ℕ)) → unwrap_or p [] ≡ written f (unwrap_or o []) → unwrap_or (cond b (Some (written f x)) p) [] ≡ written f (unwrap_or (cond b (Some x) o) [])
chosen_written f true x o p e = refl
chosen_written f false x o p e = e

given_written : (f : ℕ → ℤ) (xs : List (Text × List Flat)) (name : Text) → given (each_written f xs) name ≡ written f (given xs name)
given_written f [] name = refl
given_written f (x ∷ xs) name = chosen_written f (text_eq name x.0) x.1 (lookup (text_eq name) xs) (lookup (text_eq name) (each_written f xs)) (given_written f xs name)

put_written : (f : ℕ → ℤ) (ps : List FormatPiece) (args : List (ℕ × Arg)) (xs : List (Text × List Flat))
    → put_in (λ c. c) ps (map (λ (comma, a). given (each_written f xs) a.name.text) args) ≡ written f (put_in Letter ps (map (λ (comma, a). given xs a.name.text) args))
put_written f [] args xs = refl
put_written f (attribute.Letter c ∷ ps) args xs = ap (λ ys. c ∷ ys) (put_written f ps args xs)
put_written f (attribute.Directive digits k ∷ ps) [] xs = put_written f ps [] xs
put_written f (attribute.Directive digits k ∷ ps) ((comma, a) ∷ args) xs =
    rw (given_written f xs a.name.text, put_written f ps args xs)
    (sym (written_both f (given xs a.name.text) (put_in Letter ps (map (λ (comma, a). given xs a.name.text) args))))

letters_written : (f : ℕ → ℤ) (cs : List ℕ) → map (λ c. c) cs ≡ written f (map Letter cs)
letters_written f [] = refl
letters_written f (c ∷ cs) = ap (λ ys. c ∷ ys) (letters_written f cs)

text_written : (f : ℕ → ℤ) (text : Template) (xs : List (Text × List Flat)) → text_of (λ c. c) (each_written f xs) text ≡ written f (text_of Letter xs text)
text_written f (template.Plain q) xs = letters_written f q.text
text_written f (template.Part n dot a) xs = given_written f xs n.text
text_written f (template.Format at p q args r) xs = put_written f (pieces q.text) args xs

mutual
  pub syntax_with : (d : Derivation) (f : ℕ → ℤ) (n : ℕ) → syntax_of (with_fields f n d) ≡ written f (flat n d)
  syntax_with (Pick k d) f n = syntax_with d f n
  syntax_with (Compose rule args) f n = ap (λ xs. text_of (λ c. c) xs rule.syntax) (syntaxes_with args f n) ∙ text_written f rule.syntax (flats n args)

  syntaxes_with : (a : Arguments) (f : ℕ → ℤ) (n : ℕ) → syntaxes (with_args f n a) ≡ each_written f (flats n a)
  syntaxes_with NoMore f n = refl
  syntaxes_with (Part name d args) f n =
      rw (syntax_with d f n, syntaxes_with args f (n + length (fields d)), written_both f (flat n d) (Seam ∷ []), append-nil (written f (flat n d))) refl
  syntaxes_with (Field name ty z args) f n = rw (syntaxes_with args f (n + 1), append-nil (signed_decimal (f n))) refl

-- the syntax is the flattened one with its numbers
pub syntax_is : (d : Derivation) → syntax_of d ≡ written (number_at (fields d)) (flat 0 d)
syntax_is d = ap syntax_of (sym (own d)) ∙ syntax_with d (number_at (fields d)) 0

mutual
  pub flat_with : (d : Derivation) (f : ℕ → ℤ) (m n : ℕ) → flat n (with_fields f m d) ≡ flat n d
  flat_with (Pick k d) f m n = flat_with d f m n
  flat_with (Compose rule args) f m n = ap (λ xs. text_of Letter xs rule.syntax) (flats_with args f m n)

  flats_with : (a : Arguments) (f : ℕ → ℤ) (m n : ℕ) → flats n (with_args f m a) ≡ flats n a
  flats_with NoMore f m n = refl
  flats_with (Part name d args) f m n = rw (flat_with d f m n, fields_long d f m, flats_with args f (m + length (fields d)) (n + length (fields d))) refl
  flats_with (Field name ty z args) f m n = rw (flats_with args f (m + 1) (n + 1)) refl

pub one_flat : (t : Table) (name : Text) (d e : Derivation) (n : ℕ) → IsDerivation t name d → IsDerivation t name e → picks d ≡ picks e → flat n d ≡ flat n e
one_flat t name d e n h k same = sym (flat_with d (λ i. pos 0) 0 n) ∙ (ap (flat n) (one_shape t name d e (λ i. pos 0) h k same) ∙ flat_with e (λ i. pos 0) 0 n)

-- one template for a shape
pub one_template : (t : Table) (name : Text) (d e : Derivation) → IsDerivation t name d → IsDerivation t name e → picks d ≡ picks e → outline.template d ≡ outline.template e
one_template t name d e h k same = ap (outline.template_behind []) (one_flat t name d e 0 h k same)
