-- How many bits a text writes, given how many each parameter gives.
use Rattle.std.proofs.Common.{ℕ, zero, suc, ◌≡◌, refl, Bool, true, false, List, [], ◌∷◌, map, length, length-append, Option, Some, arith}
use Rattle.std.proofs.lemmas.List.{length-map}
use Rattle.std.specs.Prelude.{cond, unwrap_or}
use Rattle.std.specs.Map.{lookup}
use Rattle.nk_base.specs.Text.{text_eq}
use Rattle.nml_tree.specs.declared.attributes.Arg.{Arg}
use Rattle.nml_tree.specs.declared.attributes.Template.{Template}
use Rattle.nml_tree.specs.declared.attributes.Template.TheVariants as template
use Rattle.nml_tree.specs.Attribute.{FormatPiece, Letter, Directive, pieces, bits_below}
use Rattle.nml_tree.specs.Table.{Text}
use Rattle.nml_tree.specs.Template.{put_in, given, text_of}
use Rattle.nml_tree.specs.Image.{bit}
use Rattle.nml_tree.specs.ImageWidth.{pieces_width, width_given, text_width}

-- each name with how many bits it gives
abbrev pub widths : List (Text × List Bool) → List (Text × ℕ)
widths xs = map (λ x. (x.0, length x.1)) xs

chosen_width : (b : Bool) (x : List Bool) (o : Option (List Bool)) (p : Option ℕ) → length (unwrap_or o []) ≡ unwrap_or p 0
    → length (unwrap_or (cond b (Some x) o) []) ≡ unwrap_or (cond b (Some (length x)) p) 0
chosen_width true x o p h = refl
chosen_width false x o p h = h

given_width : (xs : List (Text × List Bool)) (name : Text) → length (given xs name) ≡ width_given (widths xs) name
given_width [] name = refl
given_width (x ∷ xs) name = chosen_width (text_eq name x.0) x.1 (lookup (text_eq name) xs) (lookup (text_eq name) (widths xs)) (given_width xs name)

put_width : (ps : List FormatPiece) (args : List (ℕ × Arg)) (xs : List (Text × List Bool))
    → length (put_in bit ps (map (λ (comma, a). given xs a.name.text) args)) ≡ pieces_width ps (map (λ (comma, a). width_given (widths xs) a.name.text) args)
put_width [] args xs = refl
put_width (Letter c ∷ ps) args xs = omega (arith, put_width ps args xs)
put_width (Directive digits k ∷ ps) [] xs = put_width ps [] xs
put_width (Directive digits k ∷ ps) ((comma, a) ∷ args) xs =
    let long = length-append (given xs a.name.text) (put_in bit ps (map (λ (comma, b). given xs b.name.text) args)) in
    omega (arith, long, given_width xs a.name.text, put_width ps args xs)

pub image_text_width : (text : Template) (xs : List (Text × List Bool)) → length (text_of bit xs text) ≡ text_width (widths xs) text
image_text_width (template.Plain q) xs = length-map q.text bit
image_text_width (template.Part n dot a) xs = given_width xs n.text
image_text_width (template.Format at p q args r) xs = put_width (pieces q.text) args xs

pub below_width : (n v : ℕ) → length (bits_below n v) ≡ n
below_width zero v = refl
below_width (suc n) v = omega (arith, below_width n v)
