-- A text whose parts are seen as something else; what parameters give by their names.
use Rattle.std.proofs.Common.{◌≡◌, ℕ, ◌+◌, ◌<◌, ◌≤◌, Bool, true, false, cond, List, [], ◌∷◌, ◌++◌, map, get_or, drop, length, Some, refl, ap, ◌∙◌}
use Rattle.std.specs.Prelude.{unwrap_or}
use Rattle.std.specs.Map.{lookup}
use Rattle.std.proofs.lemmas.List.{drop_more, drop_all}
use Rattle.nk_base.specs.Text.{text_eq}
use Rattle.nml_tree.specs.declared.attributes.Arg.{Arg}
use Rattle.nml_tree.specs.declared.attributes.Template.{Template}
use Rattle.nml_tree.specs.declared.attributes.Template.TheVariants as template
use Rattle.nml_tree.specs.Attribute.{FormatPiece, Letter, Directive, pieces}
use Rattle.nml_tree.specs.Table.{Text}
use Rattle.nml_tree.specs.Template.{given, put_in, text_of}
use Rattle.shape_list.specs.declared.text.Given.{Given}
use Rattle.shape_list.specs.Drawn.{bit_of, flat_of, named, bits_named, flats_named}

pub map_append : {A B : Type 0} (f : A → B) (xs ys : List A) → map f (xs ++ ys) ≡ map f xs ++ map f ys
map_append f [] ys = refl
map_append f (x ∷ xs) ys = ap (λ zs. f x ∷ zs) (map_append f xs ys)

map_map : {A B C : Type 0} (f : B → C) (g : A → B) (xs : List A) → map f (map g xs) ≡ map (λ x. f (g x)) xs
map_map f g [] = refl
map_map f g (x ∷ xs) = ap (λ ys. f (g x) ∷ ys) (map_map f g xs)

-- what each parameter gives, seen by f
abbrev pub seen : {A B : Type 0} → (A → B) → List (Text × List A) → List (Text × List B)
seen f ps = map (λ p. (p.0, map f p.1)) ps

seen_given : {A B : Type 0} (f : A → B) (ps : List (Text × List A)) (name : Text) → map f (given ps name) ≡ given (seen f ps) name
seen_given f [] name = refl
seen_given {A} {B} f (p ∷ ps) name = by (text_eq name p.0) (seen_given f ps name)
  where
    by : (b : Bool) → map f (given ps name) ≡ given (seen f ps) name → map f (unwrap_or (cond b (Some p.1) (lookup (text_eq name) ps)) []) ≡ unwrap_or (cond b (Some (map f p.1)) (lookup (text_eq name) (seen f ps))) []
    by true h = refl
    by false h = h

seen_args : {A B : Type 0} (f : A → B) (ps : List (Text × List A)) (args : List (ℕ × Arg)) → map (map f) (map (λ (comma, a). given ps a.name.text) args) ≡ map (λ (comma, a). given (seen f ps) a.name.text) args
seen_args f ps [] = refl
seen_args f ps ((comma, a) ∷ args) = rw (seen_given f ps a.name.text, seen_args f ps args) refl

seen_pieces : {A B : Type 0} (f : A → B) (l : ℕ → A) (qs : List FormatPiece) (args : List (List A)) → map f (put_in l qs args) ≡ put_in (λ c. f (l c)) qs (map (map f) args)
seen_pieces f l [] args = refl
seen_pieces f l (Letter c ∷ qs) args = ap (λ xs. f (l c) ∷ xs) (seen_pieces f l qs args)
seen_pieces f l (Directive digits k ∷ qs) [] = seen_pieces f l qs []
seen_pieces f l (Directive digits k ∷ qs) (arg ∷ args) = map_append f arg (put_in l qs args) ∙ ap (λ xs. map f arg ++ xs) (seen_pieces f l qs args)

pub seen_text : {A B : Type 0} (f : A → B) (l : ℕ → A) (ps : List (Text × List A)) (t : Template) → map f (text_of l ps t) ≡ text_of (λ c. f (l c)) (seen f ps) t
seen_text f l ps (template.Plain q) = map_map f l q.text
seen_text f l ps (template.Part n dot a) = seen_given f ps n.text
seen_text f l ps (template.Format at p q args r) =
    seen_pieces f l (pieces q.text) (map (λ (comma, a). given ps a.name.text) args) ∙ ap (put_in (λ c. f (l c)) (pieces q.text)) (seen_args f ps args)

pub bits_seen : (gs : List Given) → seen bit_of (named gs) ≡ bits_named gs
bits_seen [] = refl
bits_seen (g ∷ gs) = ap (λ ps. (g.name.now, map bit_of g.text.items) ∷ ps) (bits_seen gs)

pub flats_seen : (gs : List Given) → seen flat_of (named gs) ≡ flats_named gs
flats_seen [] = refl
flats_seen (g ∷ gs) = ap (λ ps. (g.name.now, map flat_of g.text.items) ∷ ps) (flats_seen gs)

-- the first of the name
pub found_given : (gs : List Given) (i : ℕ) (g : Given) (name : Text) → i < length gs → g ≡ get_or gs i g → text_eq name g.name.now ≡ true → given (named (drop i gs)) name ≡ g.text.items
found_given gs i g name low is h = rw (drop_more gs i g low, ← is, h) refl

pub other_given : (gs : List Given) (i : ℕ) (g : Given) (name : Text) → i < length gs → g ≡ get_or gs i g → text_eq name g.name.now ≡ false → given (named (drop (i + 1) gs)) name ≡ given (named (drop i gs)) name
other_given gs i g name low is h = rw (drop_more gs i g low, ← is, h) refl

pub none_given : (gs : List Given) (i : ℕ) (name : Text) → length gs ≤ i → given (named (drop i gs)) name ≡ []
none_given gs i name past = rw (drop_all i gs past) refl
