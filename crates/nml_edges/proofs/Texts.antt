-- The text of a derivation, character by character and glyph by glyph.
use Rattle.std.proofs.Common.{ℕ, zero, suc, ◌≡◌, ◌+◌, ◌/◌, ◌%◌, ◌<◌, ◌==◌, nat_lt, ◌||◌, ◌&&◌, Bool, true, false, List, [], ◌∷◌, ◌++◌, map, Some, unwrap_or, refl, ap, sym, ◌∙◌, arith, if◌then◌else◌, cond, ℤ, pos, negsuc, length}
use Rattle.std.proofs.lemmas.Bool.{eqb-true}
use Rattle.std.specs.Char.{is_ascii_digit}
use Rattle.std.specs.Fmt.{decimal, signed_decimal, digits, digits_onto, digit_glyph}
use Rattle.std.specs.Map.{lookup}
use Rattle.std.specs.List.{prefix_len}
use Rattle.std.specs.Prelude.{neg_ℤ, take_while}
use Rattle.nk_base.specs.Byte.{is_blank, is_name_start}
use Rattle.nk_base.specs.Text.{text_eq}
use Rattle.nml_tree.specs.declared.attributes.Arg.{Arg}
use Rattle.nml_tree.specs.declared.attributes.Template.{Template}
use Rattle.nml_tree.specs.declared.attributes.Template.TheVariants as template
use Rattle.nml_tree.specs.Attribute as attribute
use Rattle.nml_tree.specs.Attribute.{FormatPiece, pieces}
use Rattle.nml_tree.specs.Table.{Text}
use Rattle.nml_tree.specs.Derivation.{Derivation, Arguments, Pick, Compose, NoMore, Part, Field, fields}
use Rattle.nml_tree.specs.Template.{put_in, given, text_of}
use Rattle.nml_tree.specs.Syntax.{syntax_of, syntaxes}
use Rattle.nml_tree.specs.LineToken.{LineToken, Begun, number_in_front, tokens_behind, line_tokens}
use Rattle.nml_tree.specs.Edge as edge
use Rattle.nml_tree.specs.Edge.{Flat, flat, flats, Left, is_sign, touch, touch_number, over_seam, has_touch}
use Rattle.nml_edges.specs.declared.glyph.Glyph.{Glyph}
use Rattle.nml_edges.specs.declared.glyph.Glyph.TheVariants as glyph
use Rattle.nml_edges.specs.declared.glyph.Last.{Last}
use Rattle.nml_edges.specs.declared.glyph.Last.TheVariants as last
use Rattle.nml_edges.specs.Glyph.{glyph_of, glyphs, arg_glyphs, behind_blank, behind_seam, last_behind, number_touches, touches, end, touching}

-- a relation of lists that letters and lists put together keep
pub record IsKept {A B : Type 0} (R : List A → List B → Type 0) (f : ℕ → A) (g : ℕ → B) : Type 0 where
  pub none : R [] []
  pub letter : (c : ℕ) → R (f c ∷ []) (g c ∷ [])
  pub joined : (a b : List A) (c d : List B) → R a c → R b d → R (a ++ b) (c ++ d)

abbrev pub Kin : {A B : Type 0} → (List A → List B → Type 0) → List (Text × List A) → List (Text × List B) → Type 0
Kin R [] [] = Unit {0}
Kin R [] (y ∷ ys) = ⊥
Kin R (x ∷ xs) [] = ⊥
Kin R (x ∷ xs) (y ∷ ys) = (x.0 ≡ y.0) × R x.1 y.1 × Kin R xs ys

module _ {A B : Type 0} (R : List A → List B → Type 0) (f : ℕ → A) (g : ℕ → B) (k : IsKept R f g) where
  given_kin : (xs : List (Text × List A)) (ys : List (Text × List B)) (n : Text) → Kin R xs ys → R (given xs n) (given ys n)
  given_kin [] [] n h = k.none
  given_kin [] (y ∷ ys) n h = absurd h
  given_kin (x ∷ xs) [] n h = absurd h
  given_kin (x ∷ xs) (y ∷ ys) n (same, one, more) = rw (← same) (by (text_eq n x.0) (given_kin xs ys n more))
    where
      by : (b : Bool) → R (given xs n) (given ys n) → R (unwrap_or (cond b (Some x.1) (lookup (text_eq n) xs)) []) (unwrap_or (cond b (Some y.1) (lookup (text_eq n) ys)) [])
      by true rest = one
      by false rest = rest

  put_kin : (ps : List FormatPiece) (args : List (ℕ × Arg)) (xs : List (Text × List A)) (ys : List (Text × List B)) → Kin R xs ys
      → R (put_in f ps (map (λ (comma, a). given xs a.name.text) args)) (put_in g ps (map (λ (comma, a). given ys a.name.text) args))
  put_kin [] args xs ys h = k.none
  put_kin (attribute.Letter c ∷ ps) args xs ys h =
      k.joined (f c ∷ []) (put_in f ps (map (λ (comma, a). given xs a.name.text) args)) (g c ∷ []) (put_in g ps (map (λ (comma, a). given ys a.name.text) args)) (k.letter c) (put_kin ps args xs ys h)
  put_kin (attribute.Directive ds l ∷ ps) [] xs ys h = put_kin ps [] xs ys h
  put_kin (attribute.Directive ds l ∷ ps) (a ∷ args) xs ys h =
      k.joined (given xs a.1.name.text) (put_in f ps (map (λ (comma, a). given xs a.name.text) args)) (given ys a.1.name.text) (put_in g ps (map (λ (comma, a). given ys a.name.text) args))
      (given_kin xs ys a.1.name.text h) (put_kin ps args xs ys h)

  plain_kin : (cs : List ℕ) → R (map f cs) (map g cs)
  plain_kin [] = k.none
  plain_kin (c ∷ cs) = k.joined (f c ∷ []) (map f cs) (g c ∷ []) (map g cs) (k.letter c) (plain_kin cs)

  pub text_kin : (t : Template) (xs : List (Text × List A)) (ys : List (Text × List B)) → Kin R xs ys → R (text_of f xs t) (text_of g ys t)
  text_kin (template.Plain q) xs ys h = plain_kin q.text
  text_kin (template.Part n dot a) xs ys h = given_kin xs ys n.text h
  text_kin (template.Format at p q args r) xs ys h = put_kin (pieces q.text) args xs ys h

map_append : {A B : Type 0} (f : A → B) (xs ys : List A) → map f (xs ++ ys) ≡ map f xs ++ map f ys
map_append f [] ys = refl
map_append f (x ∷ xs) ys = ap (λ zs. f x ∷ zs) (map_append f xs ys)

-- the flattened syntax by kinds
abbrev kind : Flat → Glyph
kind (edge.Letter c) = glyph_of c
kind (edge.Number n) = glyph.Number
kind edge.Seam = glyph.Seam

abbrev Same : List Flat → List Glyph → Type 0
Same fs gs = map kind fs ≡ gs

same_kept : IsKept Same edge.Letter glyph_of
same_kept = record {
  none = refl;
  letter = λ c. refl;
  joined = λ a b c d p q. map_append kind a b ∙ ap (λ z. z ++ map kind b) p ∙ ap (λ z. c ++ z) q;
}

mutual
  flat_kind : (n : ℕ) (d : Derivation) → map kind (flat n d) ≡ glyphs d
  flat_kind n (Pick k d) = flat_kind n d
  flat_kind n (Compose rule args) = text_kin Same edge.Letter glyph_of same_kept rule.syntax (flats n args) (arg_glyphs args) (flats_kind n args)

  flats_kind : (n : ℕ) (args : Arguments) → Kin Same (flats n args) (arg_glyphs args)
  flats_kind n NoMore = tt
  flats_kind n (Part name d args) = (
    refl,
    ap (λ z. glyph.Seam ∷ z) (map_append kind (flat n d) (edge.Seam ∷ []) ∙ ap (λ z. z ++ glyph.Seam ∷ []) (flat_kind n d)),
    flats_kind (n + length (fields d)) args,
  )
  flats_kind n (Field name ty z args) = (refl, refl, flats_kind (n + 1) args)

-- what stands last, with no word of what isn't of interest
abbrev kind_by : Bool → Bool → Bool → Glyph
kind_by d m b = if d then glyph.Digit else if m then glyph.Minus else if b then glyph.Blank else glyph.Other

abbrev sight_by : Bool → Bool → Bool → Last
sight_by d m seam = if d then (if seam then last.DigitSeam else last.Digit) else if m then (if seam then last.MinusSeam else last.Minus) else last.Plain

abbrev sight : Left → Last
sight edge.Other = last.Plain
sight edge.AfterNumber = last.Number
sight (edge.AfterLetter c seam) = sight_by (is_ascii_digit c) (c == 45) seam

abbrev plain : Last → Last
plain last.Nothing = last.Plain
plain last.Plain = last.Plain
plain last.Number = last.Number
plain last.Digit = last.Digit
plain last.DigitSeam = last.DigitSeam
plain last.Minus = last.Minus
plain last.MinusSeam = last.MinusSeam

letter_touch : (d m seam e n b : Bool) → ((seam && (d || m)) && (e || n) && (d || e)) ≡ touches (sight_by d m seam) (kind_by e n b)
letter_touch true true true true true true = refl
letter_touch true true true true true false = refl
letter_touch true true true true false true = refl
letter_touch true true true true false false = refl
letter_touch true true true false true true = refl
letter_touch true true true false true false = refl
letter_touch true true true false false true = refl
letter_touch true true true false false false = refl
letter_touch true true false true true true = refl
letter_touch true true false true true false = refl
letter_touch true true false true false true = refl
letter_touch true true false true false false = refl
letter_touch true true false false true true = refl
letter_touch true true false false true false = refl
letter_touch true true false false false true = refl
letter_touch true true false false false false = refl
letter_touch true false true true true true = refl
letter_touch true false true true true false = refl
letter_touch true false true true false true = refl
letter_touch true false true true false false = refl
letter_touch true false true false true true = refl
letter_touch true false true false true false = refl
letter_touch true false true false false true = refl
letter_touch true false true false false false = refl
letter_touch true false false true true true = refl
letter_touch true false false true true false = refl
letter_touch true false false true false true = refl
letter_touch true false false true false false = refl
letter_touch true false false false true true = refl
letter_touch true false false false true false = refl
letter_touch true false false false false true = refl
letter_touch true false false false false false = refl
letter_touch false true true true true true = refl
letter_touch false true true true true false = refl
letter_touch false true true true false true = refl
letter_touch false true true true false false = refl
letter_touch false true true false true true = refl
letter_touch false true true false true false = refl
letter_touch false true true false false true = refl
letter_touch false true true false false false = refl
letter_touch false true false true true true = refl
letter_touch false true false true true false = refl
letter_touch false true false true false true = refl
letter_touch false true false true false false = refl
letter_touch false true false false true true = refl
letter_touch false true false false true false = refl
letter_touch false true false false false true = refl
letter_touch false true false false false false = refl
letter_touch false false true true true true = refl
letter_touch false false true true true false = refl
letter_touch false false true true false true = refl
letter_touch false false true true false false = refl
letter_touch false false true false true true = refl
letter_touch false false true false true false = refl
letter_touch false false true false false true = refl
letter_touch false false true false false false = refl
letter_touch false false false true true true = refl
letter_touch false false false true true false = refl
letter_touch false false false true false true = refl
letter_touch false false false true false false = refl
letter_touch false false false false true true = refl
letter_touch false false false false true false = refl
letter_touch false false false false false true = refl
letter_touch false false false false false false = refl

number_touch : (e n b : Bool) → (e || n) ≡ touches last.Number (kind_by e n b)
number_touch true true true = refl
number_touch true true false = refl
number_touch true false true = refl
number_touch true false false = refl
number_touch false true true = refl
number_touch false true false = refl
number_touch false false true = refl
number_touch false false false = refl

plain_touch : (e n b : Bool) → false ≡ touches last.Plain (kind_by e n b)
plain_touch true true true = refl
plain_touch true true false = refl
plain_touch true false true = refl
plain_touch true false false = refl
plain_touch false true true = refl
plain_touch false true false = refl
plain_touch false false true = refl
plain_touch false false false = refl

touch_is : (l : Left) (c : ℕ) → touch l c ≡ touches (sight l) (glyph_of c)
touch_is edge.Other c = plain_touch (is_ascii_digit c) (c == 45) (is_blank c)
touch_is edge.AfterNumber c = number_touch (is_ascii_digit c) (c == 45) (is_blank c)
touch_is (edge.AfterLetter b seam) c = letter_touch (is_ascii_digit b) (b == 45) seam (is_ascii_digit c) (c == 45) (is_blank c)

number_behind : (d m seam : Bool) → (d || m) ≡ number_touches (sight_by d m seam)
number_behind true true true = refl
number_behind true true false = refl
number_behind true false true = refl
number_behind true false false = refl
number_behind false true true = refl
number_behind false true false = refl
number_behind false false true = refl
number_behind false false false = refl

number_is : (l : Left) → touch_number l ≡ number_touches (sight l)
number_is edge.Other = refl
number_is edge.AfterNumber = refl
number_is (edge.AfterLetter c seam) = number_behind (is_ascii_digit c) (c == 45) seam

seam_behind : (d m seam : Bool) → sight_by d m true ≡ behind_seam (sight_by d m seam)
seam_behind true true true = refl
seam_behind true true false = refl
seam_behind true false true = refl
seam_behind true false false = refl
seam_behind false true true = refl
seam_behind false true false = refl
seam_behind false false true = refl
seam_behind false false false = refl

seam_is : (l : Left) → sight (over_seam l) ≡ behind_seam (sight l)
seam_is edge.Other = refl
seam_is edge.AfterNumber = refl
seam_is (edge.AfterLetter c seam) = seam_behind (is_ascii_digit c) (c == 45) seam

plain_touches : (s : Last) (g : Glyph) → touches s g ≡ touches (plain s) g
plain_touches last.Nothing glyph.Digit = refl
plain_touches last.Nothing glyph.Minus = refl
plain_touches last.Nothing glyph.Blank = refl
plain_touches last.Nothing glyph.Other = refl
plain_touches last.Nothing glyph.Number = refl
plain_touches last.Nothing glyph.Seam = refl
plain_touches last.Plain glyph.Digit = refl
plain_touches last.Plain glyph.Minus = refl
plain_touches last.Plain glyph.Blank = refl
plain_touches last.Plain glyph.Other = refl
plain_touches last.Plain glyph.Number = refl
plain_touches last.Plain glyph.Seam = refl
plain_touches last.Number glyph.Digit = refl
plain_touches last.Number glyph.Minus = refl
plain_touches last.Number glyph.Blank = refl
plain_touches last.Number glyph.Other = refl
plain_touches last.Number glyph.Number = refl
plain_touches last.Number glyph.Seam = refl
plain_touches last.Digit glyph.Digit = refl
plain_touches last.Digit glyph.Minus = refl
plain_touches last.Digit glyph.Blank = refl
plain_touches last.Digit glyph.Other = refl
plain_touches last.Digit glyph.Number = refl
plain_touches last.Digit glyph.Seam = refl
plain_touches last.DigitSeam glyph.Digit = refl
plain_touches last.DigitSeam glyph.Minus = refl
plain_touches last.DigitSeam glyph.Blank = refl
plain_touches last.DigitSeam glyph.Other = refl
plain_touches last.DigitSeam glyph.Number = refl
plain_touches last.DigitSeam glyph.Seam = refl
plain_touches last.Minus glyph.Digit = refl
plain_touches last.Minus glyph.Minus = refl
plain_touches last.Minus glyph.Blank = refl
plain_touches last.Minus glyph.Other = refl
plain_touches last.Minus glyph.Number = refl
plain_touches last.Minus glyph.Seam = refl
plain_touches last.MinusSeam glyph.Digit = refl
plain_touches last.MinusSeam glyph.Minus = refl
plain_touches last.MinusSeam glyph.Blank = refl
plain_touches last.MinusSeam glyph.Other = refl
plain_touches last.MinusSeam glyph.Number = refl
plain_touches last.MinusSeam glyph.Seam = refl

plain_number : (s : Last) → number_touches s ≡ number_touches (plain s)
plain_number last.Nothing = refl
plain_number last.Plain = refl
plain_number last.Number = refl
plain_number last.Digit = refl
plain_number last.DigitSeam = refl
plain_number last.Minus = refl
plain_number last.MinusSeam = refl

plain_seam : (s : Last) → plain (behind_seam s) ≡ behind_seam (plain s)
plain_seam last.Nothing = refl
plain_seam last.Plain = refl
plain_seam last.Number = refl
plain_seam last.Digit = refl
plain_seam last.DigitSeam = refl
plain_seam last.Minus = refl
plain_seam last.MinusSeam = refl

plain_blank : (s : Last) → plain (behind_blank s) ≡ last.Plain
plain_blank last.Nothing = refl
plain_blank last.Plain = refl
plain_blank last.Number = refl
plain_blank last.Digit = refl
plain_blank last.DigitSeam = refl
plain_blank last.Minus = refl
plain_blank last.MinusSeam = refl

letter_behind : (s : Last) (d m b : Bool) → sight_by d m false ≡ plain (last_behind s (kind_by d m b))
letter_behind s true m b = refl
letter_behind s false true b = refl
letter_behind s false false true = sym (plain_blank s)
letter_behind s false false false = refl

touching_is : (fs : List Flat) (l : Left) (s : Last) → sight l ≡ plain s → edge.touches l fs ≡ touching s (map kind fs)
touching_is [] l s h = refl
touching_is (edge.Letter c ∷ fs) l s h =
    let first : touch l c ≡ touches s (glyph_of c) = touch_is l c ∙ ap (λ z. touches z (glyph_of c)) h ∙ sym (plain_touches s (glyph_of c)) in
    let more = touching_is fs (edge.AfterLetter c false) (last_behind s (glyph_of c)) (letter_behind s (is_ascii_digit c) (c == 45) (is_blank c)) in
    rw (first, more) refl
touching_is (edge.Number n ∷ fs) l s h =
    let first : touch_number l ≡ number_touches s = number_is l ∙ ap number_touches h ∙ sym (plain_number s) in
    let more = touching_is fs edge.AfterNumber last.Number refl in
    rw (first, more) refl
touching_is (edge.Seam ∷ fs) l s h = touching_is fs (over_seam l) (behind_seam s) (seam_is l ∙ ap behind_seam h ∙ sym (plain_seam s))

-- something touches exactly where it does among the glyphs
pub has_touch_is : (d : Derivation) → has_touch d ≡ touching last.Nothing (glyphs d)
has_touch_is d = touching_is (flat 0 d) edge.Other last.Nothing refl ∙ ap (touching last.Nothing) (flat_kind 0 d)

-- texts of nothing but blanks
abbrev all_blank : List ℕ → Bool
all_blank [] = true
all_blank (c ∷ cs) = is_blank c && all_blank cs

abbrev is_quiet : Glyph → Bool
is_quiet glyph.Digit = false
is_quiet glyph.Minus = false
is_quiet glyph.Blank = true
is_quiet glyph.Other = false
is_quiet glyph.Number = false
is_quiet glyph.Seam = true

abbrev quiet : List Glyph → Bool
quiet [] = true
quiet (g ∷ gs) = is_quiet g && quiet gs

and_assoc : (a b c : Bool) → (a && (b && c)) ≡ ((a && b) && c)
and_assoc true b c = refl
and_assoc false b c = refl

blank_append : (a b : List ℕ) → all_blank (a ++ b) ≡ (all_blank a && all_blank b)
blank_append [] b = refl
blank_append (c ∷ a) b = ap (λ z. is_blank c && z) (blank_append a b) ∙ and_assoc (is_blank c) (all_blank a) (all_blank b)

quiet_append : (a b : List Glyph) → quiet (a ++ b) ≡ (quiet a && quiet b)
quiet_append [] b = refl
quiet_append (c ∷ a) b = ap (λ z. is_quiet c && z) (quiet_append a b) ∙ and_assoc (is_quiet c) (quiet a) (quiet b)

-- a blank is one of three
pub data IsGap (c : ℕ) : Type 0 where
  Space : c ≡ 32 → IsGap c
  Tab : c ≡ 9 → IsGap c
  Return : c ≡ 13 → IsGap c

gap_of : (c : ℕ) → is_blank c ≡ true → IsGap c
gap_of c h = by (c == 32) (c == 9) (c == 13) refl refl refl h
  where
    by : (p q r : Bool) → (c == 32) ≡ p → (c == 9) ≡ q → (c == 13) ≡ r → (p || q || r) ≡ true → IsGap c
    by true q r e f k x = Space (eqb-true c 32 e)
    by false true r e f k x = Tab (eqb-true c 9 f)
    by false false true e f k x = Return (eqb-true c 13 k)
    by false false false e f k x = absurd cc

blank_kind : (c : ℕ) → is_blank c ≡ is_quiet (glyph_of c)
blank_kind c = by (is_blank c) refl
  where
    never : (d m : Bool) → false ≡ is_quiet (kind_by d m false)
    never true m = refl
    never false true = refl
    never false false = refl

    three : IsGap c → true ≡ is_quiet (glyph_of c)
    three (Space e) = rw e refl
    three (Tab e) = rw e refl
    three (Return e) = rw e refl

    by : (b : Bool) → is_blank c ≡ b → is_blank c ≡ is_quiet (glyph_of c)
    by true e = e ∙ three (gap_of c e)
    by false e = e ∙ never (is_ascii_digit c) (c == 45) ∙ ap (λ b. is_quiet (kind_by (is_ascii_digit c) (c == 45) b)) (sym e)

abbrev AsQuiet : List ℕ → List Glyph → Type 0
AsQuiet cs gs = all_blank cs ≡ quiet gs

quiet_kept : IsKept AsQuiet (λ c. c) glyph_of
quiet_kept = record {
  none = refl;
  letter = λ c. ap (λ b. b && true) (blank_kind c);
  joined = λ a b c d p q. blank_append a b ∙ ap (λ z. z && all_blank b) p ∙ ap (λ z. quiet c && z) q ∙ sym (quiet_append c d);
}

and_true : (a : Bool) → (a && true) ≡ a
and_true true = refl
and_true false = refl

-- a number is not blank
and_false : (a : Bool) → (a && false) ≡ false
and_false true = refl
and_false false = refl

digits_kept : (k n : ℕ) (acc : List ℕ) → all_blank acc ≡ false → all_blank (digits_onto k 10 false n acc) ≡ false
digits_kept zero n acc h = h
digits_kept (suc k) n acc h = by (n / 10 == 0) (digits_kept k (n / 10) (digit_glyph false (n % 10) ∷ acc) front)
  where
    front : all_blank (digit_glyph false (n % 10) ∷ acc) ≡ false
    front = ap (λ z. is_blank (digit_glyph false (n % 10)) && z) h ∙ and_false (is_blank (digit_glyph false (n % 10)))

    by : (b : Bool) → all_blank (digits_onto k 10 false (n / 10) (digit_glyph false (n % 10) ∷ acc)) ≡ false → all_blank (if b then digit_glyph false (n % 10) ∷ acc else digits_onto k 10 false (n / 10) (digit_glyph false (n % 10) ∷ acc)) ≡ false
    by true more = front
    by false more = more

wide_not_blank : (c : ℕ) → 33 < c → is_blank c ≡ false
wide_not_blank c low = by (is_blank c) refl
  where
    none : IsGap c → ⊥
    none (Space e) = omega (arith, e, low)
    none (Tab e) = omega (arith, e, low)
    none (Return e) = omega (arith, e, low)

    by : (b : Bool) → is_blank c ≡ b → is_blank c ≡ false
    by true e = absurd (none (gap_of c e))
    by false e = e

glyph_wide : (d : ℕ) → 33 < digit_glyph false d
glyph_wide d = by (nat_lt d 10)
  where
    by : (b : Bool) → 33 < (if b then 48 + d else (if false then 55 + d else 87 + d))
    by true = omega arith
    by false = omega arith

digits_first : (k n : ℕ) → all_blank (digits_onto (suc k) 10 false n []) ≡ false
digits_first k n = by (n / 10 == 0)
  where
    front : all_blank (digit_glyph false (n % 10) ∷ []) ≡ false
    front = ap (λ z. z && true) (wide_not_blank (digit_glyph false (n % 10)) (glyph_wide (n % 10)))

    by : (b : Bool) → all_blank (if b then digit_glyph false (n % 10) ∷ [] else digits_onto k 10 false (n / 10) (digit_glyph false (n % 10) ∷ [])) ≡ false
    by true = front
    by false = digits_kept k (n / 10) (digit_glyph false (n % 10) ∷ []) front

decimal_loud : (n : ℕ) → all_blank (decimal n) ≡ false
unfolding digits
decimal_loud n = digits_first 63 n

number_loud : (z : ℤ) → all_blank (signed_decimal z) ≡ false
number_loud (pos n) = decimal_loud n
number_loud (negsuc n) = refl

mutual
  quiet_kind : (d : Derivation) → all_blank (syntax_of d) ≡ quiet (glyphs d)
  quiet_kind (Pick k d) = quiet_kind d
  quiet_kind (Compose rule args) = text_kin AsQuiet (λ c. c) glyph_of quiet_kept rule.syntax (syntaxes args) (arg_glyphs args) (quiet_kinds args)

  quiet_kinds : (args : Arguments) → Kin AsQuiet (syntaxes args) (arg_glyphs args)
  quiet_kinds NoMore = tt
  quiet_kinds (Part name d args) = (refl, quiet_kind d ∙ sym (quiet_append (glyphs d) (glyph.Seam ∷ []) ∙ and_true (quiet (glyphs d))), quiet_kinds args)
  quiet_kinds (Field name ty z args) = (refl, number_loud z, quiet_kinds args)

-- no token exactly where there are only blanks
abbrev begun_by : Bool → Bool → Bool → Bool → Begun → Begun → Begun → Begun → Begun
begun_by ns d m bl a b c e = if ns then a else if d then b else if m then c else if bl then record { token = []; more = 0 } else e

silent_step : (ns d m bl : Bool) (t u v w : LineToken) (i j k : ℕ) (text : List ℕ)
    → (begun_by ns d m bl (record { token = t ∷ []; more = i }) (record { token = u ∷ []; more = j }) (record { token = v ∷ []; more = k }) (record { token = w ∷ []; more = 0 })).token
    ++ tokens_behind (begun_by ns d m bl (record { token = t ∷ []; more = i }) (record { token = u ∷ []; more = j }) (record { token = v ∷ []; more = k }) (record { token = w ∷ []; more = 0 })).more text ≡ []
    → (bl ≡ true) × (tokens_behind 0 text ≡ [])
silent_step true d m bl t u v w i j k text h = absurd cc
silent_step false true m bl t u v w i j k text h = absurd cc
silent_step false false true bl t u v w i j k text h = absurd cc
silent_step false false false true t u v w i j k text h = (refl, h)
silent_step false false false false t u v w i j k text h = absurd cc

silent_blank : (text : List ℕ) → line_tokens text ≡ [] → all_blank text ≡ true
silent_blank [] h = refl
silent_blank (c ∷ text) h =
    let s = silent_step (is_name_start c) (is_ascii_digit c) ((c == 45) && nat_lt 0 (prefix_len is_ascii_digit text)) (is_blank c)
    (LineToken.Word (take_while is_name_start (c ∷ text))) (LineToken.Number (pos (number_in_front (c ∷ text)))) (LineToken.Number (neg_ℤ (pos (number_in_front text)))) (LineToken.Mark c)
    (prefix_len is_name_start text) (prefix_len is_ascii_digit text) (prefix_len is_ascii_digit text) text h in
    rw (s.0, silent_blank text s.1) refl

pub and_parts : (a b : Bool) → (a && b) ≡ true → (a ≡ true) × (b ≡ true)
and_parts true b h = (refl, h)
and_parts false b h = absurd cc

blank_silent : (text : List ℕ) → all_blank text ≡ true → line_tokens text ≡ []
blank_silent [] h = refl
blank_silent (c ∷ text) h = let p = and_parts (is_blank c) (all_blank text) h in gap (gap_of c p.0) (blank_silent text p.1)
  where
    gap : IsGap c → line_tokens text ≡ [] → line_tokens (c ∷ text) ≡ []
    gap (Space e) k = rw e k
    gap (Tab e) k = rw e k
    gap (Return e) k = rw e k

abbrev is_nothing : Last → Bool
is_nothing last.Nothing = true
is_nothing _ = false

after_nothing : (l : Last) (g : Glyph) → is_nothing (last_behind l g) ≡ (is_nothing l && is_quiet g)
after_nothing last.Nothing glyph.Digit = refl
after_nothing last.Nothing glyph.Minus = refl
after_nothing last.Nothing glyph.Blank = refl
after_nothing last.Nothing glyph.Other = refl
after_nothing last.Nothing glyph.Number = refl
after_nothing last.Nothing glyph.Seam = refl
after_nothing last.Plain glyph.Digit = refl
after_nothing last.Plain glyph.Minus = refl
after_nothing last.Plain glyph.Blank = refl
after_nothing last.Plain glyph.Other = refl
after_nothing last.Plain glyph.Number = refl
after_nothing last.Plain glyph.Seam = refl
after_nothing last.Number glyph.Digit = refl
after_nothing last.Number glyph.Minus = refl
after_nothing last.Number glyph.Blank = refl
after_nothing last.Number glyph.Other = refl
after_nothing last.Number glyph.Number = refl
after_nothing last.Number glyph.Seam = refl
after_nothing last.Digit glyph.Digit = refl
after_nothing last.Digit glyph.Minus = refl
after_nothing last.Digit glyph.Blank = refl
after_nothing last.Digit glyph.Other = refl
after_nothing last.Digit glyph.Number = refl
after_nothing last.Digit glyph.Seam = refl
after_nothing last.DigitSeam glyph.Digit = refl
after_nothing last.DigitSeam glyph.Minus = refl
after_nothing last.DigitSeam glyph.Blank = refl
after_nothing last.DigitSeam glyph.Other = refl
after_nothing last.DigitSeam glyph.Number = refl
after_nothing last.DigitSeam glyph.Seam = refl
after_nothing last.Minus glyph.Digit = refl
after_nothing last.Minus glyph.Minus = refl
after_nothing last.Minus glyph.Blank = refl
after_nothing last.Minus glyph.Other = refl
after_nothing last.Minus glyph.Number = refl
after_nothing last.Minus glyph.Seam = refl
after_nothing last.MinusSeam glyph.Digit = refl
after_nothing last.MinusSeam glyph.Minus = refl
after_nothing last.MinusSeam glyph.Blank = refl
after_nothing last.MinusSeam glyph.Other = refl
after_nothing last.MinusSeam glyph.Number = refl
after_nothing last.MinusSeam glyph.Seam = refl

end_nothing : (l : Last) (gs : List Glyph) → is_nothing (end l gs) ≡ (is_nothing l && quiet gs)
end_nothing l [] = sym (and_true (is_nothing l))
end_nothing l (g ∷ gs) = end_nothing (last_behind l g) gs ∙ ap (λ z. z && quiet gs) (after_nothing l g) ∙ sym (and_assoc (is_nothing l) (is_quiet g) (quiet gs))

nothing_is : (l : Last) → is_nothing l ≡ true → l ≡ last.Nothing
nothing_is last.Nothing h = refl
nothing_is last.Plain h = absurd cc
nothing_is last.Number h = absurd cc
nothing_is last.Digit h = absurd cc
nothing_is last.DigitSeam h = absurd cc
nothing_is last.Minus h = absurd cc
nothing_is last.MinusSeam h = absurd cc

pub silent_end : (d : Derivation) → line_tokens (syntax_of d) ≡ [] → end last.Nothing (glyphs d) ≡ last.Nothing
silent_end d h = nothing_is (end last.Nothing (glyphs d)) (end_nothing last.Nothing (glyphs d) ∙ sym (quiet_kind d) ∙ silent_blank (syntax_of d) h)

pub end_silent : (d : Derivation) → end last.Nothing (glyphs d) ≡ last.Nothing → line_tokens (syntax_of d) ≡ []
end_silent d h = blank_silent (syntax_of d) (quiet_kind d ∙ sym (end_nothing last.Nothing (glyphs d)) ∙ ap is_nothing h)
