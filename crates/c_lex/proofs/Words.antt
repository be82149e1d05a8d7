-- A program's tokens by their first byte: which kinds it rules out.
use Rattle.std.proofs.Common.{◌≡◌, ◌∙◌, ap, refl, sym, [], ℕ, ◌<◌, eqb, not, nat_le, ◌&&◌, ◌||◌, Bool, true, false, List, ◌∷◌, length, arith, Some, slice_get}
use Rattle.std.proofs.lemmas.Bool.{and_left, or_from, false_from_ne_true, leb-true}
use Rattle.std.proofs.lemmas.Bool.Decides.{nat_tests}
use Rattle.std.specs.Char.{is_ascii_digit, is_ascii_hexdigit}
use Rattle.std.specs.List.{list_all}
use Rattle.nk_base.specs.Byte.{is_gap, is_name_start}
use Rattle.nk_base.proofs.DigitsValue.{digit_is_no_name_start}
use Rattle.nml_lex.specs.Form.{is_name, is_hexadecimal}
use Rattle.nml_lex.proofs.Words.{among, fails_first, no_name, no_prefix}
use Rattle.c_lex.specs.Form.{is_decimal, is_number, is_among, is_mark, is_token, marks, outside_marks, outside_words, is_outside}
use Rattle.c_lex.specs.Lexed.{c}
use Rattle.c_lex.proofs.Longest.{Apart}

-- no text of a list begins with a byte that passes a test at which each of them fails
none_among : (test : ℕ → Bool) (texts : List (List ℕ)) → list_all (fails_first test) texts ≡ true → (b : ℕ) (t : List ℕ) → test b ≡ true → is_among texts (b ∷ t) ≡ false
none_among test texts fails b t h =
    false_from_ne_true (is_among texts (b ∷ t)) (λ g. let n : not (test b) ≡ true = among (fails_first test) texts (b ∷ t) fails g in let y : not (test b) ≡ false = ap not h in cc)

no_mark : (test : ℕ → Bool) → list_all (fails_first test) marks ≡ true → list_all (fails_first test) outside_marks ≡ true → (b : ℕ) (t : List ℕ) → test b ≡ true → is_mark (b ∷ t) ≡ false
no_mark test inside outside b t h = or_from (is_among marks (b ∷ t)) (is_among outside_marks (b ∷ t)) (none_among test marks inside b t h) (none_among test outside_marks outside b t h)

-- without a digit in front there is no number
pub no_number : (b : ℕ) (t : List ℕ) → is_ascii_digit b ≡ false → is_number (b ∷ t) ≡ false
no_number b t h =
    let z : eqb b 48 ≡ false = grind (arith, nat_tests) in
    or_from (is_decimal (b ∷ t)) (is_hexadecimal (b ∷ t)) (and_left (is_ascii_digit b && list_all is_ascii_digit t) _ (and_left (is_ascii_digit b) (list_all is_ascii_digit t) h)) (no_prefix 120 is_ascii_hexdigit b t z)

-- a letter or `_` begins nothing but a word
start_digit : (b : ℕ) → is_name_start b ≡ true → is_ascii_digit b ≡ false
start_digit b h = grind (arith, nat_tests)

or_false : (a : Bool) → a || false ≡ a
or_false true = refl
or_false false = refl

pub name_token : (b : ℕ) (t : List ℕ) → is_name_start b ≡ true → is_token (b ∷ t) ≡ is_name (b ∷ t)
name_token b t h =
    ap (λ x. is_name (b ∷ t) || x) (or_from (is_number (b ∷ t)) (is_mark (b ∷ t)) (no_number b t (start_digit b h)) (no_mark is_name_start refl refl b t h)) ∙ or_false (is_name (b ∷ t))

-- a digit begins nothing but a number
pub number_token : (b : ℕ) (t : List ℕ) → is_ascii_digit b ≡ true → is_token (b ∷ t) ≡ is_number (b ∷ t)
number_token b t h =
    ap (λ x. x || (is_number (b ∷ t) || is_mark (b ∷ t))) (no_name b t (digit_is_no_name_start b h))
    ∙ ap (λ x. is_number (b ∷ t) || x) (no_mark is_ascii_digit refl refl b t h) ∙ or_false (is_number (b ∷ t))

-- any other byte begins nothing but a mark
pub mark_token : (b : ℕ) (t : List ℕ) → is_name_start b ≡ false → is_ascii_digit b ≡ false → is_token (b ∷ t) ≡ is_mark (b ∷ t)
mark_token b t h g = ap (λ x. x || (is_number (b ∷ t) || is_mark (b ∷ t))) (no_name b t h) ∙ ap (λ x. x || is_mark (b ∷ t)) (no_number b t g)

-- and a blank begins no token
gap_start : (b : ℕ) → is_gap b ≡ true → is_name_start b ≡ false
gap_start b h = grind (arith, nat_tests)

gap_digit : (b : ℕ) → is_gap b ≡ true → is_ascii_digit b ≡ false
gap_digit b h = grind (arith, nat_tests)

pub apart : Apart c
apart = record {
  no_empty = refl;
  no_gap = λ b t h. mark_token b t (gap_start b h) (gap_digit b h) ∙ no_mark is_gap refl refl b t h;
}

-- no mark has four bytes
long_among : (texts : List (List ℕ)) → list_all (λ t. nat_le (length t) 3) texts ≡ true → (text : List ℕ) → 3 < length text → is_among texts text ≡ false
long_among texts short text long = false_from_ne_true (is_among texts text) (λ h. let within = leb-true (length text) 3 (among (λ t. nat_le (length t) 3) texts text short h) in omega arith)

pub long_mark : (text : List ℕ) → 3 < length text → is_mark text ≡ false
long_mark text long = or_from (is_among marks text) (is_among outside_marks text) (long_among marks refl text long) (long_among outside_marks refl text long)

-- ---- what is left out

-- no mark begins as a word does, and no word otherwise
pub outside_word : (text : List ℕ) (b : ℕ) → Some b ≡ slice_get text 0 → is_name_start b ≡ true → is_among outside_words text ≡ is_outside text
outside_word [] b e h = absurd (cc)
outside_word (d ∷ t) b e h =
    let g : is_name_start d ≡ true = let same : b ≡ d = cc in ap is_name_start (sym same) ∙ h in
    sym (ap (λ x. is_among outside_words (d ∷ t) || x) (none_among is_name_start outside_marks refl d t g) ∙ or_false (is_among outside_words (d ∷ t)))

pub outside_mark : (text : List ℕ) (b : ℕ) → Some b ≡ slice_get text 0 → is_name_start b ≡ false → is_among outside_marks text ≡ is_outside text
outside_mark [] b e h = absurd (cc)
outside_mark (d ∷ t) b e h =
    let g : not (is_name_start d) ≡ true = let same : b ≡ d = cc in ap (λ x. not (is_name_start x)) (sym same) ∙ ap not h in
    sym (ap (λ x. x || is_among outside_marks (d ∷ t)) (none_among (λ x. not (is_name_start x)) outside_words refl d t g))
