-- The lines `.bits` and `.data` of a canonical text are read as what they write.
use Rattle.std.proofs.Common.{ℕ, zero, suc, ◌+◌, ◌^◌, ◌<◌, ◌≤◌, ◌≡◌, refl, sym, ◌∙◌, ap, subst, Bool, true, false, cond, ℤ, pos, negsuc, List, [], ◌∷◌, ◌++◌, length, filter, append_assoc, Option, Some, None, codes, arith}
use Rattle.std.specs.Prelude.{◌==◌, nat_lt, nat_le, not, ◌&&◌, ◌||◌, if◌then◌else◌}
use Rattle.std.specs.Char.{is_ascii_digit}
use Rattle.std.specs.Fmt.{decimal, signed_decimal}
use Rattle.std.specs.List.{list_all, slice_split}
use Rattle.std.specs.Str.Parse.{digits_value}
use Rattle.std.proofs.lemmas.Bool.{and_parts, and_from, or_from, or_left, or_right, lt-ltb, le-leb, eq-eqb, not_from_false}
use Rattle.std.proofs.lemmas.Bool.Decides.{nat_tests}
use Rattle.nk_base.specs.Byte.{is_name_start, is_name_byte, is_blank}
use Rattle.nk_base.specs.Hexadecimal.{hexadecimal, digits_of_word}
use Rattle.nml_tree.specs.Table.{Text}
use Rattle.asm_lines.specs.Line.{Content, Bits, Data, Line, begins_with, is_name, is_number, is_signed_number, signed_value, is_hexadecimal, parts, bits, data_of, directive, with_label, labeled_line, line, without_blanks}
use Rattle.asm_text.proofs.Texts.{all_both, all_weaker, other_byte, without_byte, front_all, split_none, split_at}
use Rattle.asm_text.proofs.NumberTexts.{hexadecimal_long, hexadecimal_all, hexadecimal_value, word_low, IsShort, decimal_digits, decimal_some, decimal_number, decimal_value, IsShortNumber, signed_number, signed_is}

dot_line : (width : ℕ) (text : Text) → list_all (λ c. not (c == 59)) (46 ∷ text) ≡ true → line width (46 ∷ text) ≡ with_label None (directive width (parts (46 ∷ text)))
dot_line width text h = ap (λ t. labeled_line width (without_blanks t)) (front_all (λ c. not (c == 59)) (46 ∷ text) h)

-- ---- parts

not_blank : (test : ℕ → Bool) → test 32 ≡ false → test 9 ≡ false → test 13 ≡ false → (xs : Text) → list_all test xs ≡ true → list_all (λ c. not (is_blank c)) xs ≡ true
not_blank test a b e xs h =
    all_weaker test (λ c. not (is_blank c))
    (λ c right. not_from_false (is_blank c) (or_from ((c == 32) || (c == 9)) (c == 13) (or_from (c == 32) (c == 9) (other_byte test 32 a c right) (other_byte test 9 b c right)) (other_byte test 13 e c right))) xs h

abbrev are_some : List Text → List Text
are_some ps = filter (λ p. nat_lt 0 (length p)) ps

kept : (p : Text) (ps qs : List Text) → 1 ≤ length p → are_some ps ≡ qs → are_some (p ∷ ps) ≡ p ∷ qs
kept p ps qs some h = ap (λ b. cond b (p ∷ are_some ps) (are_some ps)) (lt-ltb 0 (length p) (omega (arith, some))) ∙ ap (λ rs. p ∷ rs) h

-- ---- `.bits`

hexadecimal_plain : (width w n : ℕ) → is_hexadecimal n ≡ false → list_all (λ c. not (c == n)) (hexadecimal (digits_of_word width) w) ≡ true
hexadecimal_plain width w n wrong = without_byte is_hexadecimal n wrong (hexadecimal (digits_of_word width) w) (hexadecimal_all (digits_of_word width) w)

pub bits_whole : (width w : ℕ) → list_all (λ c. not (c == 10)) (codes ".bits " ++ hexadecimal (digits_of_word width) w) ≡ true
bits_whole width w = hexadecimal_plain width w 10 refl

bits_is : (width w : ℕ) → w < 2 ^ width → bits width (hexadecimal (digits_of_word width) w) ≡ Some (Bits w)
bits_is width w low =
    let h : Text = hexadecimal (digits_of_word width) w in
    let value : digits_value 16 h ≡ w = hexadecimal_value (digits_of_word width) w (word_low width w low) in
    let right = and_from (list_all is_hexadecimal h && (length h == digits_of_word width)) (nat_lt (digits_value 16 h) (2 ^ width))
    (and_from (list_all is_hexadecimal h) (length h == digits_of_word width) (hexadecimal_all (digits_of_word width) w) (eq-eqb (length h) (digits_of_word width) (hexadecimal_long (digits_of_word width) w)))
    (lt-ltb (digits_value 16 h) (2 ^ width) (subst (λ v. v < 2 ^ width) (sym value) low)) in
    ap (λ b. if b then Some (Bits (digits_value 16 h)) else None) right ∙ ap (λ v. Some (Bits v)) value

pub bits_line : (width w : ℕ) → 1 ≤ digits_of_word width → w < 2 ^ width → line width (codes ".bits " ++ hexadecimal (digits_of_word width) w) ≡ Some (record { label = None; content = Bits w })
bits_line width w some low =
    let h : Text = hexadecimal (digits_of_word width) w in
    let long : length h ≡ digits_of_word width = hexadecimal_long (digits_of_word width) w in
    let cut : slice_split is_blank (codes ".bits" ++ 32 ∷ h) ≡ codes ".bits" ∷ h ∷ [] =
    split_at is_blank (codes ".bits") 32 h refl refl ∙ ap (λ ps. codes ".bits" ∷ ps) (split_none is_blank h (not_blank is_hexadecimal refl refl refl h (hexadecimal_all (digits_of_word width) w))) in
    let is : parts (codes ".bits" ++ 32 ∷ h) ≡ codes ".bits" ∷ h ∷ [] = ap are_some cut ∙ ap (λ ps. codes ".bits" ∷ ps) (kept h [] [] (omega (arith, some, long)) refl) in
    dot_line width (codes "bits " ++ h) (hexadecimal_plain width w 59 refl) ∙ (ap (λ ps. with_label None (directive width ps)) is ∙ ap (with_label None) (bits_is width w low))

-- ---- `.data`

-- the parts of such a line are of these bytes
abbrev is_data_byte : ℕ → Bool
is_data_byte c = is_name_byte c || (c == 45)

digit_byte : (c : ℕ) → is_ascii_digit c ≡ true → is_data_byte c ≡ true
digit_byte c h = or_left (is_name_byte c) (c == 45) (or_right (is_name_start c) (is_ascii_digit c) h)

decimal_bytes : (n : ℕ) → IsShort n → list_all is_data_byte (decimal n) ≡ true
decimal_bytes n low = all_weaker is_ascii_digit is_data_byte digit_byte (decimal n) (decimal_digits n low)

signed_bytes : (z : ℤ) → IsShortNumber z → list_all is_data_byte (signed_decimal z) ≡ true
signed_bytes (pos n) low = decimal_bytes n low
signed_bytes (negsuc n) low = decimal_bytes (suc n) low

signed_some : (z : ℤ) → IsShortNumber z → 1 ≤ length (signed_decimal z)
signed_some (pos n) low = decimal_some n low
signed_some (negsuc n) low = omega arith

name_bytes : (name : Text) → is_name name ≡ true → list_all is_data_byte name ≡ true
name_bytes name h =
    let p = and_parts (begins_with is_name_start name) (list_all is_name_byte name) (and_parts (begins_with is_name_start name && list_all is_name_byte name) (nat_le (length name) 64) h).0 in
    all_weaker is_name_byte is_data_byte (λ c right. or_left (is_name_byte c) (c == 45) right) name p.1

name_some : (name : Text) → is_name name ≡ true → 1 ≤ length name
name_some [] h = absurd cc
name_some (c ∷ cs) h = omega arith

-- a name, a cell and a number between blanks
abbrev between : Text → Text → Text → Text
between name cell value = codes ".data" ++ 32 ∷ (name ++ 32 ∷ (cell ++ 32 ∷ value))

between_is : (name cell value : Text) → codes ".data " ++ name ++ codes " " ++ cell ++ codes " " ++ value ≡ between name cell value
between_is name cell value =
    append_assoc (codes ".data " ++ name ++ codes " " ++ cell) (codes " ") value
    ∙ (append_assoc (codes ".data " ++ name ++ codes " ") cell (32 ∷ value)
    ∙ (append_assoc (codes ".data " ++ name) (codes " ") (cell ++ 32 ∷ value) ∙ append_assoc (codes ".data ") name (32 ∷ (cell ++ 32 ∷ value))))

between_without : (n : ℕ) → is_data_byte n ≡ false → not (32 == n) ≡ true → list_all (λ c. not (c == n)) (codes ".data") ≡ true → (name cell value : Text)
    → list_all is_data_byte name ≡ true → list_all is_data_byte cell ≡ true → list_all is_data_byte value ≡ true → list_all (λ c. not (c == n)) (between name cell value) ≡ true
between_without n wrong blank word name cell value a b e =
    let test : ℕ → Bool = λ c. not (c == n) in
    all_both test (codes ".data") (32 ∷ (name ++ 32 ∷ (cell ++ 32 ∷ value))) word
    (and_from (test 32) _ blank
    (all_both test name (32 ∷ (cell ++ 32 ∷ value)) (without_byte is_data_byte n wrong name a)
    (and_from (test 32) _ blank
    (all_both test cell (32 ∷ value) (without_byte is_data_byte n wrong cell b) (and_from (test 32) (list_all test value) blank (without_byte is_data_byte n wrong value e))))))

between_parts : (name cell value : Text) → list_all is_data_byte name ≡ true → list_all is_data_byte cell ≡ true → list_all is_data_byte value ≡ true
    → 1 ≤ length name → 1 ≤ length cell → 1 ≤ length value → parts (between name cell value) ≡ codes ".data" ∷ name ∷ cell ∷ value ∷ []
between_parts name cell value a b e i j k =
    let plain : (xs : Text) → list_all is_data_byte xs ≡ true → list_all (λ c. not (is_blank c)) xs ≡ true = not_blank is_data_byte refl refl refl in
    let cut : slice_split is_blank (between name cell value) ≡ codes ".data" ∷ name ∷ cell ∷ value ∷ [] =
    split_at is_blank (codes ".data") 32 (name ++ 32 ∷ (cell ++ 32 ∷ value)) refl refl
    ∙ ap (λ ps. codes ".data" ∷ ps) (split_at is_blank name 32 (cell ++ 32 ∷ value) (plain name a) refl
    ∙ ap (λ ps. name ∷ ps) (split_at is_blank cell 32 value (plain cell b) refl ∙ ap (λ ps. cell ∷ ps) (split_none is_blank value (plain value e)))) in
    ap are_some cut ∙ ap (λ ps. codes ".data" ∷ ps) (kept name (cell ∷ value ∷ []) (cell ∷ value ∷ []) i (kept cell (value ∷ []) (value ∷ []) j (kept value [] [] k refl)))

data_is : (name : Text) (n : ℕ) (z : ℤ) → is_name name ≡ true → IsShort n → IsShortNumber z → data_of name (decimal n) (signed_decimal z) ≡ Some (Data name n z)
data_is name n z named low short =
    let cell : Text = decimal n in
    let value : Text = signed_decimal z in
    let right = and_from (is_name name && is_number cell) (is_signed_number value) (and_from (is_name name) (is_number cell) named (decimal_number n low)) (signed_number z short) in
    ap (λ b. if b then Some (Data name (digits_value 10 cell) (signed_value value)) else None) right
    ∙ (ap (λ m. Some (Data name m (signed_value value))) (decimal_value n low) ∙ ap (λ y. Some (Data name n y)) (signed_is z short))

-- the line that gives a cell of a storage of this name a number
abbrev pub data_text : Text → ℕ → ℤ → Text
data_text name n z = codes ".data " ++ name ++ codes " " ++ decimal n ++ codes " " ++ signed_decimal z

pub data_whole : (name : Text) (n : ℕ) (z : ℤ) → is_name name ≡ true → IsShort n → IsShortNumber z → list_all (λ c. not (c == 10)) (data_text name n z) ≡ true
data_whole name n z named low short =
    subst (λ t. list_all (λ c. not (c == 10)) t ≡ true) (sym (between_is name (decimal n) (signed_decimal z)))
    (between_without 10 refl refl refl name (decimal n) (signed_decimal z) (name_bytes name named) (decimal_bytes n low) (signed_bytes z short))

pub data_line_is : (width : ℕ) (name : Text) (n : ℕ) (z : ℤ) → is_name name ≡ true → IsShort n → IsShortNumber z → line width (data_text name n z) ≡ Some (record { label = None; content = Data name n z })
data_line_is width name n z named low short =
    let cell : Text = decimal n in
    let value : Text = signed_decimal z in
    let a = name_bytes name named in
    let b = decimal_bytes n low in
    let e = signed_bytes z short in
    ap (line width) (between_is name cell value)
    ∙ (dot_line width (codes "data" ++ 32 ∷ (name ++ 32 ∷ (cell ++ 32 ∷ value))) (between_without 59 refl refl refl name cell value a b e)
    ∙ (ap (λ ps. with_label None (directive width ps)) (between_parts name cell value a b e (name_some name named) (decimal_some n low) (signed_some z short)) ∙ ap (with_label None) (data_is name n z named low short)))
