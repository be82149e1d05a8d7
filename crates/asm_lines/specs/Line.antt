-- A line of assembly text: a label, and behind it nothing, an instruction or a directive.
use Rattle.std.specs.Prelude.{ℕ, ◌^◌, ◌==◌, nat_le, nat_lt, not, ◌||◌, ◌&&◌, Bool, true, false, ℤ, pos, neg_ℤ, if◌then◌else◌, List, [], ◌∷◌, ◌++◌, length, map, flat_map, filter, take, drop, Option, Some, None, codes}
use Rattle.std.specs.Char.{is_ascii_digit}
use Rattle.std.specs.List.{list_all, prefix_len, slice_split}
use Rattle.std.specs.Str.Parse.{digits_value}
use Rattle.nk_base.specs.Byte.{is_name_start, is_name_byte, is_blank}
use Rattle.nk_base.specs.Hexadecimal.{digits_of_word}
use Rattle.nk_base.specs.Text.{text_eq}
use Rattle.nml_tree.specs.Directives.{is_mark}
use Rattle.nml_tree.specs.LineToken.{LineToken, line_tokens}
use Rattle.nml_tree.specs.Table.{Text}

-- a token of an instruction: a word, a number, a mark, or a reference, which stands for its label's number
pub data Token : Type 0 where
  Written : LineToken → Token
  Reference : (name : Text) → Token

pub data Content : Type 0 where
  Nothing : Content
  Instruction : List Token → Content
  Bits : (word : ℕ) → Content
  Data : (name : Text) → (cell : ℕ) → (value : ℤ) → Content

pub record Line : Type 0 where
  pub label : Option Text
  pub content : Content

-- the longest front of which each byte passes, and what stands behind it
abbrev pub front : (ℕ → Bool) → Text → Text
front test text = take (prefix_len test text) text

abbrev pub behind : (ℕ → Bool) → Text → Text
behind test text = drop (prefix_len test text) text

abbrev pub begins_with : (ℕ → Bool) → Text → Bool
begins_with test [] = false
begins_with test (c ∷ cs) = test c

-- letters, digits and `_`, no digit first, at most 64
abbrev pub is_name : Text → Bool
is_name text = begins_with is_name_start text && list_all is_name_byte text && nat_le (length text) 64

-- one to 38 digits
abbrev pub is_number : Text → Bool
is_number text = list_all is_ascii_digit text && nat_le 1 (length text) && nat_le (length text) 38

abbrev pub has_minus : Text → Bool
has_minus text = begins_with (λ c. c == 45) text

-- with a `-` before them or without
abbrev pub is_signed_number : Text → Bool
is_signed_number text = if has_minus text then is_number (drop 1 text) else is_number text

abbrev pub signed_value : Text → ℤ
signed_value text = if has_minus text then neg_ℤ (pos (digits_value 10 (drop 1 text))) else pos (digits_value 10 text)

-- 0 to 9, a to f, A to F
abbrev pub is_hexadecimal : ℕ → Bool
is_hexadecimal c = is_ascii_digit c || (nat_le 97 c && nat_le c 102) || (nat_le 65 c && nat_le c 70)

-- what stands between blanks
abbrev pub parts : Text → List Text
parts text = filter (λ p. nat_lt 0 (length p)) (slice_split is_blank text)

-- `.bits H`: exactly as many digits as a word has, and a value that a word has
abbrev pub bits : ℕ → Text → Option Content
bits width h =
    if list_all is_hexadecimal h && (length h == digits_of_word width) && nat_lt (digits_value 16 h) (2 ^ width) then Some (Bits (digits_value 16 h)) else None

-- `.data NAME c v`
abbrev pub data_of : Text → Text → Text → Option Content
data_of name cell value =
    if is_name name && is_number cell && is_signed_number value then Some (Data name (digits_value 10 cell) (signed_value value)) else None

abbrev pub directive : ℕ → List Text → Option Content
directive width (word ∷ h ∷ []) = if text_eq word (codes ".bits") then bits width h else None
directive width (word ∷ name ∷ cell ∷ value ∷ []) = if text_eq word (codes ".data") then data_of name cell value else None
directive width _ = None

-- no run of digits is longer than 38, wherever it begins
abbrev pub has_short_runs : Text → Bool
has_short_runs [] = true
has_short_runs (c ∷ cs) = nat_le (prefix_len is_ascii_digit (c ∷ cs)) 38 && has_short_runs cs

-- a byte of an instruction's tokens, or between them
abbrev pub is_token_byte : ℕ → Bool
is_token_byte c = is_name_byte c || is_blank c || is_mark c

-- tokens without a reference, of which numbers have at most 38 digits
abbrev pub are_tokens : Text → Bool
are_tokens text = list_all is_token_byte text && has_short_runs text

-- what stands behind an `@`: the name of a label, and tokens
abbrev pub is_reference : Text → Bool
is_reference text = is_name (front is_name_byte text) && are_tokens (behind is_name_byte text)

abbrev pub written : Text → List Token
written text = map Written (line_tokens text)

abbrev pub reference : Text → List Token
reference text = Reference (front is_name_byte text) ∷ written (behind is_name_byte text)

abbrev pub content_of : List Token → Content
content_of [] = Nothing
content_of (t ∷ ts) = Instruction (t ∷ ts)

-- what stands before the first `@`, and behind each
abbrev pub instruction : List Text → Option Content
instruction [] = Some Nothing
instruction (first ∷ others) =
    if are_tokens first && list_all is_reference others then Some (content_of (written first ++ flat_map reference others)) else None

abbrev pub content : ℕ → Text → Option Content
content width text = if begins_with (λ c. c == 46) text then directive width (parts text) else instruction (slice_split (λ c. c == 64) text)

-- `;` begins a comment
abbrev pub without_comment : Text → Text
without_comment text = front (λ c. not (c == 59)) text

abbrev pub without_blanks : Text → Text
without_blanks text = behind is_blank text

-- a name directly followed by `:`
abbrev pub has_label : Text → Bool
has_label text = begins_with is_name_start text && begins_with (λ c. c == 58) (behind is_name_byte text)

abbrev pub with_label : Option Text → Option Content → Option Line
with_label label None = None
with_label label (Some c) = Some (record { label = label; content = c })

-- a line of a description whose words have so many bits; none where its form is wrong
abbrev pub labeled_line : ℕ → Text → Option Line
labeled_line width text =
    if has_label text then (if is_name (front is_name_byte text) then with_label (Some (front is_name_byte text)) (content width (without_blanks (drop 1 (behind is_name_byte text)))) else None)
    else with_label None (content width text)

abbrev pub line : ℕ → Text → Option Line
line width text = labeled_line width (without_blanks (without_comment text))
