-- The forms of tokens, of what stands between them, and the limits of tokens.
use Rattle.std.specs.Prelude.{ℕ, zero, suc, ◌^◌, nat_lt, nat_le, not, ◌&&◌, ◌||◌, ◌==◌, Bool, true, false, List, [], ◌∷◌, length, take, drop, codes, if◌then◌else◌}
use Rattle.std.specs.Char.{is_ascii_digit, is_ascii_hexdigit}
use Rattle.std.specs.List.{list_all, list_any}
use Rattle.std.specs.Str.Parse.{digits_value}
use Rattle.nk_base.specs.Text.{text_eq}
use Rattle.nk_base.specs.Byte.{is_name_start, is_name_byte, is_gap}

-- ---- tokens

-- a name or a keyword: a letter or `_`, then letters, digits and `_`
abbrev pub is_name : List ℕ → Bool
is_name [] = false
is_name (c ∷ cs) = is_name_start c && list_all is_name_byte cs

-- one digit or more
abbrev pub are_digits : (ℕ → Bool) → List ℕ → Bool
are_digits is_digit text = nat_lt 0 (length text) && list_all is_digit text

abbrev pub is_binary_digit : ℕ → Bool
is_binary_digit c = (c == 48) || (c == 49)

-- a 0, this letter, and one digit or more
abbrev pub is_prefixed : ℕ → (ℕ → Bool) → List ℕ → Bool
is_prefixed letter is_digit [] = false
is_prefixed letter is_digit (c ∷ []) = false
is_prefixed letter is_digit (c ∷ d ∷ cs) = (c == 48) && (d == letter) && are_digits is_digit cs

abbrev pub is_decimal : List ℕ → Bool
is_decimal text = are_digits is_ascii_digit text

abbrev pub is_hexadecimal : List ℕ → Bool
is_hexadecimal text = is_prefixed 120 is_ascii_hexdigit text

abbrev pub is_binary : List ℕ → Bool
is_binary text = is_prefixed 98 is_binary_digit text

-- decimal digits, `0x` and hexadecimal digits of either case, or `0b` and binary digits
abbrev pub is_number : List ℕ → Bool
is_number text = is_decimal text || (is_hexadecimal text || is_binary text)

-- what a number is worth
abbrev pub number_worth : List ℕ → ℕ
number_worth text = if is_hexadecimal text then digits_value 16 (drop 2 text) else if is_binary text then digits_value 2 (drop 2 text) else digits_value 10 text

-- a character of a string: 32 to 126, and no double quote
abbrev pub is_quoted : ℕ → Bool
is_quoted c = nat_le 32 c && nat_le c 126 && not (c == 34)

-- characters of a string, and the double quote that ends it
abbrev pub is_closed : List ℕ → Bool
is_closed [] = false
is_closed (c ∷ []) = c == 34
is_closed (c ∷ d ∷ cs) = is_quoted c && is_closed (d ∷ cs)

abbrev pub is_string : List ℕ → Bool
is_string [] = false
is_string (c ∷ cs) = (c == 34) && is_closed cs

abbrev pub marks : List (List ℕ)
marks =
    codes "==" ∷ codes "!=" ∷ codes "<=" ∷ codes ">=" ∷ codes "<<" ∷ codes ">>" ∷ codes "&&" ∷ codes "||"
    ∷ codes "(" ∷ codes ")" ∷ codes "[" ∷ codes "]" ∷ codes "{" ∷ codes "}" ∷ codes "," ∷ codes ";" ∷ codes ":" ∷ codes "."
    ∷ codes "=" ∷ codes "<" ∷ codes ">" ∷ codes "+" ∷ codes "-" ∷ codes "*" ∷ codes "&" ∷ codes "|" ∷ codes "^" ∷ codes "~" ∷ codes "!" ∷ []

abbrev pub is_mark : List ℕ → Bool
is_mark text = list_any (text_eq text) marks

abbrev pub is_token : List ℕ → Bool
is_token text = is_name text || (is_number text || (is_string text || is_mark text))

-- a name has at most 64 characters, a number is at most 2^64-1, and a string has at most 200 characters between its quotes
abbrev pub is_within : List ℕ → Bool
is_within text =
    if is_name text then nat_le (length text) 64
    else if is_number text then nat_lt (number_worth text) (2 ^ 64)
    else if is_string text then nat_le (length text) 202
    else true

-- how many of these bytes, so many at most, make the longest token in front; 0 where none do
abbrev pub longest_of : ℕ → List ℕ → ℕ
longest_of zero bytes = 0
longest_of (suc n) bytes = if is_token (take (suc n) bytes) then suc n else longest_of n bytes

abbrev pub longest : List ℕ → ℕ
longest bytes = longest_of (length bytes) bytes

-- ---- between tokens

-- the bytes of a line, and the line feed that ends it
abbrev pub is_ended : List ℕ → Bool
is_ended [] = false
is_ended (c ∷ []) = c == 10
is_ended (c ∷ d ∷ cs) = not (c == 10) && is_ended (d ∷ cs)

-- any bytes, and the first `*/` among them ends them
abbrev pub is_shut : List ℕ → Bool
is_shut [] = false
is_shut (c ∷ []) = false
is_shut (c ∷ d ∷ []) = (c == 42) && (d == 47)
is_shut (c ∷ d ∷ e ∷ cs) = not ((c == 42) && (d == 47)) && is_shut (d ∷ e ∷ cs)

-- a comment from `//` to the end of its line
abbrev pub is_line_comment : List ℕ → Bool
is_line_comment [] = false
is_line_comment (c ∷ []) = false
is_line_comment (c ∷ d ∷ cs) = (c == 47) && (d == 47) && is_ended cs

-- a comment from `/*` to the first `*/` behind it
abbrev pub is_block_comment : List ℕ → Bool
is_block_comment [] = false
is_block_comment (c ∷ []) = false
is_block_comment (c ∷ d ∷ cs) = (c == 47) && (d == 42) && is_shut cs

-- a blank, a tab, a carriage return or a line feed
abbrev pub is_one_gap : List ℕ → Bool
is_one_gap [] = false
is_one_gap (c ∷ []) = is_gap c
is_one_gap (c ∷ d ∷ cs) = false

-- one thing that separates tokens
abbrev pub is_space : List ℕ → Bool
is_space text = is_one_gap text || (is_line_comment text || is_block_comment text)

-- the end of the bytes: nothing, or a comment from `//` without a line feed
abbrev pub is_end : List ℕ → Bool
is_end [] = true
is_end (c ∷ []) = false
is_end (c ∷ d ∷ cs) = (c == 47) && (d == 47) && list_all (λ b. not (b == 10)) cs
