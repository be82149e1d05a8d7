-- The forms of a program's tokens, the limits of tokens, and the words and marks that are left out.
use Rattle.std.specs.Prelude.{ℕ, ◌^◌, nat_lt, nat_le, not, ◌&&◌, ◌||◌, ◌==◌, Bool, true, false, List, [], ◌∷◌, length, drop, codes, if◌then◌else◌}
use Rattle.std.specs.Char.{is_ascii_digit}
use Rattle.std.specs.List.{list_all, list_any}
use Rattle.std.specs.Str.Parse.{digits_value}
use Rattle.nk_base.specs.Text.{text_eq}
use Rattle.nml_lex.specs.Form.{is_name, is_hexadecimal}

-- decimal digits without a leading zero, but `0`
abbrev pub is_decimal : List ℕ → Bool
is_decimal [] = false
is_decimal (c ∷ cs) = is_ascii_digit c && list_all is_ascii_digit cs && (not (c == 48) || (length cs == 0))

-- decimal digits, or `0x` and hexadecimal digits of either case
abbrev pub is_number : List ℕ → Bool
is_number text = is_decimal text || is_hexadecimal text

-- what a number is worth
abbrev pub number_worth : List ℕ → ℕ
number_worth text = if is_hexadecimal text then digits_value 16 (drop 2 text) else digits_value 10 text

-- the words that a program keeps for itself; none is a name
abbrev pub keywords : List (List ℕ)
keywords =
    codes "int" ∷ codes "void" ∷ codes "if" ∷ codes "else" ∷ codes "while" ∷ codes "do" ∷ codes "for" ∷ codes "break" ∷ codes "continue"
    ∷ codes "return" ∷ []

-- the words of C that are left out; none is a name
abbrev pub outside_words : List (List ℕ)
outside_words =
    codes "auto" ∷ codes "case" ∷ codes "char" ∷ codes "const" ∷ codes "default" ∷ codes "double" ∷ codes "enum" ∷ codes "extern" ∷ codes "float"
    ∷ codes "goto" ∷ codes "inline" ∷ codes "long" ∷ codes "register" ∷ codes "restrict" ∷ codes "short" ∷ codes "signed" ∷ codes "sizeof"
    ∷ codes "static" ∷ codes "struct" ∷ codes "switch" ∷ codes "typedef" ∷ codes "union" ∷ codes "unsigned" ∷ codes "volatile" ∷ []

abbrev pub marks : List (List ℕ)
marks =
    codes "(" ∷ codes ")" ∷ codes "[" ∷ codes "]" ∷ codes "{" ∷ codes "}" ∷ codes "," ∷ codes ";" ∷ codes "=" ∷ codes "+=" ∷ codes "-=" ∷ codes "++"
    ∷ codes "--" ∷ codes "+" ∷ codes "-" ∷ codes "*" ∷ codes "&" ∷ codes "|" ∷ codes "^" ∷ codes "~" ∷ codes "!" ∷ codes "<<" ∷ codes ">>" ∷ codes "<"
    ∷ codes "<=" ∷ codes ">" ∷ codes ">=" ∷ codes "==" ∷ codes "!=" ∷ codes "&&" ∷ codes "||" ∷ []

-- the marks of C that are left out
abbrev pub outside_marks : List (List ℕ)
outside_marks =
    codes "/" ∷ codes "%" ∷ codes "?" ∷ codes ":" ∷ codes "." ∷ codes "->" ∷ codes "*=" ∷ codes "/=" ∷ codes "%=" ∷ codes "&=" ∷ codes "|=" ∷ codes "^="
    ∷ codes "<<=" ∷ codes ">>=" ∷ codes "#" ∷ codes "'" ∷ codes "\"" ∷ codes "\\" ∷ []

-- a text is one of these
abbrev pub is_among : List (List ℕ) → List ℕ → Bool
is_among texts text = list_any (text_eq text) texts

abbrev pub is_keyword : List ℕ → Bool
is_keyword text = is_among keywords text

-- a word or a mark that no program has
abbrev pub is_outside : List ℕ → Bool
is_outside text = is_among outside_words text || is_among outside_marks text

-- a mark, left out or not
abbrev pub is_mark : List ℕ → Bool
is_mark text = is_among marks text || is_among outside_marks text

-- words of every kind have the form of a name
abbrev pub is_token : List ℕ → Bool
is_token text = is_name text || (is_number text || is_mark text)

-- a word has at most 64 characters, and a number is at most 2^64-1
abbrev pub is_within : List ℕ → Bool
is_within text = if is_name text then nat_le (length text) 64 else if is_number text then nat_lt (number_worth text) (2 ^ 64) else true
