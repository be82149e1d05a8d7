-- The tokens of a line of assembly text: words, numbers with their sign, marks.
use Rattle.std.specs.Prelude.{ℕ, zero, suc, ◌==◌, ◌&&◌, nat_lt, if◌then◌else◌, ℤ, pos, neg_ℤ, List, [], ◌∷◌, ◌++◌, take_while}
use Rattle.std.specs.Char.{is_ascii_digit}
use Rattle.std.specs.List.{prefix_len}
use Rattle.std.specs.Str.Parse.{digits_value}
use Rattle.nk_base.specs.Byte.{is_name_start, is_blank}

-- a token of a line
pub data LineToken : Type 0 where
  Word : List ℕ → LineToken  -- the longest run of letters and `_`
  Number : ℤ → LineToken  -- the longest run of digits, with a `-` that touches it on the left as its sign
  Mark : ℕ → LineToken  -- any other byte

-- the number that the longest run of digits in front writes
abbrev pub number_in_front : List ℕ → ℕ
number_in_front text = digits_value 10 (take_while is_ascii_digit text)

-- what a byte begins: a token, unless it is a blank, and how many bytes behind it are of that token
pub record Begun : Type 0 where
  pub token : List LineToken
  pub more : ℕ

-- what the byte begins that stands before this text
abbrev pub begun : ℕ → List ℕ → Begun
begun c text =
    if is_name_start c then record { token = Word (take_while is_name_start (c ∷ text)) ∷ []; more = prefix_len is_name_start text }
    else if is_ascii_digit c then record { token = Number (pos (number_in_front (c ∷ text))) ∷ []; more = prefix_len is_ascii_digit text }
    else if (c == 45) && nat_lt 0 (prefix_len is_ascii_digit text) then record { token = Number (neg_ℤ (pos (number_in_front text))) ∷ []; more = prefix_len is_ascii_digit text }
    else if is_blank c then record { token = []; more = 0 }
    else record { token = Mark c ∷ []; more = 0 }

-- the tokens behind so many bytes, which are of the token before
abbrev pub tokens_behind : ℕ → List ℕ → List LineToken
tokens_behind n [] = []
tokens_behind zero (c ∷ text) = (begun c text).token ++ tokens_behind (begun c text).more text
tokens_behind (suc n) (c ∷ text) = tokens_behind n text

-- from the left: behind blanks the token in front is the longest run of its kind, and so on behind it
abbrev pub line_tokens : List ℕ → List LineToken
line_tokens text = tokens_behind 0 text
