-- Worked examples of the definitions, each by computation.
use Rattle.std.specs.Prelude.{◌≡◌, ◌++◌, ℕ, List, true, false, codes, refl, [], ◌∷◌, length, IsTrue}
use Rattle.nml_lex.specs.Form.{is_end, is_space}
use Rattle.nml_lex.specs.Lexed.{Lexeme, Space, Word}
use Rattle.c_lex.specs.Form.{is_keyword, is_outside, is_token, is_within, number_worth}
use Rattle.c_lex.specs.Lexing.{IsWord}
use Rattle.c_lex.specs.Lexed.{c, longest, HasLexemes}

-- the longest token is taken
shift_and_set : longest (codes "<<=1") ≡ 3
shift_and_set = refl

three_plus : longest (codes "+++a") ≡ 2
three_plus = refl

arrow : longest (codes "->x") ≡ 2
arrow = refl

less_and_not : longest (codes "<!=") ≡ 1
less_and_not = refl

whole_name : longest (codes "int_1(") ≡ 5
whole_name = refl

-- a leading zero is a number of its own, and digits that are missing end a number before its letter
leading_zero : longest (codes "07") ≡ 1
leading_zero = refl

no_digits : longest (codes "0xg") ≡ 1
no_digits = refl

capital : longest (codes "0X1") ≡ 1
capital = refl

letters_behind : longest (codes "12ab") ≡ 2
letters_behind = refl

zero_and_hexadecimal : longest (codes "00x1") ≡ 1
zero_and_hexadecimal = refl

hexadecimal : number_worth (codes "0xfF") ≡ 255
hexadecimal = refl

-- a comment is no mark, whether it ends or not; a mark may stand before one
comment : longest (codes "/*=") ≡ 0
comment = refl

divide_and_set : longest (codes "/=*") ≡ 2
divide_and_set = refl

before_a_comment : longest (codes "=/*") ≡ 1
before_a_comment = refl

-- a quote is a mark; a form feed and a byte outside ASCII are nothing
quote : longest (codes "\"a\"") ≡ 1
quote = refl

form_feed : longest (12 ∷ codes "a") ≡ 0
form_feed = refl

not_ascii : longest (194 ∷ 163 ∷ []) ≡ 0
not_ascii = refl

-- 2^64-1 and no more
greatest : is_within (codes "18446744073709551615") ≡ true
greatest = refl

too_great : is_within (codes "0x10000000000000000") ≡ false
too_great = refl

-- 64 characters and no more
abbrev long : List ℕ
long = codes "a123456789b123456789c123456789d123456789e123456789f123456789g123"

longest_name : is_within long ≡ true
longest_name = refl

too_long : is_within (long ++ codes "4") ≡ false
too_long = refl

-- comments
block : is_space (codes "/* // */") ≡ true
block = refl

last_line : is_end (codes "// x") ≡ true
last_line = refl

-- which words and marks are left out
outside_word : is_outside (codes "unsigned") ≡ true
outside_word = refl

outside_mark : is_outside (codes ">>=") ≡ true
outside_mark = refl

outside_quote : is_outside (codes "'") ≡ true
outside_quote = refl

inside : is_outside (codes "+=") ≡ false
inside = refl

inside_name : is_outside (codes "unsigned_") ≡ false
inside_name = refl

keyword : is_keyword (codes "while") ≡ true
keyword = refl

-- a token in front of a rest
abbrev pub word : {text rest : List ℕ} → IsTrue (is_token text) → longest (text ++ rest) ≡ length text → IsTrue (is_within text) → IsWord c text rest
word a b d = record { token = a; longest_is = b; within = d }

abbrev pub lexeme : ℕ → List ℕ → Lexeme
lexeme at text = record { at = at; text = text }

-- ` int/**/a1//\n;` has three tokens
three : HasLexemes (codes " int/**/a1//\n;") (lexeme 1 (codes "int") ∷ lexeme 8 (codes "a1") ∷ lexeme 13 (codes ";") ∷ [])
three = record {
  parts =
      Space (codes " ") ∷ Word (codes "int") ∷ Space (codes "/**/") ∷ Word (codes "a1") ∷ Space (codes "//\n") ∷ Word (codes ";") ∷ [];
  left = codes "";
  begins = (_, refl, refl, (_, refl, word refl refl refl, (_, refl, refl, (_, refl, word refl refl refl, (_, refl, refl, (_, refl, word refl refl refl, refl))))));
  ends = refl;
  is = refl;
}

-- `07/ 'x` has five, of which the third and the fourth are left out
five : HasLexemes (codes "07/ 'x") (lexeme 0 (codes "0") ∷ lexeme 1 (codes "7") ∷ lexeme 2 (codes "/") ∷ lexeme 4 (codes "'") ∷ lexeme 5 (codes "x") ∷ [])
five = record {
  parts = Word (codes "0") ∷ Word (codes "7") ∷ Word (codes "/") ∷ Space (codes " ") ∷ Word (codes "'") ∷ Word (codes "x") ∷ [];
  left = codes "";
  begins = (_, refl, word refl refl refl, (_, refl, word refl refl refl, (_, refl, word refl refl refl, (_, refl, refl, (_, refl, word refl refl refl, (_, refl, word refl refl refl, refl))))));
  ends = refl;
  is = refl;
}
