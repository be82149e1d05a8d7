-- Worked examples of the definitions, each by computation.
use Rattle.std.specs.Prelude.{◌≡◌, ◌++◌, ℕ, List, true, false, codes, refl, [], ◌∷◌, length, IsTrue}
use Rattle.nml_lex.specs.Form.{is_end, is_space, is_token, is_within, longest, number_worth}
use Rattle.nml_lex.specs.Lexed.{HasLexemes, IsWord, Space, Word}

-- the longest token is taken
double_mark : longest (codes "<<=1") ≡ 2
double_mark = refl

whole_name : longest (codes "opn_1(") ≡ 5
whole_name = refl

-- digits that are missing end a number before its letter
no_digits : longest (codes "0xg") ≡ 1
no_digits = refl

wrong_binary : longest (codes "0b2") ≡ 1
wrong_binary = refl

letters_behind : longest (codes "12ab") ≡ 2
letters_behind = refl

hexadecimal : number_worth (codes "0xfF") ≡ 255
hexadecimal = refl

leading_zeros : number_worth (codes "007") ≡ 7
leading_zeros = refl

-- a string without its end is no token, and one quote behind it is none of it
no_quote : longest (codes "\"ab") ≡ 0
no_quote = refl

one_string : longest (codes "\"a\"b\"") ≡ 3
one_string = refl

-- comments
block : is_space (codes "/* // */") ≡ true
block = refl

first_end : is_space (codes "/* */ */") ≡ false
first_end = refl

no_block : is_space (codes "/*/") ≡ false
no_block = refl

last_line : is_end (codes "// x") ≡ true
last_line = refl

-- a token in front of a rest
abbrev pub word : {text rest : List ℕ} → IsTrue (is_token text) → longest (text ++ rest) ≡ length text → IsTrue (is_within text) → IsWord text rest
word a b c = record { token = a; longest_is = b; within = c }

-- ` op//\nf` has two tokens, at 1 and at 6
two_tokens : HasLexemes (codes " op//\nf") (record { at = 1; text = codes "op" } ∷ record { at = 6; text = codes "f" } ∷ [])
two_tokens = record {
  parts = Space (codes " ") ∷ Word (codes "op") ∷ Space (codes "//\n") ∷ Word (codes "f") ∷ [];
  left = [];
  begins = (_, refl, refl, (_, refl, word refl refl refl, (_, refl, refl, (_, refl, word refl refl refl, refl))));
  ends = refl;
  is = refl;
}
