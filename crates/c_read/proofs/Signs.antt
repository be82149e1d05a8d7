-- The symbol of a token is told by its first byte.
use Rattle.std.proofs.Common.{◌≡◌, refl, sym, ◌∙◌, ap, ℕ, ◌^◌, cond, nat_lt, Bool, true, false, List, drop, slice_get, Option, Some, None, is_some, IsTrue, IsFalse}
use Rattle.std.proofs.lemmas.Bool.{cond-true, cond-false}
use Rattle.std.specs.Char.{is_ascii_digit}
use Rattle.nk_base.specs.Byte.{is_name_start}
use Rattle.nk_base.proofs.DigitsValue.{digit_is_no_name_start}
use Rattle.readings.specs.Symbol.{Symbol}
use Rattle.nml_lex.specs.Form.{is_name}
use Rattle.nml_lex.specs.Lexed.{Lexeme}
use Rattle.nml_lex.proofs.Words.{no_name}
use Rattle.nml_lex.proofs.Limits.{first_byte}
use Rattle.c_lex.specs.Form.{is_token, is_within, is_number, is_outside, number_worth}
use Rattle.c_lex.proofs.Limits.{number_within}
use Rattle.c_lex.proofs.Words.{name_token, number_token, no_number}
use Rattle.c_grammar.specs.Trees.{symbol, word_symbol}

abbrev lexeme : ℕ → List ℕ → Lexeme
lexeme at text = record { at = at; text = text }

-- what is a token that programs have
inside : (at : ℕ) (text : List ℕ) → IsFalse (is_outside text)
    → symbol (lexeme at text) ≡ cond (is_name text) (word_symbol at text) (cond (is_number text) (Symbol.Number at (number_worth text)) (Symbol.Fixed at text))
inside at text o = cond-false (is_outside text) (Symbol.Fixed at text) _ o

-- a keyword or a name
pub word_is : (at : ℕ) (text : List ℕ) (c : ℕ) → Some c ≡ slice_get text 0 → is_name_start c ≡ true → IsTrue (is_token text) → IsFalse (is_outside text)
    → word_symbol at text ≡ symbol (lexeme at text)
word_is at text c e h k o =
    let i = first_byte text c e in
    let name : is_name text ≡ true = ap is_name i ∙ sym (name_token c (drop 1 text) h) ∙ ap is_token (sym i) ∙ k in
    sym (inside at text o ∙ cond-true (is_name text) (word_symbol at text) _ name)

-- what begins with something else is no word
not_named : (at : ℕ) (text : List ℕ) (c : ℕ) → Some c ≡ slice_get text 0 → is_name_start c ≡ false → IsFalse (is_outside text)
    → symbol (lexeme at text) ≡ cond (is_number text) (Symbol.Number at (number_worth text)) (Symbol.Fixed at text)
not_named at text c e h o =
    inside at text o ∙ cond-false (is_name text) (word_symbol at text) _ (ap is_name (first_byte text c e) ∙ no_name c (drop 1 text) h)

-- what begins with a digit is a number
pub is_counted : (text : List ℕ) (c : ℕ) → Some c ≡ slice_get text 0 → is_ascii_digit c ≡ true → IsTrue (is_token text) → IsTrue (is_number text)
is_counted text c e h k = let i = first_byte text c e in ap is_number i ∙ sym (number_token c (drop 1 text) h) ∙ ap is_token (sym i) ∙ k

-- whose value is found
some_found : (b : Bool) (n : ℕ) (found : Option ℕ) → found ≡ cond b (Some n) None → is_some found ≡ true → found ≡ Some n
some_found true n found e h = e
some_found false n found e h = let none : is_some found ≡ false = ap is_some e in absurd (cc)

pub value_is : (text : List ℕ) (c : ℕ) (found : Option ℕ) → Some c ≡ slice_get text 0 → is_ascii_digit c ≡ true → IsTrue (is_token text) → IsTrue (is_within text)
    → found ≡ cond (nat_lt (number_worth text) (2 ^ 64)) (Some (number_worth text)) None → found ≡ Some (number_worth text)
value_is text c found e h k w f = some_found (nat_lt (number_worth text) (2 ^ 64)) (number_worth text) found f (number_within text c (is_some found) found e h k refl f ∙ w)

pub number_is : (at : ℕ) (text : List ℕ) (c : ℕ) → Some c ≡ slice_get text 0 → is_ascii_digit c ≡ true → IsTrue (is_token text) → IsFalse (is_outside text)
    → Symbol.Number at (number_worth text) ≡ symbol (lexeme at text)
number_is at text c e h k o =
    sym (not_named at text c e (digit_is_no_name_start c h) o ∙ cond-true (is_number text) (Symbol.Number at (number_worth text)) _ (is_counted text c e h k))

-- any other token is a mark
pub mark_is : (at : ℕ) (text : List ℕ) (c : ℕ) → Some c ≡ slice_get text 0 → is_name_start c ≡ false → is_ascii_digit c ≡ false → IsFalse (is_outside text)
    → Symbol.Fixed at text ≡ symbol (lexeme at text)
mark_is at text c e h g o =
    sym (not_named at text c e h o
    ∙ cond-false (is_number text) (Symbol.Number at (number_worth text)) (Symbol.Fixed at text) (ap is_number (first_byte text c e) ∙ no_number c (drop 1 text) g))
