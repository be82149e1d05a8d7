-- The symbol of a token is told by its first byte.
use Rattle.std.proofs.Common.{◌≡◌, refl, sym, ◌∙◌, ap, subst, ℕ, ◌≤◌, ◌^◌, cond, eqb, nat_lt, true, false, List, [], ◌∷◌, length, drop, slice_get, Option, Some, None, IsTrue, arith}
use Rattle.std.proofs.lemmas.Bool.{cond-true, cond-false}
use Rattle.std.specs.Char.{is_ascii_digit}
use Rattle.nk_base.specs.Byte.{is_name_start}
use Rattle.readings.specs.Symbol.{Symbol}
use Rattle.nml_lex.specs.Form.{is_token, is_within, is_name, is_number, is_string, is_closed, number_worth}
use Rattle.nml_lex.specs.Lexed.{Lexeme}
use Rattle.nml_lex.proofs.Words.{no_name, no_number, no_string}
use Rattle.nk_base.proofs.DigitsValue.{digit_is_no_name_start}
use Rattle.nml_lex.proofs.Lengths.{no_other, string_token}
use Rattle.nml_lex.proofs.Limits.{first_byte, cut_first, number_first, number_at}
use Rattle.nml_grammar.specs.Trees.{symbol, word_symbol, unquoted}

abbrev lexeme : ℕ → List ℕ → Lexeme
lexeme at text = record { at = at; text = text }

-- a keyword or a name
pub word_is : (at : ℕ) (text : List ℕ) (c : ℕ) → Some c ≡ slice_get text 0 → is_name_start c ≡ true → IsTrue (is_token text) → word_symbol at text ≡ symbol (lexeme at text)
word_is at text c e h k =
    let i = first_byte text c e in
    let name : is_name text ≡ true = ap is_name i ∙ cut_first (is_name (c ∷ drop 1 text)) _ (no_other c (drop 1 text) h) (ap is_token (sym i) ∙ k) in
    sym (cond-true (is_name text) (word_symbol at text) _ name)

-- what begins with something else is no word
not_named : (at : ℕ) (text : List ℕ) (c : ℕ) → Some c ≡ slice_get text 0 → is_name_start c ≡ false
    → symbol (lexeme at text) ≡ cond (is_number text) (Symbol.Number at (number_worth text)) (cond (is_string text) (Symbol.Quoted at (unquoted text)) (Symbol.Fixed at text))
not_named at text c e h = cond-false (is_name text) (word_symbol at text) _ (ap is_name (first_byte text c e) ∙ no_name c (drop 1 text) h)

-- and no number
not_counted : (at : ℕ) (text : List ℕ) (c : ℕ) → Some c ≡ slice_get text 0 → is_name_start c ≡ false → is_ascii_digit c ≡ false
    → symbol (lexeme at text) ≡ cond (is_string text) (Symbol.Quoted at (unquoted text)) (Symbol.Fixed at text)
not_counted at text c e h g = not_named at text c e h ∙ cond-false (is_number text) (Symbol.Number at (number_worth text)) _ (ap is_number (first_byte text c e) ∙ no_number c (drop 1 text) g)

-- a number's value is found
pub value_is : (text : List ℕ) (c : ℕ) (found : Option ℕ) → Some c ≡ slice_get text 0 → is_ascii_digit c ≡ true → IsTrue (is_token text) → IsTrue (is_within text)
    → found ≡ cond (nat_lt (number_worth text) (2 ^ 64)) (Some (number_worth text)) None → found ≡ Some (number_worth text)
value_is text c found e h k w f =
    let i = first_byte text c e in
    f ∙ cond-true (nat_lt (number_worth text) (2 ^ 64)) (Some (number_worth text)) None (ap (λ t. nat_lt (number_worth t) (2 ^ 64)) i ∙ number_at c (drop 1 text) h (ap is_token (sym i) ∙ k) ∙ ap is_within (sym i) ∙ w)

pub number_is : (at : ℕ) (text : List ℕ) (c : ℕ) → Some c ≡ slice_get text 0 → is_ascii_digit c ≡ true → IsTrue (is_token text) → Symbol.Number at (number_worth text) ≡ symbol (lexeme at text)
number_is at text c e h k =
    sym (not_named at text c e (digit_is_no_name_start c h) ∙ cond-true (is_number text) (Symbol.Number at (number_worth text)) _ (number_first text c e h k))

-- a string has its two quotes
closed_some : (t : List ℕ) → is_closed t ≡ true → 1 ≤ length t
closed_some [] h = absurd (cc)
closed_some (c ∷ t) h = omega arith

closed_is : (text : List ℕ) → Some 34 ≡ slice_get text 0 → IsTrue (is_token text) → is_closed (drop 1 text) ≡ true
closed_is text e k = sym (string_token (drop 1 text)) ∙ ap is_token (sym (first_byte text 34 e)) ∙ k

pub two_quotes : (text : List ℕ) → Some 34 ≡ slice_get text 0 → IsTrue (is_token text) → 2 ≤ length text
two_quotes text e k =
    let some = closed_some (drop 1 text) (closed_is text e k) in
    subst (λ n. 2 ≤ n) (sym (ap length (first_byte text 34 e))) (omega (arith, some))

pub string_is : (at : ℕ) (text : List ℕ) → Some 34 ≡ slice_get text 0 → IsTrue (is_token text) → Symbol.Quoted at (unquoted text) ≡ symbol (lexeme at text)
string_is at text e k =
    sym (not_counted at text 34 e refl refl ∙ cond-true (is_string text) (Symbol.Quoted at (unquoted text)) (Symbol.Fixed at text) (ap is_string (first_byte text 34 e) ∙ closed_is text e k))

-- any other token is a mark
pub mark_is : (at : ℕ) (text : List ℕ) (c : ℕ) → Some c ≡ slice_get text 0 → is_name_start c ≡ false → is_ascii_digit c ≡ false → eqb c 34 ≡ false → Symbol.Fixed at text ≡ symbol (lexeme at text)
mark_is at text c e h g f =
    sym (not_counted at text c e h g ∙ cond-false (is_string text) (Symbol.Quoted at (unquoted text)) (Symbol.Fixed at text) (ap is_string (first_byte text c e) ∙ no_string c (drop 1 text) f))
