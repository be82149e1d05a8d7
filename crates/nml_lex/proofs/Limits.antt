-- What a number is worth, and whether a token is within its limit.
use Rattle.std.proofs.Common.{◌≡◌, ◌∙◌, ap, refl, sym, ℕ, ◌^◌, cond, eqb, nat_le, nat_lt, ◌||◌, Bool, true, false, List, [], ◌∷◌, length, get_or, drop, slice_get, IsTrue, Option, Some, None, is_some, arith}
use Rattle.std.proofs.lemmas.Bool.{and_parts, both_ways, cond-true, cond-false, true_from_ne_false}
use Rattle.std.proofs.lemmas.Bool.Decides.{nat_tests}
use Rattle.std.proofs.lemmas.List.Folds.{list_all_at}
use Rattle.std.specs.Char.{is_digit, is_ascii_digit, is_ascii_hexdigit}
use Rattle.std.specs.List.{AllPass, list_all}
use Rattle.std.specs.Str.Parse.{digits_value}
use Rattle.nk_base.specs.Byte.{is_name_start}
use Rattle.nml_lex.specs.Form.{are_digits, is_binary_digit, is_binary, is_decimal, is_hexadecimal, is_name, is_number, is_string, is_token, is_within, number_worth}
use Rattle.nml_lex.proofs.Words.{no_name, no_number, no_string}
use Rattle.nml_lex.proofs.Lengths.{IsPrefix, hexadecimal_prefix, binary_prefix, other_prefix, number_token, only_first, no_other}
use Rattle.nk_base.proofs.DigitsValue.{digit_is_no_name_start, decimal_digit}

-- ---- the digits of a number

-- each digit of a number is one in its base
all_digits : (test : ℕ → Bool) (r : ℕ) (ds : List ℕ) → ((c : ℕ) → test c ≡ true → is_digit c r ≡ true) → list_all test ds ≡ true → AllPass (λ c. is_digit c r) ds
all_digits test r ds means h k d within = means (get_or ds k d) (true_from_ne_false (test (get_or ds k d)) (λ f. both_ways (list_all test ds) (list_all_at test ds k d within f) h))

hexadecimal_digit : (c : ℕ) → is_ascii_hexdigit c ≡ true → is_digit c 16 ≡ true
hexadecimal_digit c h = grind (arith, nat_tests)

binary_digit : (c : ℕ) → is_binary_digit c ≡ true → is_digit c 2 ≡ true
binary_digit c h = grind (arith, nat_tests)

-- these digits write the number
pub record IsWorth (text ds : List ℕ) (r : ℕ) : Type 0 where
  pub digits : AllPass (λ c. is_digit c r) ds
  pub worth : number_worth text ≡ digits_value r ds

prefixed_digits : (letter : ℕ) (test : ℕ → Bool) (text ds : List ℕ) → IsPrefix letter test → IsTrue (is_number text) → text ≡ 48 ∷ letter ∷ ds → are_digits test ds ≡ true
prefixed_digits letter test text ds p h e = sym (p.only ds) ∙ ap is_number (sym e) ∙ h

-- the three forms of numbers
pub hexadecimal_number : (text ds : List ℕ) → IsTrue (is_number text) → text ≡ 48 ∷ 120 ∷ ds → IsWorth text ds 16
hexadecimal_number text ds h e =
    let a = prefixed_digits 120 is_ascii_hexdigit text ds hexadecimal_prefix h e in
    record {
      digits = all_digits is_ascii_hexdigit 16 ds hexadecimal_digit (and_parts (nat_lt 0 (length ds)) (list_all is_ascii_hexdigit ds) a).1;
      worth = ap number_worth e ∙ cond-true (are_digits is_ascii_hexdigit ds) (digits_value 16 ds) (digits_value 10 (48 ∷ 120 ∷ ds)) a;
    }

pub binary_number : (text ds : List ℕ) → IsTrue (is_number text) → text ≡ 48 ∷ 98 ∷ ds → IsWorth text ds 2
binary_number text ds h e =
    let a = prefixed_digits 98 is_binary_digit text ds binary_prefix h e in
    record {
      digits = all_digits is_binary_digit 2 ds binary_digit (and_parts (nat_lt 0 (length ds)) (list_all is_binary_digit ds) a).1;
      worth = ap number_worth e ∙ cond-true (are_digits is_binary_digit ds) (digits_value 2 ds) (digits_value 10 (48 ∷ 98 ∷ ds)) a;
    }

pub decimal_number : (text : List ℕ) → IsTrue (is_number text) → ((more : List ℕ) → text ≡ 48 ∷ 120 ∷ more → ⊥) → ((more : List ℕ) → text ≡ 48 ∷ 98 ∷ more → ⊥) → IsWorth text text 10
decimal_number text h hexadecimal binary =
    let no_hexadecimal = other_prefix 120 is_ascii_hexdigit text hexadecimal in
    let no_binary = other_prefix 98 is_binary_digit text binary in
    let a : is_decimal text ≡ true = sym (only_first (is_decimal text) (is_hexadecimal text) (is_binary text) no_hexadecimal no_binary) ∙ h in
    record {
      digits = all_digits is_ascii_digit 10 text decimal_digit (and_parts (nat_lt 0 (length text)) (list_all is_ascii_digit text) a).1;
      worth = cond-false (is_hexadecimal text) (digits_value 16 (drop 2 text)) _ no_hexadecimal ∙ cond-false (is_binary text) (digits_value 2 (drop 2 text)) (digits_value 10 text) no_binary;
    }

-- what the digits come to is what the number is worth
pub worth_is : (text ds : List ℕ) (r m : ℕ) (found : Option ℕ) → IsWorth text ds r → found ≡ cond (nat_lt (digits_value r ds) m) (Some (digits_value r ds)) None
    → found ≡ cond (nat_lt (number_worth text) m) (Some (number_worth text)) None
worth_is text ds r m found w e = e ∙ ap (λ n. cond (nat_lt n m) (Some n) None) (sym w.worth)

-- ---- the limits

-- a text by its first byte
pub first_byte : (text : List ℕ) (c : ℕ) → Some c ≡ slice_get text 0 → text ≡ c ∷ drop 1 text
first_byte [] c e = absurd (cc)
first_byte (d ∷ t) c e = let same : d ≡ c = cc in ap (λ x. x ∷ t) same

pub cut_first : (a b : Bool) → b ≡ false → a || b ≡ true → a ≡ true
cut_first true b e h = refl
cut_first false b e h = absurd (cc)

-- a name
name_at : (c : ℕ) (t : List ℕ) → is_name_start c ≡ true → IsTrue (is_token (c ∷ t)) → nat_le (length (c ∷ t)) 64 ≡ is_within (c ∷ t)
name_at c t h k = sym (cond-true (is_name (c ∷ t)) (nat_le (length (c ∷ t)) 64) _ (cut_first (is_name (c ∷ t)) _ (no_other c t h) k))

pub name_within : (text : List ℕ) (c : ℕ) → Some c ≡ slice_get text 0 → is_name_start c ≡ true → IsTrue (is_token text) → nat_le (length text) 64 ≡ is_within text
name_within text c e h k =
    let i = first_byte text c e in ap (λ t. nat_le (length t) 64) i ∙ name_at c (drop 1 text) h (ap is_token (sym i) ∙ k) ∙ ap is_within (sym i)

-- a number
pub number_first : (text : List ℕ) (c : ℕ) → Some c ≡ slice_get text 0 → is_ascii_digit c ≡ true → IsTrue (is_token text) → IsTrue (is_number text)
number_first text c e h k =
    let i = first_byte text c e in ap is_number i ∙ sym (number_token c (drop 1 text) h) ∙ ap is_token (sym i) ∙ k

some_below : (n m : ℕ) → is_some (cond (nat_lt n m) (Some n) None) ≡ nat_lt n m
some_below n m = choice (nat_lt n m) n where
  choice : (b : Bool) (n : ℕ) → is_some (cond b (Some n) None) ≡ b
  choice true n = refl
  choice false n = refl

pub number_at : (c : ℕ) (t : List ℕ) → is_ascii_digit c ≡ true → IsTrue (is_token (c ∷ t)) → nat_lt (number_worth (c ∷ t)) (2 ^ 64) ≡ is_within (c ∷ t)
number_at c t h k =
    sym (cond-false (is_name (c ∷ t)) (nat_le (length (c ∷ t)) 64) _ (no_name c t (digit_is_no_name_start c h)) ∙ cond-true (is_number (c ∷ t)) (nat_lt (number_worth (c ∷ t)) (2 ^ 64)) _ (sym (number_token c t h) ∙ k))

pub number_within : (text : List ℕ) (c : ℕ) (b : Bool) (found : Option ℕ) → Some c ≡ slice_get text 0 → is_ascii_digit c ≡ true → IsTrue (is_token text) → b ≡ is_some found
    → found ≡ cond (nat_lt (number_worth text) (2 ^ 64)) (Some (number_worth text)) None → b ≡ is_within text
number_within text c b found e h k is f =
    let i = first_byte text c e in
    is ∙ ap is_some f ∙ some_below (number_worth text) (2 ^ 64) ∙ ap (λ t. nat_lt (number_worth t) (2 ^ 64)) i ∙ number_at c (drop 1 text) h (ap is_token (sym i) ∙ k) ∙ ap is_within (sym i)

-- a mark has no limit
mark_at : (c : ℕ) (t : List ℕ) → is_name_start c ≡ false → is_ascii_digit c ≡ false → eqb c 34 ≡ false → true ≡ is_within (c ∷ t)
mark_at c t h g f =
    sym (cond-false (is_name (c ∷ t)) (nat_le (length (c ∷ t)) 64) _ (no_name c t h) ∙ cond-false (is_number (c ∷ t)) (nat_lt (number_worth (c ∷ t)) (2 ^ 64)) _ (no_number c t g)
    ∙ cond-false (is_string (c ∷ t)) (nat_le (length (c ∷ t)) 202) true (no_string c t f))

pub mark_within : (text : List ℕ) (c : ℕ) → Some c ≡ slice_get text 0 → is_name_start c ≡ false → is_ascii_digit c ≡ false → eqb c 34 ≡ false → true ≡ is_within text
mark_within text c e h g f = let i = first_byte text c e in mark_at c (drop 1 text) h g f ∙ ap is_within (sym i)
