-- How long the longest token is, by the kind of its first byte.
use Rattle.std.proofs.Common.{◌≡◌, ◌∙◌, ap, refl, sym, ℕ, zero, suc, ◌+◌, ◌<◌, ◌≤◌, inl, inr, cond, eqb, nat_le, nat_lt, ◌&&◌, ◌||◌, Bool, true, false, List, [], ◌∷◌, ◌++◌, length, get_or, take, drop, length-take, take-append-drop, slice_index, IsTrue, arith, one-add, eqb-true, eq-eqb, take_while, slice_get, Option, Some, None, MatchOption, HoldsAt, Bor}
use Rattle.std.proofs.lemmas.Bool.{and_parts, and_left, and_right, and_from, or_from, or_left, cases_Bool, cases_lt, cond-true, cond-false, cond_both, lt-ltb, leb-true, eqb-false, false_from_ne_true}
use Rattle.std.proofs.lemmas.Bool.Decides.{nat_tests}
use Rattle.std.proofs.lemmas.List.Folds.{length-prefix_len}
use Rattle.std.proofs.lemmas.List.{get_or_past}
use Rattle.std.specs.Option.{option_eq}
use Rattle.std.specs.Char.{is_ascii_digit, is_ascii_hexdigit}
use Rattle.std.specs.List.{list_all, prefix_len}
use Rattle.nk_base.specs.Byte.{is_name_start, is_name_byte}
use Rattle.nml_lex.specs.Form.{is_name, is_prefixed, are_digits, is_decimal, is_hexadecimal, is_binary, is_binary_digit, is_number, is_quoted, is_string, is_closed, is_mark, is_token, marks, longest, longest_of}
use Rattle.nml_lex.proofs.Words.{among, no_mark, no_name, no_number, no_string}
use Rattle.nk_base.proofs.DigitsValue.{digit_is_no_name_start}

-- ---- the longest token in front

-- so many bytes make a token, where they are some, and no more do
pub record IsLongest (bytes : List ℕ) (k : ℕ) : Type 0 where
  pub reach : k ≤ length bytes
  pub token : 0 < k → IsTrue (is_token (take k bytes))
  pub no_more : (n : ℕ) → k < n → n ≤ length bytes → is_token (take n bytes) ≡ false

longest_up_to : (m : ℕ) (bytes : List ℕ) (k : ℕ) → IsLongest bytes k → k ≤ m → m ≤ length bytes → longest_of m bytes ≡ k
longest_up_to zero bytes k w low high = omega arith
longest_up_to (suc m) bytes k w low high = elim (cases_lt k (suc m)) as (λ _. longest_of (suc m) bytes ≡ k) [
  | inl less ↦ cond-false (is_token (take (suc m) bytes)) (suc m) (longest_of m bytes) (w.no_more (suc m) less high) ∙ longest_up_to m bytes k w (omega arith) (omega arith)
  | inr most ↦ longest_here m bytes k w (omega arith)
] where
  longest_here : (m : ℕ) (bytes : List ℕ) (k : ℕ) → IsLongest bytes k → suc m ≡ k → longest_of (suc m) bytes ≡ k
  longest_here m bytes k w e = cond-true (is_token (take (suc m) bytes)) (suc m) (longest_of m bytes) (ap (λ n. is_token (take n bytes)) e ∙ w.token (omega arith)) ∙ e

pub longest_is : (bytes : List ℕ) (k : ℕ) → IsLongest bytes k → longest bytes ≡ k
longest_is bytes k w = longest_up_to (length bytes) bytes k w w.reach (omega arith)

-- ---- runs

-- how long the run of bytes in front is that pass a test, that they pass, and that no more do
run_more : (p : ℕ → Bool) (x : ℕ) (xs : List ℕ) → p x ≡ true → prefix_len p (x ∷ xs) ≡ suc (prefix_len p xs)
run_more p x xs h = cond-true (p x) (1 + prefix_len p xs) 0 h ∙ one-add (prefix_len p xs)

run_stop : (p : ℕ → Bool) (x : ℕ) (xs : List ℕ) → p x ≡ false → prefix_len p (x ∷ xs) ≡ 0
run_stop p x xs h = cond-false (p x) (1 + prefix_len p xs) 0 h

run_within : (p : ℕ → Bool) (xs : List ℕ) → prefix_len p xs ≤ length xs
run_within p xs = omega (arith, length-prefix_len p xs, length-take (prefix_len p xs) xs)

pub run_passes : (p : ℕ → Bool) (xs : List ℕ) → list_all p (take (prefix_len p xs) xs) ≡ true
run_passes p [] = refl
run_passes p (x ∷ xs) = elim (cases_Bool (p x)) as (λ _. list_all p (take (prefix_len p (x ∷ xs)) (x ∷ xs)) ≡ true) [
  | inl h ↦ ap (λ n. list_all p (take n (x ∷ xs))) (run_more p x xs h) ∙ and_from (p x) (list_all p (take (prefix_len p xs) xs)) h (run_passes p xs)
  | inr h ↦ ap (λ n. list_all p (take n (x ∷ xs))) (run_stop p x xs h)
]

pub run_ends : (p : ℕ → Bool) (xs : List ℕ) (n : ℕ) → prefix_len p xs < n → n ≤ length xs → list_all p (take n xs) ≡ false
run_ends p xs zero low high = absurd (omega arith)
run_ends p [] (suc n) low high = absurd (omega arith)
run_ends p (x ∷ xs) (suc n) low high = elim (cases_Bool (p x)) as (λ _. list_all p (take (suc n) (x ∷ xs)) ≡ false) [
  | inl h ↦ and_right (p x) (list_all p (take n xs)) (run_ends p xs n (omega (arith, run_more p x xs h)) (omega arith))
  | inr h ↦ and_left (p x) (list_all p (take n xs)) h
]

-- ---- names

-- a token that begins with a letter or `_` is a name
start_digit : (c : ℕ) → is_name_start c ≡ true → is_ascii_digit c ≡ false
start_digit c h = grind (arith, nat_tests)

start_quote : (c : ℕ) → is_name_start c ≡ true → eqb c 34 ≡ false
start_quote c h = grind (arith, nat_tests)

pub no_other : (c : ℕ) (t : List ℕ) → is_name_start c ≡ true → is_number (c ∷ t) || (is_string (c ∷ t) || is_mark (c ∷ t)) ≡ false
no_other c t h = or_from (is_number (c ∷ t)) _ (no_number c t (start_digit c h)) (or_from (is_string (c ∷ t)) (is_mark (c ∷ t)) (no_string c t (start_quote c h)) (no_mark is_name_start refl c t h))

name_token : (c : ℕ) (t : List ℕ) → is_name_start c ≡ true → list_all is_name_byte t ≡ true → is_token (c ∷ t) ≡ true
name_token c t h g = or_left (is_name (c ∷ t)) _ (and_from (is_name_start c) (list_all is_name_byte t) h g)

no_name_token : (c : ℕ) (t : List ℕ) → is_name_start c ≡ true → list_all is_name_byte t ≡ false → is_token (c ∷ t) ≡ false
no_name_token c t h g = or_from (is_name (c ∷ t)) _ (and_right (is_name_start c) (list_all is_name_byte t) g) (no_other c t h)

-- the name bytes in front are the longest name
name_more : (c : ℕ) (cs : List ℕ) → is_name_start c ≡ true → (n : ℕ) → suc (prefix_len is_name_byte cs) < n → n ≤ length (c ∷ cs) → is_token (take n (c ∷ cs)) ≡ false
name_more c cs h zero low high = absurd (omega arith)
name_more c cs h (suc n) low high = no_name_token c (take n cs) h (run_ends is_name_byte cs n (omega arith) (omega arith))

name_longest : (c : ℕ) (cs : List ℕ) → is_name_start c ≡ true → IsLongest (c ∷ cs) (suc (prefix_len is_name_byte cs))
name_longest c cs h = record {
  reach = omega (arith, run_within is_name_byte cs);
  token = λ _. name_token c (take (prefix_len is_name_byte cs) cs) h (run_passes is_name_byte cs);
  no_more = name_more c cs h;
}

pub longest_name : (bytes : List ℕ) → IsTrue (is_name_start (slice_index bytes 0)) → longest bytes ≡ length (take_while is_name_byte bytes)
longest_name [] h = absurd (cc)
longest_name (c ∷ cs) h =
    longest_is (c ∷ cs) (suc (prefix_len is_name_byte cs)) (name_longest c cs h) ∙ sym (length-prefix_len is_name_byte (c ∷ cs) ∙ run_more is_name_byte c cs (or_left (is_name_start c) (is_ascii_digit c) h))

pub digit_quote : (c : ℕ) → is_ascii_digit c ≡ true → eqb c 34 ≡ false
digit_quote c h = grind (arith, nat_tests)

-- one of three kinds, where the others are ruled out
or_false : (b : Bool) → b || false ≡ b
or_false true = refl
or_false false = refl

pub only_first : (a b c : Bool) → b ≡ false → c ≡ false → a || (b || c) ≡ a
only_first a b c h g = ap (λ x. a || x) (or_from b c h g) ∙ or_false a

only_middle : (a b c : Bool) → a ≡ false → c ≡ false → a || (b || c) ≡ b
only_middle a b c h g = ap (λ x. x || (b || c)) h ∙ ap (λ x. b || x) g ∙ or_false b

only_last : (a b c : Bool) → a ≡ false → b ≡ false → a || (b || c) ≡ c
only_last a b c h g = ap (λ x. x || (b || c)) h ∙ ap (λ x. x || c) g

-- a token that begins with a digit is a number
pub number_token : (c : ℕ) (t : List ℕ) → is_ascii_digit c ≡ true → is_token (c ∷ t) ≡ is_number (c ∷ t)
number_token c t h =
    only_middle (is_name (c ∷ t)) (is_number (c ∷ t)) (is_string (c ∷ t) || is_mark (c ∷ t)) (no_name c t (digit_is_no_name_start c h))
    (or_from (is_string (c ∷ t)) (is_mark (c ∷ t)) (no_string c t (digit_quote c h)) (no_mark is_ascii_digit refl c t h))

-- a text that is not empty has digits where each byte is one
some_digits : (test : ℕ → Bool) (c : ℕ) (t : List ℕ) → are_digits test (c ∷ t) ≡ (test c && list_all test t)
some_digits test c t = ap (λ b. b && (test c && list_all test t)) (lt-ltb 0 (suc (length t)) (omega arith))

-- a number in front has no prefix
pub record IsPlain (bytes : List ℕ) : Type 0 where
  pub plain : (n : ℕ) → is_number (take n bytes) ≡ is_decimal (take n bytes)

-- the decimal digits in front are the longest number without a prefix
digits_more : (c : ℕ) (cs : List ℕ) → is_ascii_digit c ≡ true → IsPlain (c ∷ cs) → (n : ℕ) → suc (prefix_len is_ascii_digit cs) < n → n ≤ length (c ∷ cs) → is_token (take n (c ∷ cs)) ≡ false
digits_more c cs h p zero low high = absurd (omega arith)
digits_more c cs h p (suc n) low high =
    number_token c (take n cs) h ∙ p.plain (suc n) ∙ some_digits is_ascii_digit c (take n cs)
    ∙ and_right (is_ascii_digit c) (list_all is_ascii_digit (take n cs)) (run_ends is_ascii_digit cs n (omega arith) (omega arith))

digits_longest : (c : ℕ) (cs : List ℕ) → is_ascii_digit c ≡ true → IsPlain (c ∷ cs) → IsLongest (c ∷ cs) (suc (prefix_len is_ascii_digit cs))
digits_longest c cs h p = record {
  reach = omega (arith, run_within is_ascii_digit cs);
  token = λ _. number_token c (take (prefix_len is_ascii_digit cs) cs) h ∙ p.plain (suc (prefix_len is_ascii_digit cs)) ∙ some_digits is_ascii_digit c (take (prefix_len is_ascii_digit cs) cs)
      ∙ and_from (is_ascii_digit c) (list_all is_ascii_digit (take (prefix_len is_ascii_digit cs) cs)) h (run_passes is_ascii_digit cs);
  no_more = digits_more c cs h p;
}

longest_plain : (bytes : List ℕ) → IsTrue (is_ascii_digit (slice_index bytes 0)) → IsPlain bytes → longest bytes ≡ length (take_while is_ascii_digit bytes)
longest_plain [] h p = absurd (cc)
longest_plain (c ∷ cs) h p = longest_is (c ∷ cs) (suc (prefix_len is_ascii_digit cs)) (digits_longest c cs h p) ∙ sym (length-prefix_len is_ascii_digit (c ∷ cs) ∙ run_more is_ascii_digit c cs h)

-- a text without the prefix, and each text in front of it
pub other_prefix : (letter : ℕ) (test : ℕ → Bool) (text : List ℕ) → ((more : List ℕ) → text ≡ 48 ∷ letter ∷ more → ⊥) → is_prefixed letter test text ≡ false
other_prefix letter test [] none = refl
other_prefix letter test (c ∷ []) none = refl
other_prefix letter test (c ∷ d ∷ cs) none =
    and_left (eqb c 48 && eqb d letter) (are_digits test cs) (false_from_ne_true (eqb c 48 && eqb d letter) (two_bytes c d letter cs none)) where
      two_bytes : (c d letter : ℕ) (cs : List ℕ) → ((more : List ℕ) → c ∷ d ∷ cs ≡ 48 ∷ letter ∷ more → ⊥) → eqb c 48 && eqb d letter ≡ true → ⊥
      two_bytes c d letter cs none h = let b = and_parts (eqb c 48) (eqb d letter) h in let e = eqb-true c 48 b.0 in let f = eqb-true d letter b.1 in none cs (cc)

no_prefix_front : (letter : ℕ) (test : ℕ → Bool) (bytes : List ℕ) → ((more : List ℕ) → bytes ≡ 48 ∷ letter ∷ more → ⊥) → (n : ℕ) → is_prefixed letter test (take n bytes) ≡ false
no_prefix_front letter test bytes none n =
    other_prefix letter test (take n bytes) (λ more e. none (more ++ drop n bytes) (sym (take-append-drop n bytes) ∙ ap (λ t. t ++ drop n bytes) e))

pub longest_decimal : (bytes : List ℕ) → IsTrue (is_ascii_digit (slice_index bytes 0)) → ((more : List ℕ) → bytes ≡ 48 ∷ 120 ∷ more → ⊥) → ((more : List ℕ) → bytes ≡ 48 ∷ 98 ∷ more → ⊥)
    → longest bytes ≡ length (take_while is_ascii_digit bytes)
longest_decimal bytes h hexadecimal binary =
    longest_plain bytes h
    (record { plain = λ n. only_first (is_decimal (take n bytes)) (is_hexadecimal (take n bytes)) (is_binary (take n bytes)) (no_prefix_front 120 is_ascii_hexdigit bytes hexadecimal n) (no_prefix_front 98 is_binary_digit bytes binary n) })

-- behind this letter a number has digits that pass the test
pub record IsPrefix (letter : ℕ) (test : ℕ → Bool) : Type 0 where
  pub only : (t : List ℕ) → is_number (48 ∷ letter ∷ t) ≡ are_digits test t
  pub decimal : (t : List ℕ) → is_decimal (48 ∷ letter ∷ t) ≡ false

-- a decimal number has no prefix
no_decimal : (letter : ℕ) → is_ascii_digit letter ≡ false → (t : List ℕ) → is_decimal (48 ∷ letter ∷ t) ≡ false
no_decimal letter h t = and_right (nat_lt 0 (length (48 ∷ letter ∷ t))) (is_ascii_digit letter && list_all is_ascii_digit t) (and_left (is_ascii_digit letter) (list_all is_ascii_digit t) h)

pub hexadecimal_prefix : IsPrefix 120 is_ascii_hexdigit
hexadecimal_prefix = record {
  only = λ t. only_middle (is_decimal (48 ∷ 120 ∷ t)) (are_digits is_ascii_hexdigit t) false (no_decimal 120 refl t) refl;
  decimal = no_decimal 120 refl;
}

pub binary_prefix : IsPrefix 98 is_binary_digit
binary_prefix = record {
  only = λ t. only_last (is_decimal (48 ∷ 98 ∷ t)) false (are_digits is_binary_digit t) (no_decimal 98 refl t) refl;
  decimal = no_decimal 98 refl;
}

-- the digits behind a prefix make the longest number with it
prefixed_more : (letter : ℕ) (test : ℕ → Bool) (ds : List ℕ) → IsPrefix letter test → (n : ℕ) → suc (suc (prefix_len test ds)) < n → n ≤ length (48 ∷ letter ∷ ds) → is_token (take n (48 ∷ letter ∷ ds)) ≡ false
prefixed_more letter test ds p zero low high = absurd (omega arith)
prefixed_more letter test ds p (suc zero) low high = absurd (omega arith)
prefixed_more letter test ds p (suc (suc n)) low high =
    number_token 48 (letter ∷ take n ds) refl ∙ p.only (take n ds) ∙ and_right (nat_lt 0 (length (take n ds))) (list_all test (take n ds)) (run_ends test ds n (omega arith) (omega arith))

prefixed_longest : (letter : ℕ) (test : ℕ → Bool) (ds : List ℕ) → IsPrefix letter test → 0 < prefix_len test ds → IsLongest (48 ∷ letter ∷ ds) (suc (suc (prefix_len test ds)))
prefixed_longest letter test ds p some = record {
  reach = omega (arith, run_within test ds);
  token = λ _. number_token 48 (letter ∷ take (prefix_len test ds) ds) refl ∙ p.only (take (prefix_len test ds) ds)
      ∙ and_from (nat_lt 0 (length (take (prefix_len test ds) ds))) (list_all test (take (prefix_len test ds) ds)) (lt-ltb 0 (length (take (prefix_len test ds) ds)) (omega (arith, length-prefix_len test ds))) (run_passes test ds);
  no_more = prefixed_more letter test ds p;
}

-- without digits behind the prefix its 0 alone is the number
no_digits : (test : ℕ → Bool) (ds : List ℕ) → prefix_len test ds ≡ 0 → (n : ℕ) → are_digits test (take n ds) ≡ false
no_digits test ds h zero = refl
no_digits test [] h (suc n) = refl
no_digits test (d ∷ ds) h (suc n) =
    and_right (nat_lt 0 (length (d ∷ take n ds))) (test d && list_all test (take n ds)) (and_left (test d) (list_all test (take n ds)) (false_from_ne_true (test d) (λ g. absurd (omega (arith, run_more test d ds g)))))

bare_plain : (letter : ℕ) (test : ℕ → Bool) (ds : List ℕ) → IsPrefix letter test → prefix_len test ds ≡ 0 → (n : ℕ) → is_number (take n (48 ∷ letter ∷ ds)) ≡ is_decimal (take n (48 ∷ letter ∷ ds))
bare_plain letter test ds p h zero = refl
bare_plain letter test ds p h (suc zero) = refl
bare_plain letter test ds p h (suc (suc n)) = p.only (take n ds) ∙ no_digits test ds h n ∙ sym (p.decimal (take n ds))

-- a prefix with digits behind it, and without any
longest_prefixed : (letter : ℕ) (test : ℕ → Bool) (bytes ds : List ℕ) → IsPrefix letter test → is_ascii_digit letter ≡ false → bytes ≡ 48 ∷ letter ∷ ds
    → longest bytes ≡ cond (eqb (length (take_while test ds)) 0) 1 (2 + length (take_while test ds))
longest_prefixed letter test bytes ds p other e =
    ap longest e ∙ cond_both (eqb (length (take_while test ds)) 0) 1 (2 + length (take_while test ds)) (λ n. longest (48 ∷ letter ∷ ds) ≡ n) (λ h. bare letter test ds p other h) (λ h. long letter test ds p h) where
      bare : (letter : ℕ) (test : ℕ → Bool) (ds : List ℕ) → IsPrefix letter test → is_ascii_digit letter ≡ false → eqb (length (take_while test ds)) 0 ≡ true → longest (48 ∷ letter ∷ ds) ≡ 1
      bare letter test ds p other h =
          let none : prefix_len test ds ≡ 0 = sym (length-prefix_len test ds) ∙ eqb-true (length (take_while test ds)) 0 h in
          longest_plain (48 ∷ letter ∷ ds) refl (record { plain = bare_plain letter test ds p none })
          ∙ length-prefix_len is_ascii_digit (48 ∷ letter ∷ ds) ∙ run_more is_ascii_digit 48 (letter ∷ ds) refl ∙ ap suc (run_stop is_ascii_digit letter ds other)

      long : (letter : ℕ) (test : ℕ → Bool) (ds : List ℕ) → IsPrefix letter test → eqb (length (take_while test ds)) 0 ≡ false → longest (48 ∷ letter ∷ ds) ≡ 2 + length (take_while test ds)
      long letter test ds p h =
          let some : 0 < length (take_while test ds) = grind (arith, nat_tests) in
          let same = length-prefix_len test ds in
          longest_is (48 ∷ letter ∷ ds) (suc (suc (prefix_len test ds))) (prefixed_longest letter test ds p (omega arith)) ∙ omega arith

-- the two prefixes
pub longest_hexadecimal : (bytes ds : List ℕ) → bytes ≡ 48 ∷ 120 ∷ ds → longest bytes ≡ cond (eqb (length (take_while is_ascii_hexdigit ds)) 0) 1 (2 + length (take_while is_ascii_hexdigit ds))
longest_hexadecimal bytes ds e = longest_prefixed 120 is_ascii_hexdigit bytes ds hexadecimal_prefix refl e

pub longest_binary : (bytes ds : List ℕ) → bytes ≡ 48 ∷ 98 ∷ ds → longest bytes ≡ cond (eqb (length (take_while is_binary_digit ds)) 0) 1 (2 + length (take_while is_binary_digit ds))
longest_binary bytes ds e = longest_prefixed 98 is_binary_digit bytes ds binary_prefix refl e

-- ---- strings

-- a token that begins with a double quote is a string
pub string_token : (t : List ℕ) → is_token (34 ∷ t) ≡ is_closed t
string_token t = only_middle (is_number (34 ∷ t)) (is_closed t) (is_mark (34 ∷ t)) (no_number 34 t refl) (no_mark (λ c. eqb c 34) refl 34 t refl)

-- a run that is not empty, byte by byte
run_parts : (p : ℕ → Bool) (x : ℕ) (xs : List ℕ) (n : ℕ) → prefix_len p (x ∷ xs) ≡ suc n → (p x ≡ true) × (prefix_len p xs ≡ n)
run_parts p x xs n h = elim (cases_Bool (p x)) as (λ _. (p x ≡ true) × (prefix_len p xs ≡ n)) [
  | inl e ↦ (e, omega (arith, run_more p x xs e))
  | inr e ↦ absurd (omega (arith, run_stop p x xs e))
]

closed_more : (c : ℕ) (t : List ℕ) → is_quoted c ≡ true → is_closed t ≡ true → is_closed (c ∷ t) ≡ true
closed_more c [] h g = absurd (cc)
closed_more c (d ∷ t) h g = and_from (is_quoted c) (is_closed (d ∷ t)) h g

-- the first byte that no string has is a quote: there the string is closed, and nowhere else
closed_here : (cs : List ℕ) (n : ℕ) → prefix_len is_quoted cs ≡ n → get_or cs n 0 ≡ 34 → is_closed (take (suc n) cs) ≡ true
closed_here [] n e h = absurd (omega arith)
closed_here (c ∷ cs) zero e h = eq-eqb c 34 h
closed_here (c ∷ cs) (suc n) e h = let b = run_parts is_quoted c cs n e in closed_more c (take (suc n) cs) b.0 (closed_here cs n b.1 h)

-- a string that is closed behind n bytes
pub record ClosesAt (cs : List ℕ) (n : ℕ) : Type 0 where
  pub length_is : n ≡ suc (prefix_len is_quoted cs)
  pub quote : get_or cs (prefix_len is_quoted cs) 0 ≡ 34

closed_only : (cs : List ℕ) (n : ℕ) → n ≤ length cs → is_closed (take n cs) ≡ true → ClosesAt cs n
closed_only cs zero h g = absurd (cc)
closed_only [] (suc n) h g = absurd (cc)
closed_only (c ∷ cs) (suc zero) h g =
    let e = eqb-true c 34 g in
    let outside : is_quoted c ≡ false = ap is_quoted e in
    let none = run_stop is_quoted c cs outside in record { length_is = omega arith; quote = ap (λ n. get_or (c ∷ cs) n 0) none ∙ e }
closed_only (c ∷ []) (suc (suc n)) h g = absurd (omega arith)
closed_only (c ∷ d ∷ cs) (suc (suc n)) h g =
    let b = and_parts (is_quoted c) (is_closed (d ∷ take n cs)) g in
    let m = closed_only (d ∷ cs) (suc n) (omega arith) b.1 in
    let more = run_more is_quoted c (d ∷ cs) b.0 in
    record { length_is = ap suc (m.length_is ∙ sym more); quote = ap (λ n. get_or (c ∷ d ∷ cs) n 0) more ∙ m.quote }

-- a byte that is a quote is one of the bytes
within_list : (cs : List ℕ) (n : ℕ) → get_or cs n 0 ≡ 34 → n < length cs
within_list [] n h = absurd (omega arith)
within_list (c ∷ cs) zero h = omega arith
within_list (c ∷ cs) (suc n) h = omega (arith, within_list cs n h)

-- a string in front is closed at the first byte that none has
closed_token : (cs : List ℕ) (n : ℕ) → n ≤ length (34 ∷ cs) → is_token (take n (34 ∷ cs)) ≡ true → (n ≡ suc (suc (prefix_len is_quoted cs))) × (get_or cs (prefix_len is_quoted cs) 0 ≡ 34)
closed_token cs zero h g = absurd (cc)
closed_token cs (suc n) h g = let m = closed_only cs n (omega arith) (sym (string_token (take n cs)) ∙ g) in (ap suc m.length_is, m.quote)

string_longest : (cs : List ℕ) → get_or cs (prefix_len is_quoted cs) 0 ≡ 34 → IsLongest (34 ∷ cs) (suc (suc (prefix_len is_quoted cs)))
string_longest cs h = record {
  reach = omega (arith, within_list cs (prefix_len is_quoted cs) h);
  token = λ _. string_token (take (suc (prefix_len is_quoted cs)) cs) ∙ closed_here cs (prefix_len is_quoted cs) refl h;
  no_more = λ n low high. false_from_ne_true (is_token (take n (34 ∷ cs))) (λ g. let e = (closed_token cs n high g).0 in absurd (omega arith));
}

open_longest : (cs : List ℕ) → (get_or cs (prefix_len is_quoted cs) 0 ≡ 34 → ⊥) → IsLongest (34 ∷ cs) 0
open_longest cs h = record {
  reach = omega arith;
  token = λ some. absurd (omega arith);
  no_more = λ n low high. false_from_ne_true (is_token (take n (34 ∷ cs))) (λ g. h (closed_token cs n high g).1);
}

pub longest_string : (cs : List ℕ) (n : ℕ) → n ≡ length (take_while is_quoted cs) → get_or cs n 0 ≡ 34 → longest (34 ∷ cs) ≡ n + 2
longest_string cs n e h =
    let same : n ≡ prefix_len is_quoted cs = e ∙ length-prefix_len is_quoted cs in
    longest_is (34 ∷ cs) (suc (suc (prefix_len is_quoted cs))) (string_longest cs (sym (ap (λ k. get_or cs k 0) same) ∙ h)) ∙ omega arith

pub longest_open : (cs : List ℕ) (n : ℕ) → n ≡ length (take_while is_quoted cs) → (get_or cs n 0 ≡ 34 → ⊥) → longest (34 ∷ cs) ≡ 0
longest_open cs n e h =
    let same : n ≡ prefix_len is_quoted cs = e ∙ length-prefix_len is_quoted cs in
    longest_is (34 ∷ cs) 0 (open_longest cs (λ g. h (ap (λ k. get_or cs k 0) same ∙ g)))

-- ---- marks

-- a byte that begins no name, no number and no string
pub record IsOther (c : ℕ) : Type 0 where
  pub no_start : is_name_start c ≡ false
  pub no_digit : is_ascii_digit c ≡ false
  pub no_quote : eqb c 34 ≡ false

-- a token that begins with such a byte is a mark
mark_token : (c : ℕ) (t : List ℕ) → IsOther c → is_token (c ∷ t) ≡ is_mark (c ∷ t)
mark_token c t o =
    only_last (is_name (c ∷ t)) (is_number (c ∷ t)) (is_string (c ∷ t) || is_mark (c ∷ t)) (no_name c t o.no_start) (no_number c t o.no_digit) ∙ ap (λ b. b || is_mark (c ∷ t)) (no_string c t o.no_quote)

-- no mark has three bytes
long_mark : (c d e : ℕ) (t : List ℕ) → is_mark (c ∷ d ∷ e ∷ t) ≡ false
long_mark c d e t = false_from_ne_true (is_mark (c ∷ d ∷ e ∷ t)) (λ h. let short = leb-true (length (c ∷ d ∷ e ∷ t)) 2 (among (λ text. nat_le (length text) 2) marks (c ∷ d ∷ e ∷ t) refl h) in omega arith)

-- no two bytes in front are a mark
pub record HasNoDouble (c : ℕ) (cs : List ℕ) : Type 0 where
  pub none : (d : ℕ) (ds : List ℕ) → cs ≡ d ∷ ds → is_mark (c ∷ d ∷ []) ≡ false

-- a mark of two bytes is the longest
double_more : (c d : ℕ) (cs : List ℕ) → IsOther c → (n : ℕ) → 2 < n → n ≤ length (c ∷ d ∷ cs) → is_token (take n (c ∷ d ∷ cs)) ≡ false
double_more c d cs o zero low high = absurd (omega arith)
double_more c d cs o (suc zero) low high = absurd (omega arith)
double_more c d cs o (suc (suc zero)) low high = absurd (omega arith)
double_more c d [] o (suc (suc (suc n))) low high = absurd (omega arith)
double_more c d (e ∷ cs) o (suc (suc (suc n))) low high = mark_token c (d ∷ e ∷ take n cs) o ∙ long_mark c d e (take n cs)

double_longest : (c d : ℕ) (cs : List ℕ) → IsOther c → is_mark (c ∷ d ∷ []) ≡ true → IsLongest (c ∷ d ∷ cs) 2
double_longest c d cs o h = record { reach = omega arith; token = λ _. mark_token c (d ∷ []) o ∙ h; no_more = double_more c d cs o }

pub longest_double : (c d : ℕ) (cs ds : List ℕ) → IsOther c → cs ≡ d ∷ ds → is_mark (c ∷ d ∷ []) ≡ true → longest (c ∷ cs) ≡ 2
longest_double c d cs ds o e h = ap (λ t. longest (c ∷ t)) e ∙ longest_is (c ∷ d ∷ ds) 2 (double_longest c d ds o h)

-- where there is none, a mark of one byte is
single_more : (c : ℕ) (cs : List ℕ) → IsOther c → HasNoDouble c cs → (n : ℕ) → 1 < n → n ≤ length (c ∷ cs) → is_token (take n (c ∷ cs)) ≡ false
single_more c cs o h zero low high = absurd (omega arith)
single_more c cs o h (suc zero) low high = absurd (omega arith)
single_more c [] o h (suc (suc n)) low high = absurd (omega arith)
single_more c (d ∷ cs) o h (suc (suc zero)) low high = mark_token c (d ∷ []) o ∙ h.none d cs refl
single_more c (d ∷ cs) o h (suc (suc (suc n))) low high = double_more c d cs o (suc (suc (suc n))) (omega arith) high

single_longest : (c : ℕ) (cs : List ℕ) → IsOther c → HasNoDouble c cs → is_mark (c ∷ []) ≡ true → IsLongest (c ∷ cs) 1
single_longest c cs o h one = record { reach = omega arith; token = λ _. mark_token c [] o ∙ one; no_more = single_more c cs o h }

pub longest_single : (c : ℕ) (cs : List ℕ) → IsOther c → HasNoDouble c cs → is_mark (c ∷ []) ≡ true → longest (c ∷ cs) ≡ 1
longest_single c cs o h one = longest_is (c ∷ cs) 1 (single_longest c cs o h one)

-- and where that is none, no token begins
none_more : (c : ℕ) (cs : List ℕ) → IsOther c → HasNoDouble c cs → is_mark (c ∷ []) ≡ false → (n : ℕ) → 0 < n → n ≤ length (c ∷ cs) → is_token (take n (c ∷ cs)) ≡ false
none_more c cs o h one zero low high = absurd (omega arith)
none_more c cs o h one (suc zero) low high = mark_token c [] o ∙ one
none_more c cs o h one (suc (suc n)) low high = single_more c cs o h (suc (suc n)) (omega arith) high

none_longest : (c : ℕ) (cs : List ℕ) → IsOther c → HasNoDouble c cs → is_mark (c ∷ []) ≡ false → IsLongest (c ∷ cs) 0
none_longest c cs o h one = record { reach = omega arith; token = λ some. absurd (omega arith); no_more = none_more c cs o h one }

pub longest_none : (c : ℕ) (cs : List ℕ) → IsOther c → HasNoDouble c cs → is_mark (c ∷ []) ≡ false → longest (c ∷ cs) ≡ 0
longest_none c cs o h one = longest_is (c ∷ cs) 0 (none_longest c cs o h one)

-- what is known of the first of the bytes behind
pub double_found : (c d : ℕ) (cs : List ℕ) → IsOther c → Some d ≡ slice_get cs 0 → is_mark (c ∷ d ∷ []) ≡ true → longest (c ∷ cs) ≡ 2
double_found c d [] o e h = absurd (cc)
double_found c d (f ∷ cs) o e h = let same : f ≡ d = cc in longest_double c d (f ∷ cs) cs o (ap (λ x. x ∷ cs) same) h

pub second_known : (c d : ℕ) (cs : List ℕ) → Some d ≡ slice_get cs 0 → is_mark (c ∷ d ∷ []) ≡ false → HasNoDouble c cs
second_known c d [] e h = absurd (cc)
second_known c d (f ∷ cs) e h = let same : d ≡ f = cc in record { none = λ g gs i. let more : d ≡ g = cc in ap (λ x. is_mark (c ∷ x ∷ [])) (sym more) ∙ h }

pub second_missing : (c : ℕ) (cs : List ℕ) → None ≡ slice_get cs 0 → HasNoDouble c cs
second_missing c [] e = record { none = λ d ds i. absurd (cc) }
second_missing c (f ∷ cs) e = absurd (cc)

-- whether the byte at this place is a quote
pub quote_at : (cs : List ℕ) (n : ℕ) (r : Option (Bor ℕ)) (b : Bor ℕ) → b.now ≡ 34 → MatchOption r (length cs ≤ n) (λ x. (n < length cs) × HoldsAt (λ y. x.now ≡ y) cs n) → option_eq (λ x y. eqb x.now y.now) r (Some b) ≡ true → get_or cs n 0 ≡ 34
quote_at cs n None b is h e = absurd (cc)
quote_at cs n (Some x) b is h e = sym (h.1 0) ∙ eqb-true x.now b.now e ∙ is

pub no_quote_at : (cs : List ℕ) (n : ℕ) (r : Option (Bor ℕ)) (b : Bor ℕ) → b.now ≡ 34 → MatchOption r (length cs ≤ n) (λ x. (n < length cs) × HoldsAt (λ y. x.now ≡ y) cs n) → option_eq (λ x y. eqb x.now y.now) r (Some b) ≡ false
    → get_or cs n 0 ≡ 34 → ⊥
no_quote_at cs n None b is h e g = absurd (omega (arith, get_or_past cs n 0 h))
no_quote_at cs n (Some x) b is h e g = eqb-false x.now b.now e (h.1 0 ∙ g ∙ sym is)

-- ---- the first byte decides

-- at a letter or `_`
pub name_first : (bytes : List ℕ) (c : ℕ) (cs : List ℕ) → bytes ≡ c ∷ cs → is_name_start c ≡ true → longest bytes ≡ length (take_while is_name_byte bytes)
name_first bytes c cs e h = longest_name bytes (ap (λ t. is_name_start (slice_index t 0)) e ∙ h)
