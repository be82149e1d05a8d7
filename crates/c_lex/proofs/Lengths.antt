-- How long a program's longest token is, by the kind of its first byte.
use Rattle.std.proofs.Common.{◌≡◌, ◌∙◌, ap, refl, sym, ℕ, zero, suc, ◌+◌, ◌<◌, ◌≤◌, cond, eqb, not, nat_le, nat_lt, ◌&&◌, ◌||◌, Bool, true, false, List, [], ◌∷◌, ◌++◌, length, take, drop, length-take, length-take-le, take-append-drop, slice_index, slice_get, IsTrue, arith, one-add, eqb-true, take_while, Some, ne_eqb}
use Rattle.std.proofs.lemmas.Bool.{and_left, and_right, and_from, and_parts, or_from, or_left, cond-true, cond_both, both_ways, lt-ltb, leb-true, le-leb}
use Rattle.std.proofs.lemmas.Bool.Decides.{nat_tests}
use Rattle.std.proofs.lemmas.List.Folds.{length-prefix_len}
use Rattle.std.specs.Char.{is_ascii_digit, is_ascii_hexdigit}
use Rattle.std.specs.List.{list_all, prefix_len}
use Rattle.nk_base.specs.Byte.{is_name_start, is_name_byte}
use Rattle.nml_lex.specs.Form.{is_hexadecimal, are_digits}
use Rattle.nml_lex.proofs.Lengths.{run_passes, run_ends, other_prefix}
use Rattle.c_lex.specs.Form.{is_decimal, is_number, is_mark, is_token}
use Rattle.c_lex.specs.Lexing.{begins_comment}
use Rattle.c_lex.specs.Lexed.{c, longest}
use Rattle.c_lex.proofs.Longest.{IsLongest, longest_is}
use Rattle.c_lex.proofs.Words.{name_token, number_token, mark_token, long_mark}

-- ---- runs

run_more : (p : ℕ → Bool) (x : ℕ) (xs : List ℕ) → p x ≡ true → prefix_len p (x ∷ xs) ≡ suc (prefix_len p xs)
run_more p x xs h = cond-true (p x) (1 + prefix_len p xs) 0 h ∙ one-add (prefix_len p xs)

run_within : (p : ℕ → Bool) (xs : List ℕ) → prefix_len p xs ≤ length xs
run_within p xs = omega (arith, length-prefix_len p xs, length-take (prefix_len p xs) xs)

-- ---- comments

-- a byte that is no slash begins none
pub no_comment : (b : ℕ) (t : List ℕ) → eqb b 47 ≡ false → begins_comment (b ∷ t) ≡ false
no_comment b [] h = refl
no_comment b (d ∷ t) h = and_left (eqb b 47) (eqb d 47 || eqb d 42) h

start_slash : (b : ℕ) → is_name_start b ≡ true → eqb b 47 ≡ false
start_slash b h = grind (arith, nat_tests)

digit_slash : (b : ℕ) → is_ascii_digit b ≡ true → eqb b 47 ≡ false
digit_slash b h = grind (arith, nat_tests)

-- ---- words

-- the name bytes in front are the longest word
name_more : (b : ℕ) (t : List ℕ) → is_name_start b ≡ true → (n : ℕ) → suc (prefix_len is_name_byte t) < n → n ≤ length (b ∷ t) → is_token (take n (b ∷ t)) ≡ false
name_more b t h zero low high = absurd (omega arith)
name_more b t h (suc n) low high = name_token b (take n t) h ∙ and_right (is_name_start b) (list_all is_name_byte (take n t)) (run_ends is_name_byte t n (omega arith) (omega arith))

name_longest : (b : ℕ) (t : List ℕ) → is_name_start b ≡ true → IsLongest is_token (b ∷ t) (suc (prefix_len is_name_byte t))
name_longest b t h = record {
  reach = omega (arith, run_within is_name_byte t);
  token = λ _. name_token b (take (prefix_len is_name_byte t) t) h ∙ and_from (is_name_start b) (list_all is_name_byte (take (prefix_len is_name_byte t) t)) h (run_passes is_name_byte t);
  no_more = name_more b t h;
}

pub longest_name : (bytes : List ℕ) (b : ℕ) → Some b ≡ slice_get bytes 0 → is_name_start b ≡ true → longest bytes ≡ length (take_while is_name_byte bytes)
longest_name [] b e h = absurd (cc)
longest_name (d ∷ t) b e h =
    let g : is_name_start d ≡ true = let same : b ≡ d = cc in ap is_name_start (sym same) ∙ h in
    longest_is c (d ∷ t) (suc (prefix_len is_name_byte t)) (no_comment d t (start_slash d g)) (name_longest d t g)
    ∙ sym (length-prefix_len is_name_byte (d ∷ t) ∙ run_more is_name_byte d t (or_left (is_name_start d) (is_ascii_digit d) g))

-- ---- numbers

-- a 0 and an `x` with digits behind them, and no decimal number
hexadecimal_only : (t : List ℕ) → is_number (48 ∷ 120 ∷ t) ≡ are_digits is_ascii_hexdigit t
hexadecimal_only t = ap (λ b. b || is_hexadecimal (48 ∷ 120 ∷ t)) (and_left (is_ascii_digit 48 && list_all is_ascii_digit (120 ∷ t)) (not (eqb 48 48) || eqb (length (120 ∷ t)) 0) refl)

-- the digits behind the prefix make the longest number with it
prefixed_more : (ds : List ℕ) (n : ℕ) → suc (suc (prefix_len is_ascii_hexdigit ds)) < n → n ≤ length (48 ∷ 120 ∷ ds) → is_token (take n (48 ∷ 120 ∷ ds)) ≡ false
prefixed_more ds zero low high = absurd (omega arith)
prefixed_more ds (suc zero) low high = absurd (omega arith)
prefixed_more ds (suc (suc n)) low high =
    number_token 48 (120 ∷ take n ds) refl ∙ hexadecimal_only (take n ds)
    ∙ and_right (nat_lt 0 (length (take n ds))) (list_all is_ascii_hexdigit (take n ds)) (run_ends is_ascii_hexdigit ds n (omega arith) (omega arith))

prefixed_longest : (ds : List ℕ) → 0 < prefix_len is_ascii_hexdigit ds → IsLongest is_token (48 ∷ 120 ∷ ds) (suc (suc (prefix_len is_ascii_hexdigit ds)))
prefixed_longest ds some = record {
  reach = omega (arith, run_within is_ascii_hexdigit ds);
  token = λ _. number_token 48 (120 ∷ take (prefix_len is_ascii_hexdigit ds) ds) refl ∙ hexadecimal_only (take (prefix_len is_ascii_hexdigit ds) ds)
      ∙ and_from (nat_lt 0 (length (take (prefix_len is_ascii_hexdigit ds) ds))) (list_all is_ascii_hexdigit (take (prefix_len is_ascii_hexdigit ds) ds))
      (lt-ltb 0 (length (take (prefix_len is_ascii_hexdigit ds) ds)) (omega (arith, length-prefix_len is_ascii_hexdigit ds))) (run_passes is_ascii_hexdigit ds);
  no_more = prefixed_more ds;
}

-- without digits behind it the 0 alone is the number
no_digits : (ds : List ℕ) → prefix_len is_ascii_hexdigit ds ≡ 0 → (n : ℕ) → n ≤ length ds → are_digits is_ascii_hexdigit (take n ds) ≡ false
no_digits ds h zero high = refl
no_digits ds h (suc n) high =
    and_right (nat_lt 0 (length (take (suc n) ds))) (list_all is_ascii_hexdigit (take (suc n) ds)) (run_ends is_ascii_hexdigit ds (suc n) (omega arith) high)

bare_more : (ds : List ℕ) → prefix_len is_ascii_hexdigit ds ≡ 0 → (n : ℕ) → 1 < n → n ≤ length (48 ∷ 120 ∷ ds) → is_token (take n (48 ∷ 120 ∷ ds)) ≡ false
bare_more ds h zero low high = absurd (omega arith)
bare_more ds h (suc zero) low high = absurd (omega arith)
bare_more ds h (suc (suc n)) low high = number_token 48 (120 ∷ take n ds) refl ∙ hexadecimal_only (take n ds) ∙ no_digits ds h n (omega arith)

bare_longest : (ds : List ℕ) → prefix_len is_ascii_hexdigit ds ≡ 0 → IsLongest is_token (48 ∷ 120 ∷ ds) 1
bare_longest ds h = record { reach = omega arith; token = λ _. refl; no_more = bare_more ds h }

pub longest_hexadecimal : (bytes ds : List ℕ) → bytes ≡ 48 ∷ 120 ∷ ds → longest bytes ≡ cond (eqb (length (take_while is_ascii_hexdigit ds)) 0) 1 (2 + length (take_while is_ascii_hexdigit ds))
longest_hexadecimal bytes ds e =
    ap longest e ∙ cond_both (eqb (length (take_while is_ascii_hexdigit ds)) 0) 1 (2 + length (take_while is_ascii_hexdigit ds)) (λ n. longest (48 ∷ 120 ∷ ds) ≡ n) bare full where
      same : length (take_while is_ascii_hexdigit ds) ≡ prefix_len is_ascii_hexdigit ds
      same = length-prefix_len is_ascii_hexdigit ds

      bare : eqb (length (take_while is_ascii_hexdigit ds)) 0 ≡ true → longest (48 ∷ 120 ∷ ds) ≡ 1
      bare h = longest_is c (48 ∷ 120 ∷ ds) 1 refl (bare_longest ds (sym same ∙ eqb-true (length (take_while is_ascii_hexdigit ds)) 0 h))

      full : eqb (length (take_while is_ascii_hexdigit ds)) 0 ≡ false → longest (48 ∷ 120 ∷ ds) ≡ 2 + length (take_while is_ascii_hexdigit ds)
      full h =
          let some : 0 < length (take_while is_ascii_hexdigit ds) = grind (arith, nat_tests) in
          longest_is c (48 ∷ 120 ∷ ds) (suc (suc (prefix_len is_ascii_hexdigit ds))) refl (prefixed_longest ds (omega (arith, same))) ∙ omega (arith, same)

-- no front of bytes without the prefix has it
no_prefix_front : (bytes : List ℕ) → ((more : List ℕ) → bytes ≡ 48 ∷ 120 ∷ more → ⊥) → (n : ℕ) → is_hexadecimal (take n bytes) ≡ false
no_prefix_front bytes none n =
    other_prefix 120 is_ascii_hexdigit (take n bytes) (λ more e. none (more ++ drop n bytes) (sym (take-append-drop n bytes) ∙ ap (λ t. t ++ drop n bytes) e))

-- a 0 without the prefix is a number alone
zero_more : (t : List ℕ) → ((more : List ℕ) → 48 ∷ t ≡ 48 ∷ 120 ∷ more → ⊥) → (n : ℕ) → 1 < n → n ≤ length (48 ∷ t) → is_token (take n (48 ∷ t)) ≡ false
zero_more t none zero low high = absurd (omega arith)
zero_more t none (suc zero) low high = absurd (omega arith)
zero_more [] none (suc (suc n)) low high = absurd (omega arith)
zero_more (d ∷ t) none (suc (suc n)) low high =
    number_token 48 (d ∷ take n t) refl
    ∙ or_from (is_decimal (48 ∷ d ∷ take n t)) (is_hexadecimal (48 ∷ d ∷ take n t)) (and_right (is_ascii_digit 48 && list_all is_ascii_digit (d ∷ take n t)) (not (eqb 48 48) || eqb (suc (length (take n t))) 0) (ne_eqb (suc (length (take n t))) 0 (λ e. omega (arith, e)))) (no_prefix_front (48 ∷ d ∷ t) none (suc (suc n)))

pub longest_zero : (bytes : List ℕ) → slice_index bytes 0 ≡ 48 → ((more : List ℕ) → bytes ≡ 48 ∷ 120 ∷ more → ⊥) → longest bytes ≡ 1
longest_zero [] e none = absurd (omega arith)
longest_zero (b ∷ t) e none =
    let i : b ∷ t ≡ 48 ∷ t = ap (λ x. x ∷ t) e in
    ap longest i ∙ longest_is c (48 ∷ t) 1 (no_comment 48 t refl) (record { reach = omega arith; token = λ _. refl; no_more = zero_more t (λ more f. none more (i ∙ f)) })

-- decimal digits without a zero in front
decimal_is : (b : ℕ) (t : List ℕ) → is_ascii_digit b ≡ true → eqb b 48 ≡ false → is_decimal (b ∷ t) ≡ list_all is_ascii_digit t
decimal_is b t h g = by (is_ascii_digit b) (eqb b 48) (list_all is_ascii_digit t) h g where
  by : (x y z : Bool) → x ≡ true → y ≡ false → (x && z) && (not y || eqb (length t) 0) ≡ z
  by true false true e f = refl
  by true false false e f = refl
  by true true z e f = absurd (cc)
  by false y z e f = absurd (cc)

digits_are : (b : ℕ) (t : List ℕ) → is_ascii_digit b ≡ true → eqb b 48 ≡ false → is_token (b ∷ t) ≡ list_all is_ascii_digit t
digits_are b t h g =
    number_token b t h ∙ ap (λ x. is_decimal (b ∷ t) || x) (other_prefix 120 is_ascii_hexdigit (b ∷ t) (λ more e. let same : b ≡ 48 = cc in both_ways (eqb b 48) g (ap (λ x. eqb x 48) same)))
    ∙ or_false (is_decimal (b ∷ t)) ∙ decimal_is b t h g where
      or_false : (a : Bool) → a || false ≡ a
      or_false true = refl
      or_false false = refl

digits_more : (b : ℕ) (t : List ℕ) → is_ascii_digit b ≡ true → eqb b 48 ≡ false → (n : ℕ) → suc (prefix_len is_ascii_digit t) < n → n ≤ length (b ∷ t) → is_token (take n (b ∷ t)) ≡ false
digits_more b t h g zero low high = absurd (omega arith)
digits_more b t h g (suc n) low high = digits_are b (take n t) h g ∙ run_ends is_ascii_digit t n (omega arith) (omega arith)

digits_longest : (b : ℕ) (t : List ℕ) → is_ascii_digit b ≡ true → eqb b 48 ≡ false → IsLongest is_token (b ∷ t) (suc (prefix_len is_ascii_digit t))
digits_longest b t h g = record {
  reach = omega (arith, run_within is_ascii_digit t);
  token = λ _. digits_are b (take (prefix_len is_ascii_digit t) t) h g ∙ run_passes is_ascii_digit t;
  no_more = digits_more b t h g;
}

pub longest_decimal : (bytes : List ℕ) → IsTrue (is_ascii_digit (slice_index bytes 0)) → eqb (slice_index bytes 0) 48 ≡ false → longest bytes ≡ length (take_while is_ascii_digit bytes)
longest_decimal [] h g = absurd (cc)
longest_decimal (b ∷ t) h g =
    longest_is c (b ∷ t) (suc (prefix_len is_ascii_digit t)) (no_comment b t (digit_slash b h)) (digits_longest b t h g)
    ∙ sym (length-prefix_len is_ascii_digit (b ∷ t) ∙ run_more is_ascii_digit b t h)

-- ---- marks

-- bytes whose first begins no word, no number and no comment
pub record IsOther (bytes : List ℕ) : Type 0 where
  pub no_start : is_name_start (slice_index bytes 0) ≡ false
  pub no_digit : is_ascii_digit (slice_index bytes 0) ≡ false
  pub no_comment : begins_comment bytes ≡ false

-- each front of them is a token where it is a mark
mark_front : (bytes : List ℕ) → IsOther bytes → (n : ℕ) → is_token (take n bytes) ≡ is_mark (take n bytes)
mark_front bytes o zero = refl
mark_front [] o (suc n) = refl
mark_front (b ∷ t) o (suc n) = mark_token b (take n t) o.no_start o.no_digit

-- whether so many bytes in front are a mark
abbrev pub has_mark : ℕ → List ℕ → Bool
has_mark n bytes = nat_le n (length bytes) && is_mark (take n bytes)

-- so many are none, where there are so many
none_here : (bytes : List ℕ) (n : ℕ) → has_mark n bytes ≡ false → n ≤ length bytes → is_mark (take n bytes) ≡ false
none_here bytes n h within = sym (ap (λ x. x && is_mark (take n bytes)) (le-leb n (length bytes) within)) ∙ h

-- where no more bytes in front are a mark, up to three
above : (bytes : List ℕ) (k : ℕ) → IsOther bytes → (k < 1 → has_mark 1 bytes ≡ false) → (k < 2 → has_mark 2 bytes ≡ false) → (k < 3 → has_mark 3 bytes ≡ false) → (n : ℕ) → k < n → n ≤ length bytes
    → is_token (take n bytes) ≡ false
above bytes k o one two three zero low high = absurd (omega arith)
above bytes k o one two three (suc zero) low high = mark_front bytes o 1 ∙ none_here bytes 1 (one low) high
above bytes k o one two three (suc (suc zero)) low high = mark_front bytes o 2 ∙ none_here bytes 2 (two low) high
above bytes k o one two three (suc (suc (suc zero))) low high = mark_front bytes o 3 ∙ none_here bytes 3 (three low) high
above bytes k o one two three (suc (suc (suc (suc n)))) low high =
    mark_front bytes o (suc (suc (suc (suc n)))) ∙ long_mark (take (suc (suc (suc (suc n)))) bytes) (omega (arith, length-take-le (suc (suc (suc (suc n)))) bytes high))

mark_longest : (bytes : List ℕ) (k : ℕ) → IsOther bytes → has_mark k bytes ≡ true → (k < 1 → has_mark 1 bytes ≡ false) → (k < 2 → has_mark 2 bytes ≡ false) → (k < 3 → has_mark 3 bytes ≡ false) → longest bytes ≡ k
mark_longest bytes k o h one two three =
    let both = and_parts (nat_le k (length bytes)) (is_mark (take k bytes)) h in
    longest_is c bytes k o.no_comment (record { reach = leb-true k (length bytes) both.0; token = λ _. mark_front bytes o k ∙ both.1; no_more = above bytes k o one two three })

pub longest_three : (bytes : List ℕ) → IsOther bytes → has_mark 3 bytes ≡ true → longest bytes ≡ 3
longest_three bytes o h = mark_longest bytes 3 o h (λ low. absurd (omega arith)) (λ low. absurd (omega arith)) (λ low. absurd (omega arith))

pub longest_two : (bytes : List ℕ) → IsOther bytes → has_mark 3 bytes ≡ false → has_mark 2 bytes ≡ true → longest bytes ≡ 2
longest_two bytes o three h = mark_longest bytes 2 o h (λ low. absurd (omega arith)) (λ low. absurd (omega arith)) (λ _. three)

pub longest_one : (bytes : List ℕ) → IsOther bytes → has_mark 3 bytes ≡ false → has_mark 2 bytes ≡ false → has_mark 1 bytes ≡ true → longest bytes ≡ 1
longest_one bytes o three two h = mark_longest bytes 1 o h (λ low. absurd (omega arith)) (λ _. two) (λ _. three)

pub longest_none : (bytes : List ℕ) → IsOther bytes → has_mark 3 bytes ≡ false → has_mark 2 bytes ≡ false → has_mark 1 bytes ≡ false → longest bytes ≡ 0
longest_none bytes o three two one =
    longest_is c bytes 0 o.no_comment (record { reach = omega arith; token = λ some. absurd (omega arith); no_more = above bytes 0 o (λ _. one) (λ _. two) (λ _. three) })
