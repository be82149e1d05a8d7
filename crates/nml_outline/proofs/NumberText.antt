-- A number in decimal is read as one token.
use Rattle.std.proofs.Common.{ℕ, suc, ◌+◌, ◌^◌, ◌<◌, ◌≡◌, refl, ◌∙◌, ap, true, false, ℤ, pos, negsuc, List, [], ◌∷◌, ◌++◌, length, take, arith}
use Rattle.std.specs.Prelude.{◌&&◌, cond, nat_lt, neg_ℤ, take_while}
use Rattle.std.specs.Char.{is_ascii_digit, digit_value}
use Rattle.std.specs.List.{prefix_len, list_all}
use Rattle.std.specs.Fmt.{decimal, signed_decimal}
use Rattle.std.specs.Str.Parse.{digits_value, AllDigits}
use Rattle.std.proofs.lemmas.Bool.{and_parts, lt-ltb}
use Rattle.std.proofs.lemmas.Fmt.{decimal_is_IsNumeral_wide}
use Rattle.std.proofs.lemmas.Bool.Decides.{nat_tests}
use Rattle.nk_base.specs.Byte.{is_name_start}
use Rattle.nk_base.proofs.DigitsValue.{digit_is_no_name_start}
use Rattle.nml_tree.specs.LineToken.{LineToken, Number, Begun, begun, number_in_front, tokens_behind, line_tokens}
use Rattle.nml_outline.proofs.LineParts.{begins}

-- the text of this number: it is read as one token where no digit stands behind it, and it begins with no letter
pub record IsText (z : ℤ) (text : List ℕ) : Type 0 where
  pub token : (ys : List ℕ) → begins is_ascii_digit ys ≡ false → line_tokens (text ++ ys) ≡ Number z ∷ line_tokens ys
  pub front : (ys : List ℕ) → begins is_name_start (text ++ ys) ≡ false

digit_is : (c : ℕ) → digit_value c < 10 → is_ascii_digit c ≡ true
digit_is c h = grind (arith, nat_tests)

all_digits : (ds : List ℕ) → AllDigits 10 ds → list_all is_ascii_digit ds ≡ true
all_digits [] h = refl
all_digits (c ∷ ds) h = ap (λ b. b && list_all is_ascii_digit ds) (digit_is c h.0) ∙ all_digits ds h.1

counted : (front rest : List ℕ) → list_all is_ascii_digit front ≡ true → begins is_ascii_digit rest ≡ false → prefix_len is_ascii_digit (front ++ rest) ≡ length front
counted [] [] all stops = refl
counted [] (c ∷ cs) all stops = ap (λ b. cond b (1 + prefix_len is_ascii_digit cs) 0) stops
counted (c ∷ cs) rest all stops =
    ap (λ b. cond b (1 + prefix_len is_ascii_digit (cs ++ rest)) 0) (and_parts _ _ all).0 ∙ omega (arith, counted cs rest (and_parts _ _ all).1 stops)

front_of : (front rest : List ℕ) → take (length front) (front ++ rest) ≡ front
front_of [] rest = refl
front_of (c ∷ cs) rest = ap (λ l. c ∷ l) (front_of cs rest)

taken : (front rest : List ℕ) → list_all is_ascii_digit front ≡ true → begins is_ascii_digit rest ≡ false → take_while is_ascii_digit (front ++ rest) ≡ front
taken front rest all stops = ap (λ n. take n (front ++ rest)) (counted front rest all stops) ∙ front_of front rest

skipped : (front rest : List ℕ) → tokens_behind (length front) (front ++ rest) ≡ line_tokens rest
skipped [] [] = refl
skipped [] (c ∷ cs) = refl
skipped (c ∷ cs) rest = skipped cs rest

at_digit : (c : ℕ) (text : List ℕ) → is_ascii_digit c ≡ true → begun c text ≡ record { token = Number (pos (number_in_front (c ∷ text))) ∷ []; more = prefix_len is_ascii_digit text }
at_digit c text p = rw (digit_is_no_name_start c p, p) refl

at_minus : (text : List ℕ) → nat_lt 0 (prefix_len is_ascii_digit text) ≡ true
    → begun 45 text ≡ record { token = Number (neg_ℤ (pos (number_in_front text))) ∷ []; more = prefix_len is_ascii_digit text }
at_minus text p = rw p refl

-- what a line gives where the front behind its first byte is of that byte's token
gives : (c : ℕ) (front rest : List ℕ) (token : LineToken) (more : ℕ) → begun c (front ++ rest) ≡ record { token = token ∷ []; more = more } → more ≡ length front
    → line_tokens (c ∷ (front ++ rest)) ≡ token ∷ line_tokens rest
gives c front rest token more is n =
    ap (λ (b : Begun). b.token ++ tokens_behind b.more (front ++ rest)) is
    ∙ (ap (λ k. token ∷ tokens_behind k (front ++ rest)) n ∙ ap (λ ts. token ∷ ts) (skipped front rest))

digits_first : (ds rest : List ℕ) → 0 < length ds → list_all is_ascii_digit ds ≡ true → begins is_ascii_digit rest ≡ false
    → line_tokens (ds ++ rest) ≡ Number (pos (digits_value 10 ds)) ∷ line_tokens rest
digits_first [] rest some all stops = absurd (omega (arith, some))
digits_first (c ∷ cs) rest some all stops =
    let is = at_digit c (cs ++ rest) (and_parts _ _ all).0 ∙ ap (λ w. record { token = Number (pos (digits_value 10 w)) ∷ []; more = prefix_len is_ascii_digit (cs ++ rest) }) (taken (c ∷ cs) rest all stops) in
    gives c cs rest (Number (pos (digits_value 10 (c ∷ cs)))) _ is (counted cs rest (and_parts _ _ all).1 stops)

sign_first : (front rest : List ℕ) → list_all is_ascii_digit front ≡ true → begins is_ascii_digit rest ≡ false → 0 < length front
    → line_tokens (45 ∷ (front ++ rest)) ≡ Number (neg_ℤ (pos (digits_value 10 front))) ∷ line_tokens rest
sign_first front rest all stops some =
    let n = counted front rest all stops in
    let is = at_minus (front ++ rest) (ap (nat_lt 0) n ∙ lt-ltb 0 (length front) some) ∙ ap (λ w. record { token = Number (neg_ℤ (pos (digits_value 10 w))) ∷ []; more = prefix_len is_ascii_digit (front ++ rest) }) (taken front rest all stops) in
    gives 45 front rest (Number (neg_ℤ (pos (digits_value 10 front)))) _ is n

no_letter : (ds ys : List ℕ) → 0 < length ds → list_all is_ascii_digit ds ≡ true → begins is_name_start (ds ++ ys) ≡ false
no_letter [] ys some all = absurd (omega (arith, some))
no_letter (c ∷ ds) ys some all = digit_is_no_name_start c (and_parts _ _ all).0

pub pos_text : (n : ℕ) → n < 10 ^ 64 → IsText (pos n) (signed_decimal (pos n))
pos_text n small =
    let d = decimal_is_IsNumeral_wide n small in
    let all = all_digits (decimal n) d.0.1 in
    record {
      token = λ ys h. digits_first (decimal n) ys d.0.0 all h ∙ ap (λ v. Number (pos v) ∷ line_tokens ys) d.1;
      front = λ ys. no_letter (decimal n) ys d.0.0 all;
    }

pub neg_text : (n : ℕ) → suc n < 10 ^ 64 → IsText (negsuc n) (signed_decimal (negsuc n))
neg_text n small =
    let d = decimal_is_IsNumeral_wide (suc n) small in
    record {
      token = λ ys h. sign_first (decimal (suc n)) ys (all_digits (decimal (suc n)) d.0.1) h d.0.0 ∙ ap (λ v. Number (neg_ℤ (pos v)) ∷ line_tokens ys) d.1;
      front = λ ys. refl;
    }
