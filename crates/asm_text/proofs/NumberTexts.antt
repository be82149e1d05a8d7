-- Digits, back and forth.
use Rattle.std.proofs.Common.{ℕ, zero, suc, ◌+◌, ◌*◌, ◌/◌, ◌%◌, ◌^◌, ◌<◌, ◌≤◌, ◌≡◌, refl, sym, ◌∙◌, ap, subst, Bool, true, false, ℤ, pos, negsuc, List, [], ◌∷◌, ◌++◌, length, length-append, drop, arith}
use Rattle.std.specs.Prelude.{◌==◌, nat_le, ◌&&◌, neg_ℤ, if◌then◌else◌}
use Rattle.std.specs.Char.{is_ascii_digit, digit_char, digit_value}
use Rattle.std.specs.Fmt.{decimal, signed_decimal}
use Rattle.std.specs.Int.Signed.{mag}
use Rattle.std.specs.List.{list_all}
use Rattle.std.specs.Str.Parse.{digits_value, AllDigits}
use Rattle.std.proofs.lemmas.Bool.{and_parts, and_from, le-leb, agree_below_at}
use Rattle.std.proofs.lemmas.Bool.Decides.{nat_tests}
use Rattle.std.proofs.lemmas.Fmt.{decimal_is_IsNumeral_wide, length-decimal-le_wide}
use Rattle.std.proofs.lemmas.Int.Digits.{digits_value_push}
use Rattle.std.proofs.lemmas.Str.{digit_value-digit_char}
use Rattle.std.proofs.Math.Nat.{pow-suc, pow-le-pow_right}
use Rattle.nk_base.specs.Hexadecimal.{hexadecimal, digits_of_word}
use Rattle.nml_tree.specs.Table.{Text}
use Rattle.asm_lines.specs.Line.{begins_with, is_number, has_minus, is_signed_number, signed_value, is_hexadecimal}
use Rattle.asm_text.proofs.Texts.{all_both, other_byte}

-- ---- hexadecimal digits

pub hexadecimal_long : (k n : ℕ) → length (hexadecimal k n) ≡ k
hexadecimal_long zero n = refl
hexadecimal_long (suc k) n = length-append (hexadecimal k (n / 16)) (digit_char (n % 16) ∷ []) ∙ (ap (λ m. m + 1) (hexadecimal_long k (n / 16)) ∙ omega arith)

rest_low : (n : ℕ) → n % 16 < 16
rest_low n = omega arith

pub hexadecimal_all : (k n : ℕ) → list_all is_hexadecimal (hexadecimal k n) ≡ true
hexadecimal_all zero n = refl
hexadecimal_all (suc k) n =
    all_both is_hexadecimal (hexadecimal k (n / 16)) (digit_char (n % 16) ∷ []) (hexadecimal_all k (n / 16))
    (and_from _ _ (agree_below_at (λ d. is_hexadecimal (digit_char d)) (λ d. true) 16 (n % 16) refl (rest_low n)) refl)

fewer : (k n : ℕ) → n < 16 ^ suc k → n / 16 < 16 ^ k
fewer k n low = let e = pow-suc 16 k in omega (arith, e, low)

pub hexadecimal_value : (k n : ℕ) → n < 16 ^ k → digits_value 16 (hexadecimal k n) ≡ n
hexadecimal_value zero n low = omega (arith, low)
hexadecimal_value (suc k) n low =
    let r = rest_low n in
    digits_value_push 16 (hexadecimal k (n / 16)) (digit_char (n % 16))
    ∙ (ap (λ m. m * 16 + digit_value (digit_char (n % 16))) (hexadecimal_value k (n / 16) (fewer k n low))
    ∙ (ap (λ m. n / 16 * 16 + m) (digit_value-digit_char (n % 16) (omega (arith, r))) ∙ omega arith))

sixteens : (k : ℕ) → 16 ^ k ≡ 2 ^ (k * 4)
sixteens zero = refl
sixteens (suc k) =
    let a = pow-suc 2 (k * 4 + 3) in
    let b = pow-suc 2 (k * 4 + 2) in
    let c = pow-suc 2 (k * 4 + 1) in
    let d = pow-suc 2 (k * 4) in
    let e : suc k * 4 ≡ suc (k * 4 + 3) = omega arith in
    let f : suc (k * 4 + 2) ≡ k * 4 + 3 = omega arith in
    let g : suc (k * 4 + 1) ≡ k * 4 + 2 = omega arith in
    let h : suc (k * 4) ≡ k * 4 + 1 = omega arith in
    pow-suc 16 k ∙ (rw (e, sixteens k) (omega (arith, a, ap (λ m. 2 ^ m) f, b, ap (λ m. 2 ^ m) g, c, ap (λ m. 2 ^ m) h, d)))

-- a word's digits can write it
pub word_low : (width w : ℕ) → w < 2 ^ width → w < 16 ^ digits_of_word width
word_low width w low =
    let a = pow-le-pow_right {n = 2} (omega arith) {i = width} {j = (width + 3) / 4 * 4} (omega arith) in
    let b = sixteens ((width + 3) / 4) in
    omega (arith, low, a, b)

-- ---- decimal digits

digit_is : (c : ℕ) → digit_value c < 10 → is_ascii_digit c ≡ true
digit_is c h = grind (arith, nat_tests)

all_digits : (ds : Text) → AllDigits 10 ds → list_all is_ascii_digit ds ≡ true
all_digits [] h = refl
all_digits (c ∷ ds) h = and_from _ _ (digit_is c h.0) (all_digits ds h.1)

-- a number that a text may have
abbrev pub IsShort : ℕ → Type 0
IsShort n = n < 10 ^ 38

wide : (n : ℕ) → IsShort n → n < 10 ^ 64
wide n low = let big : 10 ^ 38 < 10 ^ 64 = omega arith in omega (arith, low, big)

pub decimal_digits : (n : ℕ) → IsShort n → list_all is_ascii_digit (decimal n) ≡ true
decimal_digits n low = all_digits (decimal n) (decimal_is_IsNumeral_wide n (wide n low)).0.1

pub decimal_few : (n : ℕ) → IsShort n → length (decimal n) ≤ 38
decimal_few n low = length-decimal-le_wide 38 n (omega arith) low (wide n low)

pub decimal_some : (n : ℕ) → IsShort n → 1 ≤ length (decimal n)
decimal_some n low = let some = (decimal_is_IsNumeral_wide n (wide n low)).0.0 in omega (arith, some)

pub decimal_number : (n : ℕ) → IsShort n → is_number (decimal n) ≡ true
decimal_number n low =
    and_from (list_all is_ascii_digit (decimal n) && nat_le 1 (length (decimal n))) _ (and_from _ _ (decimal_digits n low) (le-leb 1 (length (decimal n)) (decimal_some n low)))
    (le-leb (length (decimal n)) 38 (decimal_few n low))

pub decimal_value : (n : ℕ) → IsShort n → digits_value 10 (decimal n) ≡ n
decimal_value n low = (decimal_is_IsNumeral_wide n (wide n low)).1

no_minus : (ds : Text) → list_all is_ascii_digit ds ≡ true → has_minus ds ≡ false
no_minus [] h = refl
no_minus (d ∷ ds) h = other_byte is_ascii_digit 45 refl d (and_parts (is_ascii_digit d) (list_all is_ascii_digit ds) h).0

-- a whole number, with its sign
abbrev pub IsShortNumber : ℤ → Type 0
IsShortNumber (pos n) = IsShort n
IsShortNumber (negsuc n) = IsShort (suc n)

pub signed_number : (z : ℤ) → IsShortNumber z → is_signed_number (signed_decimal z) ≡ true
signed_number (pos n) low = ap (λ b. if b then is_number (drop 1 (decimal n)) else is_number (decimal n)) (no_minus (decimal n) (decimal_digits n low)) ∙ decimal_number n low
signed_number (negsuc n) low = decimal_number (suc n) low

pub signed_is : (z : ℤ) → IsShortNumber z → signed_value (signed_decimal z) ≡ z
signed_is (pos n) low =
    ap (λ b. if b then neg_ℤ (pos (digits_value 10 (drop 1 (decimal n)))) else pos (digits_value 10 (decimal n))) (no_minus (decimal n) (decimal_digits n low)) ∙ ap pos (decimal_value n low)
signed_is (negsuc n) low = ap (λ m. neg_ℤ (pos m)) (decimal_value (suc n) low)
