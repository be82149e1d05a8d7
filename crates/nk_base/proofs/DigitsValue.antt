-- What digits are, and what they write, digit by digit.
use Rattle.std.proofs.Common.{◌≡◌, ap, sym, ◌∙◌, ℕ, ◌+◌, ◌*◌, ◌<◌, ◌≤◌, nat_le, nat_lt, cond, true, false, Some, None, List, length, take, get_or, arith}
use Rattle.std.specs.Char.{digit_value, is_ascii_digit, is_digit}
use Rattle.std.specs.List.{AllPass}
use Rattle.std.specs.Str.Parse.{digits_value}
use Rattle.nk_base.specs.Byte.{is_name_start}
use Rattle.std.proofs.lemmas.Str.Parse.{digits_value-take-le}
use Rattle.std.proofs.lemmas.Int.Digits.{digits_value_more}
use Rattle.std.proofs.lemmas.Bool.Decides.{nat_tests}
use Rattle.std.proofs.lemmas.List.{take_all}

pub ruleset value_steps = (digits_value-take-le, digits_value_more)

-- no name begins with a digit
pub digit_is_no_name_start : (c : ℕ) → is_ascii_digit c ≡ true → is_name_start c ≡ false
digit_is_no_name_start c h = grind (arith, nat_tests)

-- a decimal digit is a digit in the radix 10
pub decimal_digit : (c : ℕ) → is_ascii_digit c ≡ true → is_digit c 10 ≡ true
decimal_digit c h = grind (arith, nat_tests)

pub decimal_digits : (ds : List ℕ) → AllPass is_ascii_digit ds → AllPass (λ c. is_digit c 10) ds
decimal_digits ds h k d within = decimal_digit (get_or ds k d) (h k d within)

-- at most so much is below one more
pub most_is_below : (n most : ℕ) → nat_le n most ≡ nat_lt n (most + 1)
most_is_below n most = grind (arith, nat_tests)

-- a number at most so great, and one below a limit
pub up_to : (n most : ℕ) → n ≤ most → Some n ≡ cond (nat_le n most) (Some n) None
up_to n most h = grind (arith, nat_tests)

pub beyond : (n most : ℕ) → most < n → None ≡ cond (nat_le n most) (Some n) None
beyond n most h = grind (arith, nat_tests)

-- one digit more
pub one_more : (r : ℕ) (ds : List ℕ) (i v : ℕ) → i < length ds → v ≡ digits_value r (take i ds) → v * r + digit_value (get_or ds i 0) ≡ digits_value r (take (i + 1) ds)
one_more r ds i v h e = ap (λ n. n * r + digit_value (get_or ds i 0)) e ∙ sym (digits_value_more r ds i h)

-- a number that is too great on the way is too great at the end
pub outgrown : (most r : ℕ) (ds : List ℕ) (i v : ℕ) → 1 ≤ r → i < length ds → v ≡ digits_value r (take i ds) → most < v * r + digit_value (get_or ds i 0)
    → None ≡ cond (nat_le (digits_value r ds) most) (Some (digits_value r ds)) None
outgrown most r ds i v some h e over = beyond (digits_value r ds) most (omega (arith, one_more r ds i v h e, digits_value-take-le r ds (i + 1) some))

-- the number that all the digits write
pub whole : (most r : ℕ) (ds : List ℕ) (i v : ℕ) → length ds ≤ i → v ≤ most → v ≡ digits_value r (take i ds) → Some v ≡ cond (nat_le (digits_value r ds) most) (Some (digits_value r ds)) None
whole most r ds i v h small e =
    let all : v ≡ digits_value r ds = e ∙ ap (digits_value r) (take_all i ds h) in
    ap Some all ∙ up_to (digits_value r ds) most (omega arith)
