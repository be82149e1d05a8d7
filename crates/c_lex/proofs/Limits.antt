-- Whether a program's token is within its limit, by the kind of its first byte.
use Rattle.std.proofs.Common.{◌≡◌, ◌∙◌, ap, sym, refl, ℕ, ◌^◌, cond, nat_le, nat_lt, Bool, true, false, List, ◌∷◌, length, drop, slice_get, IsTrue, Option, Some, None, is_some}
use Rattle.std.proofs.lemmas.Bool.{cond-true, cond-false}
use Rattle.std.specs.Char.{is_ascii_digit}
use Rattle.nk_base.specs.Byte.{is_name_start}
use Rattle.nk_base.proofs.DigitsValue.{digit_is_no_name_start}
use Rattle.nml_lex.specs.Form.{is_name}
use Rattle.nml_lex.proofs.Words.{no_name}
use Rattle.nml_lex.proofs.Limits.{first_byte}
use Rattle.c_lex.specs.Form.{is_number, is_token, is_within, number_worth}
use Rattle.c_lex.proofs.Words.{number_token, no_number}

-- a number
some_below : (n m : ℕ) → is_some (cond (nat_lt n m) (Some n) None) ≡ nat_lt n m
some_below n m = choice (nat_lt n m) n where
  choice : (b : Bool) (n : ℕ) → is_some (cond b (Some n) None) ≡ b
  choice true n = refl
  choice false n = refl

number_at : (b : ℕ) (t : List ℕ) → is_ascii_digit b ≡ true → IsTrue (is_token (b ∷ t)) → nat_lt (number_worth (b ∷ t)) (2 ^ 64) ≡ is_within (b ∷ t)
number_at b t h k =
    sym (cond-false (is_name (b ∷ t)) (nat_le (length (b ∷ t)) 64) _ (no_name b t (digit_is_no_name_start b h)) ∙ cond-true (is_number (b ∷ t)) (nat_lt (number_worth (b ∷ t)) (2 ^ 64)) _ (sym (number_token b t h) ∙ k))

pub number_within : (text : List ℕ) (b : ℕ) (below : Bool) (found : Option ℕ) → Some b ≡ slice_get text 0 → is_ascii_digit b ≡ true → IsTrue (is_token text) → below ≡ is_some found
    → found ≡ cond (nat_lt (number_worth text) (2 ^ 64)) (Some (number_worth text)) None → below ≡ is_within text
number_within text b below found e h k is f =
    let i = first_byte text b e in
    is ∙ ap is_some f ∙ some_below (number_worth text) (2 ^ 64) ∙ ap (λ t. nat_lt (number_worth t) (2 ^ 64)) i ∙ number_at b (drop 1 text) h (ap is_token (sym i) ∙ k) ∙ ap is_within (sym i)

-- a mark has no limit
mark_at : (b : ℕ) (t : List ℕ) → is_name_start b ≡ false → is_ascii_digit b ≡ false → true ≡ is_within (b ∷ t)
mark_at b t h g =
    sym (cond-false (is_name (b ∷ t)) (nat_le (length (b ∷ t)) 64) _ (no_name b t h) ∙ cond-false (is_number (b ∷ t)) (nat_lt (number_worth (b ∷ t)) (2 ^ 64)) true (no_number b t g))

pub mark_within : (text : List ℕ) (b : ℕ) → Some b ≡ slice_get text 0 → is_name_start b ≡ false → is_ascii_digit b ≡ false → true ≡ is_within text
mark_within text b e h g = let i = first_byte text b e in mark_at b (drop 1 text) h g ∙ ap is_within (sym i)
