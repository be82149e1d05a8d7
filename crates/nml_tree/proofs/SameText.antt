-- Texts that test as the same, and the test either way round.
use Rattle.std.proofs.Common.{◌≡◌, ℕ, Bool, true, false, List, refl, sym, ◌∙◌}
use Rattle.std.specs.Cmp.Lexicographic.{bytes_decides}
use Rattle.nk_base.specs.Text.{text_eq}

-- texts that test as the same are
pub same_text : (a b : List ℕ) → text_eq a b ≡ true → a ≡ b
same_text a b e = (bytes_decides a b).0 e

-- a text tests as the same as itself
pub text_same : (a : List ℕ) → text_eq a a ≡ true
text_same a = (bytes_decides a a).1 refl

-- equal texts test as the same
pub equal_text : (a b : List ℕ) → a ≡ b → text_eq a b ≡ true
equal_text a b e = (bytes_decides a b).1 e

-- the test either way round
pub turned : (a b : List ℕ) → text_eq a b ≡ text_eq b a
turned a b = by (text_eq a b) (text_eq b a) refl refl
  where
    by : (p q : Bool) → text_eq a b ≡ p → text_eq b a ≡ q → text_eq a b ≡ text_eq b a
    by true q e f = e ∙ sym (equal_text b a (sym (same_text a b e)))
    by false true e f = equal_text a b (sym (same_text b a f)) ∙ sym f
    by false false e f = e ∙ sym f
