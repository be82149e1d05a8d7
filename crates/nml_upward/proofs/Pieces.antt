-- The pieces of a string, from its first character.
use Rattle.std.proofs.Common.{ℕ, ◌≡◌, refl, List, [], ◌∷◌, ◌++◌, true, false}
use Rattle.std.specs.Char.{is_ascii_digit}
use Rattle.nml_tree.specs.Attribute.{Directive, pieces, directive_behind}

pub digit_step : (text rest : List ℕ) (c : ℕ) (ds : List ℕ) → text ≡ c ∷ rest → is_ascii_digit c ≡ true → directive_behind ds text ≡ directive_behind (ds ++ c ∷ []) rest
digit_step text rest c ds is digit = rw (is, digit) refl

pub letter_step : (text rest : List ℕ) (c : ℕ) (ds : List ℕ) → text ≡ c ∷ rest → is_ascii_digit c ≡ false → directive_behind ds text ≡ Directive ds c ∷ pieces rest
letter_step text rest c ds is digit = rw (is, digit) refl

pub percent : (text rest : List ℕ) (c : ℕ) → text ≡ c ∷ rest → c ≡ 37 → pieces text ≡ directive_behind [] rest
percent text rest c is p = rw (is, p) refl
