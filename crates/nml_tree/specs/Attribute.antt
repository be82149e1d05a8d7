-- The strings of attributes: characters and directives, and the bits that a number and a list of bits stand for.
use Rattle.std.specs.Prelude.{ℕ, zero, suc, ◌+◌, ◌*◌, ◌/◌, ◌%◌, ◌^◌, ◌==◌, Bool, if◌then◌else◌, ℤ, List, [], ◌∷◌, ◌++◌, unsigned_abs}
use Rattle.std.specs.Char.{is_ascii_digit}
use Rattle.nk_base.specs.declared.number.Ty.{Ty}
use Rattle.nk_base.specs.Number.{low_bits, width_of}

-- a character of a string, or a directive: the digits behind its `%`, and its letter
pub data FormatPiece : Type 0 where
  Letter : ℕ → FormatPiece
  Directive : (digits : List ℕ) → (letter : ℕ) → FormatPiece

abbrev mutual
  -- the pieces of a string; `%` is 37
  pub pieces : List ℕ → List FormatPiece
  pieces [] = []
  pieces (c ∷ cs) = if c == 37 then directive_behind [] cs else Letter c ∷ pieces cs

  -- a directive behind its `%` and these digits; at the string's end it is the character `%`
  pub directive_behind : List ℕ → List ℕ → List FormatPiece
  directive_behind digits [] = Letter 37 ∷ []
  directive_behind digits (c ∷ cs) =
      if is_ascii_digit c then directive_behind (digits ++ c ∷ []) cs else Directive digits c ∷ pieces cs

-- the lowest n bits of v, the highest first
abbrev pub bits_below : ℕ → ℕ → List Bool
bits_below zero v = []
bits_below (suc n) v = (v / 2 ^ n % 2 == 1) ∷ bits_below n v

-- a number's bits in two's complement, as many as its type has
abbrev pub bits_of : Ty → ℤ → List Bool
bits_of ty z = bits_below (width_of ty) (unsigned_abs (low_bits (width_of ty) z))

-- the number that bits write behind those of v
abbrev pub number_behind : ℕ → List Bool → ℕ
number_behind v [] = v
number_behind v (b ∷ bs) = number_behind (v * 2 + (if b then 1 else 0)) bs

-- the number that the bits write
abbrev pub number_of : List Bool → ℕ
number_of bs = number_behind 0 bs
