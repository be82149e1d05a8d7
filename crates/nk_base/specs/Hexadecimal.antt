-- A number in hexadecimal, in lower case.
use Rattle.std.specs.Prelude.{ℕ, zero, suc, ◌+◌, ◌/◌, ◌%◌, List, [], ◌∷◌, ◌++◌}
use Rattle.std.specs.Char.{digit_char}

-- the lowest digits of the number, so many, the highest first
abbrev pub hexadecimal : ℕ → ℕ → List ℕ
hexadecimal zero n = []
hexadecimal (suc digits) n = hexadecimal digits (n / 16) ++ digit_char (n % 16) ∷ []

-- how many digits a word of so many bits has
abbrev pub digits_of_word : ℕ → ℕ
digits_of_word width = (width + 3) / 4
