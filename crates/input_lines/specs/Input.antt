-- The numbers of an input: each line that isn't blank writes one.
use Rattle.std.specs.Prelude.{ℕ, ◌+◌, nat_le, ℤ, pos, neg_ℤ, Bool, false, ◌&&◌, ◌==◌, List, [], ◌∷◌, ◌++◌, take, drop, Option, Some, None, Result, Ok, Err, if◌then◌else◌}
use Rattle.std.specs.Char.{is_ascii_digit}
use Rattle.std.specs.List.{list_all, prefix_len, slice_split}
use Rattle.std.specs.Option.{option_map}
use Rattle.std.specs.Str.Parse.{digits_value}
use Rattle.nk_base.specs.Byte.{is_blank}
use Rattle.nk_base.specs.declared.number.Ty.{Ty}
use Rattle.nk_range.specs.Range.{is_in_range}

-- lines end at a line feed
abbrev pub lines : List ℕ → List (List ℕ)
lines text = slice_split (λ c. c == 10) text

-- without the blanks in front
abbrev pub behind_blanks : List ℕ → List ℕ
behind_blanks text = drop (prefix_len is_blank text) text

-- one to nineteen digits, and what is nothing but blanks
abbrev pub are_digits_and_blanks : (digits : ℕ) → (rest : List ℕ) → Bool
are_digits_and_blanks digits rest = nat_le 1 digits && nat_le digits 19 && list_all is_blank rest

-- the number that one to nineteen digits in front write, where nothing but blanks stands behind them
abbrev pub unsigned_number : List ℕ → Option ℕ
unsigned_number text =
    if are_digits_and_blanks (prefix_len is_ascii_digit text) (drop (prefix_len is_ascii_digit text) text) then Some (digits_value 10 (take (prefix_len is_ascii_digit text) text))
    else None

-- the same, behind a `-` where one stands in front
abbrev pub signed_number : List ℕ → Option ℤ
signed_number [] = None
signed_number (c ∷ cs) = if c == 45 then option_map (λ n. neg_ℤ (pos n)) (unsigned_number cs) else option_map pos (unsigned_number (c ∷ cs))

-- a number of the type; where there is no input there is none
abbrev pub is_wanted : Option Ty → ℤ → Bool
is_wanted None z = false
is_wanted (Some ty) z = is_in_range ty z

-- the one number, where it is wanted
abbrev pub within : Option Ty → Option ℤ → Option (List ℤ)
within ty None = None
within ty (Some z) = if is_wanted ty z then Some (z ∷ []) else None

-- the numbers of a line: none where it is blank, else the one that it writes; a line that writes no number that is wanted has none of these answers
abbrev pub numbers_in : Option Ty → List ℕ → Option (List ℤ)
numbers_in ty line = if list_all is_blank line then Some [] else within ty (signed_number (behind_blanks line))

-- these numbers in front of others
abbrev pub in_front : List ℤ → Result (List ℤ) ℕ → Result (List ℤ) ℕ
in_front zs (Ok more) = Ok (zs ++ more)
in_front zs (Err line) = Err line

-- the numbers of a line of this number, and of those behind it
abbrev pub with_line : Option (List ℤ) → ℕ → Result (List ℤ) ℕ → Result (List ℤ) ℕ
with_line None line more = Err line
with_line (Some zs) line more = in_front zs more

-- the numbers of the lines, the first of which has this number; or the number of the first that writes none that is wanted and isn't blank
abbrev pub numbers_from : Option Ty → ℕ → List (List ℕ) → Result (List ℤ) ℕ
numbers_from ty number [] = Ok []
numbers_from ty number (line ∷ more) = with_line (numbers_in ty line) number (numbers_from ty (number + 1) more)

-- the numbers of an input of this type, where there is one; lines are counted from 1
abbrev pub numbers : Option Ty → List ℕ → Result (List ℤ) ℕ
numbers ty text = numbers_from ty 1 (lines text)
