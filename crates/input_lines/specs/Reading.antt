-- For contracts: what is read of an input.
use Rattle.std.specs.Prelude.{◌≡◌, ℕ, not, ◌≤◌, ◌==◌, Bool, true, false, ℤ, List, ◌∷◌, ◌++◌, Option, Some, None, Result, Ok, Err, MatchOption}
use Rattle.std.specs.Borrow.{Bor}
use Rattle.std.specs.Global.{Vec}
use Rattle.std.specs.List.{list_all}
use Rattle.nk_base.specs.Number.{IsTy, width_of}
use Rattle.nk_base.specs.declared.number.Ty.{Ty}
use Rattle.input_lines.specs.Input.{numbers, numbers_in}
use Rattle.input_lines.specs.declared.numbers.InputFault.{InputFault}
use Rattle.input_lines.specs.declared.numbers.InputFault.TheVariants as faults

-- these are the numbers of the input; or this line is the first that writes none; or memory was wanted
abbrev pub AreNumbers : Option Ty → List ℕ → Result (Vec ℤ) InputFault → Type 0
AreNumbers ty text (Ok found) = numbers ty text ≡ Ok found.items
AreNumbers ty text (Err (faults.Line line)) = numbers ty text ≡ Err line
AreNumbers ty text (Err faults.Memory) = Unit {0}

-- the numbers of the line are behind those from before, or it has none of these answers
abbrev pub TakesLine : Option Ty → List ℕ → (old new : List ℤ) → Bool → Type 0
TakesLine ty line old new true = (zs : List ℤ) × (numbers_in ty line ≡ Some zs) × (new ≡ old ++ zs)
TakesLine ty line old new false = numbers_in ty line ≡ None

-- any byte but a line feed
abbrev pub is_no_feed : ℕ → Bool
is_no_feed c = not (c == 10)

-- the line has no line feed, and is the whole text or stands before one, with the rest behind it
pub record IsFirstLine (text line : List ℕ) (more : Option (Bor (List ℕ))) : Type 0 where
  pub one_line : list_all is_no_feed line ≡ true
  pub rest : MatchOption more (text ≡ line) (λ m. text ≡ line ++ 10 ∷ m.now)

-- a type of at most 63 bits, where there is an input
abbrev pub IsInput : Option Ty → Type 0
IsInput None = Unit {0}
IsInput (Some ty) = IsTy ty × (width_of ty ≤ 63)
