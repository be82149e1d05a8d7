-- For private contracts: the first line of a text.
use Rattle.std.specs.Prelude.{◌≡◌, ℕ, not, ◌==◌, Bool, true, List, ◌∷◌, ◌++◌, Option, MatchOption}
use Rattle.std.specs.Borrow.{Bor}
use Rattle.std.specs.List.{list_all}

-- any byte but a line feed
abbrev pub is_no_feed : ℕ → Bool
is_no_feed c = not (c == 10)

-- the line has no line feed, and is the whole text or stands before one, with the rest behind it
pub record IsFirstLine (text line : List ℕ) (more : Option (Bor (List ℕ))) : Type 0 where
  pub one_line : list_all is_no_feed line ≡ true
  pub rest : MatchOption more (text ≡ line) (λ m. text ≡ line ++ 10 ∷ m.now)
