-- Reading something from the front of a list of symbols, and single symbols.
use Rattle.std.specs.Prelude.{ℕ, if◌then◌else◌, nat_le, List, [], ◌∷◌, Option, Some, None}
use Rattle.nk_base.specs.Text.{text_eq}
use Rattle.readings.specs.Symbol.{Symbol}

-- ---- what a reading comes to

-- Found has what stands behind it. Where a reading is stuck, the rest begins with the first symbol that fits nothing, and is
-- empty where the text ends too early. Unread: that many calls below one another are too few to tell.
pub data Read (A : Type 0) : Type 0 where
  Found : A → (rest : List Symbol) → Read A
  Stuck : (rest : List Symbol) → Read A
  Unread : Read A

-- what is read behind what was found
abbrev pub read_on : {A B : Type 0} → Read A → (A → List Symbol → Read B) → Read B
read_on (Found x rest) next = next x rest
read_on (Stuck rest) next = Stuck rest
read_on Unread next = Unread

-- ---- single symbols

-- the entry of a text in a table
abbrev pub looked_up : {A : Type 0} → List (List ℕ × A) → List ℕ → Option A
looked_up [] text = None
looked_up ((word, x) ∷ table) text = if text_eq text word then Some x else looked_up table text

-- what stands behind this keyword or mark, where it is in front, and its place
abbrev pub behind : List ℕ → List Symbol → Option (ℕ × List Symbol)
behind text [] = None
behind text (Symbol.Fixed at other ∷ ss) = if text_eq other text then Some (at, ss) else None
behind text (Symbol.Named at other ∷ ss) = None
behind text (Symbol.Number at value ∷ ss) = None
behind text (Symbol.Quoted at other ∷ ss) = None

abbrev pub found_or_stuck : {A : Type 0} → List Symbol → Option (A × List Symbol) → Read A
found_or_stuck ss None = Stuck ss
found_or_stuck ss (Some (x, rest)) = Found x rest

-- this keyword or mark, for which its place stands
abbrev pub mark : List ℕ → List Symbol → Read ℕ
mark text ss = found_or_stuck ss (behind text ss)

-- what calls for a further node is where the reading is stuck, if there is room for one node alone
abbrev pub with_room : {A : Type 0} → ℕ → List Symbol → Read A → Read A
with_room room here next = if nat_le room 1 then Stuck here else next
