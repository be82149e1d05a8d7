-- Worked examples of runs of statements over numbers of 16 bits, each by computation.
use Rattle.std.specs.Prelude.{◌≡◌, refl, ℕ, ℤ, pos, negsuc, List, [], ◌∷◌, Some, None}
use Rattle.nk_outside.specs.Outcome.{Outcome}
use Rattle.nk_outside.specs.Agree.{GoesOn, Further}
use Rattle.nk_outside.specs.declared.stop.Stop.{Stop}
use Rattle.nk_outside.specs.declared.stop.Stop.TheVariants as stops
use Rattle.ir_core.specs.declared.operator.Arith.TheVariants as arith
use Rattle.ir_core.specs.declared.relation.Rel.TheVariants as rel
use Rattle.ir_run.specs.Node.{Const, Base, Label, Cell, In, Load, Binary}
use Rattle.ir_run.specs.Entry.{Entry, Set, Store, Out, Branch, JumpCell, Jump, Mark, Halt, Listing}
use Rattle.ir_run.specs.Run.{place_of, outcome}

-- statements over four cells; the homes have no part in a run
abbrev pub listed : List Entry → List (ℕ × ℤ) → Listing
listed entries start = record { entries = entries; cells = 4; start = start; arrays = []; homes = record { consts = []; bases = []; labels = []; temps = 4 } }

abbrev pub comes : List ℤ → Stop → Outcome
comes out stop = record { out = out; stop = stop }

-- three statements: the sum of two inputs, and the end
abbrev sums : Listing
sums = listed (Set 0 (Binary arith.Add In In) ∷ Out (Cell 0) ∷ Halt 0 ∷ []) []

sum : outcome sums 16 (pos 2 ∷ pos 3 ∷ []) 3 ≡ comes (pos 5 ∷ []) stops.Ended
sum = refl

-- two steps put it out, and the run goes on
sum_put : outcome sums 16 (pos 2 ∷ pos 3 ∷ []) 2 ≡ comes (pos 5 ∷ []) stops.Running
sum_put = refl

-- with one input another is wanted
sum_wants : outcome sums 16 (pos 2 ∷ []) 3 ≡ comes [] stops.Wants
sum_wants = refl

-- each input is put out, and 1 more; the greatest number and 1 is the least one
abbrev echo : Listing
echo = listed (Mark 0 ∷ Set 1 In ∷ Out (Binary arith.Add (Cell 1) (Const (pos 1))) ∷ Jump 0 ∷ []) []

echoes : outcome echo 16 (pos 7 ∷ pos 32767 ∷ []) 20 ≡ comes (pos 8 ∷ negsuc 32767 ∷ []) stops.Wants
echoes = refl

goes_on : GoesOn (outcome echo 16 (pos 7 ∷ pos 32767 ∷ []) 5) (outcome echo 16 (pos 7 ∷ pos 32767 ∷ []) 20)
goes_on = Further refl (negsuc 32767 ∷ []) refl

-- a jump by the label 1, which cell 0 holds from the start, goes past the trap; as a number the label is 1
returns : outcome (listed (JumpCell 0 ∷ Halt 1 ∷ Mark 1 ∷ Out (Cell 0) ∷ Halt 0 ∷ []) ((0, pos 4294967297) ∷ [])) 16 [] 9 ≡ comes (pos 1 ∷ []) stops.Ended
returns = refl

-- a number is no label: the step stays
stays : outcome (listed (JumpCell 0 ∷ Halt 1 ∷ []) []) 16 [] 9 ≡ comes [] stops.Running
stays = refl

-- an element is stored and loaded; a cell that doesn't exist reads 0 and takes nothing
elements : outcome (listed (Set 0 (Const (pos 2)) ∷ Store (Binary arith.Add (Cell 0) (Base 1)) (Const (pos 9)) ∷ Out (Cell 3) ∷ Out (Load (Const (pos 3))) ∷ Set 7 (Const (pos 5))
    ∷ Out (Cell 7) ∷ Branch rel.Ge (Cell 3) (Const (pos 9)) 5 ∷ Halt 0 ∷ Mark 5 ∷ Halt 1 ∷ []) []) 16 [] 20
    ≡ comes (pos 9 ∷ pos 9 ∷ pos 0 ∷ []) (stops.Trap 1)
elements = refl

-- the address -1 is cell 2^16-1, which doesn't exist; a label is an address by its number
addresses : outcome (listed (Out (Load (Const (negsuc 0))) ∷ Store (Label 2) (Const (pos 6)) ∷ Out (Cell 2) ∷ Halt 0 ∷ []) ((3, pos 4) ∷ [])) 16 [] 9 ≡ comes (pos 0 ∷ pos 6 ∷ []) stops.Ended
addresses = refl

-- the end of the list stays where it is
past : outcome (listed (Out (Const (pos 1)) ∷ []) []) 16 [] 9 ≡ comes (pos 1 ∷ []) stops.Running
past = refl

-- of two marks of a label the first counts
first_mark : place_of (Halt 0 ∷ Mark 3 ∷ Mark 3 ∷ []) 3 ≡ Some 1
first_mark = refl

no_mark : place_of (Jump 2 ∷ Mark 3 ∷ []) 2 ≡ None
no_mark = refl
