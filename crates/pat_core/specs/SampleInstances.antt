-- Instances of patterns, by computation. On the sample machine 1 is the data memory, 2 X, 4 A and 6 AR.
use Rattle.std.specs.Prelude.{◌≡◌, refl, ℕ, ℤ, pos, negsuc, true, false, List, [], ◌∷◌, ◌++◌, Option, Some, None}
use Rattle.nk_base.specs.declared.number.Ty.{Ty}
use Rattle.nk_base.specs.declared.number.Ty.TheVariants as ty
use Rattle.nml_tree.specs.Act as act
use Rattle.isg_places.specs.declared.place.Place.{Place}
use Rattle.pat_core.specs.declared.pattern.Num.TheVariants as num
use Rattle.pat_core.specs.Spot.{Spot, Cell, Field, Other}
use Rattle.pat_core.specs.Shape.{Shape}
use Rattle.pat_core.specs.Instance.{Is, Open, Never, Instance, names, congruent, counts_as, shifts_by, halts_with, instance, hits}
use Rattle.pat_core.specs.SampleMachine.{ldx, shl, ldi, hlt}

-- a place of one cell, and one that is chosen at the use
abbrev cell : ℕ → ℕ → Place
cell n k = record { storage = n; index = Some k }

abbrev chosen : ℕ → Place
chosen n = record { storage = n; index = None }

-- a spot that names its cell by a number, or by a field
abbrev by_number : ℕ → ℕ → Spot
by_number n k = record { storage = n; at = Cell k }

abbrev by_field : ℕ → ℕ → Spot
by_field n j = record { storage = n; at = Field j }

-- ---- what is asked for

-- a number names its cell and no other, a field any; a cell of the data memory may be chosen at the use, a register may not
named : (names 1 (by_number 2 0) (cell 2 0) ≡ []) × (names 1 (by_number 2 0) (cell 2 1) ≡ Never ∷ [])
    × (names 1 (by_field 6 0) (cell 6 1) ≡ Is 0 (pos 1) ∷ [])
    × (names 1 (by_field 1 0) (chosen 1) ≡ Open 0 ∷ []) × (names 1 (by_field 6 0) (chosen 6) ≡ Never ∷ [])
    × (names 1 (by_field 6 0) (cell 5 1) ≡ Never ∷ [])
named = (refl, refl, refl, refl, refl, refl)

-- -1 modulo 2^16 is 65535: a field of card(16) holds that, one of int(16) holds -1
minus_one : (congruent 16 (ty.Card 16) (negsuc 0) ≡ pos 65535) × (congruent 16 (ty.Int 16) (negsuc 0) ≡ negsuc 0)
    × (congruent 16 (ty.Int 40) (negsuc 0) ≡ pos 65535)
minus_one = (refl, refl, refl)

-- ---- instances

-- an instance by its fields and its open fields
abbrev filled : List ℤ → List ℕ → Option Instance
filled fields open_fields = Some (record { fields = fields; open_fields = open_fields })

-- `X = DM[n]` with the address chosen at the use, or being 5; 1024 is out of the field's range
addresses : (instance ldx (names 1 (by_field 1 0) (chosen 1) ++ names 1 (by_number 2 0) (cell 2 0)) ≡ filled (pos 0 ∷ []) (0 ∷ []))
    × (instance ldx (names 1 (by_field 1 0) (cell 1 5)) ≡ filled (pos 5 ∷ []) [])
    × (instance ldx (names 1 (by_field 1 0) (cell 1 1023)) ≡ filled (pos 1023 ∷ []) [])
    × (instance ldx (names 1 (by_field 1 0) (cell 1 1024)) ≡ None)
addresses = (refl, refl, refl, refl)

-- `A = A << k` with k from 0 to 15; a written amount is that one alone
shifts : (instance shl (shifts_by (num.Field 0) 1) ≡ filled (pos 1 ∷ []) [])
    × (instance shl (shifts_by (num.Field 0) 15) ≡ filled (pos 15 ∷ []) [])
    × (instance shl (shifts_by (num.Field 0) 16) ≡ None) × (shifts_by (num.Const (pos 1)) 1 ≡ [])
    × (shifts_by (num.Const (pos 2)) 1 ≡ Never ∷ [])
shifts = (refl, refl, refl, refl, refl)

-- a field that nothing asks for is 0
unasked : instance shl [] ≡ filled (pos 0 ∷ []) []
unasked = refl

-- `X = n` with n being -1, modulo 2^16; a written number stands for those that are congruent to it
numbers : (instance ldi (counts_as 16 ldi (num.Field 0) (negsuc 0)) ≡ filled (negsuc 0 ∷ []) [])
    × (instance ldi (counts_as 16 ldi (num.Field 0) (pos 65535)) ≡ filled (negsuc 0 ∷ []) [])
    × (counts_as 16 ldi (num.Const (negsuc 0)) (pos 65535) ≡ []) × (counts_as 16 ldi (num.Const (pos 1)) (pos 0) ≡ Never ∷ [])
numbers = (refl, refl, refl, refl)

-- `halt(k)` with the code 255; a field of int(8) holds it as -1, one of card(7) can't
abbrev halting : Ty → Shape
halting t = record { fields = t ∷ []; neutral = true ∷ []; action = act.Halt (act.Field 0) act.Done; gives = (0 ∷ []) ∷ [] }

codes : (instance hlt (halts_with hlt (num.Field 0) 255) ≡ filled (pos 255 ∷ []) [])
    × (instance (halting (ty.Int 8)) (halts_with (halting (ty.Int 8)) (num.Field 0) 255) ≡ filled (negsuc 0 ∷ []) [])
    × (instance (halting (ty.Card 7)) (halts_with (halting (ty.Card 7)) (num.Field 0) 255) ≡ None)
codes = (refl, refl, refl)

-- two numbers for one field can't be, the same one twice can; an open field is asked for once
twice : (instance shl (Is 0 (pos 1) ∷ Is 0 (pos 2) ∷ []) ≡ None)
    × (instance shl (Is 0 (pos 1) ∷ Is 0 (pos 1) ∷ []) ≡ filled (pos 1 ∷ []) [])
    × (instance ldx (Open 0 ∷ Open 0 ∷ []) ≡ None) × (instance ldx (Open 0 ∷ Is 0 (pos 1) ∷ []) ≡ None)
twice = (refl, refl, refl, refl)

-- `R[j] = X; R[2] = X`, R being storage 7: legal where j isn't 2, and not where j is chosen at the use
abbrev two_writes : Shape
two_writes = record {
  fields = ty.Card 2 ∷ [];
  neutral = true ∷ [];
  action = act.SetCell 7 (act.Field 0) (act.Cell 2 (act.Number (pos 0))) (act.SetCell 7 (act.Number (pos 2)) (act.Cell 2 (act.Number (pos 0))) act.Done);
  gives = (0 ∷ []) ∷ [] ∷ [];
}

legal : (instance two_writes (Is 0 (pos 3) ∷ []) ≡ filled (pos 3 ∷ []) []) × (instance two_writes (Is 0 (pos 2) ∷ []) ≡ None)
    × (instance two_writes (Open 0 ∷ []) ≡ None)
legal = (refl, refl, refl)

-- ---- what is clobbered

-- the instance with p = 1
abbrev second : Instance
second = record { fields = pos 1 ∷ []; open_fields = [] }

-- AR[p] with p = 1 is AR[1] and no other; any other index may be each cell of the file
clobbered : (hits second (cell 6 1) (by_field 6 0) ≡ true) × (hits second (cell 6 0) (by_field 6 0) ≡ false)
    × (hits second (cell 5 1) (by_field 6 0) ≡ false)
    × (hits second (cell 6 0) (record { storage = 6; at = Other (act.Cell 2 (act.Number (pos 0))) }) ≡ true)
    × (hits (record { fields = pos 0 ∷ []; open_fields = 0 ∷ [] }) (cell 6 0) (by_field 6 0) ≡ true)
clobbered = (refl, refl, refl, refl, refl)
