-- Spots, trees, statements and values, by computation. On the sample machine 0 is PC, 1 the data memory, 2 X, 3 Y, 4 A and 6 AR; P is its transitory.
use Rattle.std.specs.Prelude.{◌≡◌, refl, ℕ, pos, negsuc, true, false, [], ◌∷◌, map, length, Some, None}
use Rattle.nk_base.specs.declared.number.Ty.TheVariants as ty
use Rattle.nml_tree.specs.declared.operator.Un.TheVariants as un
use Rattle.nml_tree.specs.declared.operator.Bin.TheVariants as bin
use Rattle.nml_tree.specs.Act.{Term}
use Rattle.nml_tree.specs.Act as act
use Rattle.nml_tree.specs.Value.{View}
use Rattle.ir_core.specs.declared.operator.Arith.TheVariants as ariths
use Rattle.ir_core.specs.declared.operator.Shift.TheVariants as shifts
use Rattle.ir_core.specs.declared.relation.Rel.TheVariants as rel
use Rattle.pat_core.specs.declared.pattern.Num.TheVariants as num
use Rattle.pat_core.specs.Machine.{is_wide, is_int, pc_width}
use Rattle.pat_core.specs.Spot.{Spot, Cell, Field, Other, at, spot, register, same_spot}
use Rattle.pat_core.specs.Tile.{Tile, Operand, Number, In, Load, Shifted, Binary, operands, numbered, operators, inputs, swaps, Branch, Store, numbered_form, forms}
use Rattle.pat_core.specs.Low.{is_in_int, is_within_int, is_address}
use Rattle.pat_core.specs.Find.{low, exact, addressed}
use Rattle.pat_core.specs.Swapped.{IsSwap, Itself, Turned}
use Rattle.pat_core.specs.Shape.{Shape, Line, lines, statements, given_after, main}
use Rattle.pat_core.specs.Shape as shape
use Rattle.pat_core.specs.Worth.{worth, held}
use Rattle.pat_core.specs.SampleMachine.{sample}

-- ---- types and places

-- of 16 bits and more are int(16), card(16) and int(40); int(16) itself is one of them
wide : (is_wide 16 (ty.Int 16) ≡ true) × (is_wide 16 (ty.Card 16) ≡ true) × (is_wide 16 (ty.Card 15) ≡ false)
    × (is_wide 16 ty.Bool ≡ false) × (is_int 16 (ty.Int 40) ≡ false)
wide = (refl, refl, refl, refl, refl)

-- int(16) ends at -32768 and 32767; it holds all of card(15), and not all of card(16)
ends : (is_in_int 16 (negsuc 32767) ≡ true) × (is_in_int 16 (negsuc 32768) ≡ false) × (is_in_int 16 (pos 32767) ≡ true)
    × (is_in_int 16 (pos 32768) ≡ false)
    × (is_within_int 16 (ty.Card 15) ≡ true) × (is_within_int 16 (ty.Card 16) ≡ false) × (is_within_int 16 (ty.Int 16) ≡ true)
    × (is_within_int 16 (ty.Int 17) ≡ false)
ends = (refl, refl, refl, refl, refl, refl, refl, refl)

-- AR is an address register, A isn't; PC has 12 bits
addresses : (is_address sample 6 ≡ true) × (is_address sample 4 ≡ false) × (is_address sample 1 ≡ false) × (pc_width sample ≡ 12)
addresses = (refl, refl, refl, refl)

-- `AR[1]` and `AR[p]` are registers; `AR[X]`, PC and a cell of the data memory are none
registers : (register sample 6 (act.Number (pos 1)) ≡ Some (record { storage = 6; at = Cell 1 }))
    × (register sample 6 (act.Field 0) ≡ Some (record { storage = 6; at = Field 0 }))
    × (register sample 6 (act.Cell 2 (act.Number (pos 0))) ≡ None) × (register sample 0 (act.Number (pos 0)) ≡ None)
    × (register sample 1 (act.Field 0) ≡ None)
registers = (refl, refl, refl, refl, refl)

-- the same spot is named the same way
spots : (same_spot (spot 6 (act.Field 0)) (spot 6 (act.Field 0)) ≡ true) × (same_spot (spot 6 (act.Field 0)) (spot 6 (act.Field 1)) ≡ false)
    × (same_spot (spot 6 (act.Number (pos 0))) (spot 6 (act.Field 0)) ≡ false) × (at (act.Inp) ≡ Other act.Inp)
spots = (refl, refl, refl, refl)

-- ---- trees

-- the read of a storage of one register
abbrev cell : ℕ → Term
cell n = act.Cell n (act.Number (pos 0))

-- the spot of one
abbrev one : ℕ → Spot
one n = record { storage = n; at = Cell 0 }

-- `A + X * Y`
abbrev sum : Term
sum = act.Binary bin.Add (cell 4) (act.Binary bin.Mul (cell 2) (cell 3))

-- its tree, as it is written
abbrev tree : Tile Spot
tree = Binary ariths.Add (Operand (one 4)) (Binary ariths.Mul (Operand (one 2)) (Operand (one 3)))

found : low sample [] sum ≡ Some tree
found = refl

-- three operands, numbered from left to right; two operators
counted : (operands tree ≡ one 4 ∷ one 2 ∷ one 3 ∷ [])
    × (numbered 0 tree ≡ Binary ariths.Add (Operand 0) (Binary ariths.Mul (Operand 1) (Operand 2)))
    × (operators tree ≡ 2) × (inputs tree ≡ 0) × (length (swaps tree) ≡ 4)
counted = (refl, refl, refl, refl, refl)

-- `X * Y + A` is that tree up to swapped operands
swapped : IsSwap tree (Binary ariths.Add (Binary ariths.Mul (Operand (one 2)) (Operand (one 3))) (Operand (one 4)))
swapped = Turned refl Itself

-- of a branch the operands of both trees are numbered on, and the relation's sides stay; the digits of the left tree are the higher ones
numbered_on : numbered_form (Branch rel.Lt (Operand (one 2)) (Binary ariths.Add (Operand (one 3)) (Operand (one 2))) 0)
    ≡ Branch rel.Lt (Operand 0) (Binary ariths.Add (Operand 1) (Operand 2)) 0
numbered_on = refl

branch_forms : forms {A = ℕ} (Store (Binary ariths.Add (Operand 0) (Operand 1)) (Binary ariths.Add (Operand 2) (Operand 3)))
    ≡ Store (Binary ariths.Add (Operand 0) (Operand 1)) (Binary ariths.Add (Operand 2) (Operand 3))
    ∷ Store (Binary ariths.Add (Operand 0) (Operand 1)) (Binary ariths.Add (Operand 3) (Operand 2))
    ∷ Store (Binary ariths.Add (Operand 1) (Operand 0)) (Binary ariths.Add (Operand 2) (Operand 3))
    ∷ Store (Binary ariths.Add (Operand 1) (Operand 0)) (Binary ariths.Add (Operand 3) (Operand 2)) ∷ []
branch_forms = refl

-- a number is taken modulo 2^16, and exactly where it is one of int(16)
numbers : (low sample [] (act.Number (pos 65535)) ≡ Some (Number (num.Const (negsuc 0))))
    × (exact sample [] (act.Number (pos 65535)) ≡ None)
    × (exact sample [] (act.Number (negsuc 0)) ≡ Some (Number (num.Const (negsuc 0))))
numbers = (refl, refl, refl)

-- `card(16, A)` and `int(40, A)` are Low as A is; `int(15, A)` isn't, and `int(16, A)` alone is exact
fitted : (low sample [] (act.Unary (un.Card 16) (cell 4)) ≡ Some (Operand (one 4)))
    × (low sample [] (act.Unary (un.Int 40) (cell 4)) ≡ Some (Operand (one 4)))
    × (low sample [] (act.Unary (un.Int 15) (cell 4)) ≡ None) × (exact sample [] (act.Unary (un.Int 16) (cell 4)) ≡ Some (Operand (one 4)))
    × (exact sample [] (act.Unary (un.Card 16) (cell 4)) ≡ None) × (exact sample [] (act.Unary (un.Int 40) (cell 4)) ≡ None)
fitted = (refl, refl, refl, refl, refl, refl)

-- a shift by what a register holds has no tree
by_register : low sample [] (act.Binary bin.Shl (cell 2) (cell 3)) ≡ None
by_register = refl

-- `DM[n]`, `DM[card(10, A + X)]` and `DM[AR[p]]`; `DM[5]` and `DM[X]` are neither cells nor loads
in_memory : (addressed sample (ty.Card 10 ∷ []) (act.Field 0) ≡ Some (Operand (record { storage = 1; at = Field 0 })))
    × (addressed sample [] (act.Unary (un.Card 10) (act.Binary bin.Add (cell 4) (cell 2))) ≡ Some (Load (Binary ariths.Add (Operand (one 4)) (Operand (one 2)))))
    × (addressed sample [] (act.Cell 6 (act.Number (pos 1))) ≡ Some (Load (Operand (record { storage = 6; at = Cell 1 }))))
    × (addressed sample [] (act.Number (pos 5)) ≡ None) × (addressed sample [] (cell 2) ≡ None)
in_memory = (refl, refl, refl, refl, refl)

-- an address register is no operand elsewhere, and PC is never one
no_operand : (low sample [] (act.Cell 6 (act.Number (pos 1))) ≡ None) × (low sample [] (cell 0) ≡ None)
no_operand = (refl, refl)

-- ---- statements

-- `P = X * Y; if X == Y then A = P; else A = 0; endif; X = P;`
abbrev nested : Shape
nested = record {
  fields = [];
  neutral = [];
  action = act.SetTrn 0 (act.Binary bin.Mul (cell 2) (cell 3))
      (act.When (act.Binary bin.Eq (cell 2) (cell 3)) (act.SetCell 4 (act.Number (pos 0)) (act.Trn 0) act.Done) (act.SetCell 4 (act.Number (pos 0)) (act.Number (pos 0)) act.Done)
      (act.SetCell 2 (act.Number (pos 0)) (act.Trn 0) act.Done));
  gives = (0 ∷ []) ∷ (1 ∷ []) ∷ [] ∷ [] ∷ (2 ∷ []) ∷ [];
}

-- five statements, two of them in the `if` at place 1
in_order : (statements nested.action ≡ 5) × (map (λ l. l.under) (lines nested) ≡ [] ∷ [] ∷ ((1, true) ∷ []) ∷ ((1, false) ∷ []) ∷ [] ∷ [])
    × (map (λ l. l.slots) (lines nested) ≡ (0 ∷ []) ∷ (1 ∷ []) ∷ [] ∷ [] ∷ (2 ∷ []) ∷ [])
in_order = (refl, refl, refl)

-- what `X = P` takes: the product wrapped in int(32), from slot 0
abbrev takes : Line
takes = record { slots = 2 ∷ []; under = []; does = shape.Cell 2 (act.Number (pos 0)) (act.Trn 0) }

abbrev gives : Line
gives = record { slots = 0 ∷ []; under = []; does = shape.Trn 0 (act.Binary bin.Mul (cell 2) (cell 3)) }

taken : main sample (gives ∷ []) takes
    ≡ record { does = shape.Cell 2 (act.Number (pos 0)) (act.Unary (un.Int 32) (act.Binary bin.Mul (cell 2) (cell 3))); slots = 2 ∷ 0 ∷ []; outside = true }
taken = refl

-- 0 where nothing was written before, and not outside where the write stands in an `if`
nothing_written : given_after sample [] 0 ≡ record { value = act.Number (pos 0); slots = []; outside = true }
nothing_written = refl

in_an_if : (main sample (record gives { under = (7, true) ∷ [] } ∷ []) takes).outside ≡ false
in_an_if = refl

-- ---- values

-- X is 3, Y is -2, A is 100 and the field 7; cell 7 of the data memory holds 9
abbrev now : View
now = record {
  fields = pos 7 ∷ [];
  cells = (pos 0 ∷ []) ∷ (pos 0 ∷ pos 0 ∷ pos 0 ∷ pos 0 ∷ pos 0 ∷ pos 0 ∷ pos 0 ∷ pos 9 ∷ []) ∷ (pos 3 ∷ []) ∷ (negsuc 1 ∷ []) ∷ (pos 100 ∷ []) ∷ [];
  trns = [];
  next = Some (negsuc 4);
}

-- 100 + 3 * -2, what a cell, a field and the input are worth, and a load at 7 and at -65529, which is 7 modulo 2^16
worths : (worth sample now tree ≡ pos 94) × (held now (record { storage = 1; at = Field 0 }) ≡ pos 9)
    × (worth sample now (Number (num.Field 0)) ≡ pos 7)
    × (worth sample now In ≡ negsuc 4) × (worth sample now (Load (Number (num.Field 0))) ≡ pos 9)
    × (worth sample now (Load (Number (num.Const (negsuc 65528)))) ≡ pos 9)
    × (worth sample now (Shifted shifts.Shr (Operand (one 3)) (num.Const (pos 1))) ≡ negsuc 0)
worths = (refl, refl, refl, refl, refl, refl, refl)
