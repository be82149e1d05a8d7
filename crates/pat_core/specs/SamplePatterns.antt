-- Patterns of the sample machine, by computation. The registers are 2 X, 3 Y, 4 A, 5 B and 6 AR; 0 is PC and 1 the data memory.
use Rattle.std.specs.Prelude.{◌≡◌, refl, ℕ, pos, true, false, List, [], ◌∷◌, map, length, Option, Some, None}
use Rattle.nk_base.specs.declared.number.Ty.TheVariants as ty
use Rattle.nml_tree.specs.declared.operator.Bin.TheVariants as bin
use Rattle.nml_tree.specs.declared.operator.Un.TheVariants as un
use Rattle.nml_tree.specs.Act.{Term}
use Rattle.nml_tree.specs.Act as act
use Rattle.ir_core.specs.declared.relation.Rel.TheVariants as rel
use Rattle.ir_core.specs.declared.operator.Shift.TheVariants as shifts
use Rattle.ir_core.specs.declared.operator.Arith.TheVariants as ariths
use Rattle.pat_core.specs.declared.pattern.Num.TheVariants as num
use Rattle.pat_core.specs.Spot.{Spot, Cell, Field}
use Rattle.pat_core.specs.Tile.{Form, Operand, Number, Load, Shifted, Binary, Write, Store, Branch, JumpCell, Jump, Halt, swaps}
use Rattle.pat_core.specs.Shape.{Shape}
use Rattle.pat_core.specs.Low.{Low, Two, WideCell, WhereExact, Swap, MemoryCell, ByRegister}
use Rattle.pat_core.specs.Find.{low, exact}
use Rattle.pat_core.specs.Patterns.{Pattern, shape_patterns}
use Rattle.pat_core.specs.SampleMachine.{sample, machine, add, mac, ldx, sta, sta_inc, rar, jmp, jeq, jr, hlt, ldi}

-- the one register of a storage
abbrev at : ℕ → Spot
at n = record { storage = n; at = Cell 0 }

-- DM[n], n the first field
abbrev memory : Spot
memory = record { storage = 1; at = Field 0 }

-- AR[p], p the first field
abbrev ar : Spot
ar = record { storage = 6; at = Field 0 }

-- the read of a storage of one register
abbrev cell : ℕ → Term
cell n = act.Cell n (act.Number (pos 0))

-- ---- Low and Exact

-- `A + X`, as it is written and swapped
sum_low : Low sample [] (act.Binary bin.Add (cell 4) (cell 2)) (Binary ariths.Add (Operand (at 4)) (Operand (at 2)))
sum_low = Two refl (WideCell refl refl) (WideCell refl refl)

sum_swapped : Low sample [] (act.Binary bin.Add (cell 4) (cell 2)) (Binary ariths.Add (Operand (at 2)) (Operand (at 4)))
sum_swapped = Swap refl sum_low

-- an accumulator of 40 bits has no exact tree, so its sign is no comparison of cells
not_exact : exact sample [] (act.Binary bin.Sub (cell 4) (cell 2)) ≡ None
not_exact = refl

-- `DM[AR[p]]` is a load at what the address register holds
loaded : Low sample (ty.Card 1 ∷ []) (act.Cell 1 (act.Cell 6 (act.Field 0))) (Load (Operand ar))
loaded = WhereExact (MemoryCell refl (ByRegister refl refl))

-- `int(16, A) >> 2` is exact, `A >> 2` isn't low
shifted : low sample [] (act.Binary bin.Shr (act.Unary (un.Int 16) (cell 4)) (act.Number (pos 2))) ≡ Some (Shifted shifts.Shr (Operand (at 4)) (num.Const (pos 2)))
shifted = refl

not_shifted : low sample [] (act.Binary bin.Shr (cell 4) (act.Number (pos 2))) ≡ None
not_shifted = refl

-- ---- patterns

-- a pattern by its parts
abbrev pattern : ℕ → Form ℕ → List Spot → Option ℕ → List Spot → ℕ → Pattern
pattern shape form operands tied clobbers bits = record { shape = shape; form = form; operands = operands; tied = tied; clobbers = clobbers; bits = bits }

-- `A = A + X`: two forms, the first operand is the place that is written
of_add : shape_patterns sample 330 add
    ≡ pattern 330 (Write (at 4) (Binary ariths.Add (Operand 0) (Operand 1))) (at 4 ∷ at 2 ∷ []) (Some 0) [] 64
    ∷ pattern 330 (Write (at 4) (Binary ariths.Add (Operand 1) (Operand 0))) (at 4 ∷ at 2 ∷ []) (Some 0) [] 64 ∷ []
of_add = refl

-- `P = X * Y; A = A + P`: the product, wrapped in int(32), stands in the place of P; four forms, the sum's operands the higher digit
of_mac : map (λ p. p.form) (shape_patterns sample 220 mac)
    ≡ Write (at 4) (Binary ariths.Add (Operand 0) (Binary ariths.Mul (Operand 1) (Operand 2)))
    ∷ Write (at 4) (Binary ariths.Add (Operand 0) (Binary ariths.Mul (Operand 2) (Operand 1)))
    ∷ Write (at 4) (Binary ariths.Add (Binary ariths.Mul (Operand 1) (Operand 2)) (Operand 0))
    ∷ Write (at 4) (Binary ariths.Add (Binary ariths.Mul (Operand 2) (Operand 1)) (Operand 0)) ∷ []
of_mac = refl

-- `x = [n]` and `[n] = a`: addresses of 10 bits
of_ldx : shape_patterns sample 10 ldx ≡ pattern 10 (Write (at 2) (Operand 0)) (memory ∷ []) None [] 10 ∷ []
of_ldx = refl

of_sta : shape_patterns sample 40 sta ≡ pattern 40 (Write memory (Operand 0)) (at 4 ∷ []) None [] 10 ∷ []
of_sta = refl

-- `[arp+] = a`: a store, which clobbers its address register
of_sta_inc : shape_patterns sample 100 sta_inc ≡ pattern 100 (Store (Operand 0) (Operand 1)) (ar ∷ at 4 ∷ []) None (ar ∷ []) 10 ∷ []
of_sta_inc = refl

-- an address register takes a Low
of_rar : shape_patterns sample 4 rar ≡ pattern 4 (Write ar (Operand 0)) (at 4 ∷ []) None [] 64 ∷ []
of_rar = refl

-- `if X == Y then PC = t; endif`, `PC = t`, `PC = X`, `halt(k)`, `X = n`
of_jeq : shape_patterns sample 0 jeq ≡ pattern 0 (Branch rel.Eq (Operand 0) (Operand 1) 0) (at 2 ∷ at 3 ∷ []) None [] 64 ∷ []
of_jeq = refl

of_jmp : shape_patterns sample 0 jmp ≡ pattern 0 (Jump 0) [] None [] 64 ∷ []
of_jmp = refl

of_jr : shape_patterns sample 0 jr ≡ pattern 0 (JumpCell (Operand 0)) (at 2 ∷ []) None [] 64 ∷ []
of_jr = refl

of_hlt : shape_patterns sample 0 hlt ≡ pattern 0 (Halt (num.Field 0)) [] None [] 64 ∷ []
of_hlt = refl

of_ldi : shape_patterns sample 0 ldi ≡ pattern 0 (Write (at 2) (Number (num.Field 0))) [] None [] 64 ∷ []
of_ldi = refl

-- `A = A + X` beside `X = A` is no pattern: a slot gives nothing to the main write and isn't neutral
abbrev two_at_once : Shape
two_at_once = record {
  fields = [];
  neutral = false ∷ true ∷ false ∷ [];
  action = act.SetCell 4 (act.Number (pos 0)) (act.Binary bin.Add (cell 4) (cell 2)) (act.SetCell 2 (act.Number (pos 0)) (cell 4) act.Done);
  gives = (0 ∷ []) ∷ (2 ∷ []) ∷ [];
}

of_two_at_once : shape_patterns sample 0 two_at_once ≡ []
of_two_at_once = refl

-- a branch by an `if` expression, and through a comparison that a bool transitory holds
abbrev next : Term
next = act.Binary bin.Add (cell 0) (act.Number (pos 1))

-- `PC = if X < Y then t else PC+1`
abbrev choosing : Shape
choosing = record {
  fields = ty.Card 12 ∷ [];
  neutral = true ∷ [];
  action = act.SetCell 0 (act.Number (pos 0)) (act.Choose (act.Binary bin.Lt (cell 2) (cell 3)) (act.Field 0) next) act.Done;
  gives = (0 ∷ []) ∷ [];
}

of_choosing : shape_patterns sample 0 choosing ≡ pattern 0 (Branch rel.Lt (Operand 0) (Operand 1) 0) (at 2 ∷ at 3 ∷ []) None [] 64 ∷ []
of_choosing = refl

-- two commutative operators make four forms, in the order of their digits
four_forms : swaps {A = ℕ} (Binary ariths.Add (Binary ariths.Mul (Operand 0) (Operand 1)) (Binary ariths.Sub (Operand 2) (Operand 3)))
    ≡ Binary ariths.Add (Binary ariths.Mul (Operand 0) (Operand 1)) (Binary ariths.Sub (Operand 2) (Operand 3))
    ∷ Binary ariths.Add (Binary ariths.Mul (Operand 1) (Operand 0)) (Binary ariths.Sub (Operand 2) (Operand 3))
    ∷ Binary ariths.Add (Binary ariths.Sub (Operand 2) (Operand 3)) (Binary ariths.Mul (Operand 0) (Operand 1))
    ∷ Binary ariths.Add (Binary ariths.Sub (Operand 2) (Operand 3)) (Binary ariths.Mul (Operand 1) (Operand 0)) ∷ []
four_forms = refl

-- all of them
forty_five : length machine.patterns ≡ 45
forty_five = refl
