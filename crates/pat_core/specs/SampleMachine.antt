-- A machine with an accumulator A, a second one B, two operand registers X and Y, two address registers AR, and those of its shapes that have
-- patterns; the others do nothing, or two things at once.
use Rattle.std.specs.Prelude.{ℕ, pos, true, false, List, [], ◌∷◌}
use Rattle.nk_base.specs.declared.number.Ty.{Ty}
use Rattle.nk_base.specs.declared.number.Ty.TheVariants as ty
use Rattle.nml_tree.specs.declared.operator.Un.TheVariants as un
use Rattle.nml_tree.specs.declared.operator.Bin.TheVariants as bin
use Rattle.nml_tree.specs.Act.{Term, Act, Number, Field, Cell, Trn, Inp, Unary, Binary, Done, SetCell, SetTrn, Put, Halt, When}
use Rattle.pat_core.specs.Machine.{Machine, Storage}
use Rattle.pat_core.specs.Shape.{Shape}
use Rattle.pat_core.specs.Isa.{Isa, isa}

-- so many registers
abbrev reg : ℕ → Ty → Storage
reg n t = record { is_reg = true; size = n; ty = t }

-- PC, DM, X, Y, A, B, AR
abbrev pub sample : Machine
sample = record {
  width = 16;
  storages = reg 1 (ty.Card 12) ∷ (record { is_reg = false; size = 1024; ty = ty.Int 16 }) ∷ reg 1 (ty.Int 16) ∷ reg 1 (ty.Int 16) ∷ reg 1 (ty.Int 40)
      ∷ reg 1 (ty.Int 40) ∷ reg 2 (ty.Card 10) ∷ [];
  trns = ty.Int 32 ∷ [];
  dm = 1;
  pc = 0;
}

-- PC
abbrev pc : Term
pc = Cell 0 (Number (pos 0))

-- X
abbrev x : Term
x = Cell 2 (Number (pos 0))

-- Y
abbrev y : Term
y = Cell 3 (Number (pos 0))

-- A
abbrev a : Term
a = Cell 4 (Number (pos 0))

-- B
abbrev b : Term
b = Cell 5 (Number (pos 0))

-- into the one register of a storage
abbrev to : ℕ → Term → Act
to n e = SetCell n (Number (pos 0)) e Done

-- a cell of the data memory, and an address register that a field names
abbrev dm : Term → Term
dm i = Cell 1 i

-- AR[p], p the first field
abbrev ar : Term
ar = Cell 6 (Field 0)

-- an instruction of three slots, one of which does something
abbrev slot_0 : List Ty → Act → Shape
slot_0 fields action = record { fields = fields; neutral = false ∷ true ∷ true ∷ []; action = action; gives = (0 ∷ []) ∷ (0 ∷ []) ∷ [] }

-- the same, the second slot doing it
abbrev slot_1 : List Ty → Act → Shape
slot_1 fields action = record { fields = fields; neutral = true ∷ false ∷ true ∷ []; action = action; gives = (1 ∷ []) ∷ (1 ∷ []) ∷ [] }

-- the same, the third slot doing it
abbrev slot_2 : List Ty → Act → Shape
slot_2 fields action = record { fields = fields; neutral = true ∷ true ∷ false ∷ []; action = action; gives = (2 ∷ []) ∷ [] }

-- an instruction of one rule, whose field is a slot that its statements name
abbrev alone : Ty → Act → List (List ℕ) → Shape
alone t action gives = record { fields = t ∷ []; neutral = true ∷ []; action = action; gives = gives }

-- int(16)
abbrev word : Ty
word = ty.Int 16

-- the address register moves on
abbrev stepped : Act
stepped = SetCell 6 (Field 0) (Binary bin.Add ar (Number (pos 1))) Done

-- `X = A`
abbrev pub rxa : Shape
rxa = slot_2 [] (to 2 a)

-- `Y = A`
abbrev pub rya : Shape
rya = slot_2 [] (to 3 a)

-- `A = X`
abbrev pub rax : Shape
rax = slot_2 [] (to 4 x)

-- `AR[p] = A`
abbrev pub rar : Shape
rar = slot_2 (ty.Card 1 ∷ []) (SetCell 6 (Field 0) a Done)

-- `Y = X`
abbrev pub ryx : Shape
ryx = slot_2 [] (to 3 x)

-- `B = A`
abbrev pub rba : Shape
rba = slot_2 [] (to 5 a)

-- `A = B`
abbrev pub rab : Shape
rab = slot_2 [] (to 4 b)

-- `OUT = A`
abbrev pub rout : Shape
rout = slot_2 [] (Put a Done)

-- `X = IN`
abbrev pub rin : Shape
rin = slot_2 [] (to 2 Inp)

-- `X = DM[n]`
abbrev pub ldx : Shape
ldx = slot_1 (ty.Card 10 ∷ []) (to 2 (dm (Field 0)))

-- `Y = DM[n]`
abbrev pub ldy : Shape
ldy = slot_1 (ty.Card 10 ∷ []) (to 3 (dm (Field 0)))

-- `A = DM[n]`
abbrev pub lda : Shape
lda = slot_1 (ty.Card 10 ∷ []) (to 4 (dm (Field 0)))

-- `DM[n] = A`
abbrev pub sta : Shape
sta = slot_1 (ty.Card 10 ∷ []) (SetCell 1 (Field 0) a Done)

-- `X = DM[AR[p]]`
abbrev pub ldx_ind : Shape
ldx_ind = slot_1 (ty.Card 1 ∷ []) (to 2 (dm ar))

-- `X = DM[AR[p]]; AR[p] = AR[p] + 1`
abbrev pub ldx_inc : Shape
ldx_inc = slot_1 (ty.Card 1 ∷ []) (SetCell 2 (Number (pos 0)) (dm ar) stepped)

-- `Y = DM[AR[p]]`
abbrev pub ldy_ind : Shape
ldy_ind = slot_1 (ty.Card 1 ∷ []) (to 3 (dm ar))

-- `Y = DM[AR[p]]; AR[p] = AR[p] + 1`
abbrev pub ldy_inc : Shape
ldy_inc = slot_1 (ty.Card 1 ∷ []) (SetCell 3 (Number (pos 0)) (dm ar) stepped)

-- `DM[AR[p]] = A`
abbrev pub sta_ind : Shape
sta_ind = slot_1 (ty.Card 1 ∷ []) (SetCell 1 ar a Done)

-- `DM[AR[p]] = A; AR[p] = AR[p] + 1`
abbrev pub sta_inc : Shape
sta_inc = slot_1 (ty.Card 1 ∷ []) (SetCell 1 ar a stepped)

-- `P = X * Y; A = P`
abbrev pub mul : Shape
mul = slot_0 [] (SetTrn 0 (Binary bin.Mul x y) (to 4 (Trn 0)))

-- `P = X * Y; A = A + P`
abbrev pub mac : Shape
mac = slot_0 [] (SetTrn 0 (Binary bin.Mul x y) (to 4 (Binary bin.Add a (Trn 0))))

-- `A = A + X`
abbrev pub add : Shape
add = slot_0 [] (to 4 (Binary bin.Add a x))

-- `A = A - X`
abbrev pub sub : Shape
sub = slot_0 [] (to 4 (Binary bin.Sub a x))

-- `A = A & X`
abbrev pub and_x : Shape
and_x = slot_0 [] (to 4 (Binary bin.And a x))

-- `A = A | X`
abbrev pub or_x : Shape
or_x = slot_0 [] (to 4 (Binary bin.Or a x))

-- `A = A ^ X`
abbrev pub xor_x : Shape
xor_x = slot_0 [] (to 4 (Binary bin.Xor a x))

-- `A = -A`
abbrev pub neg : Shape
neg = slot_0 [] (to 4 (Unary un.Neg a))

-- `A = A << k`
abbrev pub shl : Shape
shl = slot_0 (ty.Card 4 ∷ []) (to 4 (Binary bin.Shl a (Field 0)))

-- `A = X >> k`
abbrev pub shr : Shape
shr = slot_0 (ty.Card 4 ∷ []) (to 4 (Binary bin.Shr x (Field 0)))

-- `PC = t`
abbrev pub jmp : Shape
jmp = alone (ty.Card 12) (to 0 (Field 0)) ((0 ∷ []) ∷ [])

-- `if X == Y then PC = t; endif`
abbrev pub jeq : Shape
jeq = alone (ty.Card 12) (When (Binary bin.Eq x y) (to 0 (Field 0)) Done Done) ([] ∷ (0 ∷ []) ∷ [])

-- `if X != Y then PC = t; endif`
abbrev pub jne : Shape
jne = alone (ty.Card 12) (When (Binary bin.Ne x y) (to 0 (Field 0)) Done Done) ([] ∷ (0 ∷ []) ∷ [])

-- `if X < Y then PC = t; endif`
abbrev pub jlt : Shape
jlt = alone (ty.Card 12) (When (Binary bin.Lt x y) (to 0 (Field 0)) Done Done) ([] ∷ (0 ∷ []) ∷ [])

-- `if X >= Y then PC = t; endif`
abbrev pub jge : Shape
jge = alone (ty.Card 12) (When (Binary bin.Ge x y) (to 0 (Field 0)) Done Done) ([] ∷ (0 ∷ []) ∷ [])

-- `PC = X`
abbrev pub jr : Shape
jr = record { fields = []; neutral = []; action = to 0 x; gives = [] ∷ [] }

-- `X = n`
abbrev pub ldi : Shape
ldi = alone word (to 2 (Field 0)) ((0 ∷ []) ∷ [])

-- `halt(k)`
abbrev pub hlt : Shape
hlt = alone (ty.Card 8) (Halt (Field 0) Done) ((0 ∷ []) ∷ [])

-- in their order
abbrev pub shapes : List Shape
shapes = rxa ∷ rya ∷ rax ∷ rar ∷ ryx ∷ rba ∷ rab ∷ rout ∷ rin ∷ ldx ∷ ldy ∷ lda ∷ sta ∷ ldx_ind ∷ ldx_inc ∷ ldy_ind ∷ ldy_inc ∷ sta_ind ∷ sta_inc ∷ mul ∷ mac ∷ add ∷ sub ∷ and_x ∷ or_x ∷ xor_x ∷ neg ∷ shl ∷ shr ∷ jmp ∷ jeq ∷ jne ∷ jlt ∷ jge ∷ jr ∷ ldi ∷ hlt ∷ []

-- with its patterns
abbrev pub machine : Isa
machine = isa sample shapes
