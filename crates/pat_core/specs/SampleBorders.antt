-- What is a pattern and what isn't, at the borders, by computation. On the sample machine 0 is PC, 1 the data memory, 2 X, 3 Y, 4 A and 6 AR.
use Rattle.std.specs.Prelude.{◌≡◌, refl, ℕ, zero, suc, pos, false, List, [], ◌∷◌, map, length}
use Rattle.nk_base.specs.declared.number.Ty.{Ty}
use Rattle.nk_base.specs.declared.number.Ty.TheVariants as ty
use Rattle.nml_tree.specs.declared.operator.Un.TheVariants as un
use Rattle.nml_tree.specs.declared.operator.Bin.TheVariants as bin
use Rattle.nml_tree.specs.Act.{Term, Act, Number, Field, Cell, Trn, Inp, Unary, Binary, Choose, Done, SetCell, SetTrn, Put, Halt, When}
use Rattle.ir_core.specs.declared.relation.Rel.TheVariants as rel
use Rattle.pat_core.specs.declared.pattern.Num.TheVariants as num
use Rattle.pat_core.specs.Spot.{Spot}
use Rattle.pat_core.specs.Spot as spots
use Rattle.pat_core.specs.Tile.{Form}
use Rattle.pat_core.specs.Tile as tile
use Rattle.pat_core.specs.Shape.{Shape}
use Rattle.pat_core.specs.Patterns.{shape_patterns}
use Rattle.pat_core.specs.SampleMachine.{sample}

-- a shape without slots
abbrev doing : List Ty → Act → Shape
doing fields action = record { fields = fields; neutral = []; action = action; gives = [] }

-- the forms of its patterns
abbrev forms_of : List Ty → Act → List (Form ℕ)
forms_of fields action = map (λ p. p.form) (shape_patterns sample 0 (doing fields action))

-- how many patterns it has
abbrev many : List Ty → Act → ℕ
many fields action = length (forms_of fields action)

-- a storage of one register, written and read
abbrev to : ℕ → Term → Act → Act
to n e rest = SetCell n (Number (pos 0)) e rest

abbrev reg : ℕ → Term
reg n = Cell n (Number (pos 0))

-- a spot of one
abbrev one : ℕ → Spot
one n = record { storage = n; at = spots.Cell 0 }

-- so many negations of A
abbrev negated : ℕ → Term
negated zero = reg 4
negated (suc k) = Unary un.Neg (negated k)

-- eight operators are a tree's most; over both sides of a comparison too, of which A has no exact one
eight : (many [] (to 4 (negated 8) Done) ≡ 1) × (many [] (to 4 (negated 9) Done) ≡ 0)
eight = (refl, refl)

-- two places that are written are two patterns, by the place of the main write, and each is clobbered by the other
both : map {B = Form ℕ × List Spot} (λ p. (p.form, p.clobbers)) (shape_patterns sample 0 (doing [] (to 2 (reg 4) (to 3 (reg 4) Done))))
    ≡ (tile.Write (one 2) (tile.Operand 0), one 3 ∷ []) ∷ (tile.Write (one 3) (tile.Operand 0), one 2 ∷ []) ∷ []
both = refl

-- beside the data memory, a port, PC or a halt no other place is the main write
beside : (forms_of (ty.Card 10 ∷ []) (to 2 (reg 4) (SetCell 1 (Field 0) (reg 4) Done)) ≡ tile.Write (record { storage = 1; at = spots.Field 0 }) (tile.Operand 0) ∷ [])
    × (forms_of [] (to 2 (reg 4) (Put (reg 4) Done)) ≡ tile.Out (tile.Operand 0) ∷ [])
    × (forms_of (ty.Card 12 ∷ []) (to 2 (reg 4) (to 0 (Field 0) Done)) ≡ tile.Jump 0 ∷ [])
    × (forms_of [] (to 2 (reg 4) (Halt (Number (pos 257)) Done)) ≡ tile.Halt (num.Const (pos 1)) ∷ [])
beside = (refl, refl, refl, refl)

-- the input is read once, in the main write: not in a clobber, not twice through a transitory
inputs : (many [] (to 2 Inp Done) ≡ 1) × (many [] (to 2 (reg 4) (to 3 Inp Done)) ≡ 1) × (many [] (SetTrn 0 Inp (to 4 (Trn 0) Done)) ≡ 1)
    × (many [] (SetTrn 0 Inp (to 4 (Binary bin.Add (Trn 0) (Trn 0)) Done)) ≡ 0) × (many [] (SetTrn 0 Inp (to 4 (reg 2) Done)) ≡ 0)
inputs = (refl, refl, refl, refl, refl)

-- a write in an `if` is none, unless it is that of PC by a field
in_an_if : (many [] (When (Binary bin.Eq (reg 2) (reg 3)) (to 4 (reg 2) Done) Done Done) ≡ 0)
    × (many [] (When (Binary bin.Eq (reg 2) (reg 3)) (to 0 (reg 2) Done) Done Done) ≡ 0)
    × (many (ty.Card 12 ∷ []) (When (Binary bin.Eq (reg 2) (reg 3)) (to 0 (Field 0) Done) Done Done) ≡ 1)
    × (many (ty.Card 12 ∷ []) (When (Binary bin.Eq (reg 2) (reg 3)) Done (to 0 (Field 0) Done) Done) ≡ 0)
    × (many (ty.Card 12 ∷ []) (When (Binary bin.Eq (reg 2) (reg 3)) (to 0 (Field 0) Done) (to 4 (reg 2) Done) Done) ≡ 0)
    × (many (ty.Card 12 ∷ []) (When (Binary bin.Eq (reg 4) (reg 3)) (to 0 (Field 0) Done) Done Done) ≡ 0)
in_an_if = (refl, refl, refl, refl, refl, refl)

-- a field is jumped by where it has PC's bits and stands nowhere else; else it is a number that is gone to
targets : (forms_of (ty.Card 12 ∷ []) (to 0 (Field 0) Done) ≡ tile.Jump 0 ∷ [])
    × (forms_of (ty.Card 16 ∷ []) (to 0 (Field 0) Done) ≡ tile.Jump 0 ∷ [])
    × (forms_of (ty.Card 11 ∷ []) (to 0 (Field 0) Done) ≡ tile.JumpCell (tile.Number (num.Field 0)) ∷ [])
    × (forms_of (ty.Int 16 ∷ []) (to 0 (Field 0) Done) ≡ tile.JumpCell (tile.Number (num.Field 0)) ∷ [])
    × (forms_of (ty.Card 12 ∷ []) (to 0 (Field 0) (to 2 (Field 0) Done)) ≡ tile.JumpCell (tile.Number (num.Field 0)) ∷ [])
targets = (refl, refl, refl, refl, refl)

-- `PC + 1`, and `1 + PC`
abbrev next : Term
next = Binary bin.Add (reg 0) (Number (pos 1))

abbrev turned : Term
turned = Binary bin.Add (Number (pos 1)) (reg 0)

-- PC is read as the `PC + 1` of a branch, written so and in the `else` side, and nowhere else
next_place : (forms_of (ty.Card 12 ∷ []) (to 0 (Choose (Binary bin.Ge (reg 2) (reg 3)) (Field 0) next) Done) ≡ tile.Branch rel.Ge (tile.Operand 0) (tile.Operand 1) 0 ∷ [])
    × (many (ty.Card 12 ∷ []) (to 0 (Choose (Binary bin.Ge (reg 2) (reg 3)) (Field 0) turned) Done) ≡ 0)
    × (many (ty.Card 12 ∷ []) (to 0 (Choose (Binary bin.Ge (reg 2) (reg 3)) next (Field 0)) Done) ≡ 0)
    × (many [] (to 0 next Done) ≡ 0) × (many [] (to 2 (reg 4) (to 3 (reg 0) Done)) ≡ 0)
next_place = (refl, refl, refl, refl, refl)

-- `DM[n] = DM[n] + X` ties a cell of the data memory and is none; `DM[n] = DM[k] + X` is one, in two forms, its addresses of 10 and 8 bits
ties : (many (ty.Card 10 ∷ []) (SetCell 1 (Field 0) (Binary bin.Add (Cell 1 (Field 0)) (reg 2)) Done) ≡ 0)
    × (map (λ p. p.bits) (shape_patterns sample 0 (doing (ty.Card 10 ∷ ty.Card 8 ∷ []) (SetCell 1 (Field 0) (Binary bin.Add (Cell 1 (Field 1)) (reg 2)) Done))) ≡ 8 ∷ 8 ∷ [])
ties = (refl, refl)

-- an address register takes what is Low and is the place of a main write; X, of 16 bits, takes A; PC takes no field of an address register
takes : (many [] (SetCell 6 (Number (pos 0)) (Binary bin.Add (reg 4) (reg 2)) Done) ≡ 2)
    × (many [] (SetCell 6 (Number (pos 0)) (Binary bin.Add (Cell 6 (Number (pos 0))) (Number (pos 1))) Done) ≡ 0)
takes = (refl, refl)

-- a slot that gives nothing must be neutral; one whose transitory is taken gives, and for a branch one that the condition names
abbrev slots : List (List ℕ) → Act → ℕ
slots gives action = length (shape_patterns sample 0 (record { fields = ty.Card 12 ∷ []; neutral = false ∷ false ∷ []; action = action; gives = gives }))

slotted : (slots ((0 ∷ []) ∷ (1 ∷ []) ∷ []) (SetTrn 0 (Binary bin.Mul (reg 2) (reg 3)) (to 4 (Trn 0) Done)) ≡ 2)
    × (slots ((0 ∷ []) ∷ (1 ∷ []) ∷ []) (SetTrn 0 (Binary bin.Mul (reg 2) (reg 3)) (to 4 (reg 2) Done)) ≡ 0)
    × (slots ((0 ∷ []) ∷ (1 ∷ []) ∷ []) (When (Binary bin.Eq (reg 2) (reg 3)) (to 0 (Field 0) Done) Done Done) ≡ 1)
    × (slots ([] ∷ (1 ∷ []) ∷ []) (When (Binary bin.Eq (reg 2) (reg 3)) (to 0 (Field 0) Done) Done Done) ≡ 0)
slotted = (refl, refl, refl, refl)
