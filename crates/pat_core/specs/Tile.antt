-- A pattern's tree as definitions see it, over what its operands are: spots as the action writes them, or their numbers.
use Rattle.std.specs.Prelude.{ℕ, ◌+◌, Bool, true, false, List, [], ◌∷◌, ◌++◌, map, flat_map, length, Option, Some, None}
use Rattle.ir_core.specs.declared.relation.Rel.{Rel}
use Rattle.ir_core.specs.declared.operator.Prefix.{Prefix}
use Rattle.ir_core.specs.declared.operator.Prefix.TheVariants as prefixes
use Rattle.ir_core.specs.declared.operator.Shift.{Shift}
use Rattle.ir_core.specs.declared.operator.Shift.TheVariants as shifts
use Rattle.ir_core.specs.declared.operator.Arith.{Arith}
use Rattle.ir_core.specs.declared.operator.Arith.TheVariants as ariths
use Rattle.pat_core.specs.declared.pattern.Num.{Num}
use Rattle.pat_core.specs.declared.pattern.PTree.{PTree}
use Rattle.pat_core.specs.declared.pattern.PTree.TheOpen.{PTree-F}
use Rattle.pat_core.specs.declared.pattern.PTree.TheFolds.{fold-PTree}
use Rattle.pat_core.specs.Spot.{Spot}

-- a tree over operands
pub data Tile (A : Type 0) : Type 0 where
  Operand : A → Tile A
  Number : Num → Tile A
  In : Tile A
  Load : Tile A → Tile A
  Unary : Prefix → Tile A → Tile A
  Shifted : Shift → Tile A → (by : Num) → Tile A
  Binary : Arith → Tile A → Tile A → Tile A

-- the root of a tree over what stands for its parts
abbrev pub tile_step : PTree-F (Tile ℕ) → Tile ℕ
tile_step (PTree-F.Operand i) = Operand i
tile_step (PTree-F.Number c) = Number c
tile_step PTree-F.In = In
tile_step (PTree-F.Load t) = Load t
tile_step (PTree-F.Neg t) = Unary prefixes.Neg t
tile_step (PTree-F.Not t) = Unary prefixes.Not t
tile_step (PTree-F.Shl t k) = Shifted shifts.Shl t k
tile_step (PTree-F.Shr t k) = Shifted shifts.Shr t k
tile_step (PTree-F.Add t u) = Binary ariths.Add t u
tile_step (PTree-F.Sub t u) = Binary ariths.Sub t u
tile_step (PTree-F.Mul t u) = Binary ariths.Mul t u
tile_step (PTree-F.And t u) = Binary ariths.And t u
tile_step (PTree-F.Or t u) = Binary ariths.Or t u
tile_step (PTree-F.Xor t u) = Binary ariths.Xor t u

-- a tree from its leaves up
unfoldable pub tile : PTree → Tile ℕ
tile = fold-PTree (Tile ℕ) tile_step

-- the operands in prefix order
abbrev pub operands : {A : Type 0} → Tile A → List A
operands (Operand a) = a ∷ []
operands (Load t) = operands t
operands (Unary op t) = operands t
operands (Shifted op t k) = operands t
operands (Binary op t u) = operands t ++ operands u
operands _ = []

-- the operand that the tree is, where it is no more than that
abbrev pub bare : {A : Type 0} → Tile A → Option A
bare (Operand a) = Some a
bare _ = None

-- the operands' numbers in their places, from k on
abbrev pub numbered : {A : Type 0} → ℕ → Tile A → Tile ℕ
numbered k (Operand a) = Operand k
numbered k (Number c) = Number c
numbered k In = In
numbered k (Load t) = Load (numbered k t)
numbered k (Unary op t) = Unary op (numbered k t)
numbered k (Shifted op t by) = Shifted op (numbered k t) by
numbered k (Binary op t u) = Binary op (numbered k t) (numbered (k + length (operands t)) u)

-- how many operators it has: all but its leaves
abbrev pub operators : {A : Type 0} → Tile A → ℕ
operators (Load t) = 1 + operators t
operators (Unary op t) = 1 + operators t
operators (Shifted op t k) = 1 + operators t
operators (Binary op t u) = 1 + operators t + operators u
operators _ = 0

-- how often it reads the input
abbrev pub inputs : {A : Type 0} → Tile A → ℕ
inputs In = 1
inputs (Load t) = inputs t
inputs (Unary op t) = inputs t
inputs (Shifted op t k) = inputs t
inputs (Binary op t u) = inputs t + inputs u
inputs _ = 0

-- `+ * & ^ |`
abbrev pub is_commutative : Arith → Bool
is_commutative ariths.Sub = false
is_commutative _ = true

-- each of the first with each of the second
abbrev pub pairs : {A B C : Type 0} → (A → B → C) → List A → List B → List C
pairs f xs ys = flat_map (λ x. map (λ y. f x y) ys) xs

-- both ways round where the operator is commutative, as written first
abbrev pub both_ways : {A : Type 0} → Arith → List (Tile A) → List (Tile A) → List (Tile A)
both_ways ariths.Sub ts us = pairs (λ t u. Binary ariths.Sub t u) ts us
both_ways op ts us = pairs (λ t u. Binary op t u) ts us ++ pairs (λ t u. Binary op u t) ts us

-- the 2^m trees of m commutative operators, by the number whose binary digits tell where operands are swapped, the first operator's the highest
abbrev pub swaps : {A : Type 0} → Tile A → List (Tile A)
swaps (Load t) = map (λ t. Load t) (swaps t)
swaps (Unary op t) = map (λ t. Unary op t) (swaps t)
swaps (Shifted op t k) = map (λ t. Shifted op t k) (swaps t)
swaps (Binary op t u) = both_ways op (swaps t) (swaps u)
swaps t = t ∷ []

-- ---- forms

-- what a pattern does: a main write of a tree, or one of the other forms; the first tree of a store is the address
pub data Form (A : Type 0) : Type 0 where
  Write : Spot → Tile A → Form A
  Store : (address : Tile A) → Tile A → Form A
  Out : Tile A → Form A
  Branch : Rel → Tile A → Tile A → (field : ℕ) → Form A
  JumpCell : Tile A → Form A
  Jump : (field : ℕ) → Form A
  Halt : Num → Form A

-- the trees of a form
abbrev pub trees : {A : Type 0} → Form A → List (Tile A)
trees (Write s t) = t ∷ []
trees (Store t u) = t ∷ u ∷ []
trees (Out t) = t ∷ []
trees (Branch r t u j) = t ∷ u ∷ []
trees (JumpCell t) = t ∷ []
trees (Jump j) = []
trees (Halt c) = []

-- the operands' numbers in their places, over all trees
abbrev pub numbered_form : {A : Type 0} → Form A → Form ℕ
numbered_form (Write s t) = Write s (numbered 0 t)
numbered_form (Store t u) = Store (numbered 0 t) (numbered (length (operands t)) u)
numbered_form (Out t) = Out (numbered 0 t)
numbered_form (Branch r t u j) = Branch r (numbered 0 t) (numbered (length (operands t)) u) j
numbered_form (JumpCell t) = JumpCell (numbered 0 t)
numbered_form (Jump j) = Jump j
numbered_form (Halt c) = Halt c

-- the forms of a form, over all its trees
abbrev pub forms : {A : Type 0} → Form A → List (Form A)
forms (Write s t) = map (λ t. Write s t) (swaps t)
forms (Store t u) = pairs (λ t u. Store t u) (swaps t) (swaps u)
forms (Out t) = map (λ t. Out t) (swaps t)
forms (Branch r t u j) = pairs (λ t u. Branch r t u j) (swaps t) (swaps u)
forms (JumpCell t) = map (λ t. JumpCell t) (swaps t)
forms (Jump j) = Jump j ∷ []
forms (Halt c) = Halt c ∷ []
