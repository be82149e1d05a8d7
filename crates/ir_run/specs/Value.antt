-- The value of a tree.
use Rattle.std.specs.Prelude.{ℕ, ◌^◌, ℤ, pos, ◌+ℤ◌, ◌-ℤ◌, int_lt, unsigned_abs, List, [], ◌∷◌, Option, Some, None, slice_index_or, if◌then◌else◌}
use Rattle.nk_base.specs.Number.{low_bits}
use Rattle.ir_core.specs.Operator.{wrap, prefixed, shifted, arithmetic}
use Rattle.ir_run.specs.Node.{Node, Const, Base, Label, Cell, In, Load, Unary, Shifted, Binary}

-- the place in the list of statements, what the cells hold, and what is left of the input
pub record State : Type 0 where
  pub place : ℕ
  pub cells : List ℤ
  pub input : List ℤ

-- a label is kept as 2^32 and its number
abbrev pub label_value : ℕ → ℤ
label_value l = pos (2 ^ 32) +ℤ pos l

-- the label that a value is; a number is none
abbrev pub label_of : ℤ → Option ℕ
label_of z = if int_lt z (pos (2 ^ 32)) then None else Some (unsigned_abs (z -ℤ pos (2 ^ 32)))

-- a value as a number: a label counts as its number, wrapped
abbrev pub number : ℕ → ℤ → ℤ
number n z = if int_lt z (pos (2 ^ 32)) then z else wrap n (z -ℤ pos (2 ^ 32))

-- the cell whose number a value is, modulo 2^n
abbrev pub address : ℕ → ℤ → ℕ
address n z = unsigned_abs (low_bits n (number n z))

-- what a cell holds; one that doesn't exist reads 0
abbrev pub held : State → ℕ → ℤ
held s k = slice_index_or s.cells k (pos 0)

-- takes the next input and goes on, or wants it where there is none
abbrev pub take_next : {R : Type 0} → (wants : R) → List ℤ → (ℤ → State → R) → State → R
take_next wants [] next s = wants
take_next wants (z ∷ zs) next s = next z (record s { input = zs })

-- the value of a tree, from left to right, with which is gone on; `wants` is what comes of an input that is wanted
abbrev pub value : {R : Type 0} → (wants : R) → ℕ → Node → (ℤ → State → R) → State → R
value wants n (Const z) next s = next (wrap n z) s
value wants n (Base c) next s = next (wrap n (pos c)) s
value wants n (Label l) next s = next (label_value l) s
value wants n (Cell k) next s = next (held s k) s
value wants n In next s = take_next wants s.input next s
value wants n (Load t) next s = value wants n t (λ a s. next (held s (address n a)) s) s
value wants n (Unary op t) next s = value wants n t (λ z. next (prefixed n op (number n z))) s
value wants n (Shifted op t k) next s = value wants n t (λ z. next (shifted n op (number n z) k)) s
value wants n (Binary op t u) next s = value wants n t (λ x. value wants n u (λ y. next (arithmetic n op (number n x) (number n y)))) s
