-- What a pattern's tree is worth where an instruction runs, and the two laws: of Low modulo 2^N, of Exact exactly.
use Rattle.std.specs.Prelude.{ℕ, ◌≡◌, ◌≤◌, ◌^◌, ℤ, pos, ◌<ℤ◌, unsigned_abs, IsTrue, List, unwrap_or}
use Rattle.nk_base.specs.declared.number.Ty.{Ty}
use Rattle.nk_base.specs.Number.{InRange, low_bits}
use Rattle.nml_tree.specs.declared.operator.Un.TheVariants as un
use Rattle.nml_tree.specs.Act.{Term}
use Rattle.nml_tree.specs.Act as act
use Rattle.nml_tree.specs.Value.{View, value, cell, number_at}
use Rattle.ir_core.specs.Operator.{wrap, prefixed, shifted, arithmetic}
use Rattle.pat_core.specs.declared.pattern.Num.{Num}
use Rattle.pat_core.specs.declared.pattern.Num.TheVariants as num
use Rattle.pat_core.specs.Machine.{Machine, cell_type, type_at, is_int}
use Rattle.pat_core.specs.Spot.{Spot, At}
use Rattle.pat_core.specs.Spot as spots
use Rattle.pat_core.specs.Tile.{Tile, Operand, Number, In, Load, Unary, Shifted, Binary}
use Rattle.pat_core.specs.Low.{Low, Exact}

-- the number of the cell that is named
abbrev pub index_at : View → At → ℕ
index_at v (spots.Cell c) = c
index_at v (spots.Field j) = unsigned_abs (number_at v.fields j)
index_at v (spots.Other i) = unsigned_abs (value v i)

-- what the cell of a spot holds
abbrev pub held : View → Spot → ℤ
held v s = cell v.cells s.storage (index_at v s.at)

-- a written number, or the number of a field
abbrev pub number_of : View → Num → ℤ
number_of v (num.Const z) = z
number_of v (num.Field j) = number_at v.fields j

-- an operand is worth its cell's number, a field its number, each wrapped; a shift's amount is taken as it is
abbrev pub worth : Machine → View → Tile Spot → ℤ
worth m v (Operand s) = wrap m.width (held v s)
worth m v (Number c) = wrap m.width (number_of v c)
worth m v In = wrap m.width (unwrap_or v.next (pos 0))
worth m v (Load t) = wrap m.width (cell v.cells m.dm (unsigned_abs (low_bits m.width (worth m v t))))
worth m v (Unary op t) = prefixed m.width op (worth m v t)
worth m v (Shifted op t k) = shifted m.width op (worth m v t) (unsigned_abs (number_of v k))
worth m v (Binary op t u) = arithmetic m.width op (worth m v t) (worth m v u)

-- ---- the states

-- the address of a load, modulo 2^N, is below 2^k, k being the bits of its index, which are at most N
abbrev pub IndexFits : Machine → View → ℕ → Term → Type 0
IndexFits m v n (act.Unary (un.Card k) a) = n ≡ m.dm → (k ≤ m.width) × (low_bits m.width (value v a) <ℤ pos (2 ^ k))
IndexFits m v n _ = Unit {0}

-- each index in an expression fits
abbrev pub AddressesFit : Machine → View → Term → Type 0
AddressesFit m v (act.Cell n i) = IndexFits m v n i × AddressesFit m v i
AddressesFit m v (act.Unary op a) = AddressesFit m v a
AddressesFit m v (act.Binary op a b) = AddressesFit m v a × AddressesFit m v b
AddressesFit m v (act.Choose c a b) = AddressesFit m v c × AddressesFit m v a × AddressesFit m v b
AddressesFit m v _ = Unit {0}

-- cells, fields and the input are numbers of their types, and those of the data memory and the input are int(N)
pub record IsState (m : Machine) (f : List Ty) (v : View) : Type 0 where
  pub cells : (storage k : ℕ) → InRange (cell_type m storage) (cell v.cells storage k)
  pub fields : (j : ℕ) → InRange (type_at f j) (number_at v.fields j)
  pub memory : IsTrue (is_int m.width (cell_type m m.dm))
  pub next : wrap m.width (unwrap_or v.next (pos 0)) ≡ unwrap_or v.next (pos 0)

-- ---- the laws

-- the value of an expression and what its tree is worth are congruent modulo 2^N
abbrev pub LowLaw : Machine → List Ty → Type 0
LowLaw m f = (v : View) → IsState m f v → (e : Term) → (t : Tile Spot) → Low m f e t → AddressesFit m v e → wrap m.width (value v e) ≡ worth m v t

-- the two are equal
abbrev pub ExactLaw : Machine → List Ty → Type 0
ExactLaw m f = (v : View) → IsState m f v → (e : Term) → (t : Tile Spot) → Exact m f e t → AddressesFit m v e → value v e ≡ worth m v t
