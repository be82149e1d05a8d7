-- The tree of an expression as the action writes it, computed by the same cases.
use Rattle.std.specs.Prelude.{ℕ, ◌==◌, Bool, nat_le, List, Option, Some, None, option_map, option_and_then, if◌then◌else◌}
use Rattle.nk_base.specs.declared.number.Ty.{Ty}
use Rattle.nml_tree.specs.declared.operator.Un.{Un}
use Rattle.nml_tree.specs.declared.operator.Un.TheVariants as un
use Rattle.nml_tree.specs.declared.operator.Bin.{Bin}
use Rattle.nml_tree.specs.declared.operator.Bin.TheVariants as bin
use Rattle.nml_tree.specs.Act.{Term}
use Rattle.nml_tree.specs.Act as act
use Rattle.ir_core.specs.Operator.{wrap}
use Rattle.ir_core.specs.declared.operator.Prefix.TheVariants as prefixes
use Rattle.ir_core.specs.declared.operator.Shift.TheVariants as shifts
use Rattle.pat_core.specs.declared.pattern.Num.{Num}
use Rattle.pat_core.specs.declared.pattern.Num.TheVariants as num
use Rattle.pat_core.specs.Machine.{Machine, cell_type, type_at, is_wide, is_int}
use Rattle.pat_core.specs.Spot.{Spot, register}
use Rattle.pat_core.specs.Tile.{Tile, Operand, Number, In, Load, Unary, Shifted, Binary}
use Rattle.pat_core.specs.Low.{arith_of, amount, is_in_int, is_within_int, is_address, direct}

-- the tree that is found, where there is one
abbrev pub Tree : Type 0
Tree = Option (Tile Spot)

-- the tree where this is so
abbrev pub when : Bool → Tree → Tree
when b t = if b then t else None

-- both trees, or none
abbrev pub two : {A : Type 0} → (Tile Spot → Tile Spot → A) → Tree → Tree → Option A
two f t u = option_and_then (λ t. option_map (f t) u) t

-- a tree with an amount, where there are both
abbrev pub shift : (Tile Spot → Num → Tile Spot) → Tree → Option Num → Tree
shift f t k = option_and_then (λ t. option_map (f t) k) t

-- a register as an operand
abbrev pub operand : Machine → ℕ → Term → Tree
operand m n i = option_map Operand (register m n i)

-- a cell: of the data memory by its index, else a register whose type is such
abbrev pub cell : (Ty → Bool) → Machine → ℕ → Term → Tree → Tree
cell is m n i addressed = if n == m.dm then addressed else when (is (cell_type m n)) (operand m n i)

-- by the operator, over the tree of its operand
abbrev pub low_unary : Machine → Un → Tree → Tree
low_unary m un.Neg t = option_map (Unary prefixes.Neg) t
low_unary m un.Inv t = option_map (Unary prefixes.Not) t
low_unary m (un.Int k) t = when (nat_le m.width k) t
low_unary m (un.Card k) t = when (nat_le m.width k) t
low_unary m _ t = None

-- by the operator, over the left side (Low, Exact), the right side and the right side as an amount
abbrev pub low_binary : Bin → (low exact right : Tree) → Option Num → Tree
low_binary bin.Shl t x u k = shift (Shifted shifts.Shl) t k
low_binary bin.Shr t x u k = shift (Shifted shifts.Shr) x k
low_binary op t x u k = option_and_then (λ o. two (Binary o) t u) (arith_of op)

-- by the operator, exactly
abbrev pub exact_unary : Machine → Un → Tree → Tree
exact_unary m (un.Int k) t = when (k == m.width) t
exact_unary m _ t = None

-- by the operator, over the left side and the right side as an amount
abbrev pub exact_binary : Bin → Tree → Option Num → Tree
exact_binary bin.Shr x k = shift (Shifted shifts.Shr) x k
exact_binary _ x k = None

-- an index by `card(k, a)`
abbrev pub addressed_unary : Un → Tree → Tree
addressed_unary (un.Card k) t = option_map Load t
addressed_unary _ t = None

abbrev mutual
  -- the tree that is worth what the expression is, modulo 2^N
  pub low : Machine → List Ty → Term → Tree
  low m f (act.Number z) = Some (Number (num.Const (wrap m.width z)))
  low m f (act.Field j) = Some (Number (num.Field j))
  low m f (act.Cell n i) = cell (is_wide m.width) m n i (addressed m f i)
  low m f act.Inp = Some In
  low m f (act.Unary op a) = low_unary m op (low m f a)
  low m f (act.Binary op a b) = low_binary op (low m f a) (exact m f a) (low m f b) (amount b)
  low m f _ = None

  -- the tree that is worth exactly what the expression is
  pub exact : Machine → List Ty → Term → Tree
  exact m f (act.Number z) = when (is_in_int m.width z) (Some (Number (num.Const z)))
  exact m f (act.Field j) = when (is_within_int m.width (type_at f j)) (Some (Number (num.Field j)))
  exact m f (act.Cell n i) = cell (is_int m.width) m n i (addressed m f i)
  exact m f act.Inp = Some In
  exact m f (act.Unary op a) = exact_unary m op (low m f a)
  exact m f (act.Binary op a b) = exact_binary op (exact m f a) (amount b)
  exact m f _ = None

  -- the cell of the data memory with this index
  pub addressed : Machine → List Ty → Term → Tree
  addressed m f (act.Field j) = Some (Operand (direct m j))
  addressed m f (act.Unary op a) = addressed_unary op (low m f a)
  addressed m f (act.Cell n i) = when (is_address m n) (option_map Load (operand m n i))
  addressed m f _ = None
