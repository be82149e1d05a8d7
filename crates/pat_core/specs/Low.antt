-- When a tree is worth what an expression is: modulo 2^N (Low), or exactly (Exact).
use Rattle.std.specs.Prelude.{ℕ, ◌^◌, ◌-◌, ◌+◌, ℤ, pos, neg_ℤ, ◌-ℤ◌, int_le, Bool, IsTrue, ◌≡◌, ◌&&◌, nat_le, List, Option, Some, None}
use Rattle.nk_base.specs.declared.number.Ty.{Ty}
use Rattle.nk_base.specs.declared.number.Ty.TheVariants as ty
use Rattle.nml_tree.specs.declared.operator.Un.TheVariants as un
use Rattle.nml_tree.specs.declared.operator.Bin.{Bin}
use Rattle.nml_tree.specs.declared.operator.Bin.TheVariants as bin
use Rattle.nml_tree.specs.Act.{Term}
use Rattle.nml_tree.specs.Act as act
use Rattle.ir_core.specs.Operator.{wrap}
use Rattle.ir_core.specs.declared.operator.Prefix.TheVariants as prefixes
use Rattle.ir_core.specs.declared.operator.Shift.TheVariants as shifts
use Rattle.ir_core.specs.declared.operator.Arith.{Arith}
use Rattle.ir_core.specs.declared.operator.Arith.TheVariants as ariths
use Rattle.pat_core.specs.declared.pattern.Num.{Num}
use Rattle.pat_core.specs.declared.pattern.Num.TheVariants as num
use Rattle.pat_core.specs.Machine.{Machine, cell_type, is_reg, type_at, is_card, is_wide, not_wide, is_int}
use Rattle.pat_core.specs.Spot.{Spot, register}
use Rattle.pat_core.specs.Spot as spots
use Rattle.pat_core.specs.Tile.{Tile, is_commutative}
use Rattle.pat_core.specs.Tile as tile

-- `+ - * & | ^`
abbrev pub arith_of : Bin → Option Arith
arith_of bin.Add = Some ariths.Add
arith_of bin.Sub = Some ariths.Sub
arith_of bin.Mul = Some ariths.Mul
arith_of bin.And = Some ariths.And
arith_of bin.Or = Some ariths.Or
arith_of bin.Xor = Some ariths.Xor
arith_of _ = None

-- a shift's amount, and a halt's code, is a number or a field
abbrev pub amount : Term → Option Num
amount (act.Number z) = Some (num.Const z)
amount (act.Field j) = Some (num.Field j)
amount _ = None

-- a number of int(n)
abbrev pub is_in_int : ℕ → ℤ → Bool
is_in_int n z = int_le (neg_ℤ (pos (2 ^ (n - 1)))) z && int_le z (pos (2 ^ (n - 1)) -ℤ pos 1)

-- each number of the type is one of int(n)
abbrev pub is_within_int : ℕ → Ty → Bool
is_within_int n ty.Bool = nat_le 2 n
is_within_int n (ty.Card k) = nat_le (k + 1) n
is_within_int n (ty.Int k) = nat_le k n

-- an address register is a `reg` of card(k) with k less than N
abbrev pub is_address : Machine → ℕ → Bool
is_address m n = is_reg m n && (is_card (cell_type m n) && not_wide m.width (cell_type m n))

-- `DM[j]` for the field j
abbrev pub direct : Machine → ℕ → Spot
direct m j = record { storage = m.dm; at = spots.Field j }

mutual
  -- modulo 2^N; m is the machine, f the types of the fields
  pub data Low (m : Machine) (f : List Ty) : Term → Tile Spot → Type 0 where
    -- a register of int(k) or card(k), k at least N
    WideCell : {n : ℕ} → {i : Term} → {s : Spot} → IsTrue (is_wide m.width (cell_type m n)) → register m n i ≡ Some s → Low m f (act.Cell n i) (tile.Operand s)
    -- a number, wrapped in int(N)
    AnyNumber : {z c : ℤ} → c ≡ wrap m.width z → Low m f (act.Number z) (tile.Number (num.Const c))
    -- a field
    AnyField : {j : ℕ} → Low m f (act.Field j) (tile.Number (num.Field j))
    -- `+ - * & | ^` of two such
    Two : {op : Bin} → {o : Arith} → {a b : Term} → {t u : Tile Spot} → arith_of op ≡ Some o → Low m f a t → Low m f b u → Low m f (act.Binary op a b) (tile.Binary o t u)
    -- `-a`
    Neg : {a : Term} → {t : Tile Spot} → Low m f a t → Low m f (act.Unary un.Neg a) (tile.Unary prefixes.Neg t)
    -- `~a`
    Not : {a : Term} → {t : Tile Spot} → Low m f a t → Low m f (act.Unary un.Inv a) (tile.Unary prefixes.Not t)
    -- `a << k`
    Shl : {a b : Term} → {k : Num} → {t : Tile Spot} → amount b ≡ Some k → Low m f a t → Low m f (act.Binary bin.Shl a b) (tile.Shifted shifts.Shl t k)
    -- `int(k, a)`, k at least N
    IntOf : {k : ℕ} → {a : Term} → {t : Tile Spot} → IsTrue (nat_le m.width k) → Low m f a t → Low m f (act.Unary (un.Int k) a) t
    -- `card(k, a)`, k at least N
    CardOf : {k : ℕ} → {a : Term} → {t : Tile Spot} → IsTrue (nat_le m.width k) → Low m f a t → Low m f (act.Unary (un.Card k) a) t
    -- what is exact
    WhereExact : {e : Term} → {t : Tile Spot} → Exact m f e t → Low m f e t
    -- the operands of `+ * & ^ |` may be swapped
    Swap : {e : Term} → {o : Arith} → {t u : Tile Spot} → IsTrue (is_commutative o) → Low m f e (tile.Binary o t u) → Low m f e (tile.Binary o u t)

  -- exactly
  pub data Exact (m : Machine) (f : List Ty) : Term → Tile Spot → Type 0 where
    -- a register of int(N)
    IntCell : {n : ℕ} → {i : Term} → {s : Spot} → IsTrue (is_int m.width (cell_type m n)) → register m n i ≡ Some s → Exact m f (act.Cell n i) (tile.Operand s)
    -- a cell of the data memory, by a field, or by what gives an address
    MemoryCell : {n : ℕ} → {i : Term} → {t : Tile Spot} → n ≡ m.dm → Addressed m f i t → Exact m f (act.Cell n i) t
    -- the input
    Input : Exact m f act.Inp tile.In
    -- a number of int(N)
    SmallNumber : {z : ℤ} → IsTrue (is_in_int m.width z) → Exact m f (act.Number z) (tile.Number (num.Const z))
    -- a field each number of which is one of int(N)
    SmallField : {j : ℕ} → IsTrue (is_within_int m.width (type_at f j)) → Exact m f (act.Field j) (tile.Number (num.Field j))
    -- `int(N, a)`
    Wrapped : {k : ℕ} → {a : Term} → {t : Tile Spot} → k ≡ m.width → Low m f a t → Exact m f (act.Unary (un.Int k) a) t
    -- `a >> k`
    Shr : {a b : Term} → {k : Num} → {t : Tile Spot} → amount b ≡ Some k → Exact m f a t → Exact m f (act.Binary bin.Shr a b) (tile.Shifted shifts.Shr t k)

  -- the cell of the data memory with this index, as a tree
  pub data Addressed (m : Machine) (f : List Ty) : Term → Tile Spot → Type 0 where
    -- by a field
    Direct : {j : ℕ} → Addressed m f (act.Field j) (tile.Operand (direct m j))
    -- by `card(k, a)`: a load at what a is worth
    Indexed : {k : ℕ} → {a : Term} → {t : Tile Spot} → Low m f a t → Addressed m f (act.Unary (un.Card k) a) (tile.Load t)
    -- by an address register: a load at what it holds
    ByRegister : {n : ℕ} → {i : Term} → {s : Spot} → IsTrue (is_address m n) → register m n i ≡ Some s → Addressed m f (act.Cell n i) (tile.Load (tile.Operand s))
