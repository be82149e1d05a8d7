-- Trees that are equal up to swapped operands.
use Rattle.std.specs.Prelude.{◌≡◌, IsTrue, Option, Some}
use Rattle.ir_core.specs.declared.operator.Prefix.{Prefix}
use Rattle.ir_core.specs.declared.operator.Shift.{Shift}
use Rattle.ir_core.specs.declared.operator.Arith.{Arith}
use Rattle.pat_core.specs.declared.pattern.Num.{Num}
use Rattle.pat_core.specs.Spot.{Spot}
use Rattle.pat_core.specs.Tile.{Tile, is_commutative}
use Rattle.pat_core.specs.Tile as tile

-- the second is the first with operands of `+ * & ^ |` swapped
pub data IsSwap : Tile Spot → Tile Spot → Type 0 where
  -- as it is written
  Itself : {t : Tile Spot} → IsSwap t t
  -- below a load, a prefix, a shift or an operator
  InLoad : {t u : Tile Spot} → IsSwap t u → IsSwap (tile.Load t) (tile.Load u)
  InUnary : {op : Prefix} → {t u : Tile Spot} → IsSwap t u → IsSwap (tile.Unary op t) (tile.Unary op u)
  InShifted : {op : Shift} → {k : Num} → {t u : Tile Spot} → IsSwap t u → IsSwap (tile.Shifted op t k) (tile.Shifted op u k)
  InBinary : {op : Arith} → {t u x y : Tile Spot} → IsSwap t x → IsSwap u y → IsSwap (tile.Binary op t u) (tile.Binary op x y)
  -- the two operands of the root turned
  Turned : {op : Arith} → {s t u : Tile Spot} → IsTrue (is_commutative op) → IsSwap s (tile.Binary op t u) → IsSwap s (tile.Binary op u t)

-- a tree is found, of which t is a swap
abbrev pub Found : Option (Tile Spot) → Tile Spot → Type 0
Found found t = (r : Tile Spot) × (found ≡ Some r) × IsSwap r t
