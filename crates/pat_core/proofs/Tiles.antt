-- The tile of a tree, one variant at a time.
use Rattle.std.proofs.Common.{ℕ, ◌≡◌, sym, ◌∙◌, ap}
use Rattle.ir_core.specs.declared.operator.Prefix.TheVariants as prefixes
use Rattle.ir_core.specs.declared.operator.Shift.TheVariants as shifts
use Rattle.ir_core.specs.declared.operator.Arith.TheVariants as ariths
use Rattle.pat_core.specs.declared.pattern.Num.{Num}
use Rattle.pat_core.specs.declared.pattern.PTree.{PTree}
use Rattle.pat_core.specs.declared.pattern.PTree.TheOpen.{PTree-F}
use Rattle.pat_core.specs.declared.pattern.PTree.TheFolds.{fold-PTree, fold-roll-PTree, map-PTree}
use Rattle.pat_core.specs.declared.pattern.PTree.TheViews.{roll-PTree}
use Rattle.pat_core.specs.declared.pattern.PTree.TheVariants as e
use Rattle.pat_core.specs.Tile.{Tile, Operand, Number, In, Load, Unary, Shifted, Binary, tile, tile_step}

-- any tree
pub tile_at : {d : PTree} (l : PTree-F PTree) → roll-PTree l ≡ d → tile d ≡ tile_step (map-PTree PTree (Tile ℕ) tile l)
unfolding tile
tile_at l is = ap (fold-PTree (Tile ℕ) tile_step) (sym is) ∙ fold-roll-PTree (Tile ℕ) tile_step l

-- and each kind of tree
pub tile-Operand : (i : ℕ) → tile (e.Operand i) ≡ Operand i
tile-Operand i = tile_at (PTree-F.Operand i) (e.rolls-Operand i)

pub tile-Number : (c : Num) → tile (e.Number c) ≡ Number c
tile-Number c = tile_at (PTree-F.Number c) (e.rolls-Number c)

pub tile-In : tile e.In ≡ In
tile-In = tile_at PTree-F.In e.rolls-In

pub tile-Load : (t : PTree) → tile (e.Load t) ≡ Load (tile t)
tile-Load t = tile_at (PTree-F.Load t) (e.rolls-Load t)

pub tile-Neg : (t : PTree) → tile (e.Neg t) ≡ Unary prefixes.Neg (tile t)
tile-Neg t = tile_at (PTree-F.Neg t) (e.rolls-Neg t)

pub tile-Not : (t : PTree) → tile (e.Not t) ≡ Unary prefixes.Not (tile t)
tile-Not t = tile_at (PTree-F.Not t) (e.rolls-Not t)

pub tile-Shl : (t : PTree) (k : Num) → tile (e.Shl t k) ≡ Shifted shifts.Shl (tile t) k
tile-Shl t k = tile_at (PTree-F.Shl t k) (e.rolls-Shl t k)

pub tile-Shr : (t : PTree) (k : Num) → tile (e.Shr t k) ≡ Shifted shifts.Shr (tile t) k
tile-Shr t k = tile_at (PTree-F.Shr t k) (e.rolls-Shr t k)

pub tile-Add : (t u : PTree) → tile (e.Add t u) ≡ Binary ariths.Add (tile t) (tile u)
tile-Add t u = tile_at (PTree-F.Add t u) (e.rolls-Add t u)

pub tile-Sub : (t u : PTree) → tile (e.Sub t u) ≡ Binary ariths.Sub (tile t) (tile u)
tile-Sub t u = tile_at (PTree-F.Sub t u) (e.rolls-Sub t u)

pub tile-Mul : (t u : PTree) → tile (e.Mul t u) ≡ Binary ariths.Mul (tile t) (tile u)
tile-Mul t u = tile_at (PTree-F.Mul t u) (e.rolls-Mul t u)

pub tile-And : (t u : PTree) → tile (e.And t u) ≡ Binary ariths.And (tile t) (tile u)
tile-And t u = tile_at (PTree-F.And t u) (e.rolls-And t u)

pub tile-Or : (t u : PTree) → tile (e.Or t u) ≡ Binary ariths.Or (tile t) (tile u)
tile-Or t u = tile_at (PTree-F.Or t u) (e.rolls-Or t u)

pub tile-Xor : (t u : PTree) → tile (e.Xor t u) ≡ Binary ariths.Xor (tile t) (tile u)
tile-Xor t u = tile_at (PTree-F.Xor t u) (e.rolls-Xor t u)

pub ruleset tile_laws = (tile-Operand, tile-Number, tile-In, tile-Load, tile-Neg, tile-Not, tile-Shl, tile-Shr, tile-Add, tile-Sub, tile-Mul, tile-And, tile-Or, tile-Xor)
