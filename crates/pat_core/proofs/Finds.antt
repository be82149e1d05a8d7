-- The tree that is found for an expression is worth what the expression is, by the cases of Low and Exact.
use Rattle.std.specs.Prelude.{◌≡◌, refl, ℕ, ℤ, Bool, true, false, List, Option, Some, None, option_map, ◌==◌, nat_le, ◌⊎◌, if◌then◌else◌}
use Rattle.std.proofs.Common.{subst, inl, inr}
use native.Mathlib.Omega.{arith}
use Rattle.nk_base.specs.declared.number.Ty.{Ty}
use Rattle.nml_tree.specs.declared.operator.Un.{Un}
use Rattle.nml_tree.specs.declared.operator.Un.TheVariants as un
use Rattle.nml_tree.specs.declared.operator.Bin.{Bin}
use Rattle.nml_tree.specs.declared.operator.Bin.TheVariants as bin
use Rattle.nml_tree.specs.Act.{Term}
use Rattle.nml_tree.specs.Act as act
use Rattle.ir_core.specs.declared.operator.Prefix.TheVariants as prefixes
use Rattle.ir_core.specs.declared.operator.Shift.TheVariants as shifts
use Rattle.ir_core.specs.declared.operator.Arith.{Arith}
use Rattle.ir_core.specs.declared.operator.Arith.TheVariants as ariths
use Rattle.pat_core.specs.declared.pattern.Num.{Num}
use Rattle.pat_core.specs.declared.pattern.Num.TheVariants as num
use Rattle.pat_core.specs.Machine.{Machine, cell_type, type_at, is_wide, is_int}
use Rattle.pat_core.specs.Spot.{Spot, register}
use Rattle.pat_core.specs.Tile.{Tile}
use Rattle.pat_core.specs.Tile as tile
use Rattle.pat_core.specs.Low.{Low, Exact, Addressed, arith_of, amount, is_address, is_in_int, is_within_int, WideCell, AnyNumber, AnyField, Two, Neg, Not, Shl, IntOf, CardOf, WhereExact, IntCell, MemoryCell, Input, SmallNumber, SmallField, Wrapped, Shr, Direct, Indexed, ByRegister}
use Rattle.pat_core.specs.Find.{Tree, when, two, shift, operand, cell, low_unary, low_binary, exact_unary, exact_binary, addressed_unary, low, exact, addressed}

-- ---- what a tree was made of

pub when_some : (b : Bool) (t : Tree) (r : Tile Spot) → when b t ≡ Some r → (b ≡ true) × (t ≡ Some r)
when_some true t r h = (refl, h)
when_some false t r h = absurd cc

two_some : (g : Tile Spot → Tile Spot → Tile Spot) (t u : Tree) (r : Tile Spot) → two g t u ≡ Some r → (x y : Tile Spot) × (t ≡ Some x) × (u ≡ Some y) × (g x y ≡ r)
two_some g (Some x) (Some y) r h = (x, y, refl, refl, cc)
two_some g (Some x) None r h = absurd cc
two_some g None u r h = absurd cc

shift_some : (g : Tile Spot → Num → Tile Spot) (t : Tree) (k : Option Num) (r : Tile Spot) → shift g t k ≡ Some r → (x : Tile Spot) × (c : Num) × (t ≡ Some x) × (k ≡ Some c) × (g x c ≡ r)
shift_some g (Some x) (Some c) r h = (x, c, refl, refl, cc)
shift_some g (Some x) None r h = absurd cc
shift_some g None k r h = absurd cc

map_some : {A : Type 0} (g : A → Tile Spot) (t : Option A) (r : Tile Spot) → option_map g t ≡ Some r → (x : A) × (t ≡ Some x) × (g x ≡ r)
map_some g (Some x) r h = (x, refl, cc)
map_some g None r h = absurd cc

-- ---- operators

low_unary_is : (m : Machine) (f : List Ty) (op : Un) (a : Term) (t : Tree) → ((x : Tile Spot) → t ≡ Some x → Low m f a x)
    → (r : Tile Spot) → low_unary m op t ≡ Some r → Low m f (act.Unary op a) r
low_unary_is m f un.Neg a t is r h = let s = map_some (tile.Unary prefixes.Neg) t r h in subst (Low m f (act.Unary un.Neg a)) s.2 (Neg (is s.0 s.1))
low_unary_is m f un.Inv a t is r h = let s = map_some (tile.Unary prefixes.Not) t r h in subst (Low m f (act.Unary un.Inv a)) s.2 (Not (is s.0 s.1))
low_unary_is m f un.Not a t is r h = absurd cc
low_unary_is m f (un.Int k) a t is r h = let s = when_some (nat_le m.width k) t r h in IntOf s.0 (is r s.1)
low_unary_is m f (un.Card k) a t is r h = let s = when_some (nat_le m.width k) t r h in CardOf s.0 (is r s.1)
low_unary_is m f (un.Sat k) a t is r h = absurd cc
low_unary_is m f (un.Bits hi lo) a t is r h = absurd cc

arith_is : (m : Machine) (f : List Ty) (op : Bin) (o : Arith) (a b : Term) (t u : Tree) → arith_of op ≡ Some o
    → ((x : Tile Spot) → t ≡ Some x → Low m f a x) → ((x : Tile Spot) → u ≡ Some x → Low m f b x)
    → (r : Tile Spot) → two (tile.Binary o) t u ≡ Some r → Low m f (act.Binary op a b) r
arith_is m f op o a b t u so left right r h =
    let s = two_some (tile.Binary o) t u r h in subst (Low m f (act.Binary op a b)) s.4 (Two so (left s.0 s.2) (right s.1 s.3))

shr_is : (m : Machine) (f : List Ty) (a b : Term) (x : Tree) → ((y : Tile Spot) → x ≡ Some y → Exact m f a y)
    → (r : Tile Spot) → shift (tile.Shifted shifts.Shr) x (amount b) ≡ Some r → Exact m f (act.Binary bin.Shr a b) r
shr_is m f a b x is r h =
    let s = shift_some (tile.Shifted shifts.Shr) x (amount b) r h in subst (Exact m f (act.Binary bin.Shr a b)) s.4 (Shr s.3 (is s.0 s.2))

low_binary_is : (m : Machine) (f : List Ty) (op : Bin) (a b : Term) (t x u : Tree) → ((y : Tile Spot) → t ≡ Some y → Low m f a y)
    → ((y : Tile Spot) → x ≡ Some y → Exact m f a y) → ((y : Tile Spot) → u ≡ Some y → Low m f b y)
    → (r : Tile Spot) → low_binary op t x u (amount b) ≡ Some r → Low m f (act.Binary op a b) r
low_binary_is m f bin.OrElse a b t x u left exactly right r h = absurd cc
low_binary_is m f bin.AndAlso a b t x u left exactly right r h = absurd cc
low_binary_is m f bin.Or a b t x u left exactly right r h = arith_is m f bin.Or ariths.Or a b t u refl left right r h
low_binary_is m f bin.Xor a b t x u left exactly right r h = arith_is m f bin.Xor ariths.Xor a b t u refl left right r h
low_binary_is m f bin.And a b t x u left exactly right r h = arith_is m f bin.And ariths.And a b t u refl left right r h
low_binary_is m f bin.Eq a b t x u left exactly right r h = absurd cc
low_binary_is m f bin.Ne a b t x u left exactly right r h = absurd cc
low_binary_is m f bin.Lt a b t x u left exactly right r h = absurd cc
low_binary_is m f bin.Le a b t x u left exactly right r h = absurd cc
low_binary_is m f bin.Gt a b t x u left exactly right r h = absurd cc
low_binary_is m f bin.Ge a b t x u left exactly right r h = absurd cc
low_binary_is m f bin.Shl a b t x u left exactly right r h =
    let s = shift_some (tile.Shifted shifts.Shl) t (amount b) r h in subst (Low m f (act.Binary bin.Shl a b)) s.4 (Shl s.3 (left s.0 s.2))
low_binary_is m f bin.Shr a b t x u left exactly right r h = WhereExact (shr_is m f a b x exactly r h)
low_binary_is m f bin.Add a b t x u left exactly right r h = arith_is m f bin.Add ariths.Add a b t u refl left right r h
low_binary_is m f bin.Sub a b t x u left exactly right r h = arith_is m f bin.Sub ariths.Sub a b t u refl left right r h
low_binary_is m f bin.Mul a b t x u left exactly right r h = arith_is m f bin.Mul ariths.Mul a b t u refl left right r h

exact_unary_is : (m : Machine) (f : List Ty) (op : Un) (a : Term) (t : Tree) → ((x : Tile Spot) → t ≡ Some x → Low m f a x)
    → (r : Tile Spot) → exact_unary m op t ≡ Some r → Exact m f (act.Unary op a) r
exact_unary_is m f un.Neg a t is r h = absurd cc
exact_unary_is m f un.Inv a t is r h = absurd cc
exact_unary_is m f un.Not a t is r h = absurd cc
exact_unary_is m f (un.Int k) a t is r h = let s = when_some (k == m.width) t r h in Wrapped (grind arith) (is r s.1)
exact_unary_is m f (un.Card k) a t is r h = absurd cc
exact_unary_is m f (un.Sat k) a t is r h = absurd cc
exact_unary_is m f (un.Bits hi lo) a t is r h = absurd cc

addressed_unary_is : (m : Machine) (f : List Ty) (op : Un) (a : Term) (t : Tree) → ((x : Tile Spot) → t ≡ Some x → Low m f a x)
    → (r : Tile Spot) → addressed_unary op t ≡ Some r → Addressed m f (act.Unary op a) r
addressed_unary_is m f un.Neg a t is r h = absurd cc
addressed_unary_is m f un.Inv a t is r h = absurd cc
addressed_unary_is m f un.Not a t is r h = absurd cc
addressed_unary_is m f (un.Int k) a t is r h = absurd cc
addressed_unary_is m f (un.Card k) a t is r h = let s = map_some (λ t. tile.Load t) t r h in subst (Addressed m f (act.Unary (un.Card k) a)) s.2 (Indexed (is s.0 s.1))
addressed_unary_is m f (un.Sat k) a t is r h = absurd cc
addressed_unary_is m f (un.Bits hi lo) a t is r h = absurd cc

exact_binary_is : (m : Machine) (f : List Ty) (op : Bin) (a b : Term) (x : Tree) → ((y : Tile Spot) → x ≡ Some y → Exact m f a y)
    → (r : Tile Spot) → exact_binary op x (amount b) ≡ Some r → Exact m f (act.Binary op a b) r
exact_binary_is m f bin.OrElse a b x is r h = absurd cc
exact_binary_is m f bin.AndAlso a b x is r h = absurd cc
exact_binary_is m f bin.Or a b x is r h = absurd cc
exact_binary_is m f bin.Xor a b x is r h = absurd cc
exact_binary_is m f bin.And a b x is r h = absurd cc
exact_binary_is m f bin.Eq a b x is r h = absurd cc
exact_binary_is m f bin.Ne a b x is r h = absurd cc
exact_binary_is m f bin.Lt a b x is r h = absurd cc
exact_binary_is m f bin.Le a b x is r h = absurd cc
exact_binary_is m f bin.Gt a b x is r h = absurd cc
exact_binary_is m f bin.Ge a b x is r h = absurd cc
exact_binary_is m f bin.Shl a b x is r h = absurd cc
exact_binary_is m f bin.Shr a b x is r h = shr_is m f a b x is r h
exact_binary_is m f bin.Add a b x is r h = absurd cc
exact_binary_is m f bin.Sub a b x is r h = absurd cc
exact_binary_is m f bin.Mul a b x is r h = absurd cc

-- ---- cells

if_some : (b : Bool) (t u : Tree) (r : Tile Spot) → (if b then t else u) ≡ Some r → ((b ≡ true) × (t ≡ Some r)) ⊎ ((b ≡ false) × (u ≡ Some r))
if_some true t u r h = inl (refl, h)
if_some false t u r h = inr (refl, h)

operand_is : (m : Machine) (n : ℕ) (i : Term) (r : Tile Spot) → operand m n i ≡ Some r → (s : Spot) × (register m n i ≡ Some s) × (tile.Operand s ≡ r)
operand_is m n i r h = map_some (λ s. tile.Operand s) (register m n i) r h

memory_is : (m : Machine) (f : List Ty) (n : ℕ) (i : Term) (r : Tile Spot) → (n == m.dm) ≡ true → Addressed m f i r → Exact m f (act.Cell n i) r
memory_is m f n i r e a = MemoryCell (grind arith) a

low_cell_is : (m : Machine) (f : List Ty) (n : ℕ) (i : Term) (t : Tree) → ((x : Tile Spot) → t ≡ Some x → Addressed m f i x)
    → (r : Tile Spot) → cell (is_wide m.width) m n i t ≡ Some r → Low m f (act.Cell n i) r
low_cell_is m f n i t is r h = both (if_some (n == m.dm) t (when (is_wide m.width (cell_type m n)) (operand m n i)) r h) where
  both : (((n == m.dm) ≡ true) × (t ≡ Some r)) ⊎ (((n == m.dm) ≡ false) × (when (is_wide m.width (cell_type m n)) (operand m n i) ≡ Some r)) → Low m f (act.Cell n i) r
  both (inl s) = WhereExact (memory_is m f n i r s.0 (is r s.1))
  both (inr s) =
      let w = when_some (is_wide m.width (cell_type m n)) (operand m n i) r s.1 in
      let o = operand_is m n i r w.1 in subst (Low m f (act.Cell n i)) o.2 (WideCell w.0 o.1)

exact_cell_is : (m : Machine) (f : List Ty) (n : ℕ) (i : Term) (t : Tree) → ((x : Tile Spot) → t ≡ Some x → Addressed m f i x)
    → (r : Tile Spot) → cell (is_int m.width) m n i t ≡ Some r → Exact m f (act.Cell n i) r
exact_cell_is m f n i t is r h = both (if_some (n == m.dm) t (when (is_int m.width (cell_type m n)) (operand m n i)) r h) where
  both : (((n == m.dm) ≡ true) × (t ≡ Some r)) ⊎ (((n == m.dm) ≡ false) × (when (is_int m.width (cell_type m n)) (operand m n i) ≡ Some r)) → Exact m f (act.Cell n i) r
  both (inl s) = memory_is m f n i r s.0 (is r s.1)
  both (inr s) =
      let w = when_some (is_int m.width (cell_type m n)) (operand m n i) r s.1 in
      let o = operand_is m n i r w.1 in subst (Exact m f (act.Cell n i)) o.2 (IntCell w.0 o.1)

address_register_is : (m : Machine) (f : List Ty) (n : ℕ) (i : Term) (r : Tile Spot) → when (is_address m n) (option_map (λ t. tile.Load t) (operand m n i)) ≡ Some r
    → Addressed m f (act.Cell n i) r
address_register_is m f n i r h =
    let w = when_some (is_address m n) (option_map (λ t. tile.Load t) (operand m n i)) r h in
    let l = map_some (λ t. tile.Load t) (operand m n i) r w.1 in
    let o = operand_is m n i l.0 l.1 in
    subst (Addressed m f (act.Cell n i)) l.2 (subst (λ x. Addressed m f (act.Cell n i) (tile.Load x)) o.2 (ByRegister w.0 o.1))

some_is : {x y : Tile Spot} → Some x ≡ Some y → x ≡ y
some_is h = cc

small_number_is : (m : Machine) (f : List Ty) (z : ℤ) (r : Tile Spot) → when (is_in_int m.width z) (Some (tile.Number (num.Const z))) ≡ Some r → Exact m f (act.Number z) r
small_number_is m f z r h =
    let w = when_some (is_in_int m.width z) (Some (tile.Number (num.Const z))) r h in subst (Exact m f (act.Number z)) (some_is w.1) (SmallNumber w.0)

small_field_is : (m : Machine) (f : List Ty) (j : ℕ) (r : Tile Spot) → when (is_within_int m.width (type_at f j)) (Some (tile.Number (num.Field j))) ≡ Some r
    → Exact m f (act.Field j) r
small_field_is m f j r h =
    let w = when_some (is_within_int m.width (type_at f j)) (Some (tile.Number (num.Field j))) r h in subst (Exact m f (act.Field j)) (some_is w.1) (SmallField w.0)

-- ---- the three

mutual
  pub low_is : (m : Machine) (f : List Ty) (e : Term) (r : Tile Spot) → low m f e ≡ Some r → Low m f e r
  low_is m f (act.Number z) r h = subst (Low m f (act.Number z)) (some_is h) (AnyNumber refl)
  low_is m f (act.Field j) r h = subst (Low m f (act.Field j)) (some_is h) AnyField
  low_is m f (act.Cell n i) r h = low_cell_is m f n i (addressed m f i) (addressed_is m f i) r h
  low_is m f act.Inp r h = subst (Low m f act.Inp) (some_is h) (WhereExact Input)
  low_is m f (act.Unary op a) r h = low_unary_is m f op a (low m f a) (low_is m f a) r h
  low_is m f (act.Binary op a b) r h = low_binary_is m f op a b (low m f a) (exact m f a) (low m f b) (low_is m f a) (exact_is m f a) (low_is m f b) r h
  low_is m f (act.Trn n) r h = absurd cc
  low_is m f act.Out r h = absurd cc
  low_is m f (act.Choose c x y) r h = absurd cc

  pub exact_is : (m : Machine) (f : List Ty) (e : Term) (r : Tile Spot) → exact m f e ≡ Some r → Exact m f e r
  exact_is m f (act.Number z) r h = small_number_is m f z r h
  exact_is m f (act.Field j) r h = small_field_is m f j r h
  exact_is m f (act.Cell n i) r h = exact_cell_is m f n i (addressed m f i) (addressed_is m f i) r h
  exact_is m f act.Inp r h = subst (Exact m f act.Inp) (some_is h) Input
  exact_is m f (act.Unary op a) r h = exact_unary_is m f op a (low m f a) (low_is m f a) r h
  exact_is m f (act.Binary op a b) r h = exact_binary_is m f op a b (exact m f a) (exact_is m f a) r h
  exact_is m f (act.Trn n) r h = absurd cc
  exact_is m f act.Out r h = absurd cc
  exact_is m f (act.Choose c x y) r h = absurd cc

  pub addressed_is : (m : Machine) (f : List Ty) (e : Term) (r : Tile Spot) → addressed m f e ≡ Some r → Addressed m f e r
  addressed_is m f (act.Number z) r h = absurd cc
  addressed_is m f (act.Field j) r h = subst (Addressed m f (act.Field j)) (some_is h) Direct
  addressed_is m f (act.Cell n i) r h = address_register_is m f n i r h
  addressed_is m f act.Inp r h = absurd cc
  addressed_is m f (act.Unary op a) r h = addressed_unary_is m f op a (low m f a) (low_is m f a) r h
  addressed_is m f (act.Binary op a b) r h = absurd cc
  addressed_is m f (act.Trn n) r h = absurd cc
  addressed_is m f act.Out r h = absurd cc
  addressed_is m f (act.Choose c x y) r h = absurd cc
