-- Each tree of Low is, up to swapped operands, the one that is found; so an expression has one tree as written.
use Rattle.std.specs.Prelude.{◌≡◌, refl, ℕ, ℤ, Bool, true, false, IsTrue, List, Option, Some, None, option_map, option_and_then, ◌==◌, ◌||◌, nat_le, if◌then◌else◌}
use Rattle.std.proofs.Common.{sym, ap, ◌∙◌}
use native.Mathlib.Omega.{arith}
use Rattle.nk_base.specs.declared.number.Ty.{Ty}
use Rattle.nk_base.specs.declared.number.Ty.TheVariants as ty
use Rattle.nml_tree.specs.declared.operator.Un.{Un}
use Rattle.nml_tree.specs.declared.operator.Un.TheVariants as un
use Rattle.nml_tree.specs.declared.operator.Bin.{Bin}
use Rattle.nml_tree.specs.declared.operator.Bin.TheVariants as bin
use Rattle.nml_tree.specs.Act.{Term}
use Rattle.nml_tree.specs.Act as act
use Rattle.ir_core.specs.Operator.{wrap}
use Rattle.ir_core.specs.declared.operator.Prefix.TheVariants as prefixes
use Rattle.ir_core.specs.declared.operator.Shift.TheVariants as shifts
use Rattle.ir_core.specs.declared.operator.Arith.{Arith}
use Rattle.pat_core.specs.declared.pattern.Num.{Num}
use Rattle.pat_core.specs.declared.pattern.Num.TheVariants as num
use Rattle.pat_core.specs.Machine.{Machine, cell_type, type_at, is_wide, is_int}
use Rattle.pat_core.specs.Spot.{Spot, register, spot, at, is_named}
use Rattle.pat_core.specs.Tile.{Tile, is_commutative}
use Rattle.pat_core.specs.Tile as tile
use Rattle.pat_core.specs.Low.{Low, Exact, Addressed, arith_of, amount, is_address, is_in_int, is_within_int, WideCell, AnyNumber, AnyField, Two, Neg, Not, Shl, IntOf, CardOf, WhereExact, Swap, IntCell, MemoryCell, Input, SmallNumber, SmallField, Wrapped, Shr, Direct, Indexed, ByRegister}
use Rattle.pat_core.specs.Swapped.{Found, Itself, InLoad, InUnary, InShifted, InBinary, Turned}
use Rattle.pat_core.proofs.Finds.{when_some}
use Rattle.pat_core.specs.Find.{Tree, when, two, shift, operand, cell, low_unary, low_binary, exact_unary, exact_binary, low, exact, addressed}

-- numbers in int(N) are their own wraps
abbrev pub Small : ℕ → Type 0
Small n = (z : ℤ) → IsTrue (is_in_int n z) → wrap n z ≡ z

-- ---- registers

taken_else : (b : Bool) (o : Option Spot) (s : Spot) → (if b then None else o) ≡ Some s → b ≡ false
taken_else true o s h = absurd cc
taken_else false o s h = refl

neither : (b c : Bool) → (b || c) ≡ false → b ≡ false
neither true c h = absurd cc
neither false c h = refl

not_memory : (m : Machine) (n : ℕ) (i : Term) (s : Spot) → register m n i ≡ Some s → (n == m.dm) ≡ false
not_memory m n i s h = neither (n == m.dm) (n == m.pc) (taken_else ((n == m.dm) || (n == m.pc)) (if is_named (at i) then Some (spot n i) else None) s h)

else_is : (b : Bool) (t u : Tree) → b ≡ false → (if b then t else u) ≡ u
else_is true t u h = absurd cc
else_is false t u h = refl

when_is : (b : Bool) (t : Tree) → IsTrue b → when b t ≡ t
when_is true t h = refl
when_is false t h = absurd cc

cell_found : (is : Ty → Bool) (m : Machine) (n : ℕ) (i : Term) (s : Spot) (t : Tree) → IsTrue (is (cell_type m n)) → register m n i ≡ Some s
    → cell is m n i t ≡ Some (tile.Operand s)
cell_found is m n i s t good h =
    else_is (n == m.dm) t (when (is (cell_type m n)) (operand m n i)) (not_memory m n i s h) ∙ when_is (is (cell_type m n)) (operand m n i) good
    ∙ ap (option_map (λ s. tile.Operand s)) h

-- ---- operators

arith_found : (op : Bin) (o : Arith) (t x u : Tree) (k : Option Num) → arith_of op ≡ Some o → low_binary op t x u k ≡ two (tile.Binary o) t u
arith_found bin.OrElse o t x u k h = absurd cc
arith_found bin.AndAlso o t x u k h = absurd cc
arith_found bin.Or o t x u k h = ap (option_and_then (λ o. two (tile.Binary o) t u)) h
arith_found bin.Xor o t x u k h = ap (option_and_then (λ o. two (tile.Binary o) t u)) h
arith_found bin.And o t x u k h = ap (option_and_then (λ o. two (tile.Binary o) t u)) h
arith_found bin.Eq o t x u k h = absurd cc
arith_found bin.Ne o t x u k h = absurd cc
arith_found bin.Lt o t x u k h = absurd cc
arith_found bin.Le o t x u k h = absurd cc
arith_found bin.Gt o t x u k h = absurd cc
arith_found bin.Ge o t x u k h = absurd cc
arith_found bin.Shl o t x u k h = absurd cc
arith_found bin.Shr o t x u k h = absurd cc
arith_found bin.Add o t x u k h = ap (option_and_then (λ o. two (tile.Binary o) t u)) h
arith_found bin.Sub o t x u k h = ap (option_and_then (λ o. two (tile.Binary o) t u)) h
arith_found bin.Mul o t x u k h = ap (option_and_then (λ o. two (tile.Binary o) t u)) h

two_found : (g : Tile Spot → Tile Spot → Tile Spot) (t u : Tree) (x y : Tile Spot) → t ≡ Some x → u ≡ Some y → two g t u ≡ Some (g x y)
two_found g t u x y h k = ap (λ t. two g t u) h ∙ ap (option_map (g x)) k

shift_found : (g : Tile Spot → Num → Tile Spot) (t : Tree) (k : Option Num) (x : Tile Spot) (c : Num) → t ≡ Some x → k ≡ Some c → shift g t k ≡ Some (g x c)
shift_found g t k x c h e = ap (λ t. shift g t k) h ∙ ap (option_map (g x)) e

-- ---- what is exact is low

int_is_wide : (n : ℕ) (t : Ty) → IsTrue (is_int n t) → IsTrue (is_wide n t)
int_is_wide n ty.Bool h = absurd cc
int_is_wide n (ty.Card k) h = absurd cc
int_is_wide n (ty.Int k) h = grind arith

widened : (b p q : Bool) (t u : Tree) (r : Tile Spot) → (IsTrue p → IsTrue q) → (if b then t else when p u) ≡ Some r → (if b then t else when q u) ≡ Some r
widened true p q t u r wider h = h
widened false p q t u r wider h = let w = when_some p u r h in when_is q u (wider w.0) ∙ w.1

int_at_least : (m : Machine) (k : ℕ) → IsTrue (k == m.width) → IsTrue (nat_le m.width k)
int_at_least m k h = grind arith

unary_widened : (m : Machine) (op : Un) (t : Tree) (r : Tile Spot) → exact_unary m op t ≡ Some r → low_unary m op t ≡ Some r
unary_widened m un.Neg t r h = absurd cc
unary_widened m un.Inv t r h = absurd cc
unary_widened m un.Not t r h = absurd cc
unary_widened m (un.Int k) t r h = let w = when_some (k == m.width) t r h in when_is (nat_le m.width k) t (int_at_least m k w.0) ∙ w.1
unary_widened m (un.Card k) t r h = absurd cc
unary_widened m (un.Sat k) t r h = absurd cc
unary_widened m (un.Bits hi lo) t r h = absurd cc

binary_widened : (op : Bin) (t x u : Tree) (k : Option Num) (r : Tile Spot) → exact_binary op x k ≡ Some r → low_binary op t x u k ≡ Some r
binary_widened bin.OrElse t x u k r h = absurd cc
binary_widened bin.AndAlso t x u k r h = absurd cc
binary_widened bin.Or t x u k r h = absurd cc
binary_widened bin.Xor t x u k r h = absurd cc
binary_widened bin.And t x u k r h = absurd cc
binary_widened bin.Eq t x u k r h = absurd cc
binary_widened bin.Ne t x u k r h = absurd cc
binary_widened bin.Lt t x u k r h = absurd cc
binary_widened bin.Le t x u k r h = absurd cc
binary_widened bin.Gt t x u k r h = absurd cc
binary_widened bin.Ge t x u k r h = absurd cc
binary_widened bin.Shl t x u k r h = absurd cc
binary_widened bin.Shr t x u k r h = h
binary_widened bin.Add t x u k r h = absurd cc
binary_widened bin.Sub t x u k r h = absurd cc
binary_widened bin.Mul t x u k r h = absurd cc

-- the tree that is found exactly is found as low
exact_low : (m : Machine) (f : List Ty) → Small m.width → (e : Term) (r : Tile Spot) → exact m f e ≡ Some r → low m f e ≡ Some r
exact_low m f small (act.Number z) r h =
    let w = when_some (is_in_int m.width z) (Some (tile.Number (num.Const z))) r h in ap (λ z. Some (tile.Number (num.Const z))) (small z w.0) ∙ w.1
exact_low m f small (act.Field j) r h = (when_some (is_within_int m.width (type_at f j)) (Some (tile.Number (num.Field j))) r h).1
exact_low m f small (act.Cell n i) r h =
    widened (n == m.dm) (is_int m.width (cell_type m n)) (is_wide m.width (cell_type m n)) (addressed m f i) (operand m n i) r (int_is_wide m.width (cell_type m n)) h
exact_low m f small (act.Trn n) r h = absurd cc
exact_low m f small act.Inp r h = h
exact_low m f small act.Out r h = absurd cc
exact_low m f small (act.Unary op a) r h = unary_widened m op (low m f a) r h
exact_low m f small (act.Binary op a b) r h = binary_widened op (low m f a) (exact m f a) (low m f b) (amount b) r h
exact_low m f small (act.Choose c x y) r h = absurd cc

-- ---- all trees are found

memory_found : (is : Ty → Bool) (m : Machine) (n : ℕ) (i : Term) (t : Tree) → n ≡ m.dm → cell is m n i t ≡ t
memory_found is m n i t h = then_is (n == m.dm) t (when (is (cell_type m n)) (operand m n i)) (grind arith) where
  then_is : (b : Bool) (t u : Tree) → b ≡ true → (if b then t else u) ≡ t
  then_is true t u h = refl
  then_is false t u h = absurd cc

mutual
  pub low_found : (m : Machine) (f : List Ty) (small : Small m.width) (e : Term) (t : Tile Spot) → Low m f e t → Found (low m f e) t
  low_found m f small _ _ (WideCell {n} {i} {s} wide is) = (tile.Operand s, cell_found (is_wide m.width) m n i s (addressed m f i) wide is, Itself)
  low_found m f small _ _ (AnyNumber {z} {c} is) = (tile.Number (num.Const c), ap (λ c. Some (tile.Number (num.Const c))) (sym is), Itself)
  low_found m f small _ _ (AnyField {j}) = (tile.Number (num.Field j), refl, Itself)
  low_found m f small _ _ (Two {op} {o} {a} {b} {t} {u} is la lb) =
      let x = low_found m f small a t la in let y = low_found m f small b u lb in (
        tile.Binary o x.0 y.0,
        arith_found op o (low m f a) (exact m f a) (low m f b) (amount b) is ∙ two_found (tile.Binary o) (low m f a) (low m f b) x.0 y.0 x.1 y.1,
        InBinary x.2 y.2,
      )
  low_found m f small _ _ (Neg {a} {t} l) =
      let x = low_found m f small a t l in (tile.Unary prefixes.Neg x.0, ap (option_map (tile.Unary prefixes.Neg)) x.1, InUnary x.2)
  low_found m f small _ _ (Not {a} {t} l) =
      let x = low_found m f small a t l in (tile.Unary prefixes.Not x.0, ap (option_map (tile.Unary prefixes.Not)) x.1, InUnary x.2)
  low_found m f small _ _ (Shl {a} {b} {k} {t} is l) =
      let x = low_found m f small a t l in
      (tile.Shifted shifts.Shl x.0 k, shift_found (tile.Shifted shifts.Shl) (low m f a) (amount b) x.0 k x.1 is, InShifted x.2)
  low_found m f small _ _ (IntOf {k} {a} {t} wide l) =
      let x = low_found m f small a t l in (x.0, when_is (nat_le m.width k) (low m f a) wide ∙ x.1, x.2)
  low_found m f small _ _ (CardOf {k} {a} {t} wide l) =
      let x = low_found m f small a t l in (x.0, when_is (nat_le m.width k) (low m f a) wide ∙ x.1, x.2)
  low_found m f small _ _ (WhereExact {e} {t} exactly) =
      let x = exact_found m f small e t exactly in (x.0, exact_low m f small e x.0 x.1, x.2)
  low_found m f small _ _ (Swap {e} {o} {t} {u} swaps l) =
      let x = low_found m f small e (tile.Binary o t u) l in (x.0, x.1, Turned swaps x.2)

  pub exact_found : (m : Machine) (f : List Ty) (small : Small m.width) (e : Term) (t : Tile Spot) → Exact m f e t → Found (exact m f e) t
  exact_found m f small _ _ (IntCell {n} {i} {s} good is) = (tile.Operand s, cell_found (is_int m.width) m n i s (addressed m f i) good is, Itself)
  exact_found m f small _ _ (MemoryCell {n} {i} {t} is at_index) =
      let x = addressed_found m f small i t at_index in (x.0, memory_found (is_int m.width) m n i (addressed m f i) is ∙ x.1, x.2)
  exact_found m f small _ _ Input = (tile.In, refl, Itself)
  exact_found m f small _ _ (SmallNumber {z} is) = (tile.Number (num.Const z), when_is (is_in_int m.width z) (Some (tile.Number (num.Const z))) is, Itself)
  exact_found m f small _ _ (SmallField {j} is) =
      (tile.Number (num.Field j), when_is (is_within_int m.width (type_at f j)) (Some (tile.Number (num.Field j))) is, Itself)
  exact_found m f small _ _ (Wrapped {k} {a} {t} is l) =
      let x = low_found m f small a t l in (x.0, when_is (k == m.width) (low m f a) (grind arith) ∙ x.1, x.2)
  exact_found m f small _ _ (Shr {a} {b} {k} {t} is l) =
      let x = exact_found m f small a t l in
      (tile.Shifted shifts.Shr x.0 k, shift_found (tile.Shifted shifts.Shr) (exact m f a) (amount b) x.0 k x.1 is, InShifted x.2)

  pub addressed_found : (m : Machine) (f : List Ty) (small : Small m.width) (i : Term) (t : Tile Spot) → Addressed m f i t → Found (addressed m f i) t
  addressed_found m f small _ _ (Direct {j}) = (_, refl, Itself)
  addressed_found m f small _ _ (Indexed {k} {a} {t} l) = let x = low_found m f small a t l in (tile.Load x.0, ap (option_map (λ t. tile.Load t)) x.1, InLoad x.2)
  addressed_found m f small _ _ (ByRegister {n} {i} {s} good is) = (
    tile.Load (tile.Operand s),
    when_is (is_address m n) (option_map (λ t. tile.Load t) (operand m n i)) good ∙ ap (λ r. option_map (λ t. tile.Load t) (option_map (λ s. tile.Operand s) r)) is,
    Itself,
  )
