-- The two laws of Low and Exact, from facts of arithmetic alone.
use Rattle.std.specs.Prelude.{◌≡◌, refl, ℕ, ◌≤◌, ◌^◌, ℤ, pos, ◌<ℤ◌, neg_ℤ, ◌*ℤ◌, unsigned_abs, Bool, true, false, ◌&&◌, ◌||◌, ◌==◌, if◌then◌else◌, IsTrue, List, Some, None, unwrap_or, nat_le}
use Rattle.std.proofs.Common.{sym, subst, ap, ◌∙◌}
use Rattle.nk_base.specs.declared.number.Ty.{Ty}
use Rattle.nk_base.specs.declared.number.Ty.TheVariants as ty
use Rattle.nk_base.specs.Number.{InRange, low_bits, wrapped}
use Rattle.nk_base.specs.Whole.{not_ℤ, floor_shr}
use Rattle.nml_tree.specs.declared.operator.Bin.{Bin}
use Rattle.nml_tree.specs.Act.{Term}
use Rattle.nml_tree.specs.Act as act
use Rattle.nml_tree.specs.Value.{View, value, binary, cell, number_at}
use Rattle.ir_core.specs.Operator.{wrap, prefixed, shifted, arithmetic}
use Rattle.ir_core.specs.declared.operator.Prefix.{Prefix}
use Rattle.ir_core.specs.declared.operator.Prefix.TheVariants as prefixes
use Rattle.ir_core.specs.declared.operator.Shift.{Shift}
use Rattle.ir_core.specs.declared.operator.Shift.TheVariants as shifts
use Rattle.ir_core.specs.declared.operator.Arith.{Arith}
use Rattle.pat_core.specs.declared.pattern.Num.{Num}
use Rattle.pat_core.specs.declared.pattern.Num.TheVariants as num
use Rattle.pat_core.specs.Machine.{Machine, cell_type, is_reg, type_at, is_card, not_wide, is_int}
use Rattle.pat_core.specs.Spot.{Spot, spot, register}
use Rattle.pat_core.specs.Tile.{Tile, is_commutative}
use Rattle.pat_core.specs.Tile as tile
use Rattle.pat_core.specs.Low.{Low, Exact, Addressed, arith_of, amount, is_in_int, is_within_int, WideCell, AnyNumber, AnyField, Two, Neg, Not, Shl, IntOf, CardOf, WhereExact, Swap, IntCell, MemoryCell, Input, SmallNumber, SmallField, Wrapped, Shr, Direct, Indexed, ByRegister}
use Rattle.pat_core.specs.Worth.{held, number_of, worth, AddressesFit, IsState, LowLaw, ExactLaw}

-- facts of arithmetic at one width, of which the laws are made
pub record Arithmetic (n : ℕ) : Type 0 where
  pub again : (z : ℤ) → wrap n (wrap n z) ≡ wrap n z
  pub two : (op : Bin) → (o : Arith) → arith_of op ≡ Some o → (x y : ℤ) → wrap n (binary op x y) ≡ arithmetic n o (wrap n x) (wrap n y)
  pub swap : (o : Arith) → IsTrue (is_commutative o) → (x y : ℤ) → arithmetic n o x y ≡ arithmetic n o y x
  pub neg : (z : ℤ) → wrap n (neg_ℤ z) ≡ prefixed n prefixes.Neg (wrap n z)
  pub not : (z : ℤ) → wrap n (not_ℤ z) ≡ prefixed n prefixes.Not (wrap n z)
  pub shl : (z : ℤ) → (k : ℕ) → wrap n (z *ℤ pos (2 ^ k)) ≡ shifted n shifts.Shl (wrap n z) k
  pub shr : (z : ℤ) → (k : ℕ) → floor_shr z k ≡ shifted n shifts.Shr z k
  pub int : (k : ℕ) → IsTrue (nat_le n k) → (z : ℤ) → wrap n (wrapped (ty.Int k) z) ≡ wrap n z
  pub card : (k : ℕ) → IsTrue (nat_le n k) → (z : ℤ) → wrap n (wrapped (ty.Card k) z) ≡ wrap n z
  pub prefixed_kept : (op : Prefix) → (z : ℤ) → wrap n z ≡ z → wrap n (prefixed n op z) ≡ prefixed n op z
  pub shifted_kept : (op : Shift) → (z : ℤ) → (k : ℕ) → wrap n z ≡ z → wrap n (shifted n op z k) ≡ shifted n op z k
  pub arithmetic_kept : (op : Arith) → (x y : ℤ) → wrap n x ≡ x → wrap n y ≡ y → wrap n (arithmetic n op x y) ≡ arithmetic n op x y
  pub small : (z : ℤ) → IsTrue (is_in_int n z) → wrap n z ≡ z
  pub within : (t : Ty) → IsTrue (is_within_int n t) → (z : ℤ) → InRange t z → wrap n z ≡ z
  pub exactly : (t : Ty) → IsTrue (is_int n t) → (z : ℤ) → InRange t z → wrap n z ≡ z
  pub address : (k : ℕ) → k ≤ n → (z : ℤ) → low_bits n z <ℤ pos (2 ^ k) → low_bits k z ≡ low_bits n (wrap n z)
  pub register : (t : Ty) → IsTrue (is_card t && not_wide n t) → (z : ℤ) → InRange t z → z ≡ low_bits n (wrap n z)

-- ---- spots and amounts

else_some : (b : Bool) (x s : Spot) → (if b then None else Some x) ≡ Some s → x ≡ s
else_some true x s h = absurd cc
else_some false x s h = cc

no_register : (b : Bool) (s : Spot) → (if b then None else None) ≡ Some s → ⊥
no_register true s h = absurd cc
no_register false s h = absurd cc

-- a register's spot is its cell
register_held : (m : Machine) (v : View) (n : ℕ) (i : Term) (s : Spot) → register m n i ≡ Some s → held v s ≡ cell v.cells n (unsigned_abs (value v i))
register_held m v n (act.Number z) s h =
    subst (λ s. held v s ≡ cell v.cells n (unsigned_abs z)) (else_some ((n == m.dm) || (n == m.pc)) (spot n (act.Number z)) s h) refl
register_held m v n (act.Field j) s h =
    subst (λ s. held v s ≡ cell v.cells n (unsigned_abs (number_at v.fields j))) (else_some ((n == m.dm) || (n == m.pc)) (spot n (act.Field j)) s h) refl
register_held m v n (act.Cell k i) s h = absurd (no_register ((n == m.dm) || (n == m.pc)) s h)
register_held m v n (act.Trn k) s h = absurd (no_register ((n == m.dm) || (n == m.pc)) s h)
register_held m v n act.Inp s h = absurd (no_register ((n == m.dm) || (n == m.pc)) s h)
register_held m v n act.Out s h = absurd (no_register ((n == m.dm) || (n == m.pc)) s h)
register_held m v n (act.Unary op a) s h = absurd (no_register ((n == m.dm) || (n == m.pc)) s h)
register_held m v n (act.Binary op a b) s h = absurd (no_register ((n == m.dm) || (n == m.pc)) s h)
register_held m v n (act.Choose c a b) s h = absurd (no_register ((n == m.dm) || (n == m.pc)) s h)

amount_is : (v : View) (b : Term) (k : Num) → amount b ≡ Some k → value v b ≡ number_of v k
amount_is v (act.Number z) k h = let e : num.Const z ≡ k = cc in subst (λ k. z ≡ number_of v k) e refl
amount_is v (act.Field j) k h = let e : num.Field j ≡ k = cc in subst (λ k. number_at v.fields j ≡ number_of v k) e refl
amount_is v (act.Cell n i) k h = absurd cc
amount_is v (act.Trn n) k h = absurd cc
amount_is v act.Inp k h = absurd cc
amount_is v act.Out k h = absurd cc
amount_is v (act.Unary op a) k h = absurd cc
amount_is v (act.Binary op a b) k h = absurd cc
amount_is v (act.Choose c a b) k h = absurd cc

-- ---- numbers of int(N)

-- what a tree is worth is one
kept : (m : Machine) (a : Arithmetic m.width) (v : View) (t : Tile Spot) → wrap m.width (worth m v t) ≡ worth m v t
kept m a v (tile.Operand s) = a.again (held v s)
kept m a v (tile.Number c) = a.again (number_of v c)
kept m a v tile.In = a.again (unwrap_or v.next (pos 0))
kept m a v (tile.Load t) = a.again (cell v.cells m.dm (unsigned_abs (low_bits m.width (worth m v t))))
kept m a v (tile.Unary op t) = a.prefixed_kept op (worth m v t) (kept m a v t)
kept m a v (tile.Shifted op t k) = a.shifted_kept op (worth m v t) (unsigned_abs (number_of v k)) (kept m a v t)
kept m a v (tile.Binary op t u) = a.arithmetic_kept op (worth m v t) (worth m v u) (kept m a v t) (kept m a v u)

-- and what a cell of the data memory holds
memory_kept : (m : Machine) (f : List Ty) (a : Arithmetic m.width) (v : View) (s : IsState m f v) (k : ℕ) → cell v.cells m.dm k ≡ wrap m.width (cell v.cells m.dm k)
memory_kept m f a v s k = sym (a.exactly (cell_type m m.dm) s.memory (cell v.cells m.dm k) (s.cells m.dm k))

-- at two equal addresses
memory_at : (m : Machine) (f : List Ty) (a : Arithmetic m.width) (v : View) (s : IsState m f v) (x y : ℤ) → x ≡ y
    → cell v.cells m.dm (unsigned_abs x) ≡ wrap m.width (cell v.cells m.dm (unsigned_abs y))
memory_at m f a v s x y same = subst (λ y. cell v.cells m.dm (unsigned_abs x) ≡ wrap m.width (cell v.cells m.dm (unsigned_abs y))) same (memory_kept m f a v s (unsigned_abs x))

both_true : (b c : Bool) → IsTrue (b && c) → IsTrue c
both_true true c h = h
both_true false c h = absurd cc

-- ---- the laws

mutual
  low_law : (m : Machine) (f : List Ty) (a : Arithmetic m.width) (v : View) (s : IsState m f v) (e : Term) (t : Tile Spot)
      → Low m f e t → AddressesFit m v e → wrap m.width (value v e) ≡ worth m v t
  low_law m f a v s _ _ (WideCell {n} {i} {s = r} wide is) fit = ap (wrap m.width) (sym (register_held m v n i r is))
  low_law m f a v s _ _ (AnyNumber {z} {c} is) fit = subst (λ c. wrap m.width z ≡ wrap m.width c) (sym is) (sym (a.again z))
  low_law m f a v s _ _ (AnyField {j}) fit = refl
  low_law m f a v s _ _ (Two {op} {o} {a = x} {b = y} {t} {u} is lx ly) fit =
      a.two op o is (value v x) (value v y) ∙ ap (λ p. arithmetic m.width o p (wrap m.width (value v y))) (low_law m f a v s x t lx fit.0)
      ∙ ap (λ q. arithmetic m.width o (worth m v t) q) (low_law m f a v s y u ly fit.1)
  low_law m f a v s _ _ (Neg {a = x} {t} l) fit = a.neg (value v x) ∙ ap (prefixed m.width prefixes.Neg) (low_law m f a v s x t l fit)
  low_law m f a v s _ _ (Not {a = x} {t} l) fit = a.not (value v x) ∙ ap (prefixed m.width prefixes.Not) (low_law m f a v s x t l fit)
  low_law m f a v s _ _ (Shl {a = x} {b = y} {k} {t} is l) fit =
      a.shl (value v x) (unsigned_abs (value v y)) ∙ ap (λ p. shifted m.width shifts.Shl p (unsigned_abs (value v y))) (low_law m f a v s x t l fit.0)
      ∙ ap (λ z. shifted m.width shifts.Shl (worth m v t) (unsigned_abs z)) (amount_is v y k is)
  low_law m f a v s _ _ (IntOf {k} {a = x} {t} wide l) fit = a.int k wide (value v x) ∙ low_law m f a v s x t l fit
  low_law m f a v s _ _ (CardOf {k} {a = x} {t} wide l) fit = a.card k wide (value v x) ∙ low_law m f a v s x t l fit
  low_law m f a v s _ _ (WhereExact {e} {t} x) fit = ap (wrap m.width) (exact_law m f a v s e t x fit) ∙ kept m a v t
  low_law m f a v s _ _ (Swap {e} {o} {t} {u} swaps l) fit = low_law m f a v s e (tile.Binary o t u) l fit ∙ a.swap o swaps (worth m v t) (worth m v u)

  exact_law : (m : Machine) (f : List Ty) (a : Arithmetic m.width) (v : View) (s : IsState m f v) (e : Term) (t : Tile Spot)
      → Exact m f e t → AddressesFit m v e → value v e ≡ worth m v t
  exact_law m f a v s _ _ (IntCell {n} {i} {s = r} is_int_n is) fit =
      sym (a.exactly (cell_type m n) is_int_n (cell v.cells n (unsigned_abs (value v i))) (s.cells n (unsigned_abs (value v i))))
      ∙ ap (wrap m.width) (sym (register_held m v n i r is))
  exact_law m f a v s _ _ (MemoryCell {n} {i} {t} is at) fit =
      subst (λ n. AddressesFit m v (act.Cell n i) → value v (act.Cell n i) ≡ worth m v t) (sym is) (memory_law m f a v s i t at) fit
  exact_law m f a v s _ _ Input fit = sym s.next
  exact_law m f a v s _ _ (SmallNumber {z} is) fit = sym (a.small z is)
  exact_law m f a v s _ _ (SmallField {j} is) fit = sym (a.within (type_at f j) is (number_at v.fields j) (s.fields j))
  exact_law m f a v s _ _ (Wrapped {k} {a = x} {t} is l) fit = subst (λ k. wrapped (ty.Int k) (value v x) ≡ worth m v t) (sym is) (low_law m f a v s x t l fit)
  exact_law m f a v s _ _ (Shr {a = x} {b = y} {k} {t} is l) fit =
      a.shr (value v x) (unsigned_abs (value v y)) ∙ ap (λ p. shifted m.width shifts.Shr p (unsigned_abs (value v y))) (exact_law m f a v s x t l fit.0)
      ∙ ap (λ z. shifted m.width shifts.Shr (worth m v t) (unsigned_abs z)) (amount_is v y k is)

  -- the cell of the data memory at an index
  memory_law : (m : Machine) (f : List Ty) (a : Arithmetic m.width) (v : View) (s : IsState m f v) (i : Term) (t : Tile Spot)
      → Addressed m f i t → AddressesFit m v (act.Cell m.dm i) → value v (act.Cell m.dm i) ≡ worth m v t
  memory_law m f a v s _ _ (Direct {j}) fit = memory_kept m f a v s (unsigned_abs (number_at v.fields j))
  memory_law m f a v s _ _ (Indexed {k} {a = x} {t} l) fit =
      let bits = fit.0 refl in
      memory_at m f a v s (low_bits k (value v x)) (low_bits m.width (worth m v t))
      (a.address k bits.0 (value v x) bits.1 ∙ ap (low_bits m.width) (low_law m f a v s x t l fit.1))
  memory_law m f a v s _ _ (ByRegister {n} {i} {s = r} is_address_register is) fit =
      let z = cell v.cells n (unsigned_abs (value v i)) in
      memory_at m f a v s z (low_bits m.width (wrap m.width (held v r)))
      (a.register (cell_type m n) (both_true (is_reg m n) (is_card (cell_type m n) && not_wide m.width (cell_type m n)) is_address_register) z
      (s.cells n (unsigned_abs (value v i))) ∙ ap (λ h. low_bits m.width (wrap m.width h)) (sym (register_held m v n i r is)))

-- modulo 2^N
pub low_holds : (m : Machine) (f : List Ty) → Arithmetic m.width → LowLaw m f
low_holds m f a v s e t l fit = low_law m f a v s e t l fit

-- exactly
pub exact_holds : (m : Machine) (f : List Ty) → Arithmetic m.width → ExactLaw m f
exact_holds m f a v s e t x fit = exact_law m f a v s e t x fit
