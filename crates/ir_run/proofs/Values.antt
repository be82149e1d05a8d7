-- How high trees are, and their values, one variant at a time.
use Rattle.std.proofs.Common.{◌≡◌, refl, sym, ◌∙◌, subst, ℕ, suc, ◌+◌, ◌*◌, ◌<◌, arith, max, ℤ, pos, Option, Some, None, FitsSigned, to_z, of_z}
use Rattle.std.specs.Int.{w64}
use Rattle.std.proofs.lemmas.Int.{to_z-of_z}
use Rattle.ir_core.specs.declared.operator.Prefix.{Prefix}
use Rattle.ir_core.specs.declared.operator.Shift.{Shift}
use Rattle.ir_core.specs.declared.operator.Arith.{Arith}
use Rattle.ir_core.specs.Operator.{wrap, prefixed, shifted}
use Rattle.ir_run.specs.Runs.{Turn}
use Rattle.ir_run.specs.Node.{Node, Const, Base, Label, Cell, In, Load, Unary, Shifted, Binary}
use Rattle.ir_run.specs.Value.{State, label_value, number, address, held, take_next, value}
use Rattle.ir_run.specs.Run.{wants}
use Rattle.ir_run.specs.Shifts.{IsCellWidth, ShiftsBelow}
use Rattle.ir_run.specs.Stands.{given}

-- how many nodes stand one below another
abbrev pub height : Node → ℕ
height (Const z) = 0
height (Base c) = 0
height (Label l) = 0
height (Cell k) = 0
height In = 0
height (Load t) = suc (height t)
height (Unary op t) = suc (height t)
height (Shifted op t k) = suc (height t)
height (Binary op t u) = suc (max (height t) (height u))

-- what the measure falls to, and how far a child shifts
abbrev pub Below : (m n : ℕ) → Node → Type 0
Below m n t = (2 * height t < m) × (IsCellWidth n × ShiftsBelow n t)

pub below_load : (d t : Node) (m n : ℕ) → d ≡ Load t → 2 * height d ≡ m → IsCellWidth n → ShiftsBelow n d → Below m n t
below_load d t m n is measure width fits = let h : 2 * suc (height t) ≡ m = subst (λ d. 2 * height d ≡ m) is measure in (omega (arith, h), (width, subst (ShiftsBelow n) is fits))

pub below_unary : (op : Prefix) (d t : Node) (m n : ℕ) → d ≡ Unary op t → 2 * height d ≡ m → IsCellWidth n → ShiftsBelow n d → Below m n t
below_unary op d t m n is measure width fits = let h : 2 * suc (height t) ≡ m = subst (λ d. 2 * height d ≡ m) is measure in (omega (arith, h), (width, subst (ShiftsBelow n) is fits))

pub below_shifted : (op : Shift) (k : ℕ) (d t : Node) (m n : ℕ) → d ≡ Shifted op t k → 2 * height d ≡ m → IsCellWidth n → ShiftsBelow n d → Below m n t
below_shifted op k d t m n is measure width fits =
    let h : 2 * suc (height t) ≡ m = subst (λ d. 2 * height d ≡ m) is measure in
    let f : ShiftsBelow n (Shifted op t k) = subst (ShiftsBelow n) is fits in
    (omega (arith, h), (width, f.1))

-- a shift is by less than a number of a cell has bits
pub small_shift : (op : Shift) (k : ℕ) (d t : Node) (n : ℕ) → d ≡ Shifted op t k → IsCellWidth n → ShiftsBelow n d → k < 63
small_shift op k d t n is width fits = let f : ShiftsBelow n (Shifted op t k) = subst (ShiftsBelow n) is fits in omega (arith, width.1, f.0)

pub below_binary : (op : Arith) (d t u : Node) (m n : ℕ) → d ≡ Binary op t u → 2 * height d ≡ m → IsCellWidth n → ShiftsBelow n d
    → (2 * max (height t) (height u) + 1 < m) × (IsCellWidth n × (ShiftsBelow n t × ShiftsBelow n u))
below_binary op d t u m n is measure width fits =
    let h : 2 * suc (max (height t) (height u)) ≡ m = subst (λ d. 2 * height d ≡ m) is measure in
    (omega (arith, h), (width, subst (ShiftsBelow n) is fits))

-- the value of a tree, or the want of an input, from one state to another
abbrev pub Gives : (n : ℕ) → Node → State → Option ℤ → State → Type 0
Gives n d s r s2 = (next : ℤ → State → Turn State) → value wants n d next s ≡ given r next s2

-- a number in code
pub in_code : (n : ℕ) (d : Node) (s s2 : State) (x y : ℤ) → FitsSigned w64 x → x ≡ y → Gives n d s (Some y) s2 → Gives n d s (Some (to_z w64 (of_z w64 x))) s2
in_code n d s s2 x y fits is h = subst (λ z. Gives n d s (Some z) s2) (sym (to_z-of_z w64 x fits ∙ is)) h

pub gives_same : (n : ℕ) (d e : Node) (s s2 : State) (r : Option ℤ) → d ≡ e → Gives n e s r s2 → Gives n d s r s2
gives_same n d e s s2 r is h = subst (λ d. Gives n d s r s2) (sym is) h

pub gives_const : (n : ℕ) (z : ℤ) (d : Node) (s : State) → d ≡ Const z → Gives n d s (Some (wrap n z)) s
gives_const n z d s is = gives_same n d (Const z) s s (Some (wrap n z)) is (λ next. refl)

pub gives_base : (n c : ℕ) (d : Node) (s : State) → d ≡ Base c → Gives n d s (Some (wrap n (pos c))) s
gives_base n c d s is = gives_same n d (Base c) s s (Some (wrap n (pos c))) is (λ next. refl)

pub gives_label : (n l : ℕ) (d : Node) (s : State) → d ≡ Label l → Gives n d s (Some (label_value l)) s
gives_label n l d s is = gives_same n d (Label l) s s (Some (label_value l)) is (λ next. refl)

pub gives_cell : (n k : ℕ) (d : Node) (s : State) → d ≡ Cell k → Gives n d s (Some (held s k)) s
gives_cell n k d s is = gives_same n d (Cell k) s s (Some (held s k)) is (λ next. refl)

pub gives_in : (n : ℕ) (d : Node) (s s2 : State) (r : Option ℤ) → d ≡ In → ((next : ℤ → State → Turn State) → take_next wants s.input next s ≡ given r next s2) → Gives n d s r s2
gives_in n d s s2 r is h = gives_same n d In s s2 r is h

pub gives_load : (n : ℕ) (d t : Node) (s s2 : State) (a : ℤ) → d ≡ Load t → Gives n t s (Some a) s2 → Gives n d s (Some (held s2 (address n a))) s2
gives_load n d t s s2 a is h = gives_same n d (Load t) s s2 (Some (held s2 (address n a))) is (λ next. h (λ a s. next (held s (address n a)) s))

pub gives_unary : (n : ℕ) (op : Prefix) (d t : Node) (s s2 : State) (z : ℤ) → d ≡ Unary op t → Gives n t s (Some z) s2 → Gives n d s (Some (prefixed n op (number n z))) s2
gives_unary n op d t s s2 z is h = gives_same n d (Unary op t) s s2 (Some (prefixed n op (number n z))) is (λ next. h (λ z. next (prefixed n op (number n z))))

pub gives_shifted : (n : ℕ) (op : Shift) (k : ℕ) (d t : Node) (s s2 : State) (z : ℤ) → d ≡ Shifted op t k → Gives n t s (Some z) s2 → Gives n d s (Some (shifted n op (number n z) k)) s2
gives_shifted n op k d t s s2 z is h = gives_same n d (Shifted op t k) s s2 (Some (shifted n op (number n z) k)) is (λ next. h (λ z. next (shifted n op (number n z) k)))

pub wants_load : (n : ℕ) (d t : Node) (s s2 : State) (r : Option ℤ) → d ≡ Load t → r ≡ None → Gives n t s None s2 → Gives n d s r s2
wants_load n d t s s2 r is none h = subst (λ r. Gives n d s r s2) (sym none) (gives_same n d (Load t) s s2 None is (λ next. h (λ a s. next (held s (address n a)) s)))

pub wants_unary : (n : ℕ) (op : Prefix) (d t : Node) (s s2 : State) (r : Option ℤ) → d ≡ Unary op t → r ≡ None → Gives n t s None s2 → Gives n d s r s2
wants_unary n op d t s s2 r is none h = subst (λ r. Gives n d s r s2) (sym none) (gives_same n d (Unary op t) s s2 None is (λ next. h (λ z. next (prefixed n op (number n z)))))

pub wants_shifted : (n : ℕ) (op : Shift) (k : ℕ) (d t : Node) (s s2 : State) (r : Option ℤ) → d ≡ Shifted op t k → r ≡ None → Gives n t s None s2 → Gives n d s r s2
wants_shifted n op k d t s s2 r is none h = subst (λ r. Gives n d s r s2) (sym none) (gives_same n d (Shifted op t k) s s2 None is (λ next. h (λ z. next (shifted n op (number n z) k))))
