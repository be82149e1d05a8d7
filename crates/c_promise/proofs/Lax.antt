-- Where the strict machine breaks no promise, it is the machine.
use Rattle.std.proofs.Common.{◌≡◌, ℕ, zero, suc, ℤ, List, [], ◌∷◌, Bool, true, false, Option, Some, None, ◌⊎◌, ⊎_elim, inl, inr, refl, ap, ◌∙◌}
use Rattle.std.specs.Prelude.{slice_get, if◌then◌else◌}
use Rattle.ir_core.specs.Operator.{prefixed, shifted, arithmetic, wrap, holds}
use Rattle.ir_run.specs.Node.{Node, Const, Base, Label, Cell, In, Load, Unary, Shifted, Binary}
use Rattle.ir_run.specs.Entry.{Entry, Set, Store, Out, Branch, JumpCell, Jump, Mark, Halt}
use Rattle.ir_run.specs.Runs.{Turn, Goes, Ends, put_before, followed, run}
use Rattle.ir_run.specs.Value.{State, label_of, number, address, held, take_next, value}
use Rattle.ir_run.specs.Run.{place_of, place_by, at_mark, on, put, wants, act, step}
use Rattle.ir_run.specs.Strict as strict
use Rattle.ir_run.specs.Strict.{Arrays, broken, is_inside, is_numeral, only}

-- the same, or a broken promise
abbrev Or : Turn State → Turn State → Type 0
Or s t = (s ≡ t) ⊎ (s ≡ Ends broken)

only_or : (b : Bool) (s t : Turn State) → Or s t → Or (only b s) t
only_or true s t h = h
only_or false s t h = inr refl

-- where the ways to go on are the same, or break a promise, so are values
abbrev Ors : (next next2 : ℤ → State → Turn State) → Type 0
Ors next next2 = (z : ℤ) (s : State) → Or (next z s) (next2 z s)

take_or : (zs : List ℤ) (next next2 : ℤ → State → Turn State) → Ors next next2 → (s : State) → Or (take_next wants zs next s) (take_next wants zs next2 s)
take_or [] next next2 h s = inl refl
take_or (z ∷ zs) next next2 h s = h z (record s { input = zs })

-- a value that is taken as a number
numeral_or : (next next2 : ℤ → State → Turn State) → Ors next next2 → Ors (λ z s. only (is_numeral z) (next z s)) next2
numeral_or next next2 h z s = only_or (is_numeral z) (next z s) (next2 z s) (h z s)

value_or : (xs : Arrays) (n : ℕ) (t : Node) (next next2 : ℤ → State → Turn State) → Ors next next2 → (s : State) → Or (strict.value xs n t next s) (value wants n t next2 s)
value_or xs n (Const z) next next2 h s = h (wrap n z) s
value_or xs n (Base c) next next2 h s = h _ s
value_or xs n (Label l) next next2 h s = h _ s
value_or xs n (Cell k) next next2 h s = h (held s k) s
value_or xs n In next next2 h s = take_or s.input next next2 h s
value_or xs n (Load t) next next2 h s =
    value_or xs n t (λ a s. only (is_numeral a) (only (is_inside xs (address n a)) (next (held s (address n a)) s))) (λ a s. next2 (held s (address n a)) s)
    (numeral_or (λ a s. only (is_inside xs (address n a)) (next (held s (address n a)) s)) (λ a s. next2 (held s (address n a)) s)
    (λ a s. only_or (is_inside xs (address n a)) (next (held s (address n a)) s) (next2 (held s (address n a)) s) (h (held s (address n a)) s))) s
value_or xs n (Unary op t) next next2 h s =
    value_or xs n t (λ z s. only (is_numeral z) (next (prefixed n op (number n z)) s)) (λ z s. next2 (prefixed n op (number n z)) s)
    (numeral_or (λ z s. next (prefixed n op (number n z)) s) (λ z s. next2 (prefixed n op (number n z)) s) (λ z s. h (prefixed n op (number n z)) s)) s
value_or xs n (Shifted op t k) next next2 h s =
    value_or xs n t (λ z s. only (is_numeral z) (next (shifted n op (number n z) k) s)) (λ z s. next2 (shifted n op (number n z) k) s)
    (numeral_or (λ z s. next (shifted n op (number n z) k) s) (λ z s. next2 (shifted n op (number n z) k) s) (λ z s. h (shifted n op (number n z) k) s)) s
value_or xs n (Binary op t u) next next2 h s =
    let second : ℤ → ℤ → State → Turn State = λ x y s. next (arithmetic n op (number n x) (number n y)) s in
    let second2 : ℤ → ℤ → State → Turn State = λ x y s. next2 (arithmetic n op (number n x) (number n y)) s in
    value_or xs n t (λ x s. only (is_numeral x) (strict.value xs n u (λ y s. only (is_numeral y) (second x y s)) s)) (λ x s. value wants n u (second2 x) s)
    (numeral_or (λ x s. strict.value xs n u (λ y s. only (is_numeral y) (second x y s)) s) (λ x s. value wants n u (second2 x) s)
    (λ x s. value_or xs n u (λ y s. only (is_numeral y) (second x y s)) (second2 x)
    (numeral_or (second x) (second2 x) (λ y s. h (arithmetic n op (number n x) (number n y)) s)) s)) s

mark_or : (o : Option ℕ) (s : State) → Or (strict.at_mark o s) (Goes [] (at_mark o s))
mark_or (Some p) s = inl refl
mark_or None s = inr refl

branch_or : (b : Bool) (o : Option ℕ) (s : State) → Or (if b then strict.at_mark o s else Goes [] (on s)) (Goes [] (if b then at_mark o s else on s))
branch_or true o s = mark_or o s
branch_or false o s = inl refl

act_or : (xs : Arrays) (entries : List Entry) (n : ℕ) (e : Option Entry) (s : State) → Or (strict.act xs entries n e s) (act entries n e s)
act_or xs entries n None s = inr refl
act_or xs entries n (Some (Set k t)) s = value_or xs n t (λ z s. Goes [] (on (put k z s))) (λ z s. Goes [] (on (put k z s))) (λ z s. inl refl) s
act_or xs entries n (Some (Store t u)) s =
    let stored : ℤ → ℤ → State → Turn State = λ a z s. Goes [] (on (put (address n a) z s)) in
    value_or xs n t (λ a s. only (is_numeral a) (strict.value xs n u (λ z s. only (is_inside xs (address n a)) (stored a z s)) s)) (λ a s. value wants n u (stored a) s)
    (numeral_or (λ a s. strict.value xs n u (λ z s. only (is_inside xs (address n a)) (stored a z s)) s) (λ a s. value wants n u (stored a) s)
    (λ a s. value_or xs n u (λ z s. only (is_inside xs (address n a)) (stored a z s)) (stored a)
    (λ z s. only_or (is_inside xs (address n a)) (stored a z s) (stored a z s) (inl refl)) s)) s
act_or xs entries n (Some (Out t)) s =
    let given : ℤ → State → Turn State = λ z s. Goes (number n z ∷ []) (on s) in
    value_or xs n t (λ z s. only (is_numeral z) (given z s)) given (numeral_or given given (λ z s. inl refl)) s
act_or xs entries n (Some (Branch r t u l)) s =
    let o = place_of entries l in
    let test : ℤ → ℤ → Bool = λ x y. holds r (number n x) (number n y) in
    let gone : ℤ → ℤ → State → Turn State = λ x y s. if test x y then strict.at_mark o s else Goes [] (on s) in
    let gone2 : ℤ → ℤ → State → Turn State = λ x y s. Goes [] (if test x y then at_mark o s else on s) in
    value_or xs n t (λ x s. only (is_numeral x) (strict.value xs n u (λ y s. only (is_numeral y) (gone x y s)) s)) (λ x s. value wants n u (gone2 x) s)
    (numeral_or (λ x s. strict.value xs n u (λ y s. only (is_numeral y) (gone x y s)) s) (λ x s. value wants n u (gone2 x) s)
    (λ x s. value_or xs n u (λ y s. only (is_numeral y) (gone x y s)) (gone2 x)
    (numeral_or (gone x) (gone2 x) (λ y s. branch_or (test x y) o s)) s)) s
act_or xs entries n (Some (JumpCell k)) s = mark_or (place_by entries (label_of (held s k))) s
act_or xs entries n (Some (Jump l)) s = mark_or (place_of entries l) s
act_or xs entries n (Some (Mark l)) s = inl refl
act_or xs entries n (Some (Halt code)) s = inl refl

-- a run that breaks no promise
pub run_lax : (arrays : Arrays) (entries : List Entry) (n m : ℕ) (s : State) → ((run (strict.step arrays entries n) m s).stop ≡ broken → ⊥) → run (strict.step arrays entries n) m s ≡ run (step entries n) m s
run_lax arrays entries n zero s sound = refl
run_lax arrays entries n (suc m) s sound = ⊎_elim
    (λ e. by_turn (strict.step arrays entries n s) (λ next h. run_lax arrays entries n m next h) sound ∙ ap (followed (run (step entries n) m)) e)
    (λ e. absurd (sound (ap (λ t. (followed (run (strict.step arrays entries n) m) t).stop) e)))
    (act_or arrays entries n (slice_get entries s.place) s)
  where
    by_turn : (t : Turn State) → ((next : State) → ((run (strict.step arrays entries n) m next).stop ≡ broken → ⊥) → run (strict.step arrays entries n) m next ≡ run (step entries n) m next)
        → ((followed (run (strict.step arrays entries n) m) t).stop ≡ broken → ⊥) → followed (run (strict.step arrays entries n) m) t ≡ followed (run (step entries n) m) t
    by_turn (Goes out next) rest h = ap (put_before out) (rest next h)
    by_turn (Ends stop) rest h = refl
