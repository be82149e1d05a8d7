-- No program's meaning stops as a broken promise does.
use Rattle.std.proofs.Common.{◌≡◌, ℕ, zero, suc, ◌+◌, ℤ, pos, List, [], ◌∷◌, Bool, true, false, Option, Some, None}
use Rattle.std.specs.Prelude.{◌&&◌, int_le, int_lt, unsigned_abs, slice_get}
use Rattle.nk_outside.specs.Outcome.{Outcome}
use Rattle.nk_outside.specs.declared.stop.Stop.TheVariants as stops
use Rattle.ir_core.specs.Operator.{arithmetic}
use Rattle.ir_run.specs.Strict.{broken}
use Rattle.c_tree.specs.Program.{Term, Terms, Number, Scalar, Element, Input, Call, Unary, Shifted, Arithmetic, Compare, Not, AndAlso, OrElse, NoMore, More, Command, Skip, Seq, Turn, Set, Store, Change, Print, Take, Invoke, If, IfElse, While, Do, For, Break, Continue, Return, Function, Program}
use Rattle.c_tree.specs.Meaning.{State, Next, NextOf, Frame, Exits, held, put, cell, stopped, paid, pay, take_next, is_true, either, tested, value, values, loop, again, condition, looped, run, run_body, entered, call, main_body, beginning, outcome}

-- it doesn't stop so
abbrev pub Unbroken : Outcome → Type 0
Unbroken o = o.stop ≡ broken → ⊥

-- from no state on
abbrev pub GoesUnbroken : Next → Type 0
GoesUnbroken next = (s : State) → Unbroken (next s)

-- from no value and no state on
abbrev pub ValuesUnbroken : NextOf → Type 0
ValuesUnbroken next = (z : ℤ) (s : State) → Unbroken (next z s)

running : (s : State) → Unbroken (stopped stops.Running s)
running s e = let e' : stops.Running ≡ stops.Trap 256 = e in cc

wants : (s : State) → Unbroken (stopped stops.Wants s)
wants s e = let e' : stops.Wants ≡ stops.Trap 256 = e in cc

trap : (s : State) → Unbroken (stopped (stops.Trap 1) s)
trap s e = let e' : stops.Trap 1 ≡ stops.Trap 256 = e in cc

ended : (s : State) → Unbroken (stopped stops.Ended s)
ended s e = let e' : stops.Ended ≡ stops.Trap 256 = e in cc

either_unbroken : (b : Bool) (next other : Next) → GoesUnbroken next → GoesUnbroken other → GoesUnbroken (either b next other)
either_unbroken true next other h i s = h s
either_unbroken false next other h i s = i s

paid_unbroken : (t : ℕ) (next : Next) → GoesUnbroken next → GoesUnbroken (paid t next)
paid_unbroken zero next h s = running s
paid_unbroken (suc t) next h s = h (record s { turns = t })

pay_unbroken : (next : Next) → GoesUnbroken next → GoesUnbroken (pay next)
pay_unbroken next h s = paid_unbroken s.turns next h s

take_unbroken : (zs : List ℤ) (next : NextOf) → ValuesUnbroken next → GoesUnbroken (take_next zs next)
take_unbroken [] next h s = wants s
take_unbroken (z ∷ zs) next h s = h z (record s { input = zs })

tested_unbroken : (n : ℕ) (next : ℕ → Next) → ((j : ℕ) → GoesUnbroken (next j)) → ValuesUnbroken (tested n next)
tested_unbroken n next h z s = either_unbroken (int_le (pos 0) z && int_lt z (pos n)) (next (unsigned_abs z)) (stopped (stops.Trap 1)) (h (unsigned_abs z)) trap s

module _ (f : Frame) (calls_unbroken : (g : ℕ) (zs : List ℤ) (next : NextOf) → ValuesUnbroken next → GoesUnbroken (f.calls g zs next)) where
  mutual
    -- nor does what comes of an expression
    pub value_unbroken : (e : Term) (next : NextOf) → ValuesUnbroken next → GoesUnbroken (value f e next)
    value_unbroken (Number z) next h s = h _ s
    value_unbroken (Scalar p) next h s = h _ s
    value_unbroken (Element p n i) next h s =
        let to : ℕ → Next = λ j s. next (held s (cell f p + j)) s in value_unbroken i (tested n to) (tested_unbroken n to (λ j s. h (held s (cell f p + j)) s)) s
    value_unbroken Input next h s = take_unbroken s.input next h s
    value_unbroken (Call g xs) next h s = values_unbroken xs _ (λ zs s. calls_unbroken g zs next h s) s
    value_unbroken (Unary op x) next h s = value_unbroken x _ (λ a s. h _ s) s
    value_unbroken (Shifted op x k) next h s = value_unbroken x _ (λ a s. h _ s) s
    value_unbroken (Arithmetic op x y) next h s = value_unbroken x _ (λ a s. value_unbroken y _ (λ b s. h _ s) s) s
    value_unbroken (Compare r x y) next h s = value_unbroken x _ (λ a s. value_unbroken y _ (λ b s. h _ s) s) s
    value_unbroken (Not x) next h s = value_unbroken x _ (λ a s. h _ s) s
    value_unbroken (AndAlso x y) next h s =
        value_unbroken x _ (λ a s. either_unbroken (is_true a) _ _ (λ s. value_unbroken y _ (λ b s. h _ s) s) (λ s. h _ s) s) s
    value_unbroken (OrElse x y) next h s =
        value_unbroken x _ (λ a s. either_unbroken (is_true a) _ _ (λ s. h _ s) (λ s. value_unbroken y _ (λ b s. h _ s) s) s) s

    -- nor of arguments
    pub values_unbroken : (xs : Terms) (next : List ℤ → Next) → ((zs : List ℤ) → GoesUnbroken (next zs)) → GoesUnbroken (values f xs next)
    values_unbroken NoMore next h s = h [] s
    values_unbroken (More x xs) next h s = value_unbroken x _ (λ z s. values_unbroken xs _ (λ zs s. h (z ∷ zs) s) s) s

  loop_unbroken : (n : ℕ) (test : NextOf → Next) (body : Next → Next) (next : Next) → ((to : NextOf) → ValuesUnbroken to → GoesUnbroken (test to)) → ((more : Next) → GoesUnbroken more → GoesUnbroken (body more)) → GoesUnbroken next
      → GoesUnbroken (loop n test body next)
  loop_unbroken zero test body next t b h s = running s
  loop_unbroken (suc n) test body next t b h s =
      pay_unbroken _ (t _ (λ z s. either_unbroken (is_true z) _ _ (b _ (λ s. loop_unbroken n test body next t b h s)) h s)) s

  again_unbroken : (test : NextOf → Next) (body : Next → Next) (next : Next) → ((to : NextOf) → ValuesUnbroken to → GoesUnbroken (test to)) → ((more : Next) → GoesUnbroken more → GoesUnbroken (body more)) → GoesUnbroken next
      → GoesUnbroken (again test body next)
  again_unbroken test body next t b h s = loop_unbroken (suc s.turns) test body next t b h s

  condition_unbroken : (e : Option Term) (next : NextOf) → ValuesUnbroken next → GoesUnbroken (condition f e next)
  condition_unbroken None next h s = h _ s
  condition_unbroken (Some e) next h s = value_unbroken e next h s

  -- none of the ways out stops so
  pub record ExitsUnbroken (exits : Exits) : Type 0 where
    pub broke : GoesUnbroken exits.broke
    pub continued : GoesUnbroken exits.continued
    pub returned : ValuesUnbroken exits.returned

  inside : (exits : Exits) (next more : Next) → ExitsUnbroken exits → GoesUnbroken next → GoesUnbroken more → ExitsUnbroken (record exits { broke = next; continued = more })
  inside exits next more e h i = record { broke = h; continued = i; returned = e.returned }

  -- nor does what comes of a statement
  pub run_unbroken : (x : Command) (exits : Exits) (next : Next) → ExitsUnbroken exits → GoesUnbroken next → GoesUnbroken (run f x exits next)
  run_unbroken Skip exits next e h s = h s
  run_unbroken (Seq x y) exits next e h s = run_unbroken x exits _ e (λ s. run_unbroken y exits next e h s) s
  run_unbroken (Turn x) exits next e h s = pay_unbroken _ (λ s. run_unbroken x exits next e h s) s
  run_unbroken (Set p v) exits next e h s = value_unbroken v _ (λ z s. h _) s
  run_unbroken (Store p n i v) exits next e h s =
      let to : ℕ → Next = λ j. value f v (λ z s. next (put s (cell f p + j) z)) in
      value_unbroken i (tested n to) (tested_unbroken n to (λ j s. value_unbroken v (λ z s. next (put s (cell f p + j) z)) (λ z s. h (put s (cell f p + j) z)) s)) s
  run_unbroken (Change p n i op v) exits next e h s =
      let past : ℕ → State → NextOf = λ j s z t. next (put t (cell f p + j) (arithmetic f.bits op (held s (cell f p + j)) z)) in
      let to : ℕ → Next = λ j s. value f v (past j s) s in
      value_unbroken i (tested n to) (tested_unbroken n to (λ j s. value_unbroken v (past j s) (λ z t. h (put t (cell f p + j) (arithmetic f.bits op (held s (cell f p + j)) z))) s)) s
  run_unbroken (Print v) exits next e h s = value_unbroken v _ (λ z s. h _) s
  run_unbroken Take exits next e h s = take_unbroken s.input _ (λ z s. h s) s
  run_unbroken (Invoke g xs) exits next e h s = values_unbroken xs _ (λ zs s. calls_unbroken g zs _ (λ z s. h s) s) s
  run_unbroken (If v x) exits next e h s = value_unbroken v _ (λ z s. either_unbroken (is_true z) _ _ (λ s. run_unbroken x exits next e h s) h s) s
  run_unbroken (IfElse v x y) exits next e h s =
      value_unbroken v _ (λ z s. either_unbroken (is_true z) _ _ (λ s. run_unbroken x exits next e h s) (λ s. run_unbroken y exits next e h s) s) s
  run_unbroken (While v x) exits next e h s =
      again_unbroken (value f v) (looped (run f x) exits next) next (λ to i s. value_unbroken v to i s)
      (λ more i s. run_unbroken x (record exits { broke = next; continued = more }) more (inside exits next more e h i) i s) h s
  run_unbroken (Do x v) exits next e h s =
      let behind : Next = again (value f v) (looped (run f x) exits next) next in
      let goes : GoesUnbroken behind = λ s. again_unbroken (value f v) (looped (run f x) exits next) next (λ to i s. value_unbroken v to i s)
      (λ more i s. run_unbroken x (record exits { broke = next; continued = more }) more (inside exits next more e h i) i s) h s in
      run_unbroken x (record exits { broke = next; continued = behind }) behind (inside exits next behind e h goes) goes s
  run_unbroken (For v step x) exits next e h s =
      again_unbroken (condition f v) (λ more. looped (run f x) exits next (run f step exits more)) next (λ to i s. condition_unbroken v to i s)
      (λ more i s. let goes : GoesUnbroken (run f step exits more) = λ s. run_unbroken step exits more e i s in
      run_unbroken x (record exits { broke = next; continued = run f step exits more }) (run f step exits more) (inside exits next (run f step exits more) e h goes) goes s) h s
  run_unbroken Break exits next e h s = e.broke s
  run_unbroken Continue exits next e h s = e.continued s
  run_unbroken (Return None) exits next e h s = e.returned _ s
  run_unbroken (Return (Some v)) exits next e h s = value_unbroken v exits.returned e.returned s

  body_unbroken : (x : Command) (next : NextOf) → ValuesUnbroken next → GoesUnbroken (run_body f x next)
  body_unbroken x next h s = run_unbroken x _ _ (record { broke = h _; continued = h _; returned = h }) (h _) s

  entered_unbroken : (g : Option Function) (zs : List ℤ) (next : NextOf) → ValuesUnbroken next → GoesUnbroken (entered g f zs next)
  entered_unbroken None zs next h s = h _ s
  entered_unbroken (Some g) zs next h s = body_unbroken g.body next h _

call_unbroken : (p : Program) (n depth : ℕ) (g : ℕ) (zs : List ℤ) (next : NextOf) → ValuesUnbroken next → GoesUnbroken (call p n depth g zs next)
call_unbroken p n zero g zs next h s = running s
call_unbroken p n (suc depth) g zs next h s = entered_unbroken _ (call_unbroken p n depth) (slice_get p.functions g) zs next h s

-- a program's outcome is no broken promise
pub outcome_unbroken : (p : Program) (n : ℕ) (input : List ℤ) (turns : ℕ) → Unbroken (outcome p n input turns)
outcome_unbroken p n input turns = body_unbroken _ (call_unbroken p n turns) (main_body p.main) (λ z. stopped stops.Ended) (λ z s. ended s) (beginning p input turns)
