-- What a program does with at most so many turns left depends on what comes behind it with at most so many alone. So a loop is its own unfolding, with
-- no count of its tests.
use Rattle.std.proofs.Common.{◌≡◌, refl, ℕ, zero, suc, ◌+◌, ◌≤◌, ◌<◌, List, [], ◌∷◌, ◌++◌, arith, Bool, true, false, not, ◌&&◌, Option, Some, None, ℤ, pos}
use Rattle.std.specs.Prelude.{int_le, int_lt, unsigned_abs, slice_get}
use Rattle.ir_core.specs.Operator.{prefixed, shifted, arithmetic, holds}
use Rattle.nk_outside.specs.declared.stop.Stop.TheVariants as stops
use Rattle.c_tree.specs.Program.{Term, Terms, Number, Scalar, Element, Input, Call, Unary, Shifted, Arithmetic, Compare, Not, AndAlso, OrElse, NoMore, More, Command, Skip, Seq, Turn, Set, Store, Change, Print, Take, Invoke, If, IfElse, While, Do, For, Break, Continue, Return, Program, Function}
use Rattle.c_tree.specs.Meaning.{State, Next, NextOf, Calls, Frame, Exits, stopped, paid, pay, take_next, cell, held, put, either, tested, is_true, truth, value, values, loop, again, condition, looped, run, entered, with_arguments, call, base_of}

-- the two do the same with at most so many turns left
abbrev pub Same : ℕ → Next → Next → Type 0
Same t k l = (s : State) → s.turns ≤ t → k s ≡ l s

abbrev pub SameOf : ℕ → NextOf → NextOf → Type 0
SameOf t k l = (z : ℤ) → Same t (k z) (l z)

-- what goes on from a number, as an expression does, keeps that
abbrev pub Keeps : (NextOf → Next) → Type 0
Keeps test = (t : ℕ) (k l : NextOf) → SameOf t k l → Same t (test k) (test l)

-- and so do calls
abbrev pub CallsKeep : Calls → Type 0
CallsKeep calls = (g : ℕ) (zs : List ℤ) → Keeps (calls g zs)

either_same : (b : Bool) (t : ℕ) (k l k' l' : Next) → Same t k l → Same t k' l' → Same t (either b k k') (either b l l')
either_same true t k l k' l' a b s le = a s le
either_same false t k l k' l' a b s le = b s le

take_same : (zs : List ℤ) (t : ℕ) (k l : NextOf) → SameOf t k l → Same t (take_next zs k) (take_next zs l)
take_same [] t k l a s le = refl
take_same (z ∷ zs) t k l a s le = a z (record s { input = zs }) le

tested_same : (n t : ℕ) (k l : ℕ → Next) → ((j : ℕ) → Same t (k j) (l j)) → SameOf t (tested n k) (tested n l)
tested_same n t k l a z = either_same (int_le (pos 0) z && int_lt z (pos n)) t (k (unsigned_abs z)) (l (unsigned_abs z)) (stopped (stops.Trap 1)) (stopped (stops.Trap 1)) (a (unsigned_abs z)) (λ s le. refl)

mutual
  pub value_same : (f : Frame) → CallsKeep f.calls → (e : Term) → Keeps (value f e)
  value_same f c (Number z) t k l a s le = a (pos z) s le
  value_same f c (Scalar p) t k l a s le = a (held s (cell f p)) s le
  value_same f c (Element p n i) t k l a s le =
      value_same f c i t (tested n (λ j s. k (held s (cell f p + j)) s)) (tested n (λ j s. l (held s (cell f p + j)) s))
      (tested_same n t (λ j s. k (held s (cell f p + j)) s) (λ j s. l (held s (cell f p + j)) s) (λ j u ue. a (held u (cell f p + j)) u ue)) s le
  value_same f c Input t k l a s le = take_same s.input t k l a s le
  value_same f c (Call g xs) t k l a s le = values_same f c xs t (λ zs. f.calls g zs k) (λ zs. f.calls g zs l) (λ zs. c g zs t k l a) s le
  value_same f c (Unary op x) t k l a s le = value_same f c x t (λ z. k (prefixed f.bits op z)) (λ z. l (prefixed f.bits op z)) (λ z. a (prefixed f.bits op z)) s le
  value_same f c (Shifted op x j) t k l a s le = value_same f c x t (λ z. k (shifted f.bits op z j)) (λ z. l (shifted f.bits op z j)) (λ z. a (shifted f.bits op z j)) s le
  value_same f c (Arithmetic op x y) t k l a s le =
      value_same f c x t (λ z. value f y (λ w. k (arithmetic f.bits op z w))) (λ z. value f y (λ w. l (arithmetic f.bits op z w)))
      (λ z. value_same f c y t (λ w. k (arithmetic f.bits op z w)) (λ w. l (arithmetic f.bits op z w)) (λ w. a (arithmetic f.bits op z w))) s le
  value_same f c (Compare r x y) t k l a s le =
      value_same f c x t (λ z. value f y (λ w. k (truth (holds r z w)))) (λ z. value f y (λ w. l (truth (holds r z w))))
      (λ z. value_same f c y t (λ w. k (truth (holds r z w))) (λ w. l (truth (holds r z w))) (λ w. a (truth (holds r z w)))) s le
  value_same f c (Not x) t k l a s le = value_same f c x t (λ z. k (truth (not (is_true z)))) (λ z. l (truth (not (is_true z)))) (λ z. a (truth (not (is_true z)))) s le
  value_same f c (AndAlso x y) t k l a s le =
      value_same f c x t (λ z. either (is_true z) (value f y (λ w. k (truth (is_true w)))) (k (pos 0))) (λ z. either (is_true z) (value f y (λ w. l (truth (is_true w)))) (l (pos 0)))
      (λ z. either_same (is_true z) t (value f y (λ w. k (truth (is_true w)))) (value f y (λ w. l (truth (is_true w)))) (k (pos 0)) (l (pos 0))
      (value_same f c y t (λ w. k (truth (is_true w))) (λ w. l (truth (is_true w))) (λ w. a (truth (is_true w)))) (a (pos 0))) s le
  value_same f c (OrElse x y) t k l a s le =
      value_same f c x t (λ z. either (is_true z) (k (pos 1)) (value f y (λ w. k (truth (is_true w))))) (λ z. either (is_true z) (l (pos 1)) (value f y (λ w. l (truth (is_true w)))))
      (λ z. either_same (is_true z) t (k (pos 1)) (l (pos 1)) (value f y (λ w. k (truth (is_true w)))) (value f y (λ w. l (truth (is_true w)))) (a (pos 1))
      (value_same f c y t (λ w. k (truth (is_true w))) (λ w. l (truth (is_true w))) (λ w. a (truth (is_true w))))) s le

  pub values_same : (f : Frame) → CallsKeep f.calls → (xs : Terms) (t : ℕ) (k l : List ℤ → Next) → ((zs : List ℤ) → Same t (k zs) (l zs)) → Same t (values f xs k) (values f xs l)
  values_same f c NoMore t k l a s le = a [] s le
  values_same f c (More x xs) t k l a s le =
      value_same f c x t (λ z. values f xs (λ zs. k (z ∷ zs))) (λ z. values f xs (λ zs. l (z ∷ zs)))
      (λ z. values_same f c xs t (λ zs. k (z ∷ zs)) (λ zs. l (z ∷ zs)) (λ zs. a (z ∷ zs))) s le

-- with one turn paid: what comes behind is the same with fewer left
paid_same : (n t : ℕ) (k l : Next) → n ≤ t → ((u : ℕ) → u < t → Same u k l) → (s : State) → paid n k s ≡ paid n l s
paid_same zero t k l le a s = refl
paid_same (suc u) t k l le a s = a u (omega arith) (record s { turns = u }) (omega arith)

pub pay_same : (t : ℕ) (k l : Next) → ((u : ℕ) → u < t → Same u k l) → Same t (pay k) (pay l)
pay_same t k l a s le = paid_same s.turns t k l le a s

-- ---- loops

-- two bodies that come to the same, where what comes behind them does
abbrev pub BodiesSame : ℕ → (Next → Next) → (Next → Next) → Type 0
BodiesSame t x y = (u : ℕ) → u ≤ t → (k l : Next) → Same u k l → Same u (x k) (y l)

-- one test, and what follows it
abbrev test_of : (NextOf → Next) → (Next → Next) → Next → Next → Next
test_of test body more next = test (λ z. either (is_true z) (body more) next)

-- two counts of tests that are both above the turns left come to the same
pub loop_same : (n m t : ℕ) (test : NextOf → Next) (x y : Next → Next) (k l : Next) → Keeps test → BodiesSame t x y → Same t k l → t < n → t < m
    → Same t (loop n test x k) (loop m test y l)
loop_same zero m t test x y k l keep bodies same low high s le = absurd (omega arith)
loop_same (suc n) zero t test x y k l keep bodies same low high s le = absurd (omega arith)
loop_same (suc n) (suc m) t test x y k l keep bodies same low high s le =
    pay_same t (test_of test x (loop n test x k) k) (test_of test y (loop m test y l) l)
    (λ u lt. keep u (λ z. either (is_true z) (x (loop n test x k)) k) (λ z. either (is_true z) (y (loop m test y l)) l)
    (λ z. either_same (is_true z) u (x (loop n test x k)) (y (loop m test y l)) k l
    (bodies u (omega arith) (loop n test x k) (loop m test y l)
    (loop_same n m u test x y k l keep (λ v ve. bodies v (omega arith)) (λ v ve. same v (omega arith)) (omega arith) (omega arith)))
    (λ v ve. same v (omega arith)))) s le

pub again_same : (t : ℕ) (test : NextOf → Next) (x y : Next → Next) (k l : Next) → Keeps test → BodiesSame t x y → Same t k l → Same t (again test x k) (again test y l)
again_same t test x y k l keep bodies same s le =
    loop_same (suc s.turns) (suc s.turns) s.turns test x y k l keep (λ u ue. bodies u (omega arith)) (λ v ve. same v (omega arith)) (omega arith) (omega arith) s (omega arith)

-- a loop is one test, and where that comes out true the body and the loop again
pub again_is : (test : NextOf → Next) (body : Next → Next) (next : Next) → Keeps test → ((t : ℕ) → BodiesSame t body body) → (s : State)
    → again test body next s ≡ pay (test (λ z. either (is_true z) (body (again test body next)) next)) s
again_is test body next keep bodies s =
    pay_same s.turns (test_of test body (loop s.turns test body next) next) (test_of test body (again test body next) next)
    (λ u lt. keep u (λ z. either (is_true z) (body (loop s.turns test body next)) next) (λ z. either (is_true z) (body (again test body next)) next)
    (λ z. either_same (is_true z) u (body (loop s.turns test body next)) (body (again test body next)) next next
    (bodies u u (omega arith) (loop s.turns test body next) (again test body next)
    (λ v le. loop_same s.turns (suc v.turns) v.turns test body body next next keep (bodies v.turns) (λ w le. refl) (omega arith) (omega arith) v (omega arith)))
    (λ v le. refl))) s (omega arith)

-- ---- statements

pub record SameExits (t : ℕ) (e g : Exits) : Type 0 where
  pub broke : Same t e.broke g.broke
  pub continued : Same t e.continued g.continued
  pub returned : SameOf t e.returned g.returned

fewer_exits : (t u : ℕ) (e g : Exits) → u ≤ t → SameExits t e g → SameExits u e g
fewer_exits t u e g le same = record {
  broke = λ s se. same.broke s (omega arith);
  continued = λ s se. same.continued s (omega arith);
  returned = λ z s se. same.returned z s (omega arith);
}

condition_keeps : (f : Frame) → CallsKeep f.calls → (e : Option Term) → Keeps (condition f e)
condition_keeps f c None t k l a s le = a (pos 1) s le
condition_keeps f c (Some e) t k l a s le = value_same f c e t k l a s le

-- a loop's exits
looped_exits : (t : ℕ) (e g : Exits) (k l m n : Next) → SameExits t e g → Same t k l → Same t m n
    → SameExits t (record e { broke = k; continued = m }) (record g { broke = l; continued = n })
looped_exits t e g k l m n exits same more = record { broke = same; continued = more; returned = exits.returned }

pub run_same : (f : Frame) → CallsKeep f.calls → (x : Command) (t : ℕ) (e g : Exits) (k l : Next) → SameExits t e g → Same t k l → Same t (run f x e k) (run f x g l)
run_same f c Skip t e g k l exits same s le = same s le
run_same f c (Seq x y) t e g k l exits same s le = run_same f c x t e g (run f y e k) (run f y g l) exits (run_same f c y t e g k l exits same) s le
run_same f c (Turn x) t e g k l exits same s le =
    pay_same t (run f x e k) (run f x g l) (λ u lt. run_same f c x u e g k l (fewer_exits t u e g (omega arith) exits) (λ v ve. same v (omega arith))) s le
run_same f c (Set p a) t e g k l exits same s le =
    value_same f c a t (λ z s. k (put s (cell f p) z)) (λ z s. l (put s (cell f p) z)) (λ z v ve. same (put v (cell f p) z) ve) s le
run_same f c (Store p n i a) t e g k l exits same s le =
    value_same f c i t (tested n (λ j. value f a (λ z s. k (put s (cell f p + j) z)))) (tested n (λ j. value f a (λ z s. l (put s (cell f p + j) z))))
    (tested_same n t (λ j. value f a (λ z s. k (put s (cell f p + j) z))) (λ j. value f a (λ z s. l (put s (cell f p + j) z)))
    (λ j. value_same f c a t (λ z s. k (put s (cell f p + j) z)) (λ z s. l (put s (cell f p + j) z)) (λ z v ve. same (put v (cell f p + j) z) ve))) s le
run_same f c (Change p n i op a) t e g k l exits same s le =
    value_same f c i t (tested n (λ j s. value f a (λ z v. k (put v (cell f p + j) (arithmetic f.bits op (held s (cell f p + j)) z))) s))
    (tested n (λ j s. value f a (λ z v. l (put v (cell f p + j) (arithmetic f.bits op (held s (cell f p + j)) z))) s))
    (tested_same n t (λ j s. value f a (λ z v. k (put v (cell f p + j) (arithmetic f.bits op (held s (cell f p + j)) z))) s)
    (λ j s. value f a (λ z v. l (put v (cell f p + j) (arithmetic f.bits op (held s (cell f p + j)) z))) s)
    (λ j w we. value_same f c a t (λ z v. k (put v (cell f p + j) (arithmetic f.bits op (held w (cell f p + j)) z)))
    (λ z v. l (put v (cell f p + j) (arithmetic f.bits op (held w (cell f p + j)) z)))
    (λ z v ve. same (put v (cell f p + j) (arithmetic f.bits op (held w (cell f p + j)) z)) ve) w we)) s le
run_same f c (Print a) t e g k l exits same s le =
    value_same f c a t (λ z s. k (record s { out = s.out ++ z ∷ [] })) (λ z s. l (record s { out = s.out ++ z ∷ [] })) (λ z v ve. same (record v { out = v.out ++ z ∷ [] }) ve) s le
run_same f c Take t e g k l exits same s le = take_same s.input t (λ z. k) (λ z. l) (λ z. same) s le
run_same f c (Invoke h xs) t e g k l exits same s le =
    values_same f c xs t (λ zs. f.calls h zs (λ z. k)) (λ zs. f.calls h zs (λ z. l)) (λ zs. c h zs t (λ z. k) (λ z. l) (λ z. same)) s le
run_same f c (If a x) t e g k l exits same s le =
    value_same f c a t (λ z. either (is_true z) (run f x e k) k) (λ z. either (is_true z) (run f x g l) l)
    (λ z. either_same (is_true z) t (run f x e k) (run f x g l) k l (run_same f c x t e g k l exits same) same) s le
run_same f c (IfElse a x y) t e g k l exits same s le =
    value_same f c a t (λ z. either (is_true z) (run f x e k) (run f y e k)) (λ z. either (is_true z) (run f x g l) (run f y g l))
    (λ z. either_same (is_true z) t (run f x e k) (run f x g l) (run f y e k) (run f y g l) (run_same f c x t e g k l exits same) (run_same f c y t e g k l exits same)) s le
run_same f c (While a x) t e g k l exits same s le =
    again_same t (value f a) (looped (run f x) e k) (looped (run f x) g l) k l (value_same f c a)
    (λ u ue m n more. run_same f c x u (record e { broke = k; continued = m }) (record g { broke = l; continued = n }) m n
    (looped_exits u e g k l m n (fewer_exits t u e g ue exits) (λ v ve. same v (omega arith)) more) more) same s le
run_same f c (Do x a) t e g k l exits same s le =
    let bodies : BodiesSame t (looped (run f x) e k) (looped (run f x) g l) =
    (λ u ue m n more. run_same f c x u (record e { broke = k; continued = m }) (record g { broke = l; continued = n }) m n
    (looped_exits u e g k l m n (fewer_exits t u e g ue exits) (λ v ve. same v (omega arith)) more) more) in
    bodies t (omega arith) (again (value f a) (looped (run f x) e k) k) (again (value f a) (looped (run f x) g l) l)
    (again_same t (value f a) (looped (run f x) e k) (looped (run f x) g l) k l (value_same f c a) bodies same) s le
run_same f c (For a step x) t e g k l exits same s le =
    again_same t (condition f a) (λ more. looped (run f x) e k (run f step e more)) (λ more. looped (run f x) g l (run f step g more)) k l (condition_keeps f c a)
    (λ u ue m n more. let stepped_same : Same u (run f step e m) (run f step g n) = run_same f c step u e g m n (fewer_exits t u e g ue exits) more in
    run_same f c x u (record e { broke = k; continued = run f step e m }) (record g { broke = l; continued = run f step g n }) (run f step e m) (run f step g n)
    (looped_exits u e g k l (run f step e m) (run f step g n) (fewer_exits t u e g ue exits) (λ v ve. same v (omega arith)) stepped_same) stepped_same) same s le
run_same f c Break t e g k l exits same s le = exits.broke s le
run_same f c Continue t e g k l exits same s le = exits.continued s le
run_same f c (Return None) t e g k l exits same s le = exits.returned (pos 0) s le
run_same f c (Return (Some a)) t e g k l exits same s le = value_same f c a t e.returned g.returned exits.returned s le

-- ---- calls

arguments_turns : (zs : List ℤ) (s : State) (base t : ℕ) → s.turns ≤ t → (with_arguments s base zs).turns ≤ t
arguments_turns [] s base t le = le
arguments_turns (z ∷ zs) s base t le = arguments_turns zs (put s base z) (base + 1) t le

entered_same : (h : Option Function) (f : Frame) → CallsKeep f.calls → (zs : List ℤ) → Keeps (entered h f zs)
entered_same None f c zs t k l a s le = a (pos 0) s le
entered_same (Some h) f c zs t k l a s le =
    run_same f c h.body t (record { broke = k (pos 0); continued = k (pos 0); returned = k }) (record { broke = l (pos 0); continued = l (pos 0); returned = l }) (k (pos 0)) (l (pos 0))
    (record { broke = a (pos 0); continued = a (pos 0); returned = a }) (a (pos 0)) (with_arguments s f.base zs) (arguments_turns zs s f.base t le)

pub calls_keep : (p : Program) (n depth : ℕ) → CallsKeep (call p n depth)
calls_keep p n zero g zs t k l a s le = refl
calls_keep p n (suc depth) g zs t k l a s le =
    entered_same (slice_get p.functions g) (record { bits = n; calls = call p n depth; base = base_of p g }) (calls_keep p n depth) zs t k l a s le

-- so in a program a `while` is one test, and where that comes out true the body and the loop again
pub while_is : (p : Program) (n depth base : ℕ) (e : Term) (x : Command) (exits : Exits) (next : Next) (s : State)
    → run (record { bits = n; calls = call p n depth; base = base }) (While e x) exits next s
    ≡ pay (value (record { bits = n; calls = call p n depth; base = base }) e (λ z. either (is_true z)
    (run (record { bits = n; calls = call p n depth; base = base }) x
    (record exits { broke = next; continued = run (record { bits = n; calls = call p n depth; base = base }) (While e x) exits next })
    (run (record { bits = n; calls = call p n depth; base = base }) (While e x) exits next))
    next)) s
while_is p n depth base e x exits next s =
    let f : Frame = record { bits = n; calls = call p n depth; base = base } in
    let c : CallsKeep f.calls = calls_keep p n depth in
    again_is (value f e) (looped (run f x) exits next) next (value_same f c e)
    (λ t u ue m o more. run_same f c x u (record exits { broke = next; continued = m }) (record exits { broke = next; continued = o }) m o
    (record { broke = λ v ve. refl; continued = more; returned = λ z v ve. refl }) more) s

-- so does a `for`, with its condition and its last part
pub for_is : (p : Program) (n depth base : ℕ) (e : Option Term) (step x : Command) (exits : Exits) (next : Next) (s : State)
    → run (record { bits = n; calls = call p n depth; base = base }) (For e step x) exits next s
    ≡ pay (condition (record { bits = n; calls = call p n depth; base = base }) e (λ z. either (is_true z)
    (looped (run (record { bits = n; calls = call p n depth; base = base }) x) exits next
    (run (record { bits = n; calls = call p n depth; base = base }) step exits (run (record { bits = n; calls = call p n depth; base = base }) (For e step x) exits next)))
    next)) s
for_is p n depth base e step x exits next s =
    let f : Frame = record { bits = n; calls = call p n depth; base = base } in
    let c : CallsKeep f.calls = calls_keep p n depth in
    again_is (condition f e) (λ more. looped (run f x) exits next (run f step exits more)) next (condition_keeps f c e)
    (λ t u ue m o more. let after : Same u (run f step exits m) (run f step exits o) = run_same f c step u exits exits m o (record { broke = λ v ve. refl; continued = λ v ve. refl; returned = λ z v ve. refl }) more in
    run_same f c x u (record exits { broke = next; continued = run f step exits m }) (record exits { broke = next; continued = run f step exits o }) (run f step exits m) (run f step exits o)
    (record { broke = λ v ve. refl; continued = after; returned = λ z v ve. refl }) after) s

-- a `do` is its body, and then the `while`
pub do_is : (f : Frame) (x : Command) (e : Term) (exits : Exits) (next : Next) (s : State)
    → run f (Do x e) exits next s ≡ run f x (record exits { broke = next; continued = run f (While e x) exits next }) (run f (While e x) exits next) s
do_is f x e exits next s = refl
