-- A run that may pay more turns goes on from one that may pay fewer.
use Rattle.std.proofs.Common.{◌≡◌, refl, sym, ◌∙◌, ap, subst, ℕ, zero, suc, ◌+◌, ◌≤◌, List, [], ◌∷◌, ◌++◌, append_assoc, append-nil, arith, Bool, true, false, not, ◌&&◌, Option, Some, None, ℤ, pos}
use Rattle.std.specs.Prelude.{int_le, int_lt, unsigned_abs, slice_get}
use Rattle.ir_core.specs.Operator.{prefixed, shifted, arithmetic, holds}
use Rattle.nk_outside.specs.Agree.{GoesOn, Stopped, Further}
use Rattle.nk_outside.specs.declared.stop.Stop.{Stop}
use Rattle.nk_outside.specs.declared.stop.Stop.TheVariants as stops
use Rattle.c_tree.specs.Program.{Term, Terms, Number, Scalar, Element, Input, Call, Unary, Shifted, Arithmetic, Compare, Not, AndAlso, OrElse, NoMore, More, Command, Skip, Seq, Turn, Set, Store, Change, Print, Take, Invoke, If, IfElse, While, Do, For, Break, Continue, Return, Program, Function}
use Rattle.c_tree.specs.Meaning.{State, Next, NextOf, Calls, Frame, Exits, stopped, paid, pay, take_next, cell, held, put, either, tested, is_true, truth, value, values, loop, again, condition, looped, run, entered, with_arguments, call, base_of, main_base, main_body, run_body, beginning, outcome}

-- ---- what was put out stays

abbrev Ext : Next → Type 0
Ext k = (s : State) → (more : List ℤ) × ((k s).out ≡ s.out ++ more)

stopped_ext : (stop : Stop) → Ext (stopped stop)
stopped_ext stop s = ([], sym (append-nil s.out))

either_ext : (b : Bool) (k l : Next) → Ext k → Ext l → Ext (either b k l)
either_ext true k l a b s = a s
either_ext false k l a b s = b s

take_ext : (zs : List ℤ) (k : NextOf) → ((z : ℤ) → Ext (k z)) → Ext (take_next zs k)
take_ext [] k a s = stopped_ext stops.Wants s
take_ext (z ∷ zs) k a s = a z (record s { input = zs })

tested_ext : (n : ℕ) (k : ℕ → Next) → ((j : ℕ) → Ext (k j)) → (z : ℤ) → Ext (tested n k z)
tested_ext n k a z = either_ext (int_le (pos 0) z && int_lt z (pos n)) (k (unsigned_abs z)) (stopped (stops.Trap 1)) (a (unsigned_abs z)) (stopped_ext (stops.Trap 1))

print_ext : (k : Next) (z : ℤ) → Ext k → (s : State) → (more : List ℤ) × ((k (record s { out = s.out ++ z ∷ [] })).out ≡ s.out ++ more)
print_ext k z a s = let e : (more : List ℤ) × ((k (record s { out = s.out ++ z ∷ [] })).out ≡ (s.out ++ z ∷ []) ++ more) = a (record s { out = s.out ++ z ∷ [] }) in
    (z ∷ e.0, e.1 ∙ append_assoc s.out (z ∷ []) e.0)

paid_ext : (t : ℕ) (k : Next) → Ext k → (s : State) → (more : List ℤ) × ((paid t k s).out ≡ s.out ++ more)
paid_ext zero k a s = stopped_ext stops.Running s
paid_ext (suc t) k a s = a (record s { turns = t })

pay_ext : (k : Next) → Ext k → Ext (pay k)
pay_ext k a s = paid_ext s.turns k a s

abbrev CallsExt : Calls → Type 0
CallsExt calls = (g : ℕ) (zs : List ℤ) (k : NextOf) → ((z : ℤ) → Ext (k z)) → Ext (calls g zs k)

mutual
  value_ext : (f : Frame) → CallsExt f.calls → (e : Term) (k : NextOf) → ((z : ℤ) → Ext (k z)) → Ext (value f e k)
  value_ext f c (Number z) k a s = a (pos z) s
  value_ext f c (Scalar p) k a s = a (held s (cell f p)) s
  value_ext f c (Element p n i) k a s =
      value_ext f c i (tested n (λ j s. k (held s (cell f p + j)) s)) (tested_ext n (λ j s. k (held s (cell f p + j)) s) (λ j s. a (held s (cell f p + j)) s)) s
  value_ext f c Input k a s = take_ext s.input k a s
  value_ext f c (Call g xs) k a s = values_ext f c xs (λ zs. f.calls g zs k) (λ zs. c g zs k a) s
  value_ext f c (Unary op x) k a s = value_ext f c x (λ z. k (prefixed f.bits op z)) (λ z. a (prefixed f.bits op z)) s
  value_ext f c (Shifted op x j) k a s = value_ext f c x (λ z. k (shifted f.bits op z j)) (λ z. a (shifted f.bits op z j)) s
  value_ext f c (Arithmetic op x y) k a s =
      value_ext f c x (λ z. value f y (λ w. k (arithmetic f.bits op z w))) (λ z. value_ext f c y (λ w. k (arithmetic f.bits op z w)) (λ w. a (arithmetic f.bits op z w))) s
  value_ext f c (Compare r x y) k a s =
      value_ext f c x (λ z. value f y (λ w. k (truth (holds r z w)))) (λ z. value_ext f c y (λ w. k (truth (holds r z w))) (λ w. a (truth (holds r z w)))) s
  value_ext f c (Not x) k a s = value_ext f c x (λ z. k (truth (not (is_true z)))) (λ z. a (truth (not (is_true z)))) s
  value_ext f c (AndAlso x y) k a s =
      value_ext f c x (λ z. either (is_true z) (value f y (λ w. k (truth (is_true w)))) (k (pos 0)))
      (λ z. either_ext (is_true z) (value f y (λ w. k (truth (is_true w)))) (k (pos 0)) (value_ext f c y (λ w. k (truth (is_true w))) (λ w. a (truth (is_true w)))) (a (pos 0))) s
  value_ext f c (OrElse x y) k a s =
      value_ext f c x (λ z. either (is_true z) (k (pos 1)) (value f y (λ w. k (truth (is_true w)))))
      (λ z. either_ext (is_true z) (k (pos 1)) (value f y (λ w. k (truth (is_true w)))) (a (pos 1)) (value_ext f c y (λ w. k (truth (is_true w))) (λ w. a (truth (is_true w))))) s

  values_ext : (f : Frame) → CallsExt f.calls → (xs : Terms) (k : List ℤ → Next) → ((zs : List ℤ) → Ext (k zs)) → Ext (values f xs k)
  values_ext f c NoMore k a s = a [] s
  values_ext f c (More x xs) k a s = value_ext f c x (λ z. values f xs (λ zs. k (z ∷ zs))) (λ z. values_ext f c xs (λ zs. k (z ∷ zs)) (λ zs. a (z ∷ zs))) s

condition_ext : (f : Frame) → CallsExt f.calls → (e : Option Term) (k : NextOf) → ((z : ℤ) → Ext (k z)) → Ext (condition f e k)
condition_ext f c None k a s = a (pos 1) s
condition_ext f c (Some e) k a s = value_ext f c e k a s

abbrev TestExt : (NextOf → Next) → Type 0
TestExt test = (k : NextOf) → ((z : ℤ) → Ext (k z)) → Ext (test k)

abbrev BodyExt : (Next → Next) → Type 0
BodyExt body = (k : Next) → Ext k → Ext (body k)

loop_ext : (n : ℕ) (test : NextOf → Next) (body : Next → Next) (k : Next) → TestExt test → BodyExt body → Ext k → Ext (loop n test body k)
loop_ext zero test body k t b a s = stopped_ext stops.Running s
loop_ext (suc n) test body k t b a s =
    pay_ext (test (λ z. either (is_true z) (body (loop n test body k)) k))
    (t (λ z. either (is_true z) (body (loop n test body k)) k) (λ z. either_ext (is_true z) (body (loop n test body k)) k (b (loop n test body k) (loop_ext n test body k t b a)) a)) s

again_ext : (test : NextOf → Next) (body : Next → Next) (k : Next) → TestExt test → BodyExt body → Ext k → Ext (again test body k)
again_ext test body k t b a s = loop_ext (suc s.turns) test body k t b a s

record ExitsExt (e : Exits) : Type 0 where
  broke : Ext e.broke
  continued : Ext e.continued
  returned : (z : ℤ) → Ext (e.returned z)

run_ext : (f : Frame) → CallsExt f.calls → (x : Command) (e : Exits) (k : Next) → ExitsExt e → Ext k → Ext (run f x e k)
run_ext f c Skip e k x a s = a s
run_ext f c (Seq y z) e k x a s = run_ext f c y e (run f z e k) x (run_ext f c z e k x a) s
run_ext f c (Turn y) e k x a s = pay_ext (run f y e k) (run_ext f c y e k x a) s
run_ext f c (Set p b) e k x a s = value_ext f c b (λ z s. k (put s (cell f p) z)) (λ z s. a (put s (cell f p) z)) s
run_ext f c (Store p n i b) e k x a s =
    value_ext f c i (tested n (λ j. value f b (λ z s. k (put s (cell f p + j) z))))
    (tested_ext n (λ j. value f b (λ z s. k (put s (cell f p + j) z))) (λ j. value_ext f c b (λ z s. k (put s (cell f p + j) z)) (λ z s. a (put s (cell f p + j) z)))) s
run_ext f c (Change p n i op b) e k x a s =
    value_ext f c i (tested n (λ j s. value f b (λ z t. k (put t (cell f p + j) (arithmetic f.bits op (held s (cell f p + j)) z))) s))
    (tested_ext n (λ j s. value f b (λ z t. k (put t (cell f p + j) (arithmetic f.bits op (held s (cell f p + j)) z))) s)
    (λ j s. value_ext f c b (λ z t. k (put t (cell f p + j) (arithmetic f.bits op (held s (cell f p + j)) z)))
    (λ z t. a (put t (cell f p + j) (arithmetic f.bits op (held s (cell f p + j)) z))) s)) s
run_ext f c (Print b) e k x a s = value_ext f c b (λ z s. k (record s { out = s.out ++ z ∷ [] })) (λ z s. print_ext k z a s) s
run_ext f c Take e k x a s = take_ext s.input (λ z. k) (λ z. a) s
run_ext f c (Invoke h xs) e k x a s = values_ext f c xs (λ zs. f.calls h zs (λ z. k)) (λ zs. c h zs (λ z. k) (λ z. a)) s
run_ext f c (If b y) e k x a s = value_ext f c b (λ z. either (is_true z) (run f y e k) k) (λ z. either_ext (is_true z) (run f y e k) k (run_ext f c y e k x a) a) s
run_ext f c (IfElse b y w) e k x a s =
    value_ext f c b (λ z. either (is_true z) (run f y e k) (run f w e k)) (λ z. either_ext (is_true z) (run f y e k) (run f w e k) (run_ext f c y e k x a) (run_ext f c w e k x a)) s
run_ext f c (While b y) e k x a s =
    again_ext (value f b) (looped (run f y) e k) k (value_ext f c b)
    (λ m more. run_ext f c y (record e { broke = k; continued = m }) m (record { broke = a; continued = more; returned = x.returned }) more) a s
run_ext f c (Do y b) e k x a s =
    let bodies : BodyExt (looped (run f y) e k) =
    (λ m more. run_ext f c y (record e { broke = k; continued = m }) m (record { broke = a; continued = more; returned = x.returned }) more) in
    bodies (again (value f b) (looped (run f y) e k) k) (again_ext (value f b) (looped (run f y) e k) k (value_ext f c b) bodies a) s
run_ext f c (For b step y) e k x a s =
    again_ext (condition f b) (λ more. looped (run f y) e k (run f step e more)) k (condition_ext f c b)
    (λ m more. let after : Ext (run f step e m) = run_ext f c step e m x more in
    run_ext f c y (record e { broke = k; continued = run f step e m }) (run f step e m) (record { broke = a; continued = after; returned = x.returned }) after) a s
run_ext f c Break e k x a s = x.broke s
run_ext f c Continue e k x a s = x.continued s
run_ext f c (Return None) e k x a s = x.returned (pos 0) s
run_ext f c (Return (Some b)) e k x a s = value_ext f c b e.returned x.returned s

arguments_out : (zs : List ℤ) (s : State) (base : ℕ) → (with_arguments s base zs).out ≡ s.out
arguments_out [] s base = refl
arguments_out (z ∷ zs) s base = arguments_out zs (put s base z) (base + 1)

entered_ext : (h : Option Function) (f : Frame) → CallsExt f.calls → (zs : List ℤ) (k : NextOf) → ((z : ℤ) → Ext (k z)) → Ext (entered h f zs k)
entered_ext None f c zs k a s = a (pos 0) s
entered_ext (Some h) f c zs k a s =
    let e : (more : List ℤ) × ((entered (Some h) f zs k s).out ≡ (with_arguments s f.base zs).out ++ more) =
    run_ext f c h.body (record { broke = k (pos 0); continued = k (pos 0); returned = k }) (k (pos 0)) (record { broke = a (pos 0); continued = a (pos 0); returned = a }) (a (pos 0)) (with_arguments s f.base zs) in
    (e.0, e.1 ∙ ap (λ out. out ++ e.0) (arguments_out zs s f.base))

calls_ext : (p : Program) (n depth : ℕ) → CallsExt (call p n depth)
calls_ext p n zero g zs k a s = stopped_ext stops.Running s
calls_ext p n (suc depth) g zs k a s = entered_ext (slice_get p.functions g) (record { bits = n; calls = call p n depth; base = base_of p g }) (calls_ext p n depth) zs k a s

-- ---- more turns

abbrev Above : Next → Next → Type 0
Above k l = (s : State) (t : ℕ) → s.turns ≤ t → GoesOn (k s) (l (record s { turns = t }))

stopped_above : (stop : Stop) → Above (stopped stop) (stopped stop)
stopped_above stop s t le = Stopped refl

either_above : (b : Bool) (k l k' l' : Next) → Above k l → Above k' l' → Above (either b k k') (either b l l')
either_above true k l k' l' a b s t le = a s t le
either_above false k l k' l' a b s t le = b s t le

take_above : (zs : List ℤ) (k l : NextOf) → ((z : ℤ) → Above (k z) (l z)) → Above (take_next zs k) (take_next zs l)
take_above [] k l a s t le = Stopped refl
take_above (z ∷ zs) k l a s t le = a z (record s { input = zs }) t le

tested_above : (n : ℕ) (k l : ℕ → Next) → ((j : ℕ) → Above (k j) (l j)) → (z : ℤ) → Above (tested n k z) (tested n l z)
tested_above n k l a z = either_above (int_le (pos 0) z && int_lt z (pos n)) (k (unsigned_abs z)) (l (unsigned_abs z)) (stopped (stops.Trap 1)) (stopped (stops.Trap 1)) (a (unsigned_abs z)) (stopped_above (stops.Trap 1))

-- it stops for its turns, and the other goes on
stops_above : (l : Next) → Ext l → (s : State) (t : ℕ) → GoesOn (stopped stops.Running s) (l (record s { turns = t }))
stops_above l e s t = let x : (more : List ℤ) × ((l (record s { turns = t })).out ≡ s.out ++ more) = e (record s { turns = t }) in Further refl x.0 x.1

paid_above : (m t : ℕ) (k l : Next) → Ext l → Above k l → m ≤ t → (s : State) → GoesOn (paid m k s) (paid t l (record s { turns = t }))
paid_above zero t k l e a le s = stops_above (pay l) (pay_ext l e) s t
paid_above (suc m) zero k l e a le s = absurd (omega arith)
paid_above (suc m) (suc t) k l e a le s = a (record s { turns = m }) t (omega arith)

pay_above : (k l : Next) → Ext l → Above k l → Above (pay k) (pay l)
pay_above k l e a s t le = paid_above s.turns t k l e a le s

abbrev CallsAbove : Calls → Calls → Type 0
CallsAbove calls more = (g : ℕ) (zs : List ℤ) (k l : NextOf) → ((z : ℤ) → Ext (l z)) → ((z : ℤ) → Above (k z) (l z)) → Above (calls g zs k) (more g zs l)

-- the same frame, with calls that may go on
abbrev beyond : Frame → Calls → Frame
beyond f more = record f { calls = more }

mutual
  value_above : (f : Frame) (more : Calls) → CallsExt more → CallsAbove f.calls more → (e : Term) (k l : NextOf) → ((z : ℤ) → Ext (l z)) → ((z : ℤ) → Above (k z) (l z)) → Above (value f e k) (value (beyond f more) e l)
  value_above f m x c (Number z) k l e a s t le = a (pos z) s t le
  value_above f m x c (Scalar p) k l e a s t le = a (held s (cell f p)) s t le
  value_above f m x c (Element p n i) k l e a s t le =
      value_above f m x c i (tested n (λ j s. k (held s (cell f p + j)) s)) (tested n (λ j s. l (held s (cell f p + j)) s))
      (tested_ext n (λ j s. l (held s (cell f p + j)) s) (λ j s. e (held s (cell f p + j)) s))
      (tested_above n (λ j s. k (held s (cell f p + j)) s) (λ j s. l (held s (cell f p + j)) s) (λ j s t le. a (held s (cell f p + j)) s t le)) s t le
  value_above f m x c Input k l e a s t le = take_above s.input k l a s t le
  value_above f m x c (Call g xs) k l e a s t le = values_above f m x c xs (λ zs. f.calls g zs k) (λ zs. m g zs l) (λ zs. x g zs l e) (λ zs. c g zs k l e a) s t le
  value_above f m x c (Unary op y) k l e a s t le = value_above f m x c y (λ z. k (prefixed f.bits op z)) (λ z. l (prefixed f.bits op z)) (λ z. e (prefixed f.bits op z)) (λ z. a (prefixed f.bits op z)) s t le
  value_above f m x c (Shifted op y j) k l e a s t le = value_above f m x c y (λ z. k (shifted f.bits op z j)) (λ z. l (shifted f.bits op z j)) (λ z. e (shifted f.bits op z j)) (λ z. a (shifted f.bits op z j)) s t le
  value_above f m x c (Arithmetic op y w) k l e a s t le =
      value_above f m x c y (λ z. value f w (λ v. k (arithmetic f.bits op z v))) (λ z. value (beyond f m) w (λ v. l (arithmetic f.bits op z v)))
      (λ z. value_ext (beyond f m) x w (λ v. l (arithmetic f.bits op z v)) (λ v. e (arithmetic f.bits op z v)))
      (λ z. value_above f m x c w (λ v. k (arithmetic f.bits op z v)) (λ v. l (arithmetic f.bits op z v)) (λ v. e (arithmetic f.bits op z v)) (λ v. a (arithmetic f.bits op z v))) s t le
  value_above f m x c (Compare r y w) k l e a s t le =
      value_above f m x c y (λ z. value f w (λ v. k (truth (holds r z v)))) (λ z. value (beyond f m) w (λ v. l (truth (holds r z v))))
      (λ z. value_ext (beyond f m) x w (λ v. l (truth (holds r z v))) (λ v. e (truth (holds r z v))))
      (λ z. value_above f m x c w (λ v. k (truth (holds r z v))) (λ v. l (truth (holds r z v))) (λ v. e (truth (holds r z v))) (λ v. a (truth (holds r z v)))) s t le
  value_above f m x c (Not y) k l e a s t le = value_above f m x c y (λ z. k (truth (not (is_true z)))) (λ z. l (truth (not (is_true z)))) (λ z. e (truth (not (is_true z)))) (λ z. a (truth (not (is_true z)))) s t le
  value_above f m x c (AndAlso y w) k l e a s t le =
      value_above f m x c y (λ z. either (is_true z) (value f w (λ v. k (truth (is_true v)))) (k (pos 0))) (λ z. either (is_true z) (value (beyond f m) w (λ v. l (truth (is_true v)))) (l (pos 0)))
      (λ z. either_ext (is_true z) (value (beyond f m) w (λ v. l (truth (is_true v)))) (l (pos 0)) (value_ext (beyond f m) x w (λ v. l (truth (is_true v))) (λ v. e (truth (is_true v)))) (e (pos 0)))
      (λ z. either_above (is_true z) (value f w (λ v. k (truth (is_true v)))) (value (beyond f m) w (λ v. l (truth (is_true v)))) (k (pos 0)) (l (pos 0))
      (value_above f m x c w (λ v. k (truth (is_true v))) (λ v. l (truth (is_true v))) (λ v. e (truth (is_true v))) (λ v. a (truth (is_true v)))) (a (pos 0))) s t le
  value_above f m x c (OrElse y w) k l e a s t le =
      value_above f m x c y (λ z. either (is_true z) (k (pos 1)) (value f w (λ v. k (truth (is_true v))))) (λ z. either (is_true z) (l (pos 1)) (value (beyond f m) w (λ v. l (truth (is_true v)))))
      (λ z. either_ext (is_true z) (l (pos 1)) (value (beyond f m) w (λ v. l (truth (is_true v)))) (e (pos 1)) (value_ext (beyond f m) x w (λ v. l (truth (is_true v))) (λ v. e (truth (is_true v)))))
      (λ z. either_above (is_true z) (k (pos 1)) (l (pos 1)) (value f w (λ v. k (truth (is_true v)))) (value (beyond f m) w (λ v. l (truth (is_true v)))) (a (pos 1))
      (value_above f m x c w (λ v. k (truth (is_true v))) (λ v. l (truth (is_true v))) (λ v. e (truth (is_true v))) (λ v. a (truth (is_true v))))) s t le

  values_above : (f : Frame) (more : Calls) → CallsExt more → CallsAbove f.calls more → (xs : Terms) (k l : List ℤ → Next) → ((zs : List ℤ) → Ext (l zs)) → ((zs : List ℤ) → Above (k zs) (l zs)) → Above (values f xs k) (values (beyond f more) xs l)
  values_above f m x c NoMore k l e a s t le = a [] s t le
  values_above f m x c (More y ys) k l e a s t le =
      value_above f m x c y (λ z. values f ys (λ zs. k (z ∷ zs))) (λ z. values (beyond f m) ys (λ zs. l (z ∷ zs)))
      (λ z. values_ext (beyond f m) x ys (λ zs. l (z ∷ zs)) (λ zs. e (z ∷ zs)))
      (λ z. values_above f m x c ys (λ zs. k (z ∷ zs)) (λ zs. l (z ∷ zs)) (λ zs. e (z ∷ zs)) (λ zs. a (z ∷ zs))) s t le

condition_above : (f : Frame) (more : Calls) → CallsExt more → CallsAbove f.calls more → (b : Option Term) (k l : NextOf) → ((z : ℤ) → Ext (l z)) → ((z : ℤ) → Above (k z) (l z)) → Above (condition f b k) (condition (beyond f more) b l)
condition_above f m x c None k l e a s t le = a (pos 1) s t le
condition_above f m x c (Some b) k l e a s t le = value_above f m x c b k l e a s t le

abbrev TestAbove : (NextOf → Next) → (NextOf → Next) → Type 0
TestAbove test more = (k l : NextOf) → ((z : ℤ) → Ext (l z)) → ((z : ℤ) → Above (k z) (l z)) → Above (test k) (more l)

abbrev BodyAbove : (Next → Next) → (Next → Next) → Type 0
BodyAbove body more = (k l : Next) → Ext l → Above k l → Above (body k) (more l)

loop_above : (n m : ℕ) (test u : NextOf → Next) (body v : Next → Next) (k l : Next) → TestExt u → TestAbove test u → BodyExt v → BodyAbove body v → Ext l → Above k l → n ≤ m
    → Above (loop n test body k) (loop m u v l)
loop_above zero m test u body v k l te ta be ba e a le s t st = stops_above (loop m u v l) (loop_ext m u v l te be e) s t
loop_above (suc n) zero test u body v k l te ta be ba e a le s t st = absurd (omega arith)
loop_above (suc n) (suc m) test u body v k l te ta be ba e a le s t st =
    let inner : Above (loop n test body k) (loop m u v l) = loop_above n m test u body v k l te ta be ba e a (omega arith) in
    let inside : Ext (loop m u v l) = loop_ext m u v l te be e in
    pay_above (test (λ z. either (is_true z) (body (loop n test body k)) k)) (u (λ z. either (is_true z) (v (loop m u v l)) l))
    (te (λ z. either (is_true z) (v (loop m u v l)) l) (λ z. either_ext (is_true z) (v (loop m u v l)) l (be (loop m u v l) inside) e))
    (ta (λ z. either (is_true z) (body (loop n test body k)) k) (λ z. either (is_true z) (v (loop m u v l)) l)
    (λ z. either_ext (is_true z) (v (loop m u v l)) l (be (loop m u v l) inside) e)
    (λ z. either_above (is_true z) (body (loop n test body k)) (v (loop m u v l)) k l (ba (loop n test body k) (loop m u v l) inside inner) a)) s t st

again_above : (test u : NextOf → Next) (body v : Next → Next) (k l : Next) → TestExt u → TestAbove test u → BodyExt v → BodyAbove body v → Ext l → Above k l → Above (again test body k) (again u v l)
again_above test u body v k l te ta be ba e a s t le = loop_above (suc s.turns) (suc t) test u body v k l te ta be ba e a (omega arith) s t le

record ExitsAbove (e g : Exits) : Type 0 where
  broke : Above e.broke g.broke
  continued : Above e.continued g.continued
  returned : (z : ℤ) → Above (e.returned z) (g.returned z)

run_above : (f : Frame) (more : Calls) → CallsExt more → CallsAbove f.calls more → (y : Command) (e g : Exits) (k l : Next) → ExitsExt g → ExitsAbove e g → Ext l → Above k l
    → Above (run f y e k) (run (beyond f more) y g l)
run_above f m x c Skip e g k l gx ga lx a s t le = a s t le
run_above f m x c (Seq y w) e g k l gx ga lx a s t le =
    run_above f m x c y e g (run f w e k) (run (beyond f m) w g l) gx ga (run_ext (beyond f m) x w g l gx lx) (run_above f m x c w e g k l gx ga lx a) s t le
run_above f m x c (Turn y) e g k l gx ga lx a s t le =
    pay_above (run f y e k) (run (beyond f m) y g l) (run_ext (beyond f m) x y g l gx lx) (run_above f m x c y e g k l gx ga lx a) s t le
run_above f m x c (Set p b) e g k l gx ga lx a s t le =
    value_above f m x c b (λ z s. k (put s (cell f p) z)) (λ z s. l (put s (cell f p) z)) (λ z s. lx (put s (cell f p) z)) (λ z s t le. a (put s (cell f p) z) t le) s t le
run_above f m x c (Store p n i b) e g k l gx ga lx a s t le =
    value_above f m x c i (tested n (λ j. value f b (λ z s. k (put s (cell f p + j) z)))) (tested n (λ j. value (beyond f m) b (λ z s. l (put s (cell f p + j) z))))
    (tested_ext n (λ j. value (beyond f m) b (λ z s. l (put s (cell f p + j) z))) (λ j. value_ext (beyond f m) x b (λ z s. l (put s (cell f p + j) z)) (λ z s. lx (put s (cell f p + j) z))))
    (tested_above n (λ j. value f b (λ z s. k (put s (cell f p + j) z))) (λ j. value (beyond f m) b (λ z s. l (put s (cell f p + j) z)))
    (λ j. value_above f m x c b (λ z s. k (put s (cell f p + j) z)) (λ z s. l (put s (cell f p + j) z)) (λ z s. lx (put s (cell f p + j) z)) (λ z s t le. a (put s (cell f p + j) z) t le))) s t le
run_above f m x c (Change p n i op b) e g k l gx ga lx a s t le =
    value_above f m x c i (tested n (λ j s. value f b (λ z r. k (put r (cell f p + j) (arithmetic f.bits op (held s (cell f p + j)) z))) s))
    (tested n (λ j s. value (beyond f m) b (λ z r. l (put r (cell f p + j) (arithmetic f.bits op (held s (cell f p + j)) z))) s))
    (tested_ext n (λ j s. value (beyond f m) b (λ z r. l (put r (cell f p + j) (arithmetic f.bits op (held s (cell f p + j)) z))) s)
    (λ j s. value_ext (beyond f m) x b (λ z r. l (put r (cell f p + j) (arithmetic f.bits op (held s (cell f p + j)) z)))
    (λ z r. lx (put r (cell f p + j) (arithmetic f.bits op (held s (cell f p + j)) z))) s))
    (tested_above n (λ j s. value f b (λ z r. k (put r (cell f p + j) (arithmetic f.bits op (held s (cell f p + j)) z))) s)
    (λ j s. value (beyond f m) b (λ z r. l (put r (cell f p + j) (arithmetic f.bits op (held s (cell f p + j)) z))) s)
    (λ j w t le. value_above f m x c b (λ z r. k (put r (cell f p + j) (arithmetic f.bits op (held w (cell f p + j)) z)))
    (λ z r. l (put r (cell f p + j) (arithmetic f.bits op (held w (cell f p + j)) z)))
    (λ z r. lx (put r (cell f p + j) (arithmetic f.bits op (held w (cell f p + j)) z)))
    (λ z r t le. a (put r (cell f p + j) (arithmetic f.bits op (held w (cell f p + j)) z)) t le) w t le)) s t le
run_above f m x c (Print b) e g k l gx ga lx a s t le =
    value_above f m x c b (λ z s. k (record s { out = s.out ++ z ∷ [] })) (λ z s. l (record s { out = s.out ++ z ∷ [] })) (λ z s. print_ext l z lx s)
    (λ z s t le. a (record s { out = s.out ++ z ∷ [] }) t le) s t le
run_above f m x c Take e g k l gx ga lx a s t le = take_above s.input (λ z. k) (λ z. l) (λ z. a) s t le
run_above f m x c (Invoke h xs) e g k l gx ga lx a s t le =
    values_above f m x c xs (λ zs. f.calls h zs (λ z. k)) (λ zs. m h zs (λ z. l)) (λ zs. x h zs (λ z. l) (λ z. lx)) (λ zs. c h zs (λ z. k) (λ z. l) (λ z. lx) (λ z. a)) s t le
run_above f m x c (If b y) e g k l gx ga lx a s t le =
    value_above f m x c b (λ z. either (is_true z) (run f y e k) k) (λ z. either (is_true z) (run (beyond f m) y g l) l)
    (λ z. either_ext (is_true z) (run (beyond f m) y g l) l (run_ext (beyond f m) x y g l gx lx) lx)
    (λ z. either_above (is_true z) (run f y e k) (run (beyond f m) y g l) k l (run_above f m x c y e g k l gx ga lx a) a) s t le
run_above f m x c (IfElse b y w) e g k l gx ga lx a s t le =
    value_above f m x c b (λ z. either (is_true z) (run f y e k) (run f w e k)) (λ z. either (is_true z) (run (beyond f m) y g l) (run (beyond f m) w g l))
    (λ z. either_ext (is_true z) (run (beyond f m) y g l) (run (beyond f m) w g l) (run_ext (beyond f m) x y g l gx lx) (run_ext (beyond f m) x w g l gx lx))
    (λ z. either_above (is_true z) (run f y e k) (run (beyond f m) y g l) (run f w e k) (run (beyond f m) w g l) (run_above f m x c y e g k l gx ga lx a) (run_above f m x c w e g k l gx ga lx a)) s t le
run_above f m x c (While b y) e g k l gx ga lx a s t le =
    again_above (value f b) (value (beyond f m) b) (looped (run f y) e k) (looped (run (beyond f m) y) g l) k l (value_ext (beyond f m) x b) (value_above f m x c b)
    (λ n nx. run_ext (beyond f m) x y (record g { broke = l; continued = n }) n (record { broke = lx; continued = nx; returned = gx.returned }) nx)
    (λ n o ox na. run_above f m x c y (record e { broke = k; continued = n }) (record g { broke = l; continued = o }) n o
    (record { broke = lx; continued = ox; returned = gx.returned }) (record { broke = a; continued = na; returned = ga.returned }) ox na) lx a s t le
run_above f m x c (Do y b) e g k l gx ga lx a s t le =
    let exts : BodyExt (looped (run (beyond f m) y) g l) =
    (λ n nx. run_ext (beyond f m) x y (record g { broke = l; continued = n }) n (record { broke = lx; continued = nx; returned = gx.returned }) nx) in
    let bodies : BodyAbove (looped (run f y) e k) (looped (run (beyond f m) y) g l) =
    (λ n o ox na. run_above f m x c y (record e { broke = k; continued = n }) (record g { broke = l; continued = o }) n o
    (record { broke = lx; continued = ox; returned = gx.returned }) (record { broke = a; continued = na; returned = ga.returned }) ox na) in
    bodies (again (value f b) (looped (run f y) e k) k) (again (value (beyond f m) b) (looped (run (beyond f m) y) g l) l)
    (again_ext (value (beyond f m) b) (looped (run (beyond f m) y) g l) l (value_ext (beyond f m) x b) exts lx)
    (again_above (value f b) (value (beyond f m) b) (looped (run f y) e k) (looped (run (beyond f m) y) g l) k l (value_ext (beyond f m) x b) (value_above f m x c b) exts bodies lx a) s t le
run_above f m x c (For b step y) e g k l gx ga lx a s t le =
    again_above (condition f b) (condition (beyond f m) b) (λ more. looped (run f y) e k (run f step e more)) (λ more. looped (run (beyond f m) y) g l (run (beyond f m) step g more)) k l
    (condition_ext (beyond f m) x b) (condition_above f m x c b)
    (λ n nx. let after : Ext (run (beyond f m) step g n) = run_ext (beyond f m) x step g n gx nx in
    run_ext (beyond f m) x y (record g { broke = l; continued = run (beyond f m) step g n }) (run (beyond f m) step g n) (record { broke = lx; continued = after; returned = gx.returned }) after)
    (λ n o ox na. let after : Ext (run (beyond f m) step g o) = run_ext (beyond f m) x step g o gx ox in
    let behind : Above (run f step e n) (run (beyond f m) step g o) = run_above f m x c step e g n o gx ga ox na in
    run_above f m x c y (record e { broke = k; continued = run f step e n }) (record g { broke = l; continued = run (beyond f m) step g o }) (run f step e n) (run (beyond f m) step g o)
    (record { broke = lx; continued = after; returned = gx.returned }) (record { broke = a; continued = behind; returned = ga.returned }) after behind) lx a s t le
run_above f m x c Break e g k l gx ga lx a s t le = ga.broke s t le
run_above f m x c Continue e g k l gx ga lx a s t le = ga.continued s t le
run_above f m x c (Return None) e g k l gx ga lx a s t le = ga.returned (pos 0) s t le
run_above f m x c (Return (Some b)) e g k l gx ga lx a s t le = value_above f m x c b e.returned g.returned gx.returned ga.returned s t le

arguments_above : (zs : List ℤ) (s : State) (base t : ℕ) → with_arguments (record s { turns = t }) base zs ≡ record (with_arguments s base zs) { turns = t }
arguments_above [] s base t = refl
arguments_above (z ∷ zs) s base t = arguments_above zs (put s base z) (base + 1) t

arguments_turns : (zs : List ℤ) (s : State) (base : ℕ) → (with_arguments s base zs).turns ≡ s.turns
arguments_turns [] s base = refl
arguments_turns (z ∷ zs) s base = arguments_turns zs (put s base z) (base + 1)

entered_above : (h : Option Function) (f : Frame) (more : Calls) → CallsExt more → CallsAbove f.calls more → (zs : List ℤ) (k l : NextOf) → ((z : ℤ) → Ext (l z)) → ((z : ℤ) → Above (k z) (l z))
    → Above (entered h f zs k) (entered h (beyond f more) zs l)
entered_above None f m x c zs k l e a s t le = a (pos 0) s t le
entered_above (Some h) f m x c zs k l e a s t le =
    let same : s.turns ≡ (with_arguments s f.base zs).turns = sym (arguments_turns zs s f.base) in
    let body : GoesOn (run_body f h.body k (with_arguments s f.base zs)) (run_body (beyond f m) h.body l (record (with_arguments s f.base zs) { turns = t })) =
    run_above f m x c h.body (record { broke = k (pos 0); continued = k (pos 0); returned = k }) (record { broke = l (pos 0); continued = l (pos 0); returned = l }) (k (pos 0)) (l (pos 0))
    (record { broke = e (pos 0); continued = e (pos 0); returned = e }) (record { broke = a (pos 0); continued = a (pos 0); returned = a }) (e (pos 0)) (a (pos 0))
    (with_arguments s f.base zs) t (omega (arith, same)) in
    subst (λ r. GoesOn (run_body f h.body k (with_arguments s f.base zs)) (run_body (beyond f m) h.body l r)) (sym (arguments_above zs s f.base t)) body

calls_above : (p : Program) (n d e : ℕ) → d ≤ e → CallsAbove (call p n d) (call p n e)
calls_above p n zero e de g zs k l lx a s t le = stops_above (call p n e g zs l) (calls_ext p n e g zs l lx) s t
calls_above p n (suc d) zero de g zs k l lx a s t le = absurd (omega arith)
calls_above p n (suc d) (suc e) de g zs k l lx a s t le =
    entered_above (slice_get p.functions g) (record { bits = n; calls = call p n d; base = base_of p g }) (call p n e) (calls_ext p n e) (calls_above p n d e (omega arith)) zs k l lx a s t le

-- of two bounds the greater one's run goes on from the other's
pub longer_turns : (p : Program) (n : ℕ) (input : List ℤ) (m j : ℕ) → m ≤ j → GoesOn (outcome p n input m) (outcome p n input j)
longer_turns p n input m j le =
    let ended : Next = stopped stops.Ended in
    run_above (record { bits = n; calls = call p n m; base = main_base p }) (call p n j) (calls_ext p n j) (calls_above p n m j le) (main_body p.main)
    (record { broke = ended; continued = ended; returned = λ z. ended }) (record { broke = ended; continued = ended; returned = λ z. ended }) ended ended
    (record { broke = stopped_ext stops.Ended; continued = stopped_ext stops.Ended; returned = λ z. stopped_ext stops.Ended })
    (record { broke = stopped_above stops.Ended; continued = stopped_above stops.Ended; returned = λ z. stopped_above stops.Ended })
    (stopped_ext stops.Ended) (stopped_above stops.Ended) (beginning p input m) j le
