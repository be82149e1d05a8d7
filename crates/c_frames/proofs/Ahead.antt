-- A step does the same whatever was put out before.
use Rattle.std.proofs.Common.{◌≡◌, refl, sym, ap, ◌∙◌, subst, ℕ, zero, suc, ◌+◌, ◌<◌, ◌≤◌, arith, ℤ, Bool, true, false, List, [], ◌∷◌, append_assoc, Option, Some, None}
use Rattle.std.specs.Prelude.{slice_get}
use Rattle.c_tree.specs.Program.{Term, Terms, Command, Function, Program}
use Rattle.c_tree.specs.Program as program
use Rattle.c_tree.specs.Meaning.{State, put, with_arguments, base_of}
use Rattle.c_frames.specs.Frames.{Where, Loop, While, Do, For, Frame, Element, AndRight, OrRight, Passed, Called, Calling, StoreIndex, ChangeIndex, Show, Choose, Tested, Behind, Looping, Work, Eval, Arguments, Give, Pass, Run, Again, On, Leave, Onward, Back}
use Rattle.c_frames.specs.Steps.{Config, Move, Goes, Stops, either_move, paying, taking, enter, step_call, step_eval, step_arguments, step_give, step_pass, step_run, step_again, step_on, step_leave, step_onward, step_back, step_of, step, moved_on, follow, HasStopped, ahead, ahead_config, ahead_move, counted, steps_left}

module _ (p : Program) (n : ℕ) where
  pay_ahead : (a : List ℤ) (t : ℕ) (s : State) (go : State → Move p n) → ((r : State) → go (ahead p n a r) ≡ ahead_move p n a (go r)) → paying p n t (ahead p n a s) go ≡ ahead_move p n a (paying p n t s go)
  pay_ahead a zero s go h = refl
  pay_ahead a (suc t) s go h = h (record s { turns = t })

  take_ahead : (a : List ℤ) (zs : List ℤ) (s : State) (go : ℤ → State → Move p n) → ((z : ℤ) (r : State) → go z (ahead p n a r) ≡ ahead_move p n a (go z r)) → taking p n zs (ahead p n a s) go ≡ ahead_move p n a (taking p n zs s go)
  take_ahead a [] s go h = refl
  take_ahead a (z ∷ zs) s go h = h z (record s { input = zs })

  either_ahead : (a : List ℤ) (b : Bool) (x y : Move p n) → either_move p n b (ahead_move p n a x) (ahead_move p n a y) ≡ ahead_move p n a (either_move p n b x y)
  either_ahead a true x y = refl
  either_ahead a false x y = refl

  arguments_ahead : (a zs : List ℤ) (k : ℕ) (s : State) → with_arguments (ahead p n a s) k zs ≡ ahead p n a (with_arguments s k zs)
  arguments_ahead a [] k s = refl
  arguments_ahead a (z ∷ zs) k s = arguments_ahead a zs (k + 1) (put s k z)

  eval_ahead : (e : Term) (w : Where) (k : List Frame) (a : List ℤ) (s : State) → step_eval p n e w k (ahead p n a s) ≡ ahead_move p n a (step_eval p n e w k s)
  eval_ahead program.Input w k a s = take_ahead a s.input s _ (λ z r. refl)
  eval_ahead (program.Number z) w k a s = refl
  eval_ahead (program.Scalar q) w k a s = refl
  eval_ahead (program.Element q m i) w k a s = refl
  eval_ahead (program.Call g xs) w k a s = refl
  eval_ahead (program.Unary op x) w k a s = refl
  eval_ahead (program.Shifted op x by) w k a s = refl
  eval_ahead (program.Arithmetic op x y) w k a s = refl
  eval_ahead (program.Compare r x y) w k a s = refl
  eval_ahead (program.Not x) w k a s = refl
  eval_ahead (program.AndAlso x y) w k a s = refl
  eval_ahead (program.OrElse x y) w k a s = refl

  command_arguments : (xs : Terms) (w : Where) (k : List Frame) (a : List ℤ) (s : State) → step_arguments p n xs w k (ahead p n a s) ≡ ahead_move p n a (step_arguments p n xs w k s)
  command_arguments program.NoMore w k a s = refl
  command_arguments (program.More x xs) w k a s = refl

  give_ahead : (k : List Frame) (z : ℤ) (w : Where) (a : List ℤ) (s : State) → step_give p n k z w (ahead p n a s) ≡ ahead_move p n a (step_give p n k z w s)
  give_ahead [] z w a s = refl
  give_ahead (Element q m ∷ k) z w a s = either_ahead a _ _ _
  give_ahead (AndRight y ∷ k) z w a s = either_ahead a _ _ _
  give_ahead (OrRight y ∷ k) z w a s = either_ahead a _ _ _
  give_ahead (StoreIndex q m e ∷ k) z w a s = either_ahead a _ _ _
  give_ahead (ChangeIndex q m op e ∷ k) z w a s = either_ahead a _ _ _
  give_ahead (Show ∷ k) z w a s = ap (λ o. Goes (record { work = On; place = w; frames = k; state = record s { out = o } })) (append_assoc a s.out (z ∷ []))
  give_ahead (Choose x y ∷ k) z w a s = either_ahead a _ _ _
  give_ahead (Tested (While e x) b ∷ k) z w a s = either_ahead a _ _ _
  give_ahead (Tested (Do x e) b ∷ k) z w a s = either_ahead a _ _ _
  give_ahead (Tested (For c st x) b ∷ k) z w a s = either_ahead a _ _ _
  give_ahead (fr ∷ k) z w a s = refl

  enter_ahead : (o : Option Function) (g depth : ℕ) (zs : List ℤ) (w : Where) (k : List Frame) (a : List ℤ) (s : State) → enter p n o g depth zs w k (ahead p n a s) ≡ ahead_move p n a (enter p n o g depth zs w k s)
  enter_ahead None g depth zs w k a s = refl
  enter_ahead (Some f) g depth zs w k a s = ap (λ t. Goes (record { work = Run f.body; place = record { base = base_of p g; depth = depth }; frames = Called w ∷ k; state = t })) (arguments_ahead a zs (base_of p g) s)

  call_ahead : (depth g : ℕ) (zs : List ℤ) (w : Where) (k : List Frame) (a : List ℤ) (s : State) → step_call p n depth g zs w k (ahead p n a s) ≡ ahead_move p n a (step_call p n depth g zs w k s)
  call_ahead zero g zs w k a s = refl
  call_ahead (suc depth) g zs w k a s = enter_ahead (slice_get p.functions g) g depth zs w k a s

  pass_ahead : (k : List Frame) (zs : List ℤ) (w : Where) (a : List ℤ) (s : State) → step_pass p n k zs w (ahead p n a s) ≡ ahead_move p n a (step_pass p n k zs w s)
  pass_ahead [] zs w a s = refl
  pass_ahead (Passed z ∷ k) zs w a s = refl
  pass_ahead (Calling g ∷ k) zs w a s = call_ahead w.depth g zs w k a s
  pass_ahead (fr ∷ k) zs w a s = refl

  run_ahead : (x : Command) (w : Where) (k : List Frame) (a : List ℤ) (s : State) → step_run p n x w k (ahead p n a s) ≡ ahead_move p n a (step_run p n x w k s)
  run_ahead (program.Turn x) w k a s = pay_ahead a s.turns s _ (λ r. refl)
  run_ahead program.Take w k a s = take_ahead a s.input s _ (λ z r. refl)
  run_ahead program.Skip w k a s = refl
  run_ahead (program.Seq x y) w k a s = refl
  run_ahead (program.Set q e) w k a s = refl
  run_ahead (program.Store q m i e) w k a s = refl
  run_ahead (program.Change q m i op e) w k a s = refl
  run_ahead (program.Print e) w k a s = refl
  run_ahead (program.Invoke g xs) w k a s = refl
  run_ahead (program.If e x) w k a s = refl
  run_ahead (program.IfElse e x y) w k a s = refl
  run_ahead (program.While e x) w k a s = refl
  run_ahead (program.Do x e) w k a s = refl
  run_ahead (program.For c st x) w k a s = refl
  run_ahead program.Break w k a s = refl
  run_ahead program.Continue w k a s = refl
  run_ahead (program.Return None) w k a s = refl
  run_ahead (program.Return (Some e)) w k a s = refl

  again_ahead : (l : Loop) (b : ℕ) (w : Where) (k : List Frame) (a : List ℤ) (s : State) → step_again p n l b w k (ahead p n a s) ≡ ahead_move p n a (step_again p n l b w k s)
  again_ahead l zero w k a s = refl
  again_ahead (While e x) (suc b) w k a s = pay_ahead a s.turns s _ (λ r. refl)
  again_ahead (Do x e) (suc b) w k a s = pay_ahead a s.turns s _ (λ r. refl)
  again_ahead (For None st x) (suc b) w k a s = pay_ahead a s.turns s _ (λ r. refl)
  again_ahead (For (Some e) st x) (suc b) w k a s = pay_ahead a s.turns s _ (λ r. refl)

  on_ahead : (k : List Frame) (w : Where) (a : List ℤ) (s : State) → step_on p n k w (ahead p n a s) ≡ ahead_move p n a (step_on p n k w s)
  on_ahead [] w a s = refl
  on_ahead (Looping (While e x) b ∷ k) w a s = refl
  on_ahead (Looping (Do x e) b ∷ k) w a s = refl
  on_ahead (Looping (For c st x) b ∷ k) w a s = refl
  on_ahead (fr ∷ k) w a s = refl

  leave_ahead : (k : List Frame) (w : Where) (a : List ℤ) (s : State) → step_leave p n k w (ahead p n a s) ≡ ahead_move p n a (step_leave p n k w s)
  leave_ahead [] w a s = refl
  leave_ahead (Behind y ∷ k) w a s = refl
  leave_ahead (fr ∷ k) w a s = refl

  onward_ahead : (k : List Frame) (w : Where) (a : List ℤ) (s : State) → step_onward p n k w (ahead p n a s) ≡ ahead_move p n a (step_onward p n k w s)
  onward_ahead [] w a s = refl
  onward_ahead (Looping (While e x) b ∷ k) w a s = refl
  onward_ahead (Looping (Do x e) b ∷ k) w a s = refl
  onward_ahead (Looping (For c st x) b ∷ k) w a s = refl
  onward_ahead (fr ∷ k) w a s = refl

  back_ahead : (k : List Frame) (z : ℤ) (w : Where) (a : List ℤ) (s : State) → step_back p n k z w (ahead p n a s) ≡ ahead_move p n a (step_back p n k z w s)
  back_ahead [] z w a s = refl
  back_ahead (Behind y ∷ k) z w a s = refl
  back_ahead (fr ∷ k) z w a s = refl

  work_ahead : (x : Work p n) (w : Where) (k : List Frame) (a : List ℤ) (s : State) → step_of p n x w k (ahead p n a s) ≡ ahead_move p n a (step_of p n x w k s)
  work_ahead (Eval e) w k a s = eval_ahead e w k a s
  work_ahead (Arguments xs) w k a s = command_arguments xs w k a s
  work_ahead (Give z) w k a s = give_ahead k z w a s
  work_ahead (Pass zs) w k a s = pass_ahead k zs w a s
  work_ahead (Run x) w k a s = run_ahead x w k a s
  work_ahead (Again l b) w k a s = again_ahead l b w k a s
  work_ahead On w k a s = on_ahead k w a s
  work_ahead Leave w k a s = leave_ahead k w a s
  work_ahead Onward w k a s = onward_ahead k w a s
  work_ahead (Back z) w k a s = back_ahead k z w a s

  pub step_ahead : (a : List ℤ) (c : Config p n) → step p n (ahead_config p n a c) ≡ ahead_move p n a (step p n c)
  step_ahead a c = work_ahead c.work c.place c.frames a c.state

  -- ---- how many steps are left

  stopped_ahead : (a : List ℤ) (m : Move p n) → HasStopped p n m → HasStopped p n (ahead_move p n a m)
  stopped_ahead a (Goes c) h = h
  stopped_ahead a (Stops stop s) h = h

  moved_ahead : (f : Config p n → Move p n) → ((a : List ℤ) (c : Config p n) → f (ahead_config p n a c) ≡ ahead_move p n a (f c)) → (a : List ℤ) (t : Move p n) → moved_on p n f (ahead_move p n a t) ≡ ahead_move p n a (moved_on p n f t)
  moved_ahead f h a (Goes c) = h a c
  moved_ahead f h a (Stops stop s) = refl

  pub follow_ahead : (m : ℕ) (a : List ℤ) (c : Config p n) → follow p n m (ahead_config p n a c) ≡ ahead_move p n a (follow p n m c)
  follow_ahead zero a c = refl
  follow_ahead (suc m) a c = ap (moved_on p n (follow p n m)) (step_ahead a c) ∙ moved_ahead (follow p n m) (follow_ahead m) a (step p n c)

  pub stops_ahead : (m : ℕ) (a : List ℤ) (c : Config p n) → HasStopped p n (follow p n m c) → HasStopped p n (follow p n m (ahead_config p n a c))
  stops_ahead m a c h = subst (HasStopped p n) (sym (follow_ahead m a c)) (stopped_ahead a (follow p n m c) h)

  stopped_behind : (a : List ℤ) (m : Move p n) → HasStopped p n (ahead_move p n a m) → HasStopped p n m
  stopped_behind a (Goes c) h = h
  stopped_behind a (Stops stop s) h = h

  pub stops_behind : (m : ℕ) (a : List ℤ) (c : Config p n) → HasStopped p n (follow p n m (ahead_config p n a c)) → HasStopped p n (follow p n m c)
  stops_behind m a c h = stopped_behind a (follow p n m c) (subst (HasStopped p n) (follow_ahead m a c) h)

  counted_ahead : (f : Config p n → ℕ) → ((a : List ℤ) (c : Config p n) → f (ahead_config p n a c) ≡ f c) → (a : List ℤ) (t : Move p n) → counted p n f (ahead_move p n a t) ≡ counted p n f t
  counted_ahead f h a (Goes c) = ap suc (h a c)
  counted_ahead f h a (Stops stop s) = refl

  pub left_ahead : (m : ℕ) (a : List ℤ) (c : Config p n) → steps_left p n m (ahead_config p n a c) ≡ steps_left p n m c
  left_ahead zero a c = refl
  left_ahead (suc m) a c = ap (counted p n (steps_left p n m)) (step_ahead a c) ∙ counted_ahead (steps_left p n m) (left_ahead m) a (step p n c)

  counted_same : (m j : ℕ) → ((c : Config p n) → HasStopped p n (follow p n m c) → steps_left p n j c ≡ steps_left p n m c) → (t : Move p n) → HasStopped p n (moved_on p n (follow p n m) t) → counted p n (steps_left p n j) t ≡ counted p n (steps_left p n m) t
  counted_same m j h (Goes c) stops = ap suc (h c stops)
  counted_same m j h (Stops stop s) stops = refl

  left_same : (m j : ℕ) (c : Config p n) → HasStopped p n (follow p n m c) → m ≤ j → steps_left p n j c ≡ steps_left p n m c
  left_same zero j c h le = absurd h
  left_same (suc m) zero c h le = absurd (omega (arith, le))
  left_same (suc m) (suc j) c h le = counted_same m j (λ d i. left_same m j d i (omega (arith, le))) (step p n c) h

  -- where it goes on, fewer steps are left
  pub record Fewer (most : ℕ) (c d : Config p n) : Type 0 where
    pub fewer : steps_left p n most d < steps_left p n most c
    pub steps : ℕ
    pub within : steps ≤ most
    pub stopped : HasStopped p n (follow p n steps d)

  pub fewer_left : (most m : ℕ) (c d : Config p n) → m ≤ most → HasStopped p n (follow p n m c) → step p n c ≡ Goes d → Fewer most c d
  fewer_left most zero c d le h is = absurd h
  fewer_left zero (suc m) c d le h is = absurd (omega (arith, le))
  fewer_left (suc most) (suc m) c d le h is =
      let on : HasStopped p n (follow p n m d) = subst (λ t. HasStopped p n (moved_on p n (follow p n m) t)) is h in
      let here : steps_left p n (suc most) c ≡ suc (steps_left p n most d) = ap (counted p n (steps_left p n most)) is in
      let one : steps_left p n most d ≡ steps_left p n m d = left_same m most d on (omega (arith, le)) in
      let other : steps_left p n (suc most) d ≡ steps_left p n m d = left_same m (suc most) d on (omega (arith, le)) in
      record { fewer = omega (arith, here, one, other); steps = m; within = omega (arith, le); stopped = on }
