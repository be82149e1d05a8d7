-- The machine stops: by the depth of calls, by what is left of a loop's tests, and by the parts of what is run.
use Rattle.std.proofs.Common.{◌≡◌, refl, sym, subst, ℕ, zero, suc, ℤ, pos, Bool, true, false, List, [], ◌∷◌, Option, Some, None}
use Rattle.std.specs.Prelude.{◌+◌, ◌&&◌, int_le, int_lt, unsigned_abs, slice_get}
use Rattle.nk_outside.specs.declared.stop.Stop.TheVariants as stops
use Rattle.c_tree.specs.declared.meaning.Place.{Place}
use Rattle.c_tree.specs.Program.{Term, Terms, Command, Function, Program}
use Rattle.c_tree.specs.Program as program
use Rattle.c_tree.specs.Meaning.{State, cell, held, is_true, base_of, main_base, main_body, beginning}
use Rattle.c_frames.specs.Frames.{Where, Loop, While, Do, For, Frame, AsTruth, Calling, StoreAt, ChangeAt, Tested, Looping, Stepping, frame_at, Work, Eval, Arguments, Give, Pass, Run, Again, On, Leave, Onward, Back}
use Rattle.c_frames.specs.Steps.{Config, Move, Goes, Stops, either_move, paying, taking, enter, step_test, step_give, step_looped, step, to, moved_on, follow, begin, HasStopped}

module _ (p : Program) (n : ℕ) where
  -- after some number of steps it has stopped
  pub record Halts (c : Config p n) : Type 0 where
    pub steps : ℕ
    pub stopped : HasStopped p n (follow p n steps c)

  abbrev Ends : Move p n → Type 0
  Ends (Goes c) = Halts c
  Ends (Stops stop s) = Unit {0}

  abbrev At : Work p n → Where → List Frame → State → Type 0
  At x w k s = Halts (record { work = x; place = w; frames = k; state = s })

  later_by : (c : Config p n) (t : Move p n) → step p n c ≡ t → Ends t → Halts c
  later_by c (Goes d) is h = record { steps = suc h.steps; stopped = subst (λ t. HasStopped p n (moved_on p n (follow p n h.steps) t)) (sym is) h.stopped }
  later_by c (Stops stop s) is h = record { steps = 1; stopped = subst (λ t. HasStopped p n (moved_on p n (follow p n 0) t)) (sym is) tt }

  later : (x : Work p n) (w : Where) (k : List Frame) (s : State) → Ends (step p n (record { work = x; place = w; frames = k; state = s })) → At x w k s
  later x w k s h = later_by (record { work = x; place = w; frames = k; state = s }) _ refl h

  pay_ends : (t : ℕ) (s : State) (go : State → Move p n) → ((s : State) → Ends (go s)) → Ends (paying p n t s go)
  pay_ends zero s go h = tt
  pay_ends (suc t) s go h = h (record s { turns = t })

  take_ends : (zs : List ℤ) (s : State) (go : ℤ → State → Move p n) → ((z : ℤ) (s : State) → Ends (go z s)) → Ends (taking p n zs s go)
  take_ends [] s go h = tt
  take_ends (z ∷ zs) s go h = h z (record s { input = zs })

  either_ends : (b : Bool) (x y : Move p n) → Ends x → Ends y → Ends (either_move p n b x y)
  either_ends true x y h i = h
  either_ends false x y h i = i

  tested_ends : (m : ℕ) (z : ℤ) (x : Move p n) (s : State) → Ends x → Ends (either_move p n (int_le (pos 0) z && int_lt z (pos m)) x (Stops (stops.Trap 1) s))
  tested_ends m z x s h = either_ends (int_le (pos 0) z && int_lt z (pos m)) x (Stops (stops.Trap 1) s) h tt

  abbrev element : Where → Place → ℤ → ℕ
  element w q z = cell (frame_at p n w) q + unsigned_abs z

  -- a number that is given to these frames ends
  abbrev Given : Where → List Frame → Type 0
  Given w k = (z : ℤ) (s : State) → At (Give z) w k s

  abbrev CallsHalt : Where → Type 0
  CallsHalt w = (g : ℕ) (zs : List ℤ) (k : List Frame) (s : State) → Given w k → At (Pass zs) w (Calling g ∷ k) s

  mutual
    value_halts : (w : Where) → CallsHalt w → (e : Term) (k : List Frame) (s : State) → Given w k → At (Eval e) w k s
    value_halts w c (program.Number z) k s h = later _ w k s (h _ s)
    value_halts w c (program.Scalar q) k s h = later _ w k s (h _ s)
    value_halts w c (program.Element q m i) k s h = later _ w k s (value_halts w c i _ s (λ z s. later _ w _ s (tested_ends m z (to p n (Give (held s (element w q z))) w k s) s (h _ s))))
    value_halts w c program.Input k s h = later _ w k s (take_ends s.input s _ (λ z s. h z s))
    value_halts w c (program.Call g xs) k s h = later _ w k s (values_halt w c xs _ s (λ zs s. c g zs k s h))
    value_halts w c (program.Unary op x) k s h = later _ w k s (value_halts w c x _ s (λ z s. later _ w _ s (h _ s)))
    value_halts w c (program.Shifted op x by) k s h = later _ w k s (value_halts w c x _ s (λ z s. later _ w _ s (h _ s)))
    value_halts w c (program.Arithmetic op x y) k s h =
        later _ w k s (value_halts w c x _ s (λ z s. later _ w _ s (value_halts w c y _ s (λ b s. later _ w _ s (h _ s)))))
    value_halts w c (program.Compare r x y) k s h =
        later _ w k s (value_halts w c x _ s (λ z s. later _ w _ s (value_halts w c y _ s (λ b s. later _ w _ s (h _ s)))))
    value_halts w c (program.Not x) k s h = later _ w k s (value_halts w c x _ s (λ z s. later _ w _ s (h _ s)))
    value_halts w c (program.AndAlso x y) k s h =
        later _ w k s (value_halts w c x _ s (λ z s. later _ w _ s (either_ends (is_true z) (to p n (Eval y) w (AsTruth ∷ k) s) (to p n (Give (pos 0)) w k s) (value_halts w c y (AsTruth ∷ k) s (λ b s. later (Give b) w (AsTruth ∷ k) s (h _ s))) (h (pos 0) s))))
    value_halts w c (program.OrElse x y) k s h =
        later _ w k s (value_halts w c x _ s (λ z s. later _ w _ s (either_ends (is_true z) (to p n (Give (pos 1)) w k s) (to p n (Eval y) w (AsTruth ∷ k) s) (h (pos 1) s) (value_halts w c y (AsTruth ∷ k) s (λ b s. later (Give b) w (AsTruth ∷ k) s (h _ s))))))

    values_halt : (w : Where) → CallsHalt w → (xs : Terms) (k : List Frame) (s : State) → ((zs : List ℤ) (s : State) → At (Pass zs) w k s) → At (Arguments xs) w k s
    values_halt w c program.NoMore k s h = later _ w k s (h [] s)
    values_halt w c (program.More x xs) k s h =
        later _ w k s (value_halts w c x _ s (λ z s. later _ w _ s (values_halt w c xs _ s (λ zs s. later _ w _ s (h (z ∷ zs) s)))))

  -- whatever a statement comes to that stands before these frames
  record Ways (w : Where) (k : List Frame) : Type 0 where
    on : (s : State) → At On w k s
    leave : (s : State) → At Leave w k s
    onward : (s : State) → At Onward w k s
    back : (z : ℤ) (s : State) → At (Back z) w k s

  abbrev RunHalts : Where → Command → Type 0
  RunHalts w x = (k : List Frame) (s : State) → Ways w k → At (Run x) w k s

  -- a loop, by how many tests are left
  module _ (w : Where) (l : Loop) (x : Command)
      (test_ends : (b : ℕ) (k : List Frame) (s : State) → Given w (Tested l b ∷ k) → Ends (step_test p n l b w k s))
      (give_ends : (b : ℕ) (k : List Frame) (z : ℤ) (s : State) → At (Run x) w (Looping l b ∷ k) s → At On w k s → Ends (step_give p n (Tested l b ∷ k) z w s))
      (looped_ends : (b : ℕ) (k : List Frame) (s : State) → Ways w k → ((s : State) → At (Again l b) w k s) → Ends (step_looped p n l b w k s))
      (body : RunHalts w x) where
    again_halts : (b : ℕ) (k : List Frame) (s : State) → Ways w k → At (Again l b) w k s
    again_halts zero k s h = later _ w k s tt
    again_halts (suc b) k s h =
        later _ w k s (pay_ends s.turns s _ (λ s. test_ends b k s (λ z s. later _ w _ s (give_ends b k z s (body _ s (record {
          on = λ s. later _ w _ s (looped_ends b k s h (λ s. again_halts b k s h));
          leave = λ s. later _ w _ s (h.on s);
          onward = λ s. later _ w _ s (looped_ends b k s h (λ s. again_halts b k s h));
          back = λ z s. later _ w _ s (h.back z s);
        })) (h.on s)))))

  while_again : (w : Where) → CallsHalt w → (e : Term) (x : Command) → RunHalts w x → (b : ℕ) (k : List Frame) (s : State) → Ways w k → At (Again (While e x) b) w k s
  while_again w c e x body b k s h = again_halts w (While e x) x (λ b k s g. value_halts w c e _ s g) (λ b k z s i j. either_ends (is_true z) (to p n (Run x) w (Looping (While e x) b ∷ k) s) (to p n On w k s) i j) (λ b k s h i. i s) body b k s h

  do_again : (w : Where) → CallsHalt w → (e : Term) (x : Command) → RunHalts w x → (b : ℕ) (k : List Frame) (s : State) → Ways w k → At (Again (Do x e) b) w k s
  do_again w c e x body b k s h = again_halts w (Do x e) x (λ b k s g. value_halts w c e _ s g) (λ b k z s i j. either_ends (is_true z) (to p n (Run x) w (Looping (Do x e) b ∷ k) s) (to p n On w k s) i j) (λ b k s h i. i s) body b k s h

  stepped : (w : Where) (e : Option Term) (st x : Command) → RunHalts w st → (b : ℕ) (k : List Frame) (s : State) → Ways w k → ((s : State) → At (Again (For e st x) b) w k s) → At (Run st) w (Stepping (For e st x) b ∷ k) s
  stepped w e st x run b k s h i = run _ s (record {
    on = λ s. later _ w _ s (i s);
    leave = λ s. later _ w _ s (h.leave s);
    onward = λ s. later _ w _ s (h.onward s);
    back = λ z s. later _ w _ s (h.back z s);
  })

  for_again : (w : Where) → CallsHalt w → (e : Option Term) (st x : Command) → RunHalts w st → RunHalts w x → (b : ℕ) (k : List Frame) (s : State) → Ways w k → At (Again (For e st x) b) w k s
  for_again w c None st x run body b k s h = again_halts w (For None st x) x (λ b k s g. g _ s) (λ b k z s i j. either_ends (is_true z) (to p n (Run x) w (Looping (For None st x) b ∷ k) s) (to p n On w k s) i j) (stepped w None st x run) body b k s h
  for_again w c (Some e) st x run body b k s h = again_halts w (For (Some e) st x) x (λ b k s g. value_halts w c e _ s g) (λ b k z s i j. either_ends (is_true z) (to p n (Run x) w (Looping (For (Some e) st x) b ∷ k) s) (to p n On w k s) i j) (stepped w (Some e) st x run) body b k s h

  run_halts : (w : Where) → CallsHalt w → (x : Command) → RunHalts w x
  run_halts w c program.Skip k s h = later _ w k s (h.on s)
  run_halts w c (program.Seq x y) k s h = later _ w k s (run_halts w c x _ s (record {
    on = λ s. later _ w _ s (run_halts w c y k s h);
    leave = λ s. later _ w _ s (h.leave s);
    onward = λ s. later _ w _ s (h.onward s);
    back = λ z s. later _ w _ s (h.back z s);
  }))
  run_halts w c (program.Turn x) k s h = later _ w k s (pay_ends s.turns s _ (λ s. run_halts w c x k s h))
  run_halts w c (program.Set q e) k s h = later _ w k s (value_halts w c e _ s (λ z s. later _ w _ s (h.on _)))
  run_halts w c (program.Store q m i e) k s h =
      later _ w k s (value_halts w c i _ s (λ z s. later _ w _ s (tested_ends m z (to p n (Eval e) w (StoreAt (element w q z) ∷ k) s) s (value_halts w c e _ s (λ z s. later _ w _ s (h.on _))))))
  run_halts w c (program.Change q m i op e) k s h =
      later _ w k s (value_halts w c i _ s (λ z s. later _ w _ s (tested_ends m z (to p n (Eval e) w (ChangeAt (element w q z) op (held s (element w q z)) ∷ k) s) s (value_halts w c e _ s (λ z s. later _ w _ s (h.on _))))))
  run_halts w c (program.Print e) k s h = later _ w k s (value_halts w c e _ s (λ z s. later _ w _ s (h.on _)))
  run_halts w c program.Take k s h = later _ w k s (take_ends s.input s _ (λ z s. h.on s))
  run_halts w c (program.Invoke g xs) k s h = later _ w k s (values_halt w c xs _ s (λ zs s. c g zs _ s (λ z s. later _ w _ s (h.on s))))
  run_halts w c (program.If e x) k s h =
      later _ w k s (value_halts w c e _ s (λ z s. later _ w _ s (either_ends (is_true z) (to p n (Run x) w k s) (to p n (Run program.Skip) w k s) (run_halts w c x k s h) (later _ w k s (h.on s)))))
  run_halts w c (program.IfElse e x y) k s h =
      later _ w k s (value_halts w c e _ s (λ z s. later _ w _ s (either_ends (is_true z) (to p n (Run x) w k s) (to p n (Run y) w k s) (run_halts w c x k s h) (run_halts w c y k s h))))
  run_halts w c (program.While e x) k s h =
      later _ w k s (while_again w c e x (run_halts w c x) (suc s.turns) k s h)
  run_halts w c (program.Do x e) k s h = later _ w k s (run_halts w c x _ s (record {
    on = λ s. later _ w _ s (do_again w c e x (run_halts w c x) (suc s.turns) k s h);
    leave = λ s. later _ w _ s (h.on s);
    onward = λ s. later _ w _ s (do_again w c e x (run_halts w c x) (suc s.turns) k s h);
    back = λ z s. later _ w _ s (h.back z s);
  }))
  run_halts w c (program.For e st x) k s h = later _ w k s (for_again w c e st x (run_halts w c st) (run_halts w c x) (suc s.turns) k s h)
  run_halts w c program.Break k s h = later _ w k s (h.leave s)
  run_halts w c program.Continue k s h = later _ w k s (h.onward s)
  run_halts w c (program.Return None) k s h = later _ w k s (h.back _ s)
  run_halts w c (program.Return (Some e)) k s h = later _ w k s (value_halts w c e _ s (λ z s. later _ w _ s (h.back z s)))

  enter_ends : (depth base : ℕ) → CallsHalt (record { base = base; depth = depth }) → (o : Option Function) (g : ℕ) (zs : List ℤ) (w : Where) (k : List Frame) (s : State) → base_of p g ≡ base → Given w k → Ends (enter p n o g depth zs w k s)
  enter_ends depth base c None g zs w k s is h = h _ s
  enter_ends depth base c (Some f) g zs w k s is h =
      run_halts (record { base = base_of p g; depth = depth }) (subst (λ b. CallsHalt (record { base = b; depth = depth })) (sym is) c) f.body _ _ (record {
        on = λ s. later _ _ _ s (h _ s);
        leave = λ s. later _ _ _ s (h _ s);
        onward = λ s. later _ _ _ s (h _ s);
        back = λ z s. later _ _ _ s (h z s);
      })

  calls_halt : (depth base : ℕ) → CallsHalt (record { base = base; depth = depth })
  calls_halt zero base g zs k s h = later _ _ _ s tt
  calls_halt (suc depth) base g zs k s h = later _ _ _ s (enter_ends depth (base_of p g) (calls_halt depth (base_of p g)) (slice_get p.functions g) g zs _ k s refl h)

  begin_halts : (input : List ℤ) (turns : ℕ) → Halts (begin p n input turns)
  begin_halts input turns =
      run_halts (record { base = main_base p; depth = turns }) (calls_halt turns (main_base p)) (main_body p.main) [] (beginning p input turns) (record {
        on = λ s. later _ _ _ s tt;
        leave = λ s. later _ _ _ s tt;
        onward = λ s. later _ _ _ s tt;
        back = λ z s. later _ _ _ s tt;
      })

  pub from_begin : (input : List ℤ) (turns : ℕ) → (steps : ℕ) × HasStopped p n (follow p n steps (begin p n input turns))
  from_begin input turns = let h = begin_halts input turns in (h.steps, h.stopped)
