-- Each step of the machine keeps what the rest of the run gives.
use Rattle.std.proofs.Common.{◌≡◌, refl, sym, subst, ℕ, zero, suc, ℤ, pos, Bool, true, false, ◌&&◌, List, [], ◌∷◌, Option, Some, None}
use Rattle.std.specs.Prelude.{int_le, int_lt, slice_get}
use Rattle.nk_outside.specs.Outcome.{Outcome}
use Rattle.nk_outside.specs.declared.stop.Stop.TheVariants as stops
use Rattle.c_tree.specs.Program.{Term, Terms, Command, Function, Program}
use Rattle.c_tree.specs.Program as program
use Rattle.c_tree.specs.Meaning.{State, Next, NextOf, stopped, paid, take_next, either, is_true, entered, base_of, outcome}
use Rattle.c_frames.specs.Frames.{Where, Loop, While, Do, For, Frame, Element, AndRight, OrRight, Passed, Calling, StoreIndex, ChangeIndex, Choose, Tested, Behind, Looping, Work, Eval, Arguments, Give, Pass, Run, Again, On, Leave, Onward, Back, frame_at, give, pass, rest}
use Rattle.c_frames.specs.Steps.{Config, Move, Goes, Stops, either_move, paying, taking, enter, step_call, step_eval, step_arguments, step_give, step_pass, step_run, step_again, step_on, step_leave, step_onward, step_back, step_of, step, rest_of, moved_on, follow, Follows, begin}

module _ (p : Program) (n : ℕ) where
  abbrev Keeps : Outcome → Move p n → Type 0
  Keeps o m = Follows p n o m

  pay_keeps : (t : ℕ) (s : State) (next : Next) (go : State → Move p n) → ((s : State) → Keeps (next s) (go s)) → Keeps (paid t next s) (paying p n t s go)
  pay_keeps zero s next go h = refl
  pay_keeps (suc t) s next go h = h (record s { turns = t })

  take_keeps : (zs : List ℤ) (s : State) (next : NextOf) (go : ℤ → State → Move p n) → ((z : ℤ) (s : State) → Keeps (next z s) (go z s)) → Keeps (take_next zs next s) (taking p n zs s go)
  take_keeps [] s next go h = refl
  take_keeps (z ∷ zs) s next go h = h z (record s { input = zs })

  either_keeps : (b : Bool) (k l : Next) (s : State) (m o : Move p n) → Keeps (k s) m → Keeps (l s) o → Keeps (either b k l s) (either_move p n b m o)
  either_keeps true k l s m o h i = h
  either_keeps false k l s m o h i = i

  eval_keeps : (e : Term) (w : Where) (k : List Frame) (s : State) → Keeps (rest p n (Eval e) w k s) (step_eval p n e w k s)
  eval_keeps (program.Number z) w k s = refl
  eval_keeps (program.Scalar q) w k s = refl
  eval_keeps (program.Element q m i) w k s = refl
  eval_keeps program.Input w k s = take_keeps s.input s _ _ (λ z s. refl)
  eval_keeps (program.Call g xs) w k s = refl
  eval_keeps (program.Unary op x) w k s = refl
  eval_keeps (program.Shifted op x by) w k s = refl
  eval_keeps (program.Arithmetic op x y) w k s = refl
  eval_keeps (program.Compare r x y) w k s = refl
  eval_keeps (program.Not x) w k s = refl
  eval_keeps (program.AndAlso x y) w k s = refl
  eval_keeps (program.OrElse x y) w k s = refl

  arguments_keep : (xs : Terms) (w : Where) (k : List Frame) (s : State) → Keeps (rest p n (Arguments xs) w k s) (step_arguments p n xs w k s)
  arguments_keep program.NoMore w k s = refl
  arguments_keep (program.More x xs) w k s = refl

  give_keeps : (k : List Frame) (z : ℤ) (w : Where) (s : State) → Keeps (give p n w k z s) (step_give p n k z w s)
  give_keeps [] z w s = refl
  give_keeps (Element q m ∷ k) z w s = either_keeps (int_le (pos 0) z && int_lt z (pos m)) _ (stopped (stops.Trap 1)) s _ (Stops (stops.Trap 1) s) refl refl
  give_keeps (AndRight y ∷ k) z w s = either_keeps (is_true z) _ _ s _ _ refl refl
  give_keeps (OrRight y ∷ k) z w s = either_keeps (is_true z) _ _ s _ _ refl refl
  give_keeps (StoreIndex q m e ∷ k) z w s = either_keeps (int_le (pos 0) z && int_lt z (pos m)) _ (stopped (stops.Trap 1)) s _ (Stops (stops.Trap 1) s) refl refl
  give_keeps (ChangeIndex q m op e ∷ k) z w s = either_keeps (int_le (pos 0) z && int_lt z (pos m)) _ (stopped (stops.Trap 1)) s _ (Stops (stops.Trap 1) s) refl refl
  give_keeps (Choose x y ∷ k) z w s = either_keeps (is_true z) _ _ s _ _ refl refl
  give_keeps (Tested (While e x) b ∷ k) z w s = either_keeps (is_true z) _ _ s _ _ refl refl
  give_keeps (Tested (Do x e) b ∷ k) z w s = either_keeps (is_true z) _ _ s _ _ refl refl
  give_keeps (Tested (For c st x) b ∷ k) z w s = either_keeps (is_true z) _ _ s _ _ refl refl
  give_keeps (fr ∷ k) z w s = refl

  enter_keeps : (o : Option Function) (g depth : ℕ) (zs : List ℤ) (w : Where) (k : List Frame) (s : State) → Keeps (entered o (frame_at p n (record { base = base_of p g; depth = depth })) zs (give p n w k) s) (enter p n o g depth zs w k s)
  enter_keeps None g depth zs w k s = refl
  enter_keeps (Some f) g depth zs w k s = refl

  call_keeps : (depth g : ℕ) (zs : List ℤ) (base : ℕ) (k : List Frame) (s : State) → Keeps (rest p n (Pass zs) (record { base = base; depth = depth }) (Calling g ∷ k) s) (step_call p n depth g zs (record { base = base; depth = depth }) k s)
  call_keeps zero g zs base k s = refl
  call_keeps (suc depth) g zs base k s = enter_keeps (slice_get p.functions g) g depth zs (record { base = base; depth = suc depth }) k s

  pass_keeps : (k : List Frame) (zs : List ℤ) (w : Where) (s : State) → Keeps (pass p n w k zs s) (step_pass p n k zs w s)
  pass_keeps [] zs w s = refl
  pass_keeps (Passed z ∷ k) zs w s = refl
  pass_keeps (Calling g ∷ k) zs w s = call_keeps w.depth g zs w.base k s
  pass_keeps (fr ∷ k) zs w s = refl

  run_keeps : (x : Command) (w : Where) (k : List Frame) (s : State) → Keeps (rest p n (Run x) w k s) (step_run p n x w k s)
  run_keeps program.Skip w k s = refl
  run_keeps (program.Seq x y) w k s = refl
  run_keeps (program.Turn x) w k s = pay_keeps s.turns s _ _ (λ s. refl)
  run_keeps (program.Set q e) w k s = refl
  run_keeps (program.Store q m i e) w k s = refl
  run_keeps (program.Change q m i op e) w k s = refl
  run_keeps (program.Print e) w k s = refl
  run_keeps program.Take w k s = take_keeps s.input s _ _ (λ z s. refl)
  run_keeps (program.Invoke g xs) w k s = refl
  run_keeps (program.If e x) w k s = refl
  run_keeps (program.IfElse e x y) w k s = refl
  run_keeps (program.While e x) w k s = refl
  run_keeps (program.Do x e) w k s = refl
  run_keeps (program.For c st x) w k s = refl
  run_keeps program.Break w k s = refl
  run_keeps program.Continue w k s = refl
  run_keeps (program.Return None) w k s = refl
  run_keeps (program.Return (Some e)) w k s = refl

  again_keeps : (l : Loop) (b : ℕ) (w : Where) (k : List Frame) (s : State) → Keeps (rest p n (Again l b) w k s) (step_again p n l b w k s)
  again_keeps l zero w k s = refl
  again_keeps (While e x) (suc b) w k s = pay_keeps s.turns s _ _ (λ s. refl)
  again_keeps (Do x e) (suc b) w k s = pay_keeps s.turns s _ _ (λ s. refl)
  again_keeps (For None st x) (suc b) w k s = pay_keeps s.turns s _ _ (λ s. refl)
  again_keeps (For (Some e) st x) (suc b) w k s = pay_keeps s.turns s _ _ (λ s. refl)

  on_keeps : (k : List Frame) (w : Where) (s : State) → Keeps (rest p n On w k s) (step_on p n k w s)
  on_keeps [] w s = refl
  on_keeps (Behind y ∷ k) w s = refl
  on_keeps (Looping (While e x) b ∷ k) w s = refl
  on_keeps (Looping (Do x e) b ∷ k) w s = refl
  on_keeps (Looping (For c st x) b ∷ k) w s = refl
  on_keeps (fr ∷ k) w s = refl

  leave_keeps : (k : List Frame) (w : Where) (s : State) → Keeps (rest p n Leave w k s) (step_leave p n k w s)
  leave_keeps [] w s = refl
  leave_keeps (Behind y ∷ k) w s = refl
  leave_keeps (fr ∷ k) w s = refl

  onward_keeps : (k : List Frame) (w : Where) (s : State) → Keeps (rest p n Onward w k s) (step_onward p n k w s)
  onward_keeps [] w s = refl
  onward_keeps (Looping (While e x) b ∷ k) w s = refl
  onward_keeps (Looping (Do x e) b ∷ k) w s = refl
  onward_keeps (Looping (For c st x) b ∷ k) w s = refl
  onward_keeps (fr ∷ k) w s = refl

  back_keeps : (k : List Frame) (z : ℤ) (w : Where) (s : State) → Keeps (rest p n (Back z) w k s) (step_back p n k z w s)
  back_keeps [] z w s = refl
  back_keeps (Behind y ∷ k) z w s = refl
  back_keeps (fr ∷ k) z w s = refl

  pub keeps : (x : Work p n) (w : Where) (k : List Frame) (s : State) → Keeps (rest p n x w k s) (step_of p n x w k s)
  keeps (Eval e) w k s = eval_keeps e w k s
  keeps (Arguments xs) w k s = arguments_keep xs w k s
  keeps (Give z) w k s = give_keeps k z w s
  keeps (Pass zs) w k s = pass_keeps k zs w s
  keeps (Run x) w k s = run_keeps x w k s
  keeps (Again l b) w k s = again_keeps l b w k s
  keeps On w k s = on_keeps k w s
  keeps Leave w k s = leave_keeps k w s
  keeps Onward w k s = onward_keeps k w s
  keeps (Back z) w k s = back_keeps k z w s

  moved_on_keeps : (o : Outcome) (go : Config p n → Move p n) → ((c : Config p n) → o ≡ rest_of p n c → Keeps o (go c)) → (t : Move p n) → Keeps o t → Keeps o (moved_on p n go t)
  moved_on_keeps o go h (Goes c) is = h c is
  moved_on_keeps o go h (Stops stop s) is = is

  pub follows : (m : ℕ) (o : Outcome) (c : Config p n) → o ≡ rest_of p n c → Keeps o (follow p n m c)
  follows zero o c is = is
  follows (suc m) o c is = moved_on_keeps o (follow p n m) (follows m o) (step p n c) (subst (λ x. Keeps x (step p n c)) (sym is) (keeps c.work c.place c.frames c.state))

  pub from_begin : (input : List ℤ) (turns steps : ℕ) → Keeps (outcome p n input turns) (follow p n steps (begin p n input turns))
  from_begin input turns steps = follows steps (outcome p n input turns) (begin p n input turns) refl
