-- A step keeps numbers small.
use Rattle.std.proofs.Common.{◌≡◌, refl, subst, ℕ, zero, suc, ℤ, pos, Bool, true, false, List, [], ◌∷◌, Option, Some, None}
use Rattle.std.specs.Prelude.{slice_get, ◌&&◌, int_le, int_lt}
use Rattle.nk_outside.specs.declared.stop.Stop.TheVariants as stops
use Rattle.c_tree.specs.Program.{Term, Terms, Command, Function, Program}
use Rattle.c_tree.specs.Program as program
use Rattle.c_tree.specs.Meaning.{State, is_true}
use Rattle.c_frames.specs.Frames.{Where, Loop, While, Do, For, Frame, Element, Unary, Shifted, ArithmeticRight, ArithmeticLeft, CompareRight, CompareLeft, Negate, AndRight, OrRight, AsTruth, Argument, Passed, Calling, SetTo, StoreIndex, StoreAt, ChangeIndex, ChangeAt, Show, Drop, Choose, Tested, Giving, Behind, Looping, Stepping, Starting, Called, Work, Eval, Arguments, Give, Pass, Run, Again, On, Leave, Onward, Back}
use Rattle.c_frames.specs.Steps.{Config, Move, Goes, Stops, either_move, paying, taking, enter, step_call, step_eval, step_arguments, step_give, step_pass, step_run, step_test, step_again, step_looped, step_on, step_leave, step_onward, step_back, step_of, step}
use Rattle.c_frames.specs.Small.{IsSmallTerm, AreSmallTerms, IsSmallCommand, IsSmallProgram, IsSmallLoop, AreSmallFrames, IsSmallWork, IsSmall}

module _ (p : Program) (n : ℕ) (small : IsSmallProgram p) where
  -- where the machine goes on, numbers are small
  abbrev After : Move p n → Type 0
  After (Goes c) = IsSmall p n c
  After (Stops stop s) = Unit {0}

  pay_small : (t : ℕ) (s : State) (go : State → Move p n) → ((r : State) → After (go r)) → After (paying p n t s go)
  pay_small zero s go h = tt
  pay_small (suc t) s go h = h (record s { turns = t })

  take_small : (zs : List ℤ) (s : State) (go : ℤ → State → Move p n) → ((z : ℤ) (r : State) → After (go z r)) → After (taking p n zs s go)
  take_small [] s go h = tt
  take_small (z ∷ zs) s go h = h z (record s { input = zs })

  either_small : (b : Bool) (x y : Move p n) → After x → After y → After (either_move p n b x y)
  either_small true x y h i = h
  either_small false x y h i = i

  eval_small : (e : Term) (w : Where) (k : List Frame) (s : State) → IsSmallTerm e → AreSmallFrames k → After (step_eval p n e w k s)
  eval_small (program.Number z) w k s h f = record { work = tt; frames = f }
  eval_small (program.Scalar q) w k s h f = record { work = tt; frames = f }
  eval_small (program.Element q m i) w k s h f = record { work = h; frames = (tt, f) }
  eval_small program.Input w k s h f = take_small s.input s _ (λ z r. record { work = tt; frames = f })
  eval_small (program.Call g xs) w k s h f = record { work = h; frames = (tt, f) }
  eval_small (program.Unary op x) w k s h f = record { work = h; frames = (tt, f) }
  eval_small (program.Shifted op x by) w k s h f = record { work = h.0; frames = (h.1, f) }
  eval_small (program.Arithmetic op x y) w k s h f = record { work = h.0; frames = (h.1, f) }
  eval_small (program.Compare r x y) w k s h f = record { work = h.0; frames = (h.1, f) }
  eval_small (program.Not x) w k s h f = record { work = h; frames = (tt, f) }
  eval_small (program.AndAlso x y) w k s h f = record { work = h.0; frames = (h.1, f) }
  eval_small (program.OrElse x y) w k s h f = record { work = h.0; frames = (h.1, f) }

  arguments_small : (xs : Terms) (w : Where) (k : List Frame) (s : State) → AreSmallTerms xs → AreSmallFrames k → After (step_arguments p n xs w k s)
  arguments_small program.NoMore w k s h f = record { work = tt; frames = f }
  arguments_small (program.More x xs) w k s h f = record { work = h.0; frames = (h.1, f) }

  give_small : (k : List Frame) (z : ℤ) (w : Where) (s : State) → AreSmallFrames k → After (step_give p n k z w s)
  give_small [] z w s f = tt
  give_small (Element q m ∷ k) z w s f = either_small (int_le (pos 0) z && int_lt z (pos m)) _ (Stops (stops.Trap 1) s) (record { work = tt; frames = f.1 }) tt
  give_small (Unary op ∷ k) z w s f = record { work = tt; frames = f.1 }
  give_small (Shifted op by ∷ k) z w s f = record { work = tt; frames = f.1 }
  give_small (ArithmeticRight op y ∷ k) z w s f = record { work = f.0; frames = (tt, f.1) }
  give_small (ArithmeticLeft op a ∷ k) z w s f = record { work = tt; frames = f.1 }
  give_small (CompareRight r y ∷ k) z w s f = record { work = f.0; frames = (tt, f.1) }
  give_small (CompareLeft r a ∷ k) z w s f = record { work = tt; frames = f.1 }
  give_small (Negate ∷ k) z w s f = record { work = tt; frames = f.1 }
  give_small (AndRight y ∷ k) z w s f = either_small (is_true z) _ _ (record { work = f.0; frames = (tt, f.1) }) (record { work = tt; frames = f.1 })
  give_small (OrRight y ∷ k) z w s f = either_small (is_true z) _ _ (record { work = tt; frames = f.1 }) (record { work = f.0; frames = (tt, f.1) })
  give_small (AsTruth ∷ k) z w s f = record { work = tt; frames = f.1 }
  give_small (Argument xs ∷ k) z w s f = record { work = f.0; frames = (tt, f.1) }
  give_small (Passed a ∷ k) z w s f = tt
  give_small (Calling g ∷ k) z w s f = tt
  give_small (SetTo q ∷ k) z w s f = record { work = tt; frames = f.1 }
  give_small (StoreIndex q m e ∷ k) z w s f = either_small (int_le (pos 0) z && int_lt z (pos m)) _ (Stops (stops.Trap 1) s) (record { work = f.0; frames = (tt, f.1) }) tt
  give_small (StoreAt c ∷ k) z w s f = record { work = tt; frames = f.1 }
  give_small (ChangeIndex q m op e ∷ k) z w s f = either_small (int_le (pos 0) z && int_lt z (pos m)) _ (Stops (stops.Trap 1) s) (record { work = f.0; frames = (tt, f.1) }) tt
  give_small (ChangeAt c op old ∷ k) z w s f = record { work = tt; frames = f.1 }
  give_small (Show ∷ k) z w s f = record { work = tt; frames = f.1 }
  give_small (Drop ∷ k) z w s f = record { work = tt; frames = f.1 }
  give_small (Choose x y ∷ k) z w s f = either_small (is_true z) _ _ (record { work = f.0.0; frames = f.1 }) (record { work = f.0.1; frames = f.1 })
  give_small (Tested (While e x) b ∷ k) z w s f = either_small (is_true z) _ _ (record { work = f.0.1; frames = f }) (record { work = tt; frames = f.1 })
  give_small (Tested (Do x e) b ∷ k) z w s f = either_small (is_true z) _ _ (record { work = f.0.0; frames = f }) (record { work = tt; frames = f.1 })
  give_small (Tested (For c st x) b ∷ k) z w s f = either_small (is_true z) _ _ (record { work = f.0.2; frames = f }) (record { work = tt; frames = f.1 })
  give_small (Giving ∷ k) z w s f = record { work = tt; frames = f.1 }
  give_small (Behind y ∷ k) z w s f = tt
  give_small (Looping l b ∷ k) z w s f = tt
  give_small (Stepping l b ∷ k) z w s f = tt
  give_small (Starting l ∷ k) z w s f = tt
  give_small (Called v ∷ k) z w s f = tt

  enter_small : (o : Option Function) (g depth : ℕ) (zs : List ℤ) (w : Where) (k : List Frame) (s : State) → slice_get p.functions g ≡ o → AreSmallFrames k → After (enter p n o g depth zs w k s)
  enter_small None g depth zs w k s is f = record { work = tt; frames = f }
  enter_small (Some x) g depth zs w k s is f = record { work = small.functions g x is; frames = (tt, f) }

  call_small : (depth g : ℕ) (zs : List ℤ) (w : Where) (k : List Frame) (s : State) → AreSmallFrames k → After (step_call p n depth g zs w k s)
  call_small zero g zs w k s f = tt
  call_small (suc depth) g zs w k s f = enter_small (slice_get p.functions g) g depth zs w k s refl f

  pass_small : (k : List Frame) (zs : List ℤ) (w : Where) (s : State) → AreSmallFrames k → After (step_pass p n k zs w s)
  pass_small (Passed z ∷ k) zs w s f = record { work = tt; frames = f.1 }
  pass_small (Calling g ∷ k) zs w s f = call_small w.depth g zs w k s f.1
  pass_small [] zs w s f = tt
  pass_small (Element q m ∷ k) zs w s f = tt
  pass_small (Unary op ∷ k) zs w s f = tt
  pass_small (Shifted op by ∷ k) zs w s f = tt
  pass_small (ArithmeticRight op y ∷ k) zs w s f = tt
  pass_small (ArithmeticLeft op a ∷ k) zs w s f = tt
  pass_small (CompareRight r y ∷ k) zs w s f = tt
  pass_small (CompareLeft r a ∷ k) zs w s f = tt
  pass_small (Negate ∷ k) zs w s f = tt
  pass_small (AndRight y ∷ k) zs w s f = tt
  pass_small (OrRight y ∷ k) zs w s f = tt
  pass_small (AsTruth ∷ k) zs w s f = tt
  pass_small (Argument xs ∷ k) zs w s f = tt
  pass_small (SetTo q ∷ k) zs w s f = tt
  pass_small (StoreIndex q m e ∷ k) zs w s f = tt
  pass_small (StoreAt c ∷ k) zs w s f = tt
  pass_small (ChangeIndex q m op e ∷ k) zs w s f = tt
  pass_small (ChangeAt c op old ∷ k) zs w s f = tt
  pass_small (Show ∷ k) zs w s f = tt
  pass_small (Drop ∷ k) zs w s f = tt
  pass_small (Choose x y ∷ k) zs w s f = tt
  pass_small (Tested l b ∷ k) zs w s f = tt
  pass_small (Giving ∷ k) zs w s f = tt
  pass_small (Behind y ∷ k) zs w s f = tt
  pass_small (Looping l b ∷ k) zs w s f = tt
  pass_small (Stepping l b ∷ k) zs w s f = tt
  pass_small (Starting l ∷ k) zs w s f = tt
  pass_small (Called v ∷ k) zs w s f = tt

  run_small : (x : Command) (w : Where) (k : List Frame) (s : State) → IsSmallCommand x → AreSmallFrames k → After (step_run p n x w k s)
  run_small program.Skip w k s h f = record { work = tt; frames = f }
  run_small (program.Seq x y) w k s h f = record { work = h.0; frames = (h.1, f) }
  run_small (program.Turn x) w k s h f = pay_small s.turns s _ (λ r. record { work = h; frames = f })
  run_small (program.Set q e) w k s h f = record { work = h; frames = (tt, f) }
  run_small (program.Store q m i e) w k s h f = record { work = h.0; frames = (h.1, f) }
  run_small (program.Change q m i op e) w k s h f = record { work = h.0; frames = (h.1, f) }
  run_small (program.Print e) w k s h f = record { work = h; frames = (tt, f) }
  run_small program.Take w k s h f = take_small s.input s _ (λ z r. record { work = tt; frames = f })
  run_small (program.Invoke g xs) w k s h f = record { work = h; frames = (tt, (tt, f)) }
  run_small (program.If e x) w k s h f = record { work = h.0; frames = ((h.1, tt), f) }
  run_small (program.IfElse e x y) w k s h f = record { work = h.0; frames = ((h.1, h.2), f) }
  run_small (program.While e x) w k s h f = record { work = h; frames = f }
  run_small (program.Do x e) w k s h f = record { work = h.0; frames = (h, f) }
  run_small (program.For c st x) w k s h f = record { work = h; frames = f }
  run_small program.Break w k s h f = record { work = tt; frames = f }
  run_small program.Continue w k s h f = record { work = tt; frames = f }
  run_small (program.Return None) w k s h f = record { work = tt; frames = f }
  run_small (program.Return (Some e)) w k s h f = record { work = h; frames = (tt, f) }

  test_small : (l : Loop) (b : ℕ) (w : Where) (k : List Frame) (s : State) → IsSmallLoop l → AreSmallFrames k → After (step_test p n l b w k s)
  test_small (While e x) b w k s h f = record { work = h.0; frames = (h, f) }
  test_small (Do x e) b w k s h f = record { work = h.1; frames = (h, f) }
  test_small (For None st x) b w k s h f = record { work = tt; frames = (h, f) }
  test_small (For (Some e) st x) b w k s h f = record { work = h.0; frames = (h, f) }

  again_small : (l : Loop) (b : ℕ) (w : Where) (k : List Frame) (s : State) → IsSmallLoop l → AreSmallFrames k → After (step_again p n l b w k s)
  again_small l zero w k s h f = tt
  again_small l (suc b) w k s h f = pay_small s.turns s _ (λ r. test_small l b w k r h f)

  looped_small : (l : Loop) (b : ℕ) (w : Where) (k : List Frame) (s : State) → IsSmallLoop l → AreSmallFrames k → After (step_looped p n l b w k s)
  looped_small (While e x) b w k s h f = record { work = h; frames = f }
  looped_small (Do x e) b w k s h f = record { work = h; frames = f }
  looped_small (For c st x) b w k s h f = record { work = h.1; frames = (h, f) }

  on_small : (k : List Frame) (w : Where) (s : State) → AreSmallFrames k → After (step_on p n k w s)
  on_small [] w s f = tt
  on_small (Behind y ∷ k) w s f = record { work = f.0; frames = f.1 }
  on_small (Looping l b ∷ k) w s f = looped_small l b w k s f.0 f.1
  on_small (Stepping l b ∷ k) w s f = record { work = f.0; frames = f.1 }
  on_small (Starting l ∷ k) w s f = record { work = f.0; frames = f.1 }
  on_small (Called v ∷ k) w s f = record { work = tt; frames = f.1 }
  on_small (Element q m ∷ k) w s f = tt
  on_small (Unary op ∷ k) w s f = tt
  on_small (Shifted op by ∷ k) w s f = tt
  on_small (ArithmeticRight op y ∷ k) w s f = tt
  on_small (ArithmeticLeft op a ∷ k) w s f = tt
  on_small (CompareRight r y ∷ k) w s f = tt
  on_small (CompareLeft r a ∷ k) w s f = tt
  on_small (Negate ∷ k) w s f = tt
  on_small (AndRight y ∷ k) w s f = tt
  on_small (OrRight y ∷ k) w s f = tt
  on_small (AsTruth ∷ k) w s f = tt
  on_small (Argument xs ∷ k) w s f = tt
  on_small (Passed a ∷ k) w s f = tt
  on_small (Calling g ∷ k) w s f = tt
  on_small (SetTo q ∷ k) w s f = tt
  on_small (StoreIndex q m e ∷ k) w s f = tt
  on_small (StoreAt c ∷ k) w s f = tt
  on_small (ChangeIndex q m op e ∷ k) w s f = tt
  on_small (ChangeAt c op old ∷ k) w s f = tt
  on_small (Show ∷ k) w s f = tt
  on_small (Drop ∷ k) w s f = tt
  on_small (Choose x y ∷ k) w s f = tt
  on_small (Tested l b ∷ k) w s f = tt
  on_small (Giving ∷ k) w s f = tt

  leave_small : (k : List Frame) (w : Where) (s : State) → AreSmallFrames k → After (step_leave p n k w s)
  leave_small [] w s f = tt
  leave_small (Behind y ∷ k) w s f = record { work = tt; frames = f.1 }
  leave_small (Looping l b ∷ k) w s f = record { work = tt; frames = f.1 }
  leave_small (Stepping l b ∷ k) w s f = record { work = tt; frames = f.1 }
  leave_small (Starting l ∷ k) w s f = record { work = tt; frames = f.1 }
  leave_small (Called v ∷ k) w s f = record { work = tt; frames = f.1 }
  leave_small (Element q m ∷ k) w s f = tt
  leave_small (Unary op ∷ k) w s f = tt
  leave_small (Shifted op by ∷ k) w s f = tt
  leave_small (ArithmeticRight op y ∷ k) w s f = tt
  leave_small (ArithmeticLeft op a ∷ k) w s f = tt
  leave_small (CompareRight r y ∷ k) w s f = tt
  leave_small (CompareLeft r a ∷ k) w s f = tt
  leave_small (Negate ∷ k) w s f = tt
  leave_small (AndRight y ∷ k) w s f = tt
  leave_small (OrRight y ∷ k) w s f = tt
  leave_small (AsTruth ∷ k) w s f = tt
  leave_small (Argument xs ∷ k) w s f = tt
  leave_small (Passed a ∷ k) w s f = tt
  leave_small (Calling g ∷ k) w s f = tt
  leave_small (SetTo q ∷ k) w s f = tt
  leave_small (StoreIndex q m e ∷ k) w s f = tt
  leave_small (StoreAt c ∷ k) w s f = tt
  leave_small (ChangeIndex q m op e ∷ k) w s f = tt
  leave_small (ChangeAt c op old ∷ k) w s f = tt
  leave_small (Show ∷ k) w s f = tt
  leave_small (Drop ∷ k) w s f = tt
  leave_small (Choose x y ∷ k) w s f = tt
  leave_small (Tested l b ∷ k) w s f = tt
  leave_small (Giving ∷ k) w s f = tt

  onward_small : (k : List Frame) (w : Where) (s : State) → AreSmallFrames k → After (step_onward p n k w s)
  onward_small [] w s f = tt
  onward_small (Behind y ∷ k) w s f = record { work = tt; frames = f.1 }
  onward_small (Looping l b ∷ k) w s f = looped_small l b w k s f.0 f.1
  onward_small (Stepping l b ∷ k) w s f = record { work = tt; frames = f.1 }
  onward_small (Starting l ∷ k) w s f = record { work = f.0; frames = f.1 }
  onward_small (Called v ∷ k) w s f = record { work = tt; frames = f.1 }
  onward_small (Element q m ∷ k) w s f = tt
  onward_small (Unary op ∷ k) w s f = tt
  onward_small (Shifted op by ∷ k) w s f = tt
  onward_small (ArithmeticRight op y ∷ k) w s f = tt
  onward_small (ArithmeticLeft op a ∷ k) w s f = tt
  onward_small (CompareRight r y ∷ k) w s f = tt
  onward_small (CompareLeft r a ∷ k) w s f = tt
  onward_small (Negate ∷ k) w s f = tt
  onward_small (AndRight y ∷ k) w s f = tt
  onward_small (OrRight y ∷ k) w s f = tt
  onward_small (AsTruth ∷ k) w s f = tt
  onward_small (Argument xs ∷ k) w s f = tt
  onward_small (Passed a ∷ k) w s f = tt
  onward_small (Calling g ∷ k) w s f = tt
  onward_small (SetTo q ∷ k) w s f = tt
  onward_small (StoreIndex q m e ∷ k) w s f = tt
  onward_small (StoreAt c ∷ k) w s f = tt
  onward_small (ChangeIndex q m op e ∷ k) w s f = tt
  onward_small (ChangeAt c op old ∷ k) w s f = tt
  onward_small (Show ∷ k) w s f = tt
  onward_small (Drop ∷ k) w s f = tt
  onward_small (Choose x y ∷ k) w s f = tt
  onward_small (Tested l b ∷ k) w s f = tt
  onward_small (Giving ∷ k) w s f = tt

  back_small : (k : List Frame) (z : ℤ) (w : Where) (s : State) → AreSmallFrames k → After (step_back p n k z w s)
  back_small [] z w s f = tt
  back_small (Behind y ∷ k) z w s f = record { work = tt; frames = f.1 }
  back_small (Looping l b ∷ k) z w s f = record { work = tt; frames = f.1 }
  back_small (Stepping l b ∷ k) z w s f = record { work = tt; frames = f.1 }
  back_small (Starting l ∷ k) z w s f = record { work = tt; frames = f.1 }
  back_small (Called v ∷ k) z w s f = record { work = tt; frames = f.1 }
  back_small (Element q m ∷ k) z w s f = tt
  back_small (Unary op ∷ k) z w s f = tt
  back_small (Shifted op by ∷ k) z w s f = tt
  back_small (ArithmeticRight op y ∷ k) z w s f = tt
  back_small (ArithmeticLeft op a ∷ k) z w s f = tt
  back_small (CompareRight r y ∷ k) z w s f = tt
  back_small (CompareLeft r a ∷ k) z w s f = tt
  back_small (Negate ∷ k) z w s f = tt
  back_small (AndRight y ∷ k) z w s f = tt
  back_small (OrRight y ∷ k) z w s f = tt
  back_small (AsTruth ∷ k) z w s f = tt
  back_small (Argument xs ∷ k) z w s f = tt
  back_small (Passed a ∷ k) z w s f = tt
  back_small (Calling g ∷ k) z w s f = tt
  back_small (SetTo q ∷ k) z w s f = tt
  back_small (StoreIndex q m e ∷ k) z w s f = tt
  back_small (StoreAt c ∷ k) z w s f = tt
  back_small (ChangeIndex q m op e ∷ k) z w s f = tt
  back_small (ChangeAt c op old ∷ k) z w s f = tt
  back_small (Show ∷ k) z w s f = tt
  back_small (Drop ∷ k) z w s f = tt
  back_small (Choose x y ∷ k) z w s f = tt
  back_small (Tested l b ∷ k) z w s f = tt
  back_small (Giving ∷ k) z w s f = tt

  of_small : (x : Work p n) (w : Where) (k : List Frame) (s : State) → IsSmallWork p n x → AreSmallFrames k → After (step_of p n x w k s)
  of_small (Eval e) w k s h f = eval_small e w k s h f
  of_small (Arguments xs) w k s h f = arguments_small xs w k s h f
  of_small (Give z) w k s h f = give_small k z w s f
  of_small (Pass zs) w k s h f = pass_small k zs w s f
  of_small (Run x) w k s h f = run_small x w k s h f
  of_small (Again l b) w k s h f = again_small l b w k s h f
  of_small On w k s h f = on_small k w s f
  of_small Leave w k s h f = leave_small k w s f
  of_small Onward w k s h f = onward_small k w s f
  of_small (Back z) w k s h f = back_small k z w s f

  by_move : (t : Move p n) (d : Config p n) → t ≡ Goes d → After t → IsSmall p n d
  by_move (Goes c) d is h = let same : c ≡ d = cc in subst (IsSmall p n) same h
  by_move (Stops stop s) d is h = absurd cc

  pub step_small : (c d : Config p n) → IsSmall p n c → step p n c ≡ Goes d → IsSmall p n d
  step_small c d h is = by_move (step p n c) d is (of_small c.work c.place c.frames c.state h.work h.frames)
