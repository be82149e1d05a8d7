-- The steps of the machine.
use Rattle.std.specs.Prelude.{◌≡◌, ℕ, zero, suc, ◌+◌, ℤ, pos, int_le, int_lt, unsigned_abs, Bool, true, false, not, ◌&&◌, List, [], ◌∷◌, ◌++◌, Option, Some, None, slice_get}
use Rattle.ir_core.specs.Operator.{prefixed, shifted, arithmetic, holds}
use Rattle.nk_outside.specs.Outcome.{Outcome}
use Rattle.nk_outside.specs.declared.stop.Stop.{Stop}
use Rattle.nk_outside.specs.declared.stop.Stop.TheVariants as stops
use Rattle.c_tree.specs.Program.{Term, Terms, Command, Function, Program}
use Rattle.c_tree.specs.Program as program
use Rattle.c_tree.specs.Meaning.{State, stopped, cell, held, put, is_true, truth, with_arguments, base_of, main_base, main_body, beginning}
use Rattle.c_frames.specs.Frames.{Where, Loop, While, Do, For, Frame, Element, Unary, Shifted, ArithmeticRight, ArithmeticLeft, CompareRight, CompareLeft, Negate, AndRight, OrRight, AsTruth, Argument, Passed, Calling, SetTo, StoreIndex, StoreAt, ChangeIndex, ChangeAt, Show, Drop, Choose, Tested, Giving, Behind, Looping, Stepping, Starting, Called, frame_at, Work, Eval, Arguments, Give, Pass, Run, Again, On, Leave, Onward, Back, rest}

module _ (p : Program) (n : ℕ) where
  -- where the machine stands
  pub record Config : Type 0 where
    pub work : Work p n
    pub place : Where
    pub frames : List Frame
    pub state : State

  -- what a step comes to
  pub data Move : Type 0 where
    Goes : Config → Move
    Stops : Stop → State → Move

  abbrev pub to : Work p n → Where → List Frame → State → Move
  to x w k s = Goes (record { work = x; place = w; frames = k; state = s })

  abbrev pub either_move : Bool → Move → Move → Move
  either_move true a b = a
  either_move false a b = b

  -- a turn is paid first
  abbrev pub paying : ℕ → State → (State → Move) → Move
  paying zero s go = Stops stops.Running s
  paying (suc t) s go = go (record s { turns = t })

  -- the next input is taken first
  abbrev pub taking : List ℤ → State → (ℤ → State → Move) → Move
  taking [] s go = Stops stops.Wants s
  taking (z ∷ zs) s go = go z (record s { input = zs })

  -- an index is tested first
  abbrev pub testing : ℕ → ℤ → State → (ℕ → Move) → Move
  testing length z s go = either_move (int_le (pos 0) z && int_lt z (pos length)) (go (unsigned_abs z)) (Stops (stops.Trap 1) s)

  -- a call of a function, where calls may nest so much deeper
  abbrev pub enter : Option Function → ℕ → ℕ → List ℤ → Where → List Frame → State → Move
  enter None g depth zs w k s = to (Give (pos 0)) w k s
  enter (Some f) g depth zs w k s = to (Run f.body) (record { base = base_of p g; depth = depth }) (Called w ∷ k) (with_arguments s (base_of p g) zs)

  abbrev pub step_call : ℕ → ℕ → List ℤ → Where → List Frame → State → Move
  step_call zero g zs w k s = Stops stops.Running s
  step_call (suc depth) g zs w k s = enter (slice_get p.functions g) g depth zs w k s

  abbrev pub step_eval : Term → Where → List Frame → State → Move
  step_eval (program.Number z) w k s = to (Give (pos z)) w k s
  step_eval (program.Scalar q) w k s = to (Give (held s (cell (frame_at p n w) q))) w k s
  step_eval (program.Element q m i) w k s = to (Eval i) w (Element q m ∷ k) s
  step_eval program.Input w k s = taking s.input s (λ z. to (Give z) w k)
  step_eval (program.Call g xs) w k s = to (Arguments xs) w (Calling g ∷ k) s
  step_eval (program.Unary op x) w k s = to (Eval x) w (Unary op ∷ k) s
  step_eval (program.Shifted op x by) w k s = to (Eval x) w (Shifted op by ∷ k) s
  step_eval (program.Arithmetic op x y) w k s = to (Eval x) w (ArithmeticRight op y ∷ k) s
  step_eval (program.Compare r x y) w k s = to (Eval x) w (CompareRight r y ∷ k) s
  step_eval (program.Not x) w k s = to (Eval x) w (Negate ∷ k) s
  step_eval (program.AndAlso x y) w k s = to (Eval x) w (AndRight y ∷ k) s
  step_eval (program.OrElse x y) w k s = to (Eval x) w (OrRight y ∷ k) s

  abbrev pub step_arguments : Terms → Where → List Frame → State → Move
  step_arguments program.NoMore w k s = to (Pass []) w k s
  step_arguments (program.More x xs) w k s = to (Eval x) w (Argument xs ∷ k) s

  abbrev pub step_give : List Frame → ℤ → Where → State → Move
  step_give (Element q m ∷ k) z w s = testing m z s (λ j. to (Give (held s (cell (frame_at p n w) q + j))) w k s)
  step_give (Unary op ∷ k) z w s = to (Give (prefixed n op z)) w k s
  step_give (Shifted op by ∷ k) z w s = to (Give (shifted n op z by)) w k s
  step_give (ArithmeticRight op y ∷ k) z w s = to (Eval y) w (ArithmeticLeft op z ∷ k) s
  step_give (ArithmeticLeft op a ∷ k) z w s = to (Give (arithmetic n op a z)) w k s
  step_give (CompareRight r y ∷ k) z w s = to (Eval y) w (CompareLeft r z ∷ k) s
  step_give (CompareLeft r a ∷ k) z w s = to (Give (truth (holds r a z))) w k s
  step_give (Negate ∷ k) z w s = to (Give (truth (not (is_true z)))) w k s
  step_give (AndRight y ∷ k) z w s = either_move (is_true z) (to (Eval y) w (AsTruth ∷ k) s) (to (Give (pos 0)) w k s)
  step_give (OrRight y ∷ k) z w s = either_move (is_true z) (to (Give (pos 1)) w k s) (to (Eval y) w (AsTruth ∷ k) s)
  step_give (AsTruth ∷ k) z w s = to (Give (truth (is_true z))) w k s
  step_give (Argument xs ∷ k) z w s = to (Arguments xs) w (Passed z ∷ k) s
  step_give (SetTo q ∷ k) z w s = to On w k (put s (cell (frame_at p n w) q) z)
  step_give (StoreIndex q m e ∷ k) z w s = testing m z s (λ j. to (Eval e) w (StoreAt (cell (frame_at p n w) q + j) ∷ k) s)
  step_give (StoreAt c ∷ k) z w s = to On w k (put s c z)
  step_give (ChangeIndex q m op e ∷ k) z w s =
      testing m z s (λ j. to (Eval e) w (ChangeAt (cell (frame_at p n w) q + j) op (held s (cell (frame_at p n w) q + j)) ∷ k) s)
  step_give (ChangeAt c op old ∷ k) z w s = to On w k (put s c (arithmetic n op old z))
  step_give (Show ∷ k) z w s = to On w k (record s { out = s.out ++ z ∷ [] })
  step_give (Drop ∷ k) z w s = to On w k s
  step_give (Choose x y ∷ k) z w s = either_move (is_true z) (to (Run x) w k s) (to (Run y) w k s)
  step_give (Tested (While e x) b ∷ k) z w s = either_move (is_true z) (to (Run x) w (Looping (While e x) b ∷ k) s) (to On w k s)
  step_give (Tested (Do x e) b ∷ k) z w s = either_move (is_true z) (to (Run x) w (Looping (Do x e) b ∷ k) s) (to On w k s)
  step_give (Tested (For c st x) b ∷ k) z w s = either_move (is_true z) (to (Run x) w (Looping (For c st x) b ∷ k) s) (to On w k s)
  step_give (Giving ∷ k) z w s = to (Back z) w k s
  step_give _ z w s = Stops stops.Running s

  abbrev pub step_pass : List Frame → List ℤ → Where → State → Move
  step_pass (Passed z ∷ k) zs w s = to (Pass (z ∷ zs)) w k s
  step_pass (Calling g ∷ k) zs w s = step_call w.depth g zs w k s
  step_pass _ zs w s = Stops stops.Running s

  abbrev pub step_run : Command → Where → List Frame → State → Move
  step_run program.Skip w k s = to On w k s
  step_run (program.Seq x y) w k s = to (Run x) w (Behind y ∷ k) s
  step_run (program.Turn x) w k s = paying s.turns s (to (Run x) w k)
  step_run (program.Set q e) w k s = to (Eval e) w (SetTo q ∷ k) s
  step_run (program.Store q m i e) w k s = to (Eval i) w (StoreIndex q m e ∷ k) s
  step_run (program.Change q m i op e) w k s = to (Eval i) w (ChangeIndex q m op e ∷ k) s
  step_run (program.Print e) w k s = to (Eval e) w (Show ∷ k) s
  step_run program.Take w k s = taking s.input s (λ z. to On w k)
  step_run (program.Invoke g xs) w k s = to (Arguments xs) w (Calling g ∷ Drop ∷ k) s
  step_run (program.If e x) w k s = to (Eval e) w (Choose x program.Skip ∷ k) s
  step_run (program.IfElse e x y) w k s = to (Eval e) w (Choose x y ∷ k) s
  step_run (program.While e x) w k s = to (Again (While e x) (suc s.turns)) w k s
  step_run (program.Do x e) w k s = to (Run x) w (Starting (Do x e) ∷ k) s
  step_run (program.For c st x) w k s = to (Again (For c st x) (suc s.turns)) w k s
  step_run program.Break w k s = to Leave w k s
  step_run program.Continue w k s = to Onward w k s
  step_run (program.Return None) w k s = to (Back (pos 0)) w k s
  step_run (program.Return (Some e)) w k s = to (Eval e) w (Giving ∷ k) s

  -- the condition of a loop; an absent one is true
  abbrev pub step_test : Loop → ℕ → Where → List Frame → State → Move
  step_test (While e x) b w k s = to (Eval e) w (Tested (While e x) b ∷ k) s
  step_test (Do x e) b w k s = to (Eval e) w (Tested (Do x e) b ∷ k) s
  step_test (For None st x) b w k s = to (Give (pos 1)) w (Tested (For None st x) b ∷ k) s
  step_test (For (Some e) st x) b w k s = to (Eval e) w (Tested (For (Some e) st x) b ∷ k) s

  abbrev pub step_again : Loop → ℕ → Where → List Frame → State → Move
  step_again l zero w k s = Stops stops.Running s
  step_again l (suc b) w k s = paying s.turns s (step_test l b w k)

  -- behind a loop's body
  abbrev pub step_looped : Loop → ℕ → Where → List Frame → State → Move
  step_looped (While e x) b w k s = to (Again (While e x) b) w k s
  step_looped (Do x e) b w k s = to (Again (Do x e) b) w k s
  step_looped (For c st x) b w k s = to (Run st) w (Stepping (For c st x) b ∷ k) s

  abbrev pub step_on : List Frame → Where → State → Move
  step_on [] w s = Stops stops.Ended s
  step_on (Behind y ∷ k) w s = to (Run y) w k s
  step_on (Looping l b ∷ k) w s = step_looped l b w k s
  step_on (Stepping l b ∷ k) w s = to (Again l b) w k s
  step_on (Starting l ∷ k) w s = to (Again l (suc s.turns)) w k s
  step_on (Called v ∷ k) w s = to (Give (pos 0)) v k s
  step_on _ w s = Stops stops.Running s

  abbrev pub step_leave : List Frame → Where → State → Move
  step_leave [] w s = Stops stops.Ended s
  step_leave (Behind y ∷ k) w s = to Leave w k s
  step_leave (Looping l b ∷ k) w s = to On w k s
  step_leave (Stepping l b ∷ k) w s = to Leave w k s
  step_leave (Starting l ∷ k) w s = to On w k s
  step_leave (Called v ∷ k) w s = to (Give (pos 0)) v k s
  step_leave _ w s = Stops stops.Running s

  abbrev pub step_onward : List Frame → Where → State → Move
  step_onward [] w s = Stops stops.Ended s
  step_onward (Behind y ∷ k) w s = to Onward w k s
  step_onward (Looping l b ∷ k) w s = step_looped l b w k s
  step_onward (Stepping l b ∷ k) w s = to Onward w k s
  step_onward (Starting l ∷ k) w s = to (Again l (suc s.turns)) w k s
  step_onward (Called v ∷ k) w s = to (Give (pos 0)) v k s
  step_onward _ w s = Stops stops.Running s

  abbrev pub step_back : List Frame → ℤ → Where → State → Move
  step_back [] z w s = Stops stops.Ended s
  step_back (Behind y ∷ k) z w s = to (Back z) w k s
  step_back (Looping l b ∷ k) z w s = to (Back z) w k s
  step_back (Stepping l b ∷ k) z w s = to (Back z) w k s
  step_back (Starting l ∷ k) z w s = to (Back z) w k s
  step_back (Called v ∷ k) z w s = to (Give z) v k s
  step_back _ z w s = Stops stops.Running s

  abbrev pub step_of : Work p n → Where → List Frame → State → Move
  step_of (Eval e) w k s = step_eval e w k s
  step_of (Arguments xs) w k s = step_arguments xs w k s
  step_of (Give z) w k s = step_give k z w s
  step_of (Pass zs) w k s = step_pass k zs w s
  step_of (Run x) w k s = step_run x w k s
  step_of (Again l b) w k s = step_again l b w k s
  step_of On w k s = step_on k w s
  step_of Leave w k s = step_leave k w s
  step_of Onward w k s = step_onward k w s
  step_of (Back z) w k s = step_back k z w s

  abbrev pub step : Config → Move
  step c = step_of c.work c.place c.frames c.state

  abbrev pub rest_of : Config → Outcome
  rest_of c = rest p n c.work c.place c.frames c.state

  abbrev pub moved_on : (Config → Move) → Move → Move
  moved_on go (Goes c) = go c
  moved_on go (Stops stop s) = Stops stop s

  -- so many steps, or fewer where it stops
  abbrev pub follow : ℕ → Config → Move
  follow zero c = Goes c
  follow (suc m) c = moved_on (follow m) (step c)

  -- where the machine goes on, the rest of its run is this outcome; where it stops, it stops so
  abbrev pub Follows : Outcome → Move → Type 0
  Follows o (Goes c) = o ≡ rest_of c
  Follows o (Stops stop s) = o ≡ stopped stop s

  -- the start of a run that pays so many turns at most
  abbrev pub begin : List ℤ → ℕ → Config
  begin input turns = record {
    work = Run (main_body p.main);
    place = record { base = main_base p; depth = turns };
    frames = [];
    state = beginning p input turns;
  }

  -- the machine has stopped
  abbrev pub HasStopped : Move → Type 0
  HasStopped (Goes c) = ⊥
  HasStopped (Stops stop s) = Unit {0}

  -- the same, where these were put out before all else
  abbrev pub ahead : List ℤ → State → State
  ahead zs s = record s { out = zs ++ s.out }

  abbrev pub ahead_config : List ℤ → Config → Config
  ahead_config zs c = record c { state = ahead zs c.state }

  abbrev pub ahead_move : List ℤ → Move → Move
  ahead_move zs (Goes c) = Goes (ahead_config zs c)
  ahead_move zs (Stops stop s) = Stops stop (ahead zs s)

  -- how many steps it makes until it stops, looked for within so many
  abbrev pub counted : (Config → ℕ) → Move → ℕ
  counted left (Goes c) = suc (left c)
  counted left (Stops stop s) = 0

  abbrev pub steps_left : ℕ → Config → ℕ
  steps_left zero c = 0
  steps_left (suc m) c = counted (steps_left m) (step c)
