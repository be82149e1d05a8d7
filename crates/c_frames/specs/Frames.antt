-- What waits in a machine that runs a program, and what the rest of the run gives: each frame is what comes behind a part.
use Rattle.std.specs.Prelude.{ℕ, ◌+◌, ℤ, pos, not, List, [], ◌∷◌, ◌++◌, Option}
use Rattle.ir_core.specs.declared.operator.Prefix.{Prefix}
use Rattle.ir_core.specs.declared.operator.Shift.{Shift}
use Rattle.ir_core.specs.declared.operator.Arith.{Arith}
use Rattle.ir_core.specs.Operator.{prefixed, shifted, arithmetic, holds}
use Rattle.ir_core.specs.declared.relation.Rel.{Rel}
use Rattle.nk_outside.specs.Outcome.{Outcome}
use Rattle.nk_outside.specs.declared.stop.Stop.TheVariants as stops
use Rattle.c_tree.specs.declared.meaning.Place.{Place}
use Rattle.c_tree.specs.Program.{Term, Terms, Command, Program}
use Rattle.c_tree.specs.Meaning.{State, Next, NextOf, Exits, stopped, cell, held, put, is_true, truth, either, tested, value, values, loop, again, condition, looped, run, call}
use Rattle.c_tree.specs.Meaning as meaning

-- where a function's body runs: its first cell, and how deep calls may still nest
pub record Where : Type 0 where
  pub base : ℕ
  pub depth : ℕ

-- a loop
pub data Loop : Type 0 where
  While : Term → Command → Loop
  Do : Command → Term → Loop
  For : Option Term → (step : Command) → (body : Command) → Loop

pub data Frame : Type 0 where
  -- what waits for a number, in an expression
  Element : Place → (length : ℕ) → Frame
  Unary : Prefix → Frame
  Shifted : Shift → (by : ℕ) → Frame
  ArithmeticRight : Arith → Term → Frame
  ArithmeticLeft : Arith → ℤ → Frame
  CompareRight : Rel → Term → Frame
  CompareLeft : Rel → ℤ → Frame
  Negate : Frame
  AndRight : Term → Frame
  OrRight : Term → Frame
  AsTruth : Frame
  -- arguments that are left, one that is done, and the function that is called
  Argument : Terms → Frame
  Passed : ℤ → Frame
  Calling : (function : ℕ) → Frame
  -- what waits for a number, in a statement
  SetTo : Place → Frame
  StoreIndex : Place → (length : ℕ) → Term → Frame
  StoreAt : (cell : ℕ) → Frame
  ChangeIndex : Place → (length : ℕ) → Arith → Term → Frame
  ChangeAt : (cell : ℕ) → Arith → (old : ℤ) → Frame
  Show : Frame
  Drop : Frame
  Choose : Command → Command → Frame
  Tested : Loop → (tests : ℕ) → Frame
  Giving : Frame
  -- what waits for the end of a statement
  Behind : Command → Frame
  Looping : Loop → (tests : ℕ) → Frame  -- the loop's body is run
  Stepping : Loop → (tests : ℕ) → Frame  -- the step of a `for` is run
  Starting : Loop → Frame  -- the body of a `do` is run the first time
  Called : Where → Frame  -- a function's body is run, called from there

-- where a statement goes on: at its end, and behind a `break`, a `continue`, a `return` with a value
pub record Ways : Type 0 where
  pub next : Next
  pub broke : Next
  pub continued : Next
  pub returned : NextOf

abbrev pub all_ways : Next → Ways
all_ways next = record { next = next; broke = next; continued = next; returned = λ z. next }

module _ (p : Program) (n : ℕ) where
  -- as the meaning sees it
  abbrev pub frame_at : Where → meaning.Frame
  frame_at w = record { bits = n; calls = call p n w.depth; base = w.base }

  abbrev pub exits : Ways → Exits
  exits v = record { broke = v.broke; continued = v.continued; returned = v.returned }

  -- a command, and on by these ways
  abbrev pub does : Where → Command → Ways → Next
  does w x v = run (frame_at w) x (exits v) v.next

  -- ---- loops

  abbrev pub test_of : Where → Loop → NextOf → Next
  test_of w (While e x) = value (frame_at w) e
  test_of w (Do x e) = value (frame_at w) e
  test_of w (For c step x) = condition (frame_at w) c

  abbrev pub body_of : Where → Loop → Ways → Next → Next
  body_of w (While e x) v = looped (run (frame_at w) x) (exits v) v.next
  body_of w (Do x e) v = looped (run (frame_at w) x) (exits v) v.next
  body_of w (For c step x) v = λ more. looped (run (frame_at w) x) (exits v) v.next (run (frame_at w) step (exits v) more)

  -- so many tests of it at most
  abbrev pub tests : Where → Loop → ℕ → Ways → Next
  tests w l b v = loop b (test_of w l) (body_of w l v) v.next

  -- behind its body
  abbrev pub behind_body : Where → Loop → ℕ → Ways → Next
  behind_body w (While e x) b v = tests w (While e x) b v
  behind_body w (Do x e) b v = tests w (Do x e) b v
  behind_body w (For c step x) b v = run (frame_at w) step (exits v) (tests w (For c step x) b v)

  -- ---- frames

  abbrev mutual
    -- where a statement goes on that stands before these frames
    pub ways : Where → List Frame → Ways
    ways w [] = all_ways (stopped stops.Ended)
    ways w (Behind y ∷ k) = record (ways w k) { next = does w y (ways w k) }
    ways w (Looping l b ∷ k) = record { next = behind_body w l b (ways w k); broke = (ways w k).next; continued = behind_body w l b (ways w k); returned = (ways w k).returned }
    ways w (Stepping l b ∷ k) = record (ways w k) { next = tests w l b (ways w k) }
    ways w (Starting l ∷ k) = record {
      next = again (test_of w l) (body_of w l (ways w k)) (ways w k).next;
      broke = (ways w k).next;
      continued = again (test_of w l) (body_of w l (ways w k)) (ways w k).next;
      returned = (ways w k).returned;
    }
    ways w (Called v ∷ k) = record { next = give v k (pos 0); broke = give v k (pos 0); continued = give v k (pos 0); returned = give v k }
    ways w (_ ∷ k) = all_ways (stopped stops.Running)

    -- what a number comes to that is handed to these frames
    pub give : Where → List Frame → NextOf
    give w (Element q m ∷ k) z s = tested m (λ j s. give w k (held s (cell (frame_at w) q + j)) s) z s
    give w (Unary op ∷ k) z s = give w k (prefixed n op z) s
    give w (Shifted op by ∷ k) z s = give w k (shifted n op z by) s
    give w (ArithmeticRight op y ∷ k) z s = value (frame_at w) y (λ b. give w k (arithmetic n op z b)) s
    give w (ArithmeticLeft op a ∷ k) z s = give w k (arithmetic n op a z) s
    give w (CompareRight r y ∷ k) z s = value (frame_at w) y (λ b. give w k (truth (holds r z b))) s
    give w (CompareLeft r a ∷ k) z s = give w k (truth (holds r a z)) s
    give w (Negate ∷ k) z s = give w k (truth (not (is_true z))) s
    give w (AndRight y ∷ k) z s = either (is_true z) (value (frame_at w) y (λ b. give w k (truth (is_true b)))) (give w k (pos 0)) s
    give w (OrRight y ∷ k) z s = either (is_true z) (give w k (pos 1)) (value (frame_at w) y (λ b. give w k (truth (is_true b)))) s
    give w (AsTruth ∷ k) z s = give w k (truth (is_true z)) s
    give w (Argument xs ∷ k) z s = values (frame_at w) xs (λ zs. pass w k (z ∷ zs)) s
    give w (SetTo q ∷ k) z s = (ways w k).next (put s (cell (frame_at w) q) z)
    give w (StoreIndex q m e ∷ k) z s = tested m (λ j. value (frame_at w) e (λ z s. (ways w k).next (put s (cell (frame_at w) q + j) z))) z s
    give w (StoreAt c ∷ k) z s = (ways w k).next (put s c z)
    give w (ChangeIndex q m op e ∷ k) z s =
        tested m (λ j s. value (frame_at w) e (λ z t. (ways w k).next (put t (cell (frame_at w) q + j) (arithmetic n op (held s (cell (frame_at w) q + j)) z))) s) z s
    give w (ChangeAt c op old ∷ k) z s = (ways w k).next (put s c (arithmetic n op old z))
    give w (Show ∷ k) z s = (ways w k).next (record s { out = s.out ++ z ∷ [] })
    give w (Drop ∷ k) z s = (ways w k).next s
    give w (Choose x y ∷ k) z s = either (is_true z) (does w x (ways w k)) (does w y (ways w k)) s
    give w (Tested l b ∷ k) z s = either (is_true z) (body_of w l (ways w k) (tests w l b (ways w k))) (ways w k).next s
    give w (Giving ∷ k) z s = (ways w k).returned z s
    give w _ z s = stopped stops.Running s

    -- what arguments come to that are handed to these frames
    pub pass : Where → List Frame → List ℤ → Next
    pass w (Passed z ∷ k) zs s = pass w k (z ∷ zs) s
    pass w (Calling g ∷ k) zs s = call p n w.depth g zs (give w k) s
    pass w _ zs s = stopped stops.Running s

  -- what is in hand
  pub data Work : Type 0 where
    Eval : Term → Work
    Arguments : Terms → Work
    Give : ℤ → Work
    Pass : List ℤ → Work
    Run : Command → Work
    Again : Loop → (tests : ℕ) → Work
    On : Work
    Leave : Work
    Onward : Work
    Back : ℤ → Work

  -- what the rest of the run gives
  abbrev pub rest : Work → Where → List Frame → State → Outcome
  rest (Eval e) w k s = value (frame_at w) e (give w k) s
  rest (Arguments xs) w k s = values (frame_at w) xs (pass w k) s
  rest (Give z) w k s = give w k z s
  rest (Pass zs) w k s = pass w k zs s
  rest (Run x) w k s = does w x (ways w k) s
  rest (Again l b) w k s = tests w l b (ways w k) s
  rest On w k s = (ways w k).next s
  rest Leave w k s = (ways w k).broke s
  rest Onward w k s = (ways w k).continued s
  rest (Back z) w k s = (ways w k).returned z s
