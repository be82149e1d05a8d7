-- The statements of commands and of functions fit, where their steps' cells and their variables lie below a limit.
use Rattle.std.proofs.Common.{refl, ℕ, ◌+◌, ◌<◌, ◌≤◌, List, [], ◌∷◌, ◌++◌, arith, Bool, true, false, cond, Option, Some, None}
use Rattle.std.specs.Prelude.{pos}
use Rattle.ir_run.specs.Node.{Node, Const, Cell, Load, Binary}
use Rattle.ir_run.specs.Entry.{Entry, JumpCell, Jump, Mark, Halt}
use Rattle.ir_run.specs.Entry as entry
use Rattle.c_tree.specs.Program.{Term, Command, Skip, Seq, Turn, Set, Store, Change, Print, Take, Invoke, If, IfElse, While, Do, For, Break, Continue, Return, Function}
use Rattle.c_tree.specs.Code.{Value, When, Unless, AsValue, IfHolds, IfFails, cells, marks, argument_marks, Layout, cell_of, element_address, index_steps, piece}
use Rattle.c_tree.specs.Lowered.{condition_cells, value_cells, command_cells, condition_marks, command_marks, Leaving, Halts, Returns, leave, leave_with, Ends, condition_steps, return_steps, statements, end_steps, function_steps}
use Rattle.c_lowered.specs.Sound.{World, SoundOption, FitsReturn, SoundCommand}
use Rattle.c_promise.proofs.Fit.{IsTree, AllFit, join, is_set}
use Rattle.c_promise.proofs.Pieces.{Fits, index_fit, element_set, call_fit, piece_whole, passing_fit}

-- a function's result cell lies below the limit
abbrev pub LeavingFits : (limit : ℕ) → Leaving → Type 0
LeavingFits limit Halts = Unit {0}
LeavingFits limit (Returns result ret) = result < limit

leave_fit : (n limit : ℕ) (leaving : Leaving) → AllFit n limit (leave leaving)
leave_fit n limit Halts = (omega arith, tt)
leave_fit n limit (Returns result ret) = (tt, tt)

leave_with_fit : (n limit : ℕ) (leaving : Leaving) (e : Node) → LeavingFits limit leaving → IsTree n e → AllFit n limit (leave_with leaving e)
leave_with_fit n limit Halts e f h = (omega arith, tt)
leave_with_fit n limit (Returns result ret) e f h = (is_set n limit result e (JumpCell ret ∷ []) f h, (tt, tt))

end_fit : (n limit : ℕ) (f : Function) (leaving : Leaving) → LeavingFits limit leaving → AllFit n limit (end_steps f leaving)
end_fit n limit f leaving fits = by f.returns f.gives
  where
    by : (returns gives : Bool) → AllFit n limit (cond returns [] (cond gives (leave_with leaving (Const (pos 0))) (leave leaving)))
    by true gives = tt
    by false true = leave_with_fit n limit leaving (Const (pos 0)) fits (refl, refl)
    by false false = leave_fit n limit leaving

module _ (w : World) (t : Layout) (limit : ℕ) (h : Fits w t limit) where
  -- two lists
  and : (es fs : List Entry) → AllFit t.bits limit es → AllFit t.bits limit fs → AllFit t.bits limit (es ++ fs)
  and es fs a b = join t.bits limit es fs a b

  condition_fit : (e : Option Term) (k l label : ℕ) → SoundOption w e → k + condition_cells e ≤ limit → AllFit t.bits limit (condition_steps t k l (Unless label) e)
  condition_fit None k l label s room = tt
  condition_fit (Some e) k l label s room = (piece_whole w t limit h e k l false (Unless label) s room).steps

  return_fit : (e : Option Term) (leaving : Leaving) (k l : ℕ) → LeavingFits limit leaving → FitsReturn w e → k + value_cells e ≤ limit → AllFit t.bits limit (return_steps t leaving k l e)
  return_fit None leaving k l fits s room = leave_fit t.bits limit leaving
  return_fit (Some e) leaving k l fits s room =
      let a = piece t k l false Value e in
      let f = piece_whole w t limit h e k l false Value s.1 room in
      and a.steps (leave_with leaving a.tree) f.steps (leave_with_fit t.bits limit leaving a.tree fits f.tree)

  -- the statements of a command
  pub statements_fit : (x : Command) (leaving : Leaving) (ends : Ends) (k l : ℕ) (paid looped : Bool) → LeavingFits limit leaving → SoundCommand w paid looped x → k + command_cells x ≤ limit
      → AllFit t.bits limit (statements t leaving ends k l x)
  statements_fit Skip leaving ends k l paid looped fits s room = tt
  statements_fit (Seq x y) leaving ends k l paid looped fits s room =
      and (statements t leaving ends k l x) (statements t leaving ends (k + command_cells x) (l + command_marks x) y)
      (statements_fit x leaving ends k l paid looped fits s.0 (omega (arith, room)))
      (statements_fit y leaving ends (k + command_cells x) (l + command_marks x) paid looped fits s.1 (omega (arith, room)))
  statements_fit (Turn x) leaving ends k l paid looped fits s room = statements_fit x leaving ends k l true looped fits s room
  statements_fit (Set p e) leaving ends k l paid looped fits s room =
      let a = piece t k l false Value e in
      let f = piece_whole w t limit h e k l false Value s.2 room in
      and a.steps (entry.Set (cell_of t p) a.tree ∷ []) f.steps (is_set t.bits limit (cell_of t p) a.tree [] (h.scalars p s.1) f.tree, tt)
  statements_fit (Store p n i e) leaving ends k l paid looped fits s room =
      let c = k + cells false true i in
      let l2 = l + marks AsValue i in
      let a = piece t (c + 1) l2 false Value e in
      let index = index_steps t n (piece t k l false Value i) c in
      let f = piece_whole w t limit h e (c + 1) l2 false Value s.3 (omega (arith, room)) in
      and (index ++ a.steps) (entry.Store (element_address t p c) a.tree ∷ [])
      (and index a.steps (index_fit t limit n (piece t k l false Value i) c (omega (arith, room)) (piece_whole w t limit h i k l false Value s.2 (omega (arith, room)))) f.steps)
      (((refl, refl), f.tree), tt)
  statements_fit (Change p n i op e) leaving ends k l paid looped fits s room =
      let c = k + cells false true i in
      let r = c + 1 in
      let l2 = l + marks AsValue i in
      let a = piece t (r + 1) l2 false Value e in
      let index = index_steps t n (piece t k l false Value i) c in
      let f = piece_whole w t limit h e (r + 1) l2 false Value s.3 (omega (arith, room)) in
      and (index ++ entry.Set r (Load (element_address t p c)) ∷ a.steps) (entry.Store (element_address t p c) (Binary op (Cell r) a.tree) ∷ [])
      (and index (entry.Set r (Load (element_address t p c)) ∷ a.steps)
      (index_fit t limit n (piece t k l false Value i) c (omega (arith, room)) (piece_whole w t limit h i k l false Value s.2 (omega (arith, room))))
      (element_set t limit p c r a.steps (omega (arith, room)), f.steps))
      (((refl, refl), f.tree), tt)
  statements_fit (Print e) leaving ends k l paid looped fits s room =
      let a = piece t k l false Value e in
      let f = piece_whole w t limit h e k l false Value s.1 room in
      and a.steps (entry.Out a.tree ∷ []) f.steps (f.tree, tt)
  statements_fit Take leaving ends k l paid looped fits s room = (record { below = omega (arith, room); shifts = refl; settable = refl; returned = tt }, tt)
  statements_fit (Invoke g xs) leaving ends k l paid looped fits s room =
      call_fit w t limit h g false xs k l (l + argument_marks xs) false s.1 (passing_fit w t limit h xs k l false s.2 room)
  statements_fit (If e x) leaving ends k l paid looped fits s room =
      let inside = l + marks IfFails e in
      let past = inside + command_marks x in
      let test = (piece t k l false (Unless past) e).steps in
      let body = statements t leaving ends (k + cells false false e) inside x in
      and (test ++ body) (Mark past ∷ [])
      (and test body (piece_whole w t limit h e k l false (Unless past) s.1 (omega (arith, room))).steps
      (statements_fit x leaving ends (k + cells false false e) inside true looped fits s.2 (omega (arith, room))))
      (tt, tt)
  statements_fit (IfElse e x y) leaving ends k l paid looped fits s room =
      let inside = l + marks IfFails e in
      let other = inside + command_marks x in
      let past = other + 1 + command_marks y in
      let test = (piece t k l false (Unless other) e).steps in
      let body = statements t leaving ends (k + cells false false e) inside x in
      let rest = statements t leaving ends (k + cells false false e + command_cells x) (other + 1) y in
      and (test ++ body ++ Jump past ∷ Mark other ∷ rest) (Mark past ∷ [])
      (and (test ++ body) (Jump past ∷ Mark other ∷ rest)
      (and test body (piece_whole w t limit h e k l false (Unless other) s.1 (omega (arith, room))).steps
      (statements_fit x leaving ends (k + cells false false e) inside true looped fits s.2 (omega (arith, room))))
      (tt, (tt, statements_fit y leaving ends (k + cells false false e + command_cells x) (other + 1) true looped fits s.3 (omega (arith, room)))))
      (tt, tt)
  statements_fit (While e x) leaving ends k l paid looped fits s room =
      let inside = l + 1 + marks IfFails e in
      let past = inside + command_marks x in
      let test = (piece t k (l + 1) false (Unless past) e).steps in
      let loop : Ends = record { broke = past; continued = l } in
      let body = statements t leaving loop (k + cells false false e) inside x in
      and (Mark l ∷ test ++ body) (Jump l ∷ Mark past ∷ [])
      (and (Mark l ∷ test) body (tt, (piece_whole w t limit h e k (l + 1) false (Unless past) s.1 (omega (arith, room))).steps)
      (statements_fit x leaving loop (k + cells false false e) inside true true fits s.2 (omega (arith, room))))
      (tt, (tt, tt))
  statements_fit (Do x e) leaving ends k l paid looped fits s room =
      let again = l + 1 + command_marks x in
      let past = again + 1 + marks IfHolds e in
      let loop : Ends = record { broke = past; continued = again } in
      let body = statements t leaving loop k (l + 1) x in
      let test = (piece t (k + command_cells x) (again + 1) false (When l) e).steps in
      and (Mark l ∷ body ++ Mark again ∷ test) (Mark past ∷ [])
      (and (Mark l ∷ body) (Mark again ∷ test) (tt, statements_fit x leaving loop k (l + 1) true true fits s.2 (omega (arith, room)))
      (tt, (piece_whole w t limit h e (k + command_cells x) (again + 1) false (When l) s.1 (omega (arith, room))).steps))
      (tt, tt)
  statements_fit (For e step x) leaving ends k l paid looped fits s room =
      let inside = l + 1 + condition_marks e in
      let next = inside + command_marks x in
      let past = next + 1 + command_marks step in
      let test = condition_steps t k (l + 1) (Unless past) e in
      let loop : Ends = record { broke = past; continued = next } in
      let body = statements t leaving loop (k + condition_cells e) inside x in
      let stepped = statements t leaving ends (k + condition_cells e + command_cells x) (next + 1) step in
      and (Mark l ∷ test ++ body ++ Mark next ∷ stepped) (Jump l ∷ Mark past ∷ [])
      (and (Mark l ∷ test ++ body) (Mark next ∷ stepped)
      (and (Mark l ∷ test) body (tt, condition_fit e k (l + 1) past s.1 (omega (arith, room)))
      (statements_fit x leaving loop (k + condition_cells e) inside true true fits s.3 (omega (arith, room))))
      (tt, statements_fit step leaving ends (k + condition_cells e + command_cells x) (next + 1) true false fits s.2 (omega (arith, room))))
      (tt, (tt, tt))
  statements_fit Break leaving ends k l paid looped fits s room = (tt, tt)
  statements_fit Continue leaving ends k l paid looped fits s room = (tt, tt)
  statements_fit (Return e) leaving ends k l paid looped fits s room = return_fit e leaving k l fits s.1 room

  -- the statements of a function
  pub function_fit : (f : Function) (leaving : Leaving) (k label : ℕ) → LeavingFits limit leaving → SoundCommand w false false f.body → k + command_cells f.body ≤ limit
      → AllFit t.bits limit (function_steps t leaving f k label)
  function_fit f leaving k label fits s room =
      let ends : Ends = record { broke = 0; continued = 0 } in
      let body = statements t leaving ends k (label + 1) f.body in
      and (Mark label ∷ body) (end_steps f leaving) (tt, statements_fit f.body leaving ends k (label + 1) false false fits s room) (end_fit t.bits limit f leaving fits)
