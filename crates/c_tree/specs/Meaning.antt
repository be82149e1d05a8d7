-- What a program does: its outputs and its stop on an input, where it pays so many turns at most.
--
-- Each part of a program takes what comes behind it, a function from the state, and goes on with that or stops. So a statement is left early by going
-- on elsewhere, and a run is over by stopping.
use Rattle.std.specs.Prelude.{ℕ, zero, suc, ◌+◌, ◌-◌, ◌==◌, ℤ, pos, int_lt, int_le, unsigned_abs, Bool, true, false, not, ◌&&◌, List, [], ◌∷◌, ◌++◌, length, map, take, replicate, flat_map, Option, Some, None, slice_get, slice_index_or, slice_set}
use Rattle.ir_core.specs.Operator.{prefixed, shifted, arithmetic, holds}
use Rattle.nk_outside.specs.Outcome.{Outcome}
use Rattle.nk_outside.specs.declared.stop.Stop.{Stop}
use Rattle.nk_outside.specs.declared.stop.Stop.TheVariants as stops
use Rattle.c_tree.specs.declared.meaning.Place.{Place}
use Rattle.c_tree.specs.declared.meaning.Place.TheVariants as places
use Rattle.c_tree.specs.Program.{Term, Terms, Number, Scalar, Element, Input, Call, Unary, Shifted, Arithmetic, Compare, Not, AndAlso, OrElse, NoMore, More, Command, Skip, Seq, Turn, Set, Store, Change, Print, Take, Invoke, If, IfElse, While, Do, For, Break, Continue, Return, size, sizes, Function, GlobalVariable, Program}

-- what the variables hold, what is left of the input, what was put out, and how many turns may still be paid
pub record State : Type 0 where
  pub memory : List ℤ
  pub input : List ℤ
  pub out : List ℤ
  pub turns : ℕ

-- how it goes on
abbrev pub Next : Type 0
Next = State → Outcome

-- how it goes on from a number
abbrev pub NextOf : Type 0
NextOf = ℤ → Next

-- what a call of a function comes to, by its number and its arguments
abbrev pub Calls : Type 0
Calls = ℕ → List ℤ → NextOf → Next

-- where a function's body runs: with numbers of so many bits, with these calls, on cells that begin there
pub record Frame : Type 0 where
  pub bits : ℕ
  pub calls : Calls
  pub base : ℕ

-- how it goes on behind a `break`, a `continue`, and a `return` with a value
pub record Exits : Type 0 where
  pub broke : Next
  pub continued : Next
  pub returned : NextOf

-- ---- small steps

abbrev pub stopped : Stop → Next
stopped stop s = record { out = s.out; stop = stop }

-- pays a turn, or stops where none may be paid
abbrev pub paid : ℕ → Next → Next
paid zero next s = stopped stops.Running s
paid (suc t) next s = next (record s { turns = t })

abbrev pub pay : Next → Next
pay next s = paid s.turns next s

abbrev pub take_next : List ℤ → NextOf → Next
take_next [] next s = stopped stops.Wants s
take_next (z ∷ zs) next s = next z (record s { input = zs })

-- the cell of a place
abbrev pub cell : Frame → Place → ℕ
cell f (places.Global k) = k
cell f (places.Local k) = f.base + k

abbrev pub held : State → ℕ → ℤ
held s k = slice_index_or s.memory k (pos 0)

abbrev pub put : State → ℕ → ℤ → State
put s k z = record s { memory = slice_set s.memory k z }

abbrev pub is_true : ℤ → Bool
is_true z = not (unsigned_abs z == 0)

abbrev pub truth : Bool → ℤ
truth true = pos 1
truth false = pos 0

-- the one way or the other
abbrev pub either : Bool → Next → Next → Next
either true next other s = next s
either false other next s = next s

-- an index below 0, or not below the length, stops with trap 1
abbrev pub tested : ℕ → (ℕ → Next) → NextOf
tested length next z = either (int_le (pos 0) z && int_lt z (pos length)) (next (unsigned_abs z)) (stopped (stops.Trap 1))

-- ---- expressions, from left to right

abbrev mutual
  pub value : Frame → Term → NextOf → Next
  value f (Number z) next s = next (pos z) s
  value f (Scalar p) next s = next (held s (cell f p)) s
  value f (Element p n i) next s = value f i (tested n (λ j s. next (held s (cell f p + j)) s)) s
  value f Input next s = take_next s.input next s
  value f (Call g xs) next s = values f xs (λ zs. f.calls g zs next) s
  value f (Unary op x) next s = value f x (λ a. next (prefixed f.bits op a)) s
  value f (Shifted op x k) next s = value f x (λ a. next (shifted f.bits op a k)) s
  value f (Arithmetic op x y) next s = value f x (λ a. value f y (λ b. next (arithmetic f.bits op a b))) s
  value f (Compare r x y) next s = value f x (λ a. value f y (λ b. next (truth (holds r a b)))) s
  value f (Not x) next s = value f x (λ a. next (truth (not (is_true a)))) s
  value f (AndAlso x y) next s = value f x (λ a. either (is_true a) (value f y (λ b. next (truth (is_true b)))) (next (pos 0))) s
  value f (OrElse x y) next s = value f x (λ a. either (is_true a) (next (pos 1)) (value f y (λ b. next (truth (is_true b))))) s

  -- the values of arguments, in order
  pub values : Frame → Terms → (List ℤ → Next) → Next
  values f NoMore next s = next [] s
  values f (More x xs) next s = value f x (λ z. values f xs (λ zs. next (z ∷ zs))) s

-- ---- statements

-- A loop of at most so many tests: each pays a turn, and where it comes out true the body follows and then the loop again.
abbrev pub loop : ℕ → (NextOf → Next) → (Next → Next) → Next → Next
loop zero test body next s = stopped stops.Running s
loop (suc n) test body next s = pay (test (λ z. either (is_true z) (body (loop n test body next)) next)) s

-- as many tests as turns may be paid, and one more: then it's stopped for its turns
abbrev pub again : (NextOf → Next) → (Next → Next) → Next → Next
again test body next s = loop (suc s.turns) test body next s

-- an absent condition is true
abbrev pub condition : Frame → Option Term → NextOf → Next
condition f None next s = next (pos 1) s
condition f (Some e) next s = value f e next s

-- A loop's body, before what comes behind it in the loop: `break` goes on behind the loop, `continue` goes on as the body's end does.
abbrev pub looped : (Exits → Next → Next) → Exits → (next more : Next) → Next
looped body exits next more = body (record exits { broke = next; continued = more }) more

abbrev pub run : Frame → Command → Exits → Next → Next
run f Skip exits next s = next s
run f (Seq x y) exits next s = run f x exits (run f y exits next) s
run f (Turn x) exits next s = pay (run f x exits next) s
run f (Set p e) exits next s = value f e (λ z s. next (put s (cell f p) z)) s
run f (Store p n i e) exits next s = value f i (tested n (λ j. value f e (λ z s. next (put s (cell f p + j) z)))) s
run f (Change p n i op e) exits next s =
    value f i (tested n (λ j s. value f e (λ z t. next (put t (cell f p + j) (arithmetic f.bits op (held s (cell f p + j)) z))) s)) s
run f (Print e) exits next s = value f e (λ z s. next (record s { out = s.out ++ z ∷ [] })) s
run f Take exits next s = take_next s.input (λ z. next) s
run f (Invoke g xs) exits next s = values f xs (λ zs. f.calls g zs (λ z. next)) s
run f (If e x) exits next s = value f e (λ z. either (is_true z) (run f x exits next) next) s
run f (IfElse e x y) exits next s = value f e (λ z. either (is_true z) (run f x exits next) (run f y exits next)) s
run f (While e x) exits next s = again (value f e) (looped (run f x) exits next) next s
run f (Do x e) exits next s = looped (run f x) exits next (again (value f e) (looped (run f x) exits next) next) s
run f (For e step x) exits next s = again (condition f e) (λ more. looped (run f x) exits next (run f step exits more)) next s
run f Break exits next s = exits.broke s
run f Continue exits next s = exits.continued s
run f (Return None) exits next s = exits.returned (pos 0) s
run f (Return (Some e)) exits next s = value f e exits.returned s

-- ---- functions

-- the cells of variables, and of all variables of functions
abbrev pub global_cells : Program → ℕ
global_cells p = sizes (map (λ v. v.shape) p.globals)

abbrev pub function_cells : List Function → ℕ
function_cells [] = 0
function_cells (f ∷ fs) = sizes f.variables + function_cells fs

abbrev pub main_functions : Option Function → List Function
main_functions None = []
main_functions (Some f) = f ∷ []

-- `main` first, and then the others
abbrev pub all_functions : Program → List Function
all_functions p = main_functions p.main ++ p.functions

-- the first cell of `main`, and of another function
abbrev pub main_base : Program → ℕ
main_base p = global_cells p

abbrev pub base_of : Program → ℕ → ℕ
base_of p g = global_cells p + function_cells (main_functions p.main) + function_cells (take g p.functions)

-- the arguments in the cells of the parameters
abbrev pub with_arguments : State → ℕ → List ℤ → State
with_arguments s k [] = s
with_arguments s k (z ∷ zs) = with_arguments (put s k z) (k + 1) zs

-- a function's body: it gives what is returned, and 0 at its end
abbrev pub run_body : Frame → Command → NextOf → Next
run_body f x next = run f x (record { broke = next (pos 0); continued = next (pos 0); returned = next }) (next (pos 0))

abbrev pub entered : Option Function → Frame → List ℤ → NextOf → Next
entered None f zs next s = next (pos 0) s
entered (Some g) f zs next s = run_body f g.body next (with_arguments s f.base zs)

-- A call, within at most so many others: each has paid a turn in its body before the next.
abbrev pub call : Program → ℕ → ℕ → Calls
call p n zero g zs next s = stopped stops.Running s
call p n (suc depth) g zs next s =
    entered (slice_get p.functions g) (record { bits = n; calls = call p n depth; base = base_of p g }) zs next s

-- initial values, and zeros behind them
abbrev pub initial_cells : GlobalVariable → List ℤ
initial_cells v = take (size v.shape) (v.initial ++ replicate (size v.shape - length v.initial) (pos 0))

-- the state at the start
abbrev pub beginning : Program → List ℤ → ℕ → State
beginning p input m = record {
  memory = flat_map initial_cells p.globals ++ replicate (function_cells (all_functions p)) (pos 0);
  input = input;
  out = [];
  turns = m;
}

abbrev pub main_body : Option Function → Command
main_body None = Skip
main_body (Some f) = f.body

-- a run with numbers of n bits, on this input, that pays at most m turns
abbrev pub outcome : Program → ℕ → List ℤ → ℕ → Outcome
outcome p n input m =
    run_body (record { bits = n; calls = call p n m; base = main_base p }) (main_body p.main) (λ z. stopped stops.Ended) (beginning p input m)
