-- What a machine in code stands for: a configuration of the machine that does what a program means.
use Rattle.std.specs.Prelude.{◌≡◌, ℕ, ℤ, List, [], ◌∷◌, ◌++◌, map, reverse, drop, Option, Some, None, slice_get}
use Rattle.c_tree.specs.Program.{Term, Terms, Command, Function, Program}
use Rattle.c_tree.specs.Program as program
use Rattle.c_tree.specs.Meaning.{State, base_of}
use Rattle.c_frames.specs.Frames.{Where, Loop, Frame, Work, Eval, Arguments, Give, Pass, Run, Again, On, Leave, Onward, Back}
use Rattle.c_frames.specs.Frames as frames
use Rattle.c_frames.specs.Steps.{Config, Move, Goes, Stops}
use Rattle.c_flat.specs.declared.node.Node.{Node}
use Rattle.c_flat.specs.Sorts.{term_at, terms_at, command_at}
use Rattle.c_flat.specs.Written.{Written, as_term, as_terms, as_command, written}
use Rattle.c_machine.specs.declared.task.Repeat.{Repeat}
use Rattle.c_machine.specs.declared.task.Repeat.TheVariants as repeats
use Rattle.c_machine.specs.declared.task.Expects.{Expects}
use Rattle.c_machine.specs.declared.task.Expects.TheVariants as expects
use Rattle.c_machine.specs.declared.task.Pending.{Pending}
use Rattle.c_machine.specs.declared.task.Pending.TheVariants as pendings
use Rattle.c_machine.specs.declared.task.Task.{Task}
use Rattle.c_machine.specs.declared.task.Task.TheVariants as tasks
use Rattle.c_machine.specs.declared.task.Moved.{Moved}
use Rattle.c_machine.specs.declared.task.Moved.TheVariants as moves
use Rattle.c_machine.specs.declared.machine.Machine.{Machine}
use Rattle.c_machine.specs.declared.code.Code.{Code}
use Rattle.c_machine.specs.declared.code.Entry.{Entry}
use Rattle.c_machine.specs.Cells.{cell_number}

abbrev pub loop_over : Repeat → (ℕ → Written) → Loop
loop_over (repeats.While e x) f = frames.While (as_term (f e)) (as_command (f x))
loop_over (repeats.Do x e) f = frames.Do (as_command (f x)) (as_term (f e))
loop_over (repeats.Forever st x) f = frames.For None (as_command (f st)) (as_command (f x))
loop_over (repeats.For e st x) f = frames.For (Some (as_term (f e))) (as_command (f st)) (as_command (f x))

-- a loop as a command
abbrev pub looping : Loop → Command
looping (frames.While e x) = program.While e x
looping (frames.Do x e) = program.Do x e
looping (frames.For e st x) = program.For e st x

-- what waits for a number
abbrev pub expected : List Node → Expects → Frame
expected ns (expects.Element q m) = frames.Element q m
expected ns (expects.Unary op) = frames.Unary op
expected ns (expects.Shifted op k) = frames.Shifted op k
expected ns (expects.ArithmeticRight op y) = frames.ArithmeticRight op (term_at ns y)
expected ns (expects.ArithmeticLeft op a) = frames.ArithmeticLeft op a
expected ns (expects.CompareRight r y) = frames.CompareRight r (term_at ns y)
expected ns (expects.CompareLeft r a) = frames.CompareLeft r a
expected ns expects.Negate = frames.Negate
expected ns (expects.AndRight y) = frames.AndRight (term_at ns y)
expected ns (expects.OrRight y) = frames.OrRight (term_at ns y)
expected ns expects.AsTruth = frames.AsTruth
expected ns (expects.Argument xs) = frames.Argument (terms_at ns xs)
expected ns (expects.SetTo q) = frames.SetTo q
expected ns (expects.StoreIndex q m e) = frames.StoreIndex q m (term_at ns e)
expected ns (expects.StoreAt c) = frames.StoreAt (cell_number c)
expected ns (expects.ChangeIndex q m op e) = frames.ChangeIndex q m op (term_at ns e)
expected ns (expects.ChangeAt c op old) = frames.ChangeAt (cell_number c) op old
expected ns expects.Show = frames.Show
expected ns expects.Forget = frames.Drop
expected ns (expects.Then x) = frames.Choose (command_at ns x) program.Skip
expected ns (expects.Choose x y) = frames.Choose (command_at ns x) (command_at ns y)
expected ns (expects.Tested l b) = frames.Tested (loop_over l (written ns)) b
expected ns expects.Giving = frames.Giving

-- what waits
abbrev pub frame_of : List Node → Pending → Frame
frame_of ns (pendings.Number e) = expected ns e
frame_of ns (pendings.Passed z) = frames.Passed z
frame_of ns (pendings.Calling g) = frames.Calling g
frame_of ns (pendings.Behind y) = frames.Behind (command_at ns y)
frame_of ns (pendings.Looping l b) = frames.Looping (loop_over l (written ns)) b
frame_of ns (pendings.Stepping l b) = frames.Stepping (loop_over l (written ns)) b
frame_of ns (pendings.Starting l) = frames.Starting (loop_over l (written ns))
frame_of ns (pendings.Called base depth) = frames.Called (record { base = base; depth = depth })

-- the last that was put down waits first
abbrev pub frames_of : List Node → List Pending → List Frame
frames_of ns ps = reverse (map (frame_of ns) ps)

-- where the function that runs has its cells
abbrev pub place_of : Machine → Where
place_of m = record { base = m.base; depth = m.depth }

abbrev pub state_of : List ℤ → Machine → List ℤ → State
state_of input m out = record { memory = m.memory.items; input = drop m.taken input; out = out; turns = m.turns }

module _ (p : Program) (n : ℕ) where
  -- what is in hand, where these are the arguments that are made
  abbrev pub work_of : List Node → List ℤ → Task → Work p n
  work_of ns zs (tasks.Eval k) = Eval (term_at ns k)
  work_of ns zs (tasks.Arguments k) = Arguments (terms_at ns k)
  work_of ns zs (tasks.Give z) = Give z
  work_of ns zs tasks.Pass = Pass zs
  work_of ns zs (tasks.Run k) = Run (command_at ns k)
  work_of ns zs tasks.Nothing = Run program.Skip
  work_of ns zs (tasks.Again l b) = Again (loop_over l (written ns)) b
  work_of ns zs tasks.On = On
  work_of ns zs tasks.Leave = Leave
  work_of ns zs tasks.Onward = Onward
  work_of ns zs (tasks.Back z) = Back z

  -- the machine, where this was put out before
  abbrev pub config_of : List Node → List ℤ → Machine → List ℤ → Config p n
  config_of ns input m out = record {
    work = work_of ns (reverse m.arguments.items) m.task;
    place = place_of m;
    frames = frames_of ns m.frames.items;
    state = state_of input m out;
  }

  abbrev pub move_of : List Node → List ℤ → Machine → List ℤ → Moved → Move p n
  move_of ns input m out moves.Goes = Goes (config_of ns input m out)
  move_of ns input m out (moves.Puts z) = Goes (config_of ns input m (out ++ z ∷ []))
  move_of ns input m out (moves.Stops stop) = Stops stop (state_of input m out)

-- what a machine comes to, whatever was put out before
abbrev pub Comes : Code → List ℤ → (old new : Machine) → Moved → ((p : Program) (n : ℕ) → Where → List Frame → State → Move p n) → Type 0
Comes c input old new r move =
    (p : Program) (out : List ℤ)
    → move_of p c.bits c.nodes.items input new out r ≡ move p c.bits (place_of old) (frames_of c.nodes.items old.frames.items) (state_of input old out)

-- what stands for a function of this number: the node of its body, and its first cell
abbrev pub StandsFor : List Node → Program → ℕ → Option Entry → Option Function → Type 0
StandsFor ns p g None None = Unit {0}
StandsFor ns p g (Some e) (Some f) = (command_at ns e.body ≡ f.body) × (base_of p g ≡ e.base)
StandsFor ns p g None (Some f) = ⊥
StandsFor ns p g (Some e) None = ⊥

-- the code of a program's functions
pub record IsCode (c : Code) (p : Program) : Type 0 where
  pub functions : (g : ℕ) → StandsFor c.nodes.items p g (slice_get c.functions.items g) (slice_get p.functions g)

-- the same of a step that may call a function
abbrev pub ComesBy : Code → List ℤ → (old new : Machine) → Moved → ((p : Program) (n : ℕ) → Where → List Frame → State → Move p n) → Type 0
ComesBy c input old new r move =
    (p : Program) → IsCode c p → (out : List ℤ)
    → move_of p c.bits c.nodes.items input new out r ≡ move p c.bits (place_of old) (frames_of c.nodes.items old.frames.items) (state_of input old out)
