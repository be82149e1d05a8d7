-- The statements' machine beside the program: which cell stands for which variable, what a place of the list fits, and what a part of the program leaves
-- as it is.
use Rattle.std.proofs.Common.{◌≡◌, ℕ, suc, ◌+◌, ◌^◌, ◌<◌, ◌≤◌, ℤ, List, [], ◌∷◌, ◌++◌, Bool, true, false, Some, length}
use Rattle.std.specs.Prelude.{slice_get, pos}
use Rattle.nk_outside.specs.Outcome.{Outcome}
use Rattle.ir_core.specs.Inputs.{IsNumber}
use Rattle.ir_core.specs.declared.relation.Rel.{Rel}
use Rattle.ir_core.specs.declared.relation.Rel.TheVariants as rel
use Rattle.ir_run.specs.Node.{Node, Const, Cell}
use Rattle.ir_run.specs.Entry.{Entry, Branch, Mark, Halt}
use Rattle.ir_run.specs.Entry as entry
use Rattle.ir_run.specs.Runs as runs
use Rattle.ir_run.specs.Simulation.{Meets}
use Rattle.ir_run.specs.Value as machine
use Rattle.ir_run.specs.Run.{place_of}
use Rattle.ir_run.specs.Shifts.{IsCellWidth}
use Rattle.ir_run.specs.Strict as strict
use Rattle.ir_run.specs.Strict.{Arrays, is_inside}
use Rattle.c_tree.specs.declared.meaning.Place.{Place}
use Rattle.c_tree.specs.declared.meaning.Place.TheVariants as places
use Rattle.c_tree.specs.Program.{Term, Terms, Command, Skip, Seq, Turn, Set, Store, Change, Print, Take, Invoke, If, IfElse, While, Do, For, Break, Continue, Return, Shape, size, Function}
use Rattle.c_tree.specs.Meaning as source
use Rattle.c_tree.specs.Meaning.{Calls, Next, NextOf, with_arguments, is_true, tested, value, values}
use Rattle.c_tree.specs.Code.{Frame, Layout, Aim, Value, When, Unless, is_value, side, cells, argument_cells, has_call, have_call, or_no_frame, jump_steps, is_below_length, piece, passing}
use Rattle.c_tree.specs.Lowered.{Leaving, Halts, Returns, command_cells, statements, end_steps}
use Rattle.c_lowered.specs.Sound.{World, variable_at, IsArray, Answers, count, SoundTerm, SoundTerms, SoundFunction}

-- a state of the statements' machine
abbrev pub Machine : Type 0
Machine = machine.State

-- these statements stand in the code from the place p to the place q
abbrev pub Stands : List Entry → ℕ → List Entry → ℕ → Type 0
Stands code p [] q = p ≡ q
Stands code p (e ∷ es) q = (slice_get code p ≡ Some e) × Stands code (suc p) es q

-- the list of statements, and how a program lies in it
pub record Ground : Type 0 where
  pub code : List Entry
  pub bits : ℕ
  -- how many cells there are, and where the arrays lie
  pub cells : ℕ
  pub arrays : Arrays
  pub frames : List Frame
  pub trap : ℕ
  -- the turns that the mark of a loop or of a function pays for
  pub weight : ℕ
  pub functions : List Function
  pub rank : ℕ → ℕ
  -- the rank of the function that a cell belongs to, 0 for the globals
  pub owner : ℕ → ℕ
  -- how many cells the program's memory has, the cell of each, and where a function's variables begin in the memory
  pub memory : ℕ
  pub home : ℕ → ℕ
  pub source_base : ℕ → ℕ

-- the cell of a cell of the program's memory
pub record IsHome (g : Ground) (k : ℕ) : Type 0 where
  pub variable : ℕ
  pub below : variable < g.memory
  pub is : g.home variable ≡ k

-- a function's frame
abbrev pub function_frame : Ground → ℕ → Frame
function_frame g f = or_no_frame (slice_get g.frames f)

-- a cell of a function of this rank that holds no variable
pub record IsOwn (g : Ground) (rank k : ℕ) : Type 0 where
  pub owned : g.owner k ≡ rank
  pub plain : IsHome g k → ⊥
  pub inside : k < g.cells

-- a function's mark, its parameters, its result cell and its return cell
pub record IsFunction (g : Ground) (f : ℕ) (function : Function) : Type 0 where
  pub place : ℕ
  pub mark : slice_get g.code place ≡ Some (Mark (function_frame g f).label)
  pub parameter : (j : ℕ) → j < function.arity → g.source_base f + j < g.memory
  pub parameter_home : (j : ℕ) → j < function.arity → g.home (g.source_base f + j) ≡ (function_frame g f).first + j
  pub parameter_owner : (j : ℕ) → j < function.arity → g.owner (g.home (g.source_base f + j)) ≡ g.rank f
  pub ret : IsOwn g (g.rank f) (function_frame g f).ret
  pub result : function.gives ≡ true → IsOwn g (g.rank f) (function_frame g f).result
  pub two : function.gives ≡ true → (function_frame g f).ret ≡ (function_frame g f).result → ⊥

pub record IsGround (g : Ground) : Type 0 where
  pub width : IsCellWidth g.bits
  pub room : g.cells ≤ 2 ^ g.bits
  pub some : 1 ≤ g.weight
  -- each label is marked once
  pub once : (p l : ℕ) → slice_get g.code p ≡ Some (Mark l) → place_of g.code l ≡ Some p
  -- where a branch goes to the trap, the trap is there
  pub trap : (k : ℕ) (r : Rel) (x y : Node) → slice_get g.code k ≡ Some (Branch r x y g.trap) → (p : ℕ) × (slice_get g.code p ≡ Some (Mark g.trap)) × (slice_get g.code (suc p) ≡ Some (Halt 1))
  pub functions : (f : ℕ) (function : Function) → slice_get g.functions f ≡ Some function → IsFunction g f function
  -- two cells of the memory have two cells, that are there
  pub one : (x y : ℕ) → x < g.memory → y < g.memory → g.home x ≡ g.home y → x ≡ y
  pub homes : (x : ℕ) → x < g.memory → g.home x < g.cells

-- A function whose statements run: its rank, its step cells from lo up to hi, its return cell, where its variables begin in the memory and among the
-- cells, and what it sees; `main` has no return cell.
pub record Here : Type 0 where
  pub rank : ℕ
  pub lo : ℕ
  pub hi : ℕ
  pub ret : ℕ
  pub returns : Bool
  pub source_base : ℕ
  pub base : ℕ
  pub world : World

-- the layout of the function's statements
abbrev pub layout_of : Ground → Here → Layout
layout_of g h = record { bits = g.bits; base = h.base; frames = g.frames; trap = g.trap }

-- the first cell of a variable in the memory, and among the cells
abbrev pub source_cell : Here → Place → ℕ
source_cell h (places.Global k) = k
source_cell h (places.Local k) = h.source_base + k

abbrev pub cell_at : Here → Place → ℕ
cell_at h (places.Global k) = k
cell_at h (places.Local k) = h.base + k

-- a variable's cells from its first on; the function's own belong to it
pub record IsPlaced (g : Ground) (h : Here) (p : Place) (j : ℕ) : Type 0 where
  pub below : source_cell h p + j < g.memory
  pub home : g.home (source_cell h p + j) ≡ cell_at h p + j
  pub owned : g.owner (cell_at h p + j) ≤ h.rank

abbrev pub IsLocal : Place → Type 0
IsLocal (places.Global k) = ⊥
IsLocal (places.Local k) = Unit {0}

pub record IsHere (g : Ground) (h : Here) : Type 0 where
  pub bits : h.world.bits ≡ g.bits
  pub functions : h.world.functions ≡ g.functions
  pub ranks : (f : ℕ) → h.world.rank f ≡ g.rank f
  pub rank : h.world.own ≡ h.rank
  pub steps : (k : ℕ) → h.lo ≤ k → k < h.hi → IsOwn g h.rank k
  pub top : h.hi ≤ g.cells
  pub ret_own : h.returns ≡ true → IsOwn g h.rank h.ret
  pub ret_apart : h.returns ≡ true → h.lo ≤ h.ret → h.ret < h.hi → ⊥
  pub placed : (p : Place) (v : Shape) → variable_at h.world p ≡ Some v → (j : ℕ) → j < size v → IsPlaced g h p j
  pub local : (p : Place) (v : Shape) → variable_at h.world p ≡ Some v → IsLocal p → (j : ℕ) → j < size v → g.owner (cell_at h p + j) ≡ h.rank
  pub array : (p : Place) (n : ℕ) → IsArray h.world p n → (j : ℕ) → j < n → is_inside g.arrays (cell_at h p + j) ≡ true

module _ (g : Ground) where
  -- The machine stands at p, with the variables and the input of the program, which has at most t turns left.
  pub record Fits (t : ℕ) (s : source.State) (m : Machine) (p : ℕ) : Type 0 where
    pub place : m.place ≡ p
    pub cells : length m.cells ≡ g.cells
    pub memory : length s.memory ≡ g.memory
    pub same : (x : ℕ) → x < g.memory → machine.held m (g.home x) ≡ source.held s x
    pub numbers : (x : ℕ) → IsNumber g.bits (source.held s x)
    pub input : m.input ≡ s.input
    pub inputs : (k : ℕ) (z : ℤ) → slice_get s.input k ≡ Some z → IsNumber g.bits z
    pub turns : s.turns ≤ t

  -- from m, behind these outputs, the strict machine comes to the outcome, which a run with n turns left has; c turns are paid beforehand
  abbrev pub Met : (c : ℕ) → (out : List ℤ) → Machine → ℕ → Outcome → Type 0
  Met c out m n o = Meets (strict.step g.arrays g.code g.bits) g.weight c out m n o

  -- what comes behind, from the state s of the program
  abbrev pub MetFrom : (c : ℕ) → Machine → source.State → Next → Type 0
  MetFrom c m s next = Met c s.out m s.turns (next s)

module _ (g : Ground) (h : Here) where
  -- The cells are as before, but for step cells from s on, and, where a call was made, for the cells of functions of a lower rank and the globals.
  pub record Same (called : Bool) (s : ℕ) (m m' : Machine) : Type 0 where
    pub by : (k : ℕ) → (called ≡ true → h.rank ≤ g.owner k) → (s ≤ k → k < h.hi → ⊥) → machine.held m' k ≡ machine.held m k

  -- the tree is worth x wherever the cells are as they are now, but for those
  pub record IsWorth (later : Bool) (t : Node) (s : ℕ) (x : ℤ) (m : Machine) : Type 0 where
    pub by : (m' : Machine) → Same later s m m' → (go : ℤ → Machine → runs.Turn Machine) → strict.value g.arrays g.bits t go m' ≡ go x m'

-- What calls come to of functions of a rank below r, with fewer turns left than d: from the function's mark, with the arguments in its parameters and a
-- label in its return cell, the machine comes back to that label with the cells above kept and the result in its cell.
abbrev pub CallsMet : Ground → Calls → (r d : ℕ) → Type 0
CallsMet g calls r d = (f : ℕ) (function : Function) (is : slice_get g.functions f ≡ Some function) (fits_function : IsFunction g f function) → g.rank f < r
    → (c t l q : ℕ) (zs : List ℤ) (st : source.State) (m : Machine) (next : NextOf) → t < d
    → Fits g t (with_arguments st (g.source_base f) zs) m fits_function.place
    → machine.held m (function_frame g f).ret ≡ machine.label_value l → place_of g.code l ≡ Some q
    → ((z : ℤ) (st' : source.State) (m' : Machine) → IsNumber g.bits z → Fits g t st' m' q
    → ((k : ℕ) → g.rank f < g.owner k → machine.held m' k ≡ machine.held m k)
    → (function.gives ≡ true → machine.held m' (function_frame g f).result ≡ z)
    → MetFrom g c m' st' (next z))
    → Met g c st.out m st.turns (calls f zs next st)

-- ---- what an expression's statements do

-- where an aim's label stands
abbrev pub Aimed : Ground → Aim → ℕ → Type 0
Aimed g Value zp = Unit {0}
Aimed g (When l) zp = place_of g.code l ≡ Some zp
Aimed g (Unless l) zp = place_of g.code l ≡ Some zp

abbrev pub is_valued : Aim → Bool
is_valued aim = is_value (side aim)

module _ (g : Ground) (h : Here) where
  -- these step cells below s hold these numbers
  abbrev pub Held : ℕ → List ℕ → List ℤ → Machine → Type 0
  Held s [] [] m = Unit {0}
  Held s (k ∷ ks) (x ∷ xs) m = (machine.held m k ≡ x) × IsNumber g.bits x × (h.lo ≤ k) × (k < s) × Held s ks xs m
  Held s [] (x ∷ xs) m = ⊥
  Held s (k ∷ ks) [] m = ⊥

  -- What comes behind an expression that begins at the machine m with the step cell k: with its value, at q, its tree being worth that; or, where it's a
  -- condition, at the label's place where it holds (or fails), and at q else.
  abbrev pub After : Aim → (later called : Bool) → (k s q zp c t : ℕ) → Machine → Node → NextOf → Type 0
  After Value later called k s q zp c t m tree next = (x : ℤ) (st' : source.State) (m' : Machine) → IsNumber g.bits x → Fits g t st' m' q → Same g h called k m m' → IsWorth g h later tree s x m' → MetFrom g c m' st' (next x)
  After (When l) later called k s q zp c t m tree next =
      ((x : ℤ) (st' : source.State) (m' : Machine) → is_true x ≡ true → Fits g t st' m' zp → Same g h called k m m' → MetFrom g c m' st' (next x))
      × ((x : ℤ) (st' : source.State) (m' : Machine) → is_true x ≡ false → Fits g t st' m' q → Same g h called k m m' → MetFrom g c m' st' (next x))
  After (Unless l) later called k s q zp c t m tree next =
      ((x : ℤ) (st' : source.State) (m' : Machine) → is_true x ≡ false → Fits g t st' m' zp → Same g h called k m m' → MetFrom g c m' st' (next x))
      × ((x : ℤ) (st' : source.State) (m' : Machine) → is_true x ≡ true → Fits g t st' m' q → Same g h called k m m' → MetFrom g c m' st' (next x))

  module _ (calls : Calls) (d : ℕ) where
    -- where the function runs in the program's meaning
    abbrev pub env : source.Frame
    env = record { bits = g.bits; calls = calls; base = h.source_base }

    -- the statements of an expression come to its meaning
    abbrev pub PieceMet : Term → Type 0
    PieceMet e = (later : Bool) (aim : Aim) (k l p q zp c t : ℕ) (st : source.State) (m : Machine) (next : NextOf) → SoundTerm h.world e → h.lo ≤ k → k + cells later (is_valued aim) e ≤ h.hi
        → Stands g.code p (piece (layout_of g h) k l later aim e).steps q → Aimed g aim zp → t < d → Fits g t st m p
        → After aim later (has_call e) k (k + cells later (is_valued aim) e) q zp c t m (piece (layout_of g h) k l later aim e).tree next
        → MetFrom g c m st (value env e next)

    -- the statements of arguments leave their values in step cells
    abbrev pub PassingMet : Terms → Type 0
    PassingMet xs = (later : Bool) (k l p q c t : ℕ) (st : source.State) (m : Machine) (next : List ℤ → Next) → SoundTerms h.world xs → h.lo ≤ k → k + argument_cells later xs ≤ h.hi
        → Stands g.code p (passing (layout_of g h) k l later xs).steps q → t < d → Fits g t st m p
        → ((zs : List ℤ) (st' : source.State) (m' : Machine) → length zs ≡ count xs → Fits g t st' m' q → Same g h (have_call xs) k m m'
        → Held (k + argument_cells later xs) (passing (layout_of g h) k l later xs).values zs m' → MetFrom g c m' st' (next zs))
        → MetFrom g c m st (values env xs next)

    -- a call behind its arguments
    abbrev pub JumpMet : Type 0
    JumpMet = (f arguments : ℕ) (used : Bool) (answers : Answers h.world f arguments used) (s p q c t back : ℕ) (ks : List ℕ) (zs : List ℤ) (st : source.State) (m : Machine) (next : NextOf) → length zs ≡ arguments → s ≤ h.hi → Held s ks zs m
        → Stands g.code p (jump_steps (function_frame g f) ks back) q → t < d → Fits g t st m p
        → ((z : ℤ) (st' : source.State) (m' : Machine) → IsNumber g.bits z → Fits g t st' m' q → ((k : ℕ) → h.rank ≤ g.owner k → machine.held m' k ≡ machine.held m k)
        → (used ≡ true → machine.held m' (function_frame g f).result ≡ z) → MetFrom g c m' st' (next z))
        → MetFrom g c m st (calls f zs next)

    -- an index goes into its cell and is tested
    abbrev pub IndexMet : Type 0
    IndexMet = (n : ℕ) (later : Bool) (s p q c t : ℕ) (x : ℤ) (u : Node) (st : source.State) (m : Machine) (next : ℕ → Next) → n ≤ 65536 → h.lo ≤ s → s < h.hi
        → Stands g.code p (entry.Set s u ∷ Branch rel.Lt (Cell s) (Const (pos 0)) g.trap ∷ is_below_length (layout_of g h) n s ∷ []) q → Fits g t st m p
        → IsNumber g.bits x → IsWorth g h later u s x m
        → ((j : ℕ) (m' : Machine) → j < n → Fits g t st m' q → Same g h false s m m' → machine.held m' s ≡ pos j → IsNumber g.bits (pos j) → MetFrom g c m' st (next j))
        → MetFrom g c m st (tested n next x)

-- ---- bodies of functions

-- how many turns a statement pays at most before the mark of a loop or of a function pays for more
abbrev pub payable : Command → ℕ
payable Skip = 0
payable (Seq x y) = payable y + payable x
payable (Turn x) = suc (payable x)
payable (Set p e) = 0
payable (Store p n i e) = 0
payable (Change p n i op e) = 0
payable (Print e) = 0
payable Take = 0
payable (Invoke g xs) = 0
payable (If e x) = payable x
payable (IfElse e x y) = payable x + payable y
payable (While e x) = suc (payable x)
payable (Do x e) = suc (payable x)
payable (For e step x) = suc (payable step + payable x)
payable Break = 0
payable Continue = 0
payable (Return e) = 0

abbrev pub not_returns : Leaving → Bool
not_returns Halts = true
not_returns (Returns result ret) = false

-- the statements of a function's body, behind its mark at this place, and what is known of it
pub record IsBody (g : Ground) (leaving : Leaving) (function : Function) (place : ℕ) : Type 0 where
  pub here : Here
  pub is_here : IsHere g here
  pub sound : SoundFunction here.world function
  pub main : here.world.is_main ≡ not_returns leaving
  pub gives : here.world.gives ≡ function.gives
  pub top : here.lo + command_cells function.body ≤ here.hi
  pub small : payable function.body ≤ g.weight
  pub label : ℕ
  pub behind : ℕ
  pub stands : Stands g.code (suc place) (statements (layout_of g here) leaving (record { broke = 0; continued = 0 }) here.lo label function.body ++ end_steps function leaving) behind

-- the body of a function that is called, in its own frame
pub record IsCalled (g : Ground) (f : ℕ) (function : Function) (place : ℕ) : Type 0 where
  pub body : IsBody g (Returns (function_frame g f).result (function_frame g f).ret) function place
  pub rank : body.here.rank ≡ g.rank f
  pub returns : body.here.returns ≡ true
  pub ret : body.here.ret ≡ (function_frame g f).ret
  pub source_base : body.here.source_base ≡ g.source_base f
