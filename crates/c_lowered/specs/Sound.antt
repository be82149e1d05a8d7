-- What is known of a resolved program that is accepted: places are variables' cells, calls fit their functions and lead to functions of a lower rank,
-- numbers and lengths are in their limits, and each call has paid a turn.
use Rattle.std.specs.Prelude.{◌≡◌, ℕ, suc, ◌+◌, ◌-◌, ◌^◌, ◌<◌, ◌≤◌, nat_eq, Bool, true, false, List, [], ◌∷◌, map, take, length, replicate, Option, Some, None, slice_get, All, ◌⊎◌, if◌then◌else◌}
use Rattle.ir_core.specs.Inputs.{IsNumber}
use Rattle.ir_run.specs.Shifts.{IsCellWidth}
use Rattle.c_tree.specs.declared.meaning.Place.{Place}
use Rattle.c_tree.specs.declared.meaning.Place.TheVariants as places
use Rattle.c_tree.specs.Program.{Term, Terms, Number, Scalar, Element, Input, Call, Unary, Shifted, Arithmetic, Compare, Not, AndAlso, OrElse, NoMore, More, Command, Skip, Seq, Turn, Set, Store, Change, Print, Take, Invoke, If, IfElse, While, Do, For, Break, Continue, Return, Shape, size, Function, GlobalVariable, Program}

-- the variable whose first cell is k, among variables whose cells begin at `cell`
abbrev pub shape_at : (cell : ℕ) → List Shape → (k : ℕ) → Option Shape
shape_at cell [] k = None
shape_at cell (v ∷ vs) k = if nat_eq cell k then Some v else shape_at (cell + size v) vs k

-- an array has 1 to 65,536 elements
abbrev pub IsShape : Shape → Type 0
IsShape None = Unit {0}
IsShape (Some n) = (1 ≤ n) × (n ≤ 65536)

-- where a command stands: numbers of so many bits, the variables that it sees, the functions with their ranks, the rank of the function that it
-- stands in, and whether that is `main`, and gives a value
pub record World : Type 0 where
  pub bits : ℕ
  pub globals : List Shape
  pub locals : List Shape
  pub functions : List Function
  pub rank : ℕ → ℕ
  pub own : ℕ
  pub is_main : Bool
  pub gives : Bool

abbrev pub variable_at : World → Place → Option Shape
variable_at w (places.Global k) = shape_at 0 w.globals k
variable_at w (places.Local k) = shape_at 0 w.locals k

abbrev pub IsScalar : World → Place → Type 0
IsScalar w p = variable_at w p ≡ Some None

abbrev pub IsArray : World → Place → ℕ → Type 0
IsArray w p n = variable_at w p ≡ Some (Some n)

-- a function of a lower rank, with so many parameters, that gives a value where that is used
pub record Answers (w : World) (g arguments : ℕ) (used : Bool) : Type 0 where
  pub function : Function
  pub is : slice_get w.functions g ≡ Some function
  pub arity : function.arity ≡ arguments
  pub gives : used ≡ true → function.gives ≡ true
  pub lower : w.rank g < w.own

abbrev pub count : Terms → ℕ
count NoMore = 0
count (More x xs) = suc (count xs)

abbrev mutual
  pub SoundTerm : World → Term → Type 0
  SoundTerm w (Number z) = z < 2 ^ (w.bits - 1)
  SoundTerm w (Scalar p) = IsScalar w p
  SoundTerm w (Element p n i) = IsArray w p n × SoundTerm w i
  SoundTerm w Input = Unit {0}
  SoundTerm w (Call g xs) = Answers w g (count xs) true × SoundTerms w xs
  SoundTerm w (Unary op x) = SoundTerm w x
  SoundTerm w (Shifted op x k) = (k < w.bits) × SoundTerm w x
  SoundTerm w (Arithmetic op x y) = SoundTerm w x × SoundTerm w y
  SoundTerm w (Compare r x y) = SoundTerm w x × SoundTerm w y
  SoundTerm w (Not x) = SoundTerm w x
  SoundTerm w (AndAlso x y) = SoundTerm w x × SoundTerm w y
  SoundTerm w (OrElse x y) = SoundTerm w x × SoundTerm w y

  pub SoundTerms : World → Terms → Type 0
  SoundTerms w NoMore = Unit {0}
  SoundTerms w (More x xs) = SoundTerm w x × SoundTerms w xs

-- an absent term is sound
abbrev pub SoundOption : World → Option Term → Type 0
SoundOption w None = Unit {0}
SoundOption w (Some e) = SoundTerm w e

-- a function other than `main` returns with a value where it gives one, and without where it gives none
abbrev pub FitsReturn : World → Option Term → Type 0
FitsReturn w None = w.is_main ≡ false → w.gives ≡ false
FitsReturn w (Some e) = (w.is_main ≡ false → w.gives ≡ true) × SoundTerm w e

-- a command for which a turn has been paid or not, within a loop or not
abbrev pub SoundCommand : World → (paid looped : Bool) → Command → Type 0
SoundCommand w paid looped Skip = Unit {0}
SoundCommand w paid looped (Seq x y) = SoundCommand w paid looped x × SoundCommand w paid looped y
SoundCommand w paid looped (Turn x) = SoundCommand w true looped x
SoundCommand w paid looped (Set p e) = (paid ≡ true) × IsScalar w p × SoundTerm w e
SoundCommand w paid looped (Store p n i e) = (paid ≡ true) × IsArray w p n × SoundTerm w i × SoundTerm w e
SoundCommand w paid looped (Change p n i op e) = (paid ≡ true) × IsArray w p n × SoundTerm w i × SoundTerm w e
SoundCommand w paid looped (Print e) = (paid ≡ true) × SoundTerm w e
SoundCommand w paid looped Take = paid ≡ true
SoundCommand w paid looped (Invoke g xs) = (paid ≡ true) × Answers w g (count xs) false × SoundTerms w xs
SoundCommand w paid looped (If e x) = (paid ≡ true) × SoundTerm w e × SoundCommand w true looped x
SoundCommand w paid looped (IfElse e x y) = (paid ≡ true) × SoundTerm w e × SoundCommand w true looped x × SoundCommand w true looped y
SoundCommand w paid looped (While e x) = (paid ≡ true) × SoundTerm w e × SoundCommand w true true x
SoundCommand w paid looped (Do x e) = (paid ≡ true) × SoundTerm w e × SoundCommand w true true x
SoundCommand w paid looped (For e step x) = (paid ≡ true) × SoundOption w e × SoundCommand w true false step × SoundCommand w true true x
SoundCommand w paid looped Break = looped ≡ true
SoundCommand w paid looped Continue = looped ≡ true
SoundCommand w paid looped (Return e) = (paid ≡ true) × FitsReturn w e

-- its end isn't reached
abbrev pub NeverEnds : Command → Type 0
NeverEnds (Seq x y) = NeverEnds x ⊎ NeverEnds y
NeverEnds (Turn x) = NeverEnds x
NeverEnds (Return e) = Unit {0}
NeverEnds _ = ⊥

-- its parameters are its first variables, and scalars
pub record SoundFunction (w : World) (f : Function) : Type 0 where
  pub shapes : All IsShape f.variables
  pub parameters : f.arity ≤ length f.variables
  pub scalars : take f.arity f.variables ≡ replicate f.arity None
  pub body : SoundCommand w false false f.body
  pub ends : f.returns ≡ true → NeverEnds f.body

-- an initial value is a number of n bits, and there are no more of them than cells
pub record SoundGlobal (n : ℕ) (v : GlobalVariable) : Type 0 where
  pub shape : IsShape v.shape
  pub room : length v.initial ≤ size v.shape
  pub numbers : All (IsNumber n) v.initial

-- where the body of a function of this rank stands
abbrev pub world : Program → ℕ → (ℕ → ℕ) → (own : ℕ) → (is_main : Bool) → Function → World
world p n rank own is_main f = record {
  bits = n;
  globals = map (λ v. v.shape) p.globals;
  locals = f.variables;
  functions = p.functions;
  rank = rank;
  own = own;
  is_main = is_main;
  gives = f.gives;
}

-- a program over numbers of n bits; `main` has the highest rank and no parameters
pub record Sound (p : Program) (n : ℕ) : Type 0 where
  pub width : IsCellWidth n
  pub globals : All (SoundGlobal n) p.globals
  pub rank : ℕ → ℕ
  pub top : ℕ
  pub main : Function
  pub main_is : p.main ≡ Some main
  pub main_sound : SoundFunction (world p n rank top true main) main
  pub main_plain : main.arity ≡ 0
  pub sound : (g : ℕ) (f : Function) → slice_get p.functions g ≡ Some f → SoundFunction (world p n rank (rank g) false f) f
  pub ranked : (g : ℕ) (f : Function) → slice_get p.functions g ≡ Some f → rank g < top
