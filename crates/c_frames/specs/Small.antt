-- Numbers that 64 bits hold with a sign, and amounts of shifts below 63, in what a program has and in what a machine has in hand.
use Rattle.std.specs.Prelude.{◌≡◌, ℕ, ◌<◌, ◌^◌, List, [], ◌∷◌, Option, Some, None, slice_get}
use Rattle.c_tree.specs.Program.{Term, Terms, Command, Function, Program}
use Rattle.c_tree.specs.Program as program
use Rattle.c_tree.specs.Meaning.{main_body}
use Rattle.c_frames.specs.Frames.{Loop, While, Do, For, Frame, Element, Unary, Shifted, ArithmeticRight, ArithmeticLeft, CompareRight, CompareLeft, Negate, AndRight, OrRight, AsTruth, Argument, Passed, Calling, SetTo, StoreIndex, StoreAt, ChangeIndex, ChangeAt, Show, Drop, Choose, Tested, Giving, Behind, Looping, Stepping, Starting, Called, Work, Eval, Arguments, Give, Pass, Run, Again, On, Leave, Onward, Back}
use Rattle.c_frames.specs.Steps.{Config}

-- each number of the expression is below 2^63, and each amount of a shift below 63
abbrev mutual
  pub IsSmallTerm : Term → Type 0
  IsSmallTerm (program.Number z) = z < 2 ^ 63
  IsSmallTerm (program.Scalar q) = Unit {0}
  IsSmallTerm (program.Element q m i) = IsSmallTerm i
  IsSmallTerm program.Input = Unit {0}
  IsSmallTerm (program.Call g xs) = AreSmallTerms xs
  IsSmallTerm (program.Unary op x) = IsSmallTerm x
  IsSmallTerm (program.Shifted op x by) = IsSmallTerm x × (by < 63)
  IsSmallTerm (program.Arithmetic op x y) = IsSmallTerm x × IsSmallTerm y
  IsSmallTerm (program.Compare r x y) = IsSmallTerm x × IsSmallTerm y
  IsSmallTerm (program.Not x) = IsSmallTerm x
  IsSmallTerm (program.AndAlso x y) = IsSmallTerm x × IsSmallTerm y
  IsSmallTerm (program.OrElse x y) = IsSmallTerm x × IsSmallTerm y

  pub AreSmallTerms : Terms → Type 0
  AreSmallTerms program.NoMore = Unit {0}
  AreSmallTerms (program.More x xs) = IsSmallTerm x × AreSmallTerms xs

abbrev pub IsSmallOption : Option Term → Type 0
IsSmallOption None = Unit {0}
IsSmallOption (Some e) = IsSmallTerm e

-- the same of commands
abbrev pub IsSmallCommand : Command → Type 0
IsSmallCommand program.Skip = Unit {0}
IsSmallCommand (program.Seq x y) = IsSmallCommand x × IsSmallCommand y
IsSmallCommand (program.Turn x) = IsSmallCommand x
IsSmallCommand (program.Set q e) = IsSmallTerm e
IsSmallCommand (program.Store q m i e) = IsSmallTerm i × IsSmallTerm e
IsSmallCommand (program.Change q m i op e) = IsSmallTerm i × IsSmallTerm e
IsSmallCommand (program.Print e) = IsSmallTerm e
IsSmallCommand program.Take = Unit {0}
IsSmallCommand (program.Invoke g xs) = AreSmallTerms xs
IsSmallCommand (program.If e x) = IsSmallTerm e × IsSmallCommand x
IsSmallCommand (program.IfElse e x y) = IsSmallTerm e × IsSmallCommand x × IsSmallCommand y
IsSmallCommand (program.While e x) = IsSmallTerm e × IsSmallCommand x
IsSmallCommand (program.Do x e) = IsSmallCommand x × IsSmallTerm e
IsSmallCommand (program.For c st x) = IsSmallOption c × IsSmallCommand st × IsSmallCommand x
IsSmallCommand program.Break = Unit {0}
IsSmallCommand program.Continue = Unit {0}
IsSmallCommand (program.Return e) = IsSmallOption e

-- the same of a program's functions
pub record IsSmallProgram (p : Program) : Type 0 where
  pub main : IsSmallCommand (main_body p.main)
  pub functions : (g : ℕ) (f : Function) → slice_get p.functions g ≡ Some f → IsSmallCommand f.body

-- ---- in a machine

abbrev pub IsSmallLoop : Loop → Type 0
IsSmallLoop (While e x) = IsSmallTerm e × IsSmallCommand x
IsSmallLoop (Do x e) = IsSmallCommand x × IsSmallTerm e
IsSmallLoop (For c st x) = IsSmallOption c × IsSmallCommand st × IsSmallCommand x

abbrev pub IsSmallFrame : Frame → Type 0
IsSmallFrame (Element q m) = Unit {0}
IsSmallFrame (Unary op) = Unit {0}
IsSmallFrame (Shifted op by) = by < 63
IsSmallFrame (ArithmeticRight op y) = IsSmallTerm y
IsSmallFrame (ArithmeticLeft op a) = Unit {0}
IsSmallFrame (CompareRight r y) = IsSmallTerm y
IsSmallFrame (CompareLeft r a) = Unit {0}
IsSmallFrame Negate = Unit {0}
IsSmallFrame (AndRight y) = IsSmallTerm y
IsSmallFrame (OrRight y) = IsSmallTerm y
IsSmallFrame AsTruth = Unit {0}
IsSmallFrame (Argument xs) = AreSmallTerms xs
IsSmallFrame (Passed z) = Unit {0}
IsSmallFrame (Calling g) = Unit {0}
IsSmallFrame (SetTo q) = Unit {0}
IsSmallFrame (StoreIndex q m e) = IsSmallTerm e
IsSmallFrame (StoreAt c) = Unit {0}
IsSmallFrame (ChangeIndex q m op e) = IsSmallTerm e
IsSmallFrame (ChangeAt c op old) = Unit {0}
IsSmallFrame Show = Unit {0}
IsSmallFrame Drop = Unit {0}
IsSmallFrame (Choose x y) = IsSmallCommand x × IsSmallCommand y
IsSmallFrame (Tested l b) = IsSmallLoop l
IsSmallFrame Giving = Unit {0}
IsSmallFrame (Behind y) = IsSmallCommand y
IsSmallFrame (Looping l b) = IsSmallLoop l
IsSmallFrame (Stepping l b) = IsSmallLoop l
IsSmallFrame (Starting l) = IsSmallLoop l
IsSmallFrame (Called v) = Unit {0}

abbrev pub AreSmallFrames : List Frame → Type 0
AreSmallFrames [] = Unit {0}
AreSmallFrames (x ∷ k) = IsSmallFrame x × AreSmallFrames k

module _ (p : Program) (n : ℕ) where
  abbrev pub IsSmallWork : Work p n → Type 0
  IsSmallWork (Eval e) = IsSmallTerm e
  IsSmallWork (Arguments xs) = AreSmallTerms xs
  IsSmallWork (Give z) = Unit {0}
  IsSmallWork (Pass zs) = Unit {0}
  IsSmallWork (Run x) = IsSmallCommand x
  IsSmallWork (Again l b) = IsSmallLoop l
  IsSmallWork On = Unit {0}
  IsSmallWork Leave = Unit {0}
  IsSmallWork Onward = Unit {0}
  IsSmallWork (Back z) = Unit {0}

  -- what is in hand, and what waits
  pub record IsSmall (c : Config p n) : Type 0 where
    pub work : IsSmallWork c.work
    pub frames : AreSmallFrames c.frames
