-- The numbers of an accepted program's text are held by n bits, so they are as they are wrapped.
use Rattle.std.proofs.Common.{◌≡◌, refl, sym, ap₂, subst, ℕ, suc, ◌-◌, ◌^◌, ◌<◌, pos, Bool, true, false, List, [], ◌∷◌, ◌++◌, map, Option, Some, None, slice_get}
use Rattle.ir_core.specs.Operator.{wrap}
use Rattle.c_lowered.specs.Sound.{World, SoundTerm, SoundTerms, SoundOption, FitsReturn, SoundCommand, SoundFunction, Sound, world}
use Rattle.c_tree.specs.Program.{Term, Terms, Number, Scalar, Element, Input, Call, Unary, Shifted, Arithmetic, Compare, Not, AndAlso, OrElse, NoMore, More, Command, Skip, Seq, Turn, Set, Store, Change, Print, Take, Invoke, If, IfElse, While, Do, For, Break, Continue, Return, Function, Program}
use Rattle.c_counted.specs.Counted.{numbers, arguments_numbers, step_numbers, condition_numbers, return_numbers, command_numbers}
use Rattle.c_counted.specs.Total.{main_numbers, functions_numbers, program_numbers}
use Rattle.c_counted.proofs.Wrapping.{wrap_small}

-- each of these is less than m
abbrev pub AllLess : ℕ → List ℕ → Type 0
AllLess m [] = Unit {0}
AllLess m (z ∷ zs) = (z < m) × AllLess m zs

less_append : (m : ℕ) (xs ys : List ℕ) → AllLess m xs → AllLess m ys → AllLess m (xs ++ ys)
less_append m [] ys a b = b
less_append m (x ∷ xs) ys a b = (a.0, less_append m xs ys a.1 b)

-- ---- terms

mutual
  pub term_small : (at : World) (e : Term) → SoundTerm at e → AllLess (2 ^ (at.bits - 1)) (numbers e)
  term_small at (Number z) s = (s, tt)
  term_small at (Scalar p) s = tt
  term_small at (Element p n i) s = term_small at i s.1
  term_small at Input s = tt
  term_small at (Call f xs) s = arguments_small at xs s.1
  term_small at (Unary op x) s = term_small at x s
  term_small at (Shifted op x k) s = term_small at x s.1
  term_small at (Arithmetic op x y) s = less_append _ (numbers x) (numbers y) (term_small at x s.0) (term_small at y s.1)
  term_small at (Compare r x y) s = less_append _ (numbers x) (numbers y) (term_small at x s.0) (term_small at y s.1)
  term_small at (Not x) s = term_small at x s
  term_small at (AndAlso x y) s = less_append _ (numbers x) (numbers y) (term_small at x s.0) (term_small at y s.1)
  term_small at (OrElse x y) s = less_append _ (numbers x) (numbers y) (term_small at x s.0) (term_small at y s.1)

  pub arguments_small : (at : World) (xs : Terms) → SoundTerms at xs → AllLess (2 ^ (at.bits - 1)) (arguments_numbers xs)
  arguments_small at NoMore s = tt
  arguments_small at (More x xs) s = less_append _ (numbers x) (arguments_numbers xs) (term_small at x s.0) (arguments_small at xs s.1)

step_small : (at : World) (e : Term) → SoundTerm at e → AllLess (2 ^ (at.bits - 1)) (step_numbers e)
step_small at (Number z) s = tt
step_small at (Scalar p) s = tt
step_small at (Element p n i) s = term_small at i s.1
step_small at Input s = tt
step_small at (Call f xs) s = arguments_small at xs s.1
step_small at (Unary op x) s = step_small at x s
step_small at (Shifted op x k) s = step_small at x s.1
step_small at (Arithmetic op x y) s = less_append _ (step_numbers x) (step_numbers y) (step_small at x s.0) (step_small at y s.1)
step_small at (Compare r x y) s = less_append _ (numbers x) (numbers y) (term_small at x s.0) (term_small at y s.1)
step_small at (Not x) s = term_small at x s
step_small at (AndAlso x y) s = less_append _ (numbers x) (numbers y) (term_small at x s.0) (term_small at y s.1)
step_small at (OrElse x y) s = less_append _ (numbers x) (numbers y) (term_small at x s.0) (term_small at y s.1)

-- ---- commands

condition_small : (at : World) (e : Option Term) → SoundOption at e → AllLess (2 ^ (at.bits - 1)) (condition_numbers e)
condition_small at None s = tt
condition_small at (Some e) s = term_small at e s

return_small : (at : World) (in_main : Bool) (e : Option Term) → FitsReturn at e → AllLess (2 ^ (at.bits - 1)) (return_numbers in_main e)
return_small at in_main None s = tt
return_small at true (Some e) s = step_small at e s.1
return_small at false (Some e) s = term_small at e s.1

pub command_small : (at : World) (in_main paid looped : Bool) (c : Command) → SoundCommand at paid looped c → AllLess (2 ^ (at.bits - 1)) (command_numbers in_main c)
command_small at in_main paid looped Skip s = tt
command_small at in_main paid looped (Seq x y) s =
    less_append _ (command_numbers in_main x) (command_numbers in_main y) (command_small at in_main paid looped x s.0) (command_small at in_main paid looped y s.1)
command_small at in_main paid looped (Turn x) s = command_small at in_main true looped x s
command_small at in_main paid looped (Set p e) s = term_small at e s.2
command_small at in_main paid looped (Store p n i e) s = less_append _ (numbers i) (numbers e) (term_small at i s.2) (term_small at e s.3)
command_small at in_main paid looped (Change p n i op e) s = less_append _ (numbers i) (numbers e) (term_small at i s.2) (term_small at e s.3)
command_small at in_main paid looped (Print e) s = term_small at e s.1
command_small at in_main paid looped Take s = tt
command_small at in_main paid looped (Invoke f xs) s = arguments_small at xs s.2
command_small at in_main paid looped (If e x) s =
    less_append _ (numbers e) (command_numbers in_main x) (term_small at e s.1) (command_small at in_main true looped x s.2)
command_small at in_main paid looped (IfElse e x y) s =
    less_append _ (numbers e ++ command_numbers in_main x) (command_numbers in_main y)
    (less_append _ (numbers e) (command_numbers in_main x) (term_small at e s.1) (command_small at in_main true looped x s.2))
    (command_small at in_main true looped y s.3)
command_small at in_main paid looped (While e x) s =
    less_append _ (numbers e) (command_numbers in_main x) (term_small at e s.1) (command_small at in_main true true x s.2)
command_small at in_main paid looped (Do x e) s =
    less_append _ (command_numbers in_main x) (numbers e) (command_small at in_main true true x s.2) (term_small at e s.1)
command_small at in_main paid looped (For e step x) s =
    less_append _ (condition_numbers e ++ command_numbers in_main x) (command_numbers in_main step)
    (less_append _ (condition_numbers e) (command_numbers in_main x) (condition_small at e s.1) (command_small at in_main true true x s.3))
    (command_small at in_main true false step s.2)
command_small at in_main paid looped Break s = tt
command_small at in_main paid looped Continue s = tt
command_small at in_main paid looped (Return e) s = return_small at in_main e s.1

-- ---- programs

functions_small : (p : Program) (n : ℕ) (rank : ℕ → ℕ) (fs : List Function) → ((g : ℕ) (f : Function) → slice_get fs g ≡ Some f → (own : ℕ) × SoundFunction (world p n rank own false f) f) → AllLess (2 ^ (n - 1)) (functions_numbers fs)
functions_small p n rank [] each = tt
functions_small p n rank (f ∷ fs) each =
    let sound = each 0 f refl in
    less_append _ (command_numbers false f.body) (functions_numbers fs) (command_small (world p n rank sound.0 false f) false false false f.body sound.1.body)
    (functions_small p n rank fs (λ i h is. each (suc i) h is))

-- each number of the text is less than 2^(n-1)
pub numbers_small : (p : Program) (n : ℕ) → Sound p n → AllLess (2 ^ (n - 1)) (program_numbers p)
numbers_small p n s =
    less_append _ (main_numbers p.main) (functions_numbers p.functions)
    (subst (λ m. AllLess (2 ^ (n - 1)) (main_numbers m)) (sym s.main_is) (command_small (world p n s.rank s.top true s.main) true false false s.main.body s.main_sound.body))
    (functions_small p n s.rank p.functions (λ g f is. (s.rank g, s.sound g f is)))

unwrapped : (n : ℕ) (zs : List ℕ) → AllLess (2 ^ (n - 1)) zs → map (λ z. wrap n (pos z)) zs ≡ map pos zs
unwrapped n [] h = refl
unwrapped n (z ∷ zs) h = ap₂ ◌∷◌ (wrap_small n z h.0) (unwrapped n zs h.1)

-- so no number of the text is changed by wrapping
pub numbers_unwrapped : (p : Program) (n : ℕ) → Sound p n → map (λ z. wrap n (pos z)) (program_numbers p) ≡ map pos (program_numbers p)
numbers_unwrapped p n s = unwrapped n (program_numbers p) (numbers_small p n s)
