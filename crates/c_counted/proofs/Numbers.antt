-- The constants in the statements of a command, a function and a program, by weights.
use Rattle.std.proofs.Common.{◌≡◌, refl, ℕ, ℤ, pos, Bool, true, false, List, [], Option, Some, None, arith, if◌then◌else◌}
use Rattle.ir_core.specs.Operator.{wrap}
use Rattle.ir_run.specs.Node.{Const}
use Rattle.c_lowered.specs.Sound.{World, IsArray, SoundOption, FitsReturn, SoundCommand, SoundFunction}
use Rattle.c_tree.specs.declared.meaning.Place.{Place}
use Rattle.c_tree.specs.Program.{Term, Command, Skip, Seq, Turn, Set, Store, Change, Print, Take, Invoke, If, IfElse, While, Do, For, Break, Continue, Return, Function}
use Rattle.c_tree.specs.Code.{Unless, Layout}
use Rattle.c_tree.specs.Lowered.{Leaving, Halts, Returns, leave, leave_with, Ends, statements, condition_steps, return_steps, function_steps}
use Rattle.c_counted.specs.Counted.{condition_numbers, return_numbers, command_numbers}
use Rattle.c_counted.proofs.Calls.{halts}
use Rattle.c_counted.proofs.Weights.{greatest, greatest_append, worth, weigh, weigh_append, both, test_weight, passed_weight, tree_weight, term_weight, arguments_weight}

-- ---- commands

module _ (w : ℤ → ℕ) (t : Layout) (zero_light : w (pos 0) ≡ 0) (one_light : w (pos 1) ≡ 0) (at : World) (arrays : (p : Place) (n : ℕ) → IsArray at p n → w (wrap t.bits (pos n)) ≡ 0) where
  -- the weight of the heaviest of these numbers
  abbrev heaviest : List ℕ → ℕ
  heaviest zs = greatest (worth w t.bits) zs

  leave_weight : (leaving : Leaving) → weigh w (leave leaving) ≡ 0
  leave_weight Halts = refl
  leave_weight (Returns result ret) = refl

  return_weight : (e : Option Term) (s : FitsReturn at e) (leaving : Leaving) (k l : ℕ) → weigh w (return_steps t leaving k l e) ≡ heaviest (return_numbers (halts leaving) e)
  return_weight None s leaving k l = leave_weight leaving
  return_weight (Some e) s Halts k l = simp (weigh_append, term_weight w t zero_light one_light at arrays e s.1) (omega arith)
  return_weight (Some e) s (Returns result ret) k l =
      simp (weigh_append, term_weight w t zero_light one_light at arrays e s.1, tree_weight w t zero_light one_light e)
      (omega (arith, both (worth w t.bits) e))

  condition_weight : (e : Option Term) (s : SoundOption at e) (k l label : ℕ) → weigh w (condition_steps t k l (Unless label) e) ≡ heaviest (condition_numbers e)
  condition_weight None s k l label = refl
  condition_weight (Some e) s k l label = term_weight w t zero_light one_light at arrays e s k l false (Unless label)

  pub command_weight : (c : Command) (paid looped : Bool) (s : SoundCommand at paid looped c) (leaving : Leaving) (ends : Ends) (k l : ℕ) → weigh w (statements t leaving ends k l c) ≡ heaviest (command_numbers (halts leaving) c)
  command_weight Skip paid looped s leaving ends k l = refl
  command_weight (Seq x y) paid looped s leaving ends k l =
      simp (weigh_append, greatest_append, command_weight x paid looped s.0, command_weight y paid looped s.1) refl
  command_weight (Turn x) paid looped s leaving ends k l = command_weight x true looped s leaving ends k l
  command_weight (Set p e) paid looped s leaving ends k l =
      simp (weigh_append, term_weight w t zero_light one_light at arrays e s.2, tree_weight w t zero_light one_light e)
      (omega (arith, both (worth w t.bits) e))
  command_weight (Store p n i e) paid looped s leaving ends k l =
      simp (weigh_append, greatest_append, term_weight w t zero_light one_light at arrays i s.2, term_weight w t zero_light one_light at arrays e s.3, tree_weight w t zero_light one_light i, tree_weight w t zero_light one_light e, test_weight w t zero_light one_light n (arrays p n s.1))
      (omega (arith, zero_light, both (worth w t.bits) i, both (worth w t.bits) e))
  command_weight (Change p n i op e) paid looped s leaving ends k l =
      simp (weigh_append, greatest_append, term_weight w t zero_light one_light at arrays i s.2, term_weight w t zero_light one_light at arrays e s.3, tree_weight w t zero_light one_light i, tree_weight w t zero_light one_light e, test_weight w t zero_light one_light n (arrays p n s.1))
      (omega (arith, zero_light, both (worth w t.bits) i, both (worth w t.bits) e))
  command_weight (Print e) paid looped s leaving ends k l =
      simp (weigh_append, term_weight w t zero_light one_light at arrays e s.1, tree_weight w t zero_light one_light e)
      (omega (arith, both (worth w t.bits) e))
  command_weight Take paid looped s leaving ends k l = refl
  command_weight (Invoke f xs) paid looped s leaving ends k l =
      simp (weigh_append, arguments_weight w t zero_light one_light at arrays xs s.2, passed_weight w t zero_light one_light) (omega arith)
  command_weight (If e x) paid looped s leaving ends k l =
      simp (weigh_append, greatest_append, term_weight w t zero_light one_light at arrays e s.1, command_weight x true looped s.2) (omega arith)
  command_weight (IfElse e x y) paid looped s leaving ends k l =
      simp (weigh_append, greatest_append, term_weight w t zero_light one_light at arrays e s.1, command_weight x true looped s.2, command_weight y true looped s.3)
      (omega arith)
  command_weight (While e x) paid looped s leaving ends k l =
      simp (weigh_append, greatest_append, term_weight w t zero_light one_light at arrays e s.1, command_weight x true true s.2) (omega arith)
  command_weight (Do x e) paid looped s leaving ends k l =
      simp (weigh_append, greatest_append, term_weight w t zero_light one_light at arrays e s.1, command_weight x true true s.2) (omega arith)
  command_weight (For e step x) paid looped s leaving ends k l =
      simp (weigh_append, greatest_append, condition_weight e s.1, command_weight step true false s.2, command_weight x true true s.3) (omega arith)
  command_weight Break paid looped s leaving ends k l = refl
  command_weight Continue paid looped s leaving ends k l = refl
  command_weight (Return e) paid looped s leaving ends k l = return_weight e s.1 leaving k l

  -- ---- functions

  end_weight : (returns gives : Bool) (leaving : Leaving) → weigh w (if returns then [] else if gives then leave_with leaving (Const (pos 0)) else leave leaving) ≡ 0
  end_weight true gives leaving = refl
  end_weight false true Halts = refl
  end_weight false true (Returns result ret) = omega (arith, zero_light)
  end_weight false false leaving = leave_weight leaving

  pub function_weight : (f : Function) (s : SoundFunction at f) (leaving : Leaving) (k label : ℕ) → weigh w (function_steps t leaving f k label) ≡ heaviest (command_numbers (halts leaving) f.body)
  function_weight f s leaving k label =
      simp (weigh_append, command_weight f.body false false s.body, end_weight f.returns f.gives leaving) (omega arith)
