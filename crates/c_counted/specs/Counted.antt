-- What is counted of a term's and a command's statements, by recursion on the terms and commands alone.
use Rattle.std.specs.Prelude.{ℕ, zero, suc, ◌+◌, max, Bool, true, false, ◌||◌, List, [], ◌∷◌, ◌++◌, Option, Some, None}
use Rattle.c_tree.specs.Program.{Term, Terms, Number, Scalar, Element, Input, Call, Unary, Shifted, Arithmetic, Compare, Not, AndAlso, OrElse, NoMore, More, Command, Skip, Seq, Turn, Set, Store, Change, Print, Take, Invoke, If, IfElse, While, Do, For, Break, Continue, Return}
use Rattle.c_tree.specs.Code.{has_call, have_call, is_saved, one_if}

-- ---- nodes

-- a shift by 0 has no node
abbrev pub shifted_nodes : (by : ℕ) → ℕ → ℕ
shifted_nodes zero nodes = nodes
shifted_nodes (suc k) nodes = 1 + nodes

-- the nodes of the tree that is left of a value: a cell, unless operators or a number stand at its root
abbrev pub left : Term → ℕ
left (Number z) = 1
left (Scalar p) = 1
left (Element p n i) = 1
left Input = 1
left (Call f xs) = 1
left (Unary op x) = 1 + left x
left (Shifted op x k) = shifted_nodes k (left x)
left (Arithmetic op x y) = 1 + left x + left y
left (Compare r x y) = 1
left (Not x) = 1
left (AndAlso x y) = 1
left (OrElse x y) = 1

-- a value that is used as a condition is compared with 0
abbrev pub with_use : (valued : Bool) → (steps tree : ℕ) → ℕ
with_use true steps tree = steps
with_use false steps tree = max steps (tree + 1)

-- The nodes below the root of the largest statement among a term's steps. `later` tells that a call begins further right in the full expression,
-- `valued` that the value is used otherwise than as a condition.
abbrev mutual
  pub largest : (later valued : Bool) → Term → ℕ
  largest later valued (Number z) = with_use valued 0 1
  largest later valued (Scalar p) = with_use valued (one_if (is_saved later p)) 1
  largest later valued (Element p n i) = with_use valued (max (max (largest later true i) (left i)) 4) 1
  largest later valued Input = with_use valued 1 1
  largest later valued (Call f xs) = with_use valued (max (arguments_largest later xs) 1) 1
  largest later valued (Unary op x) = with_use valued (largest later true x) (1 + left x)
  largest later valued (Shifted op x k) = with_use valued (largest later true x) (shifted_nodes k (left x))
  largest later valued (Arithmetic op x y) =
      with_use valued (max (largest (later || has_call y) true x) (largest later true y)) (1 + left x + left y)
  largest later valued (Compare r x y) = max (max (largest (later || has_call y) true x) (largest later true y)) (left x + left y)
  largest later valued (Not x) = largest later false x
  largest later valued (AndAlso x y) = max (largest (later || has_call y) false x) (largest later false y)
  largest later valued (OrElse x y) = max (largest (later || has_call y) false x) (largest later false y)

  pub arguments_largest : (later : Bool) → Terms → ℕ
  arguments_largest later NoMore = 0
  arguments_largest later (More x xs) = max (max (largest (later || have_call xs) true x) (left x)) (arguments_largest later xs)

-- the steps of a value, and a statement with its tree and so many other nodes
abbrev pub with_nodes : (others : ℕ) → Term → ℕ
with_nodes others e = max (largest false true e) (others + left e)

-- a condition that may be absent
abbrev pub condition_largest : Option Term → ℕ
condition_largest None = 0
condition_largest (Some e) = largest false false e

-- what `return` in `main` gives is dropped
abbrev pub return_largest : (in_main : Bool) → Option Term → ℕ
return_largest in_main None = 0
return_largest true (Some e) = largest false true e
return_largest false (Some e) = with_nodes 0 e

-- the same of a command, in `main` or another function; an element's address has three nodes, and its load four
abbrev pub command_largest : (in_main : Bool) → Command → ℕ
command_largest in_main Skip = 0
command_largest in_main (Seq x y) = max (command_largest in_main x) (command_largest in_main y)
command_largest in_main (Turn x) = command_largest in_main x
command_largest in_main (Set p e) = with_nodes 0 e
command_largest in_main (Store p n i e) = max (with_nodes 0 i) (with_nodes 3 e)
command_largest in_main (Change p n i op e) = max (with_nodes 0 i) (with_nodes 5 e)
command_largest in_main (Print e) = with_nodes 0 e
command_largest in_main Take = 1
command_largest in_main (Invoke f xs) = max (arguments_largest false xs) 1
command_largest in_main (If e x) = max (largest false false e) (command_largest in_main x)
command_largest in_main (IfElse e x y) = max (largest false false e) (max (command_largest in_main x) (command_largest in_main y))
command_largest in_main (While e x) = max (largest false false e) (command_largest in_main x)
command_largest in_main (Do x e) = max (largest false false e) (command_largest in_main x)
command_largest in_main (For e step x) = max (condition_largest e) (max (command_largest in_main x) (command_largest in_main step))
command_largest in_main Break = 0
command_largest in_main Continue = 0
command_largest in_main (Return e) = return_largest in_main e

-- ---- numbers

-- the numbers of a term's text
abbrev mutual
  pub numbers : Term → List ℕ
  numbers (Number z) = z ∷ []
  numbers (Scalar p) = []
  numbers (Element p n i) = numbers i
  numbers Input = []
  numbers (Call f xs) = arguments_numbers xs
  numbers (Unary op x) = numbers x
  numbers (Shifted op x k) = numbers x
  numbers (Arithmetic op x y) = numbers x ++ numbers y
  numbers (Compare r x y) = numbers x ++ numbers y
  numbers (Not x) = numbers x
  numbers (AndAlso x y) = numbers x ++ numbers y
  numbers (OrElse x y) = numbers x ++ numbers y

  pub arguments_numbers : Terms → List ℕ
  arguments_numbers NoMore = []
  arguments_numbers (More x xs) = numbers x ++ arguments_numbers xs

-- those of them that stand in the steps of its value, whatever is done with the tree that is left
abbrev pub step_numbers : Term → List ℕ
step_numbers (Number z) = []
step_numbers (Scalar p) = []
step_numbers (Element p n i) = numbers i
step_numbers Input = []
step_numbers (Call f xs) = arguments_numbers xs
step_numbers (Unary op x) = step_numbers x
step_numbers (Shifted op x k) = step_numbers x
step_numbers (Arithmetic op x y) = step_numbers x ++ step_numbers y
step_numbers (Compare r x y) = numbers x ++ numbers y
step_numbers (Not x) = numbers x
step_numbers (AndAlso x y) = numbers x ++ numbers y
step_numbers (OrElse x y) = numbers x ++ numbers y

abbrev pub condition_numbers : Option Term → List ℕ
condition_numbers None = []
condition_numbers (Some e) = numbers e

abbrev pub return_numbers : (in_main : Bool) → Option Term → List ℕ
return_numbers in_main None = []
return_numbers true (Some e) = step_numbers e
return_numbers false (Some e) = numbers e

-- the numbers in a command's statements
abbrev pub command_numbers : (in_main : Bool) → Command → List ℕ
command_numbers in_main Skip = []
command_numbers in_main (Seq x y) = command_numbers in_main x ++ command_numbers in_main y
command_numbers in_main (Turn x) = command_numbers in_main x
command_numbers in_main (Set p e) = numbers e
command_numbers in_main (Store p n i e) = numbers i ++ numbers e
command_numbers in_main (Change p n i op e) = numbers i ++ numbers e
command_numbers in_main (Print e) = numbers e
command_numbers in_main Take = []
command_numbers in_main (Invoke f xs) = arguments_numbers xs
command_numbers in_main (If e x) = numbers e ++ command_numbers in_main x
command_numbers in_main (IfElse e x y) = numbers e ++ command_numbers in_main x ++ command_numbers in_main y
command_numbers in_main (While e x) = numbers e ++ command_numbers in_main x
command_numbers in_main (Do x e) = command_numbers in_main x ++ numbers e
command_numbers in_main (For e step x) = condition_numbers e ++ command_numbers in_main x ++ command_numbers in_main step
command_numbers in_main Break = []
command_numbers in_main Continue = []
command_numbers in_main (Return e) = return_numbers in_main e

-- ---- calls

-- how many calls of functions stand in a term
abbrev mutual
  pub calls : Term → ℕ
  calls (Number z) = 0
  calls (Scalar p) = 0
  calls (Element p n i) = calls i
  calls Input = 0
  calls (Call f xs) = arguments_calls xs + 1
  calls (Unary op x) = calls x
  calls (Shifted op x k) = calls x
  calls (Arithmetic op x y) = calls x + calls y
  calls (Compare r x y) = calls x + calls y
  calls (Not x) = calls x
  calls (AndAlso x y) = calls x + calls y
  calls (OrElse x y) = calls x + calls y

  pub arguments_calls : Terms → ℕ
  arguments_calls NoMore = 0
  arguments_calls (More x xs) = calls x + arguments_calls xs

abbrev pub option_calls : Option Term → ℕ
option_calls None = 0
option_calls (Some e) = calls e

-- how many in a command
abbrev pub command_calls : Command → ℕ
command_calls Skip = 0
command_calls (Seq x y) = command_calls x + command_calls y
command_calls (Turn x) = command_calls x
command_calls (Set p e) = calls e
command_calls (Store p n i e) = calls i + calls e
command_calls (Change p n i op e) = calls i + calls e
command_calls (Print e) = calls e
command_calls Take = 0
command_calls (Invoke f xs) = arguments_calls xs + 1
command_calls (If e x) = calls e + command_calls x
command_calls (IfElse e x y) = calls e + command_calls x + command_calls y
command_calls (While e x) = calls e + command_calls x
command_calls (Do x e) = command_calls x + calls e
command_calls (For e step x) = option_calls e + command_calls x + command_calls step
command_calls Break = 0
command_calls Continue = 0
command_calls (Return e) = option_calls e
