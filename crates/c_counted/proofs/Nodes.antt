-- The largest statement of a command below its root has as many nodes as are counted.
use Rattle.std.proofs.Common.{◌≡◌, refl, ap, ap₂, ◌∙◌, ℕ, zero, suc, ◌+◌, ◌-◌, ◌^◌, ◌≤◌, max, nat_lt, pos, Bool, true, false, List, [], ◌∷◌, ◌++◌, Option, Some, None, arith, if◌then◌else◌}
use Rattle.std.specs.List.{list_any}
use Rattle.ir_run.specs.Node.{Const, Cell}
use Rattle.ir_run.specs.Entry.{Entry, Branch, Mark, Halt}
use Rattle.ir_core.specs.declared.relation.Rel.TheVariants as rel
use Rattle.c_tree.specs.Program.{Term, Terms, Number, Scalar, Element, Input, Call, Unary, Shifted, Arithmetic, Compare, Not, AndAlso, OrElse, NoMore, More, Command, Skip, Seq, Turn, Set, Store, Change, Print, Take, Invoke, If, IfElse, While, Do, For, Break, Continue, Return, Function, Program}
use Rattle.c_tree.specs.Code.{Aim, Value, When, Unless, side, is_value, one_if, Layout, Piece, used, scalar_read, is_saved, cell_of, is_below_length, passed, frame_of, piece, passing}
use Rattle.c_tree.specs.Lowered.{Leaving, Halts, Returns, leave, leave_with, Ends, statements, condition_steps, return_steps, main_steps, frames, other_steps, goes_to, trap_label, all_steps, trap_steps, program_entries}
use Rattle.ir_run.specs.Size.{nodes, nodes_of_all, trees_of, most_nodes}
use Rattle.c_counted.specs.Counted.{left, with_use, largest, arguments_largest, condition_largest, return_largest, command_largest}
use Rattle.c_counted.specs.Total.{main_largest, functions_largest, program_largest}
use Rattle.c_counted.proofs.Calls.{halts}

-- the nodes of a statement below its root
abbrev below : Entry → ℕ
below e = nodes_of_all (trees_of e)

most_append : (es fs : List Entry) → most_nodes (es ++ fs) ≡ max (most_nodes es) (most_nodes fs)
most_append [] fs = omega arith
most_append (e ∷ es) fs = let rest = most_append es fs in omega (arith, rest)

-- ---- terms

used_most : (aim : Aim) (p : Piece) → most_nodes (used aim p).steps ≡ with_use (is_value (side aim)) (most_nodes p.steps) (nodes p.tree)
used_most Value p = refl
used_most (When label) p = simp most_append (omega arith)
used_most (Unless label) p = simp most_append (omega arith)

-- the same where both numbers are known
used_is : (aim : Aim) (p : Piece) (steps tree : ℕ) → most_nodes p.steps ≡ steps → nodes p.tree ≡ tree → most_nodes (used aim p).steps ≡ with_use (is_value (side aim)) steps tree
used_is aim p steps tree a b = used_most aim p ∙ ap₂ (with_use (is_value (side aim))) a b

read_most : (saved : Bool) (k x : ℕ) → most_nodes (scalar_read saved k x).steps ≡ one_if saved
read_most true k x = refl
read_most false k x = refl

read_left : (saved : Bool) (k x : ℕ) → nodes (scalar_read saved k x).tree ≡ 1
read_left true k x = refl
read_left false k x = refl

test_nodes : (t : Layout) (n s : ℕ) → below (is_below_length t n s) ≡ 2
test_nodes t n s = by (nat_lt n (2 ^ (t.bits - 1)))
  where
    by : (b : Bool) → below (if b then Branch rel.Ge (Cell s) (Const (pos n)) t.trap else Branch rel.Lt (Cell s) (Const (pos 0)) t.trap) ≡ 2
    by true = refl
    by false = refl

passed_some : (s : ℕ) (ss : List ℕ) (k : ℕ) → most_nodes (passed k (s ∷ ss)) ≡ 1
passed_some s [] k = refl
passed_some s (r ∷ ss) k = let rest = passed_some r ss (k + 1) in omega (arith, rest)

passed_most : (ss : List ℕ) (k : ℕ) → most_nodes (passed k ss) ≤ 1
passed_most [] k = omega arith
passed_most (s ∷ ss) k = let rest = passed_some s ss k in omega (arith, rest)

-- the tree that is left of a value
left_nodes : (e : Term) (t : Layout) (k l : ℕ) (later : Bool) → nodes (piece t k l later Value e).tree ≡ left e
left_nodes (Number z) t k l later = refl
left_nodes (Scalar p) t k l later = read_left (is_saved later p) k (cell_of t p)
left_nodes (Element p n i) t k l later = refl
left_nodes Input t k l later = refl
left_nodes (Call f xs) t k l later = refl
left_nodes (Unary op x) t k l later = ap (λ m. 1 + m) (left_nodes x t k l later)
left_nodes (Shifted op x zero) t k l later = left_nodes x t k l later
left_nodes (Shifted op x (suc j)) t k l later = ap (λ m. 1 + m) (left_nodes x t k l later)
left_nodes (Arithmetic op x y) t k l later = simp (left_nodes x, left_nodes y) refl
left_nodes (Compare r x y) t k l later = refl
left_nodes (Not x) t k l later = refl
left_nodes (AndAlso x y) t k l later = refl
left_nodes (OrElse x y) t k l later = refl

some_left : (e : Term) → 1 ≤ left e
some_left (Number z) = omega arith
some_left (Scalar p) = omega arith
some_left (Element p n i) = omega arith
some_left Input = omega arith
some_left (Call f xs) = omega arith
some_left (Unary op x) = omega arith
some_left (Shifted op x zero) = some_left x
some_left (Shifted op x (suc j)) = omega arith
some_left (Arithmetic op x y) = omega arith
some_left (Compare r x y) = omega arith
some_left (Not x) = omega arith
some_left (AndAlso x y) = omega arith
some_left (OrElse x y) = omega arith

-- a condition has a statement with a tree
some_largest : (e : Term) (later : Bool) → 1 ≤ largest later false e
some_largest (Number z) later = omega arith
some_largest (Scalar p) later = omega arith
some_largest (Element p n i) later = omega arith
some_largest Input later = omega arith
some_largest (Call f xs) later = omega arith
some_largest (Unary op x) later = omega arith
some_largest (Shifted op x j) later = omega arith
some_largest (Arithmetic op x y) later = omega arith
some_largest (Compare r x y) later = omega (arith, some_left x)
some_largest (Not x) later = some_largest x later
some_largest (AndAlso x y) later = omega (arith, some_largest y later)
some_largest (OrElse x y) later = omega (arith, some_largest y later)

mutual
  term_most : (e : Term) (t : Layout) (k l : ℕ) (later : Bool) (aim : Aim) → most_nodes (piece t k l later aim e).steps ≡ largest later (is_value (side aim)) e
  term_most (Number z) t k l later aim = used_most aim _
  term_most (Scalar p) t k l later aim = used_is aim _ _ _ (read_most (is_saved later p) k (cell_of t p)) (read_left (is_saved later p) k (cell_of t p))
  term_most (Element p n i) t k l later aim = used_is aim _ _ _ (simp (most_append, term_most i, test_nodes, left_nodes i) (omega arith)) refl
  term_most Input t k l later aim = used_most aim _
  term_most (Call f xs) t k l later aim =
      used_is aim _ _ _ (simp (most_append, arguments_most xs) (omega (arith, passed_most (passing t k l later xs).values (frame_of t f).first))) refl
  term_most (Unary op x) t k l later aim = used_is aim _ _ _ (term_most x t k l later Value) (ap (λ m. 1 + m) (left_nodes x t k l later))
  term_most (Shifted op x j) t k l later aim = used_is aim _ _ _ (term_most x t k l later Value) (left_nodes (Shifted op x j) t k l later)
  term_most (Arithmetic op x y) t k l later aim =
      used_is aim _ _ _ (simp (most_append, term_most x, term_most y) refl) (left_nodes (Arithmetic op x y) t k l later)
  term_most (Compare r x y) t k l later Value = simp (most_append, term_most x, term_most y, left_nodes x, left_nodes y) (omega (arith, some_left x))
  term_most (Compare r x y) t k l later (When label) = simp (most_append, term_most x, term_most y, left_nodes x, left_nodes y) (omega arith)
  term_most (Compare r x y) t k l later (Unless label) = simp (most_append, term_most x, term_most y, left_nodes x, left_nodes y) (omega arith)
  term_most (Not x) t k l later Value = simp (most_append, term_most x) (omega (arith, some_largest x later))
  term_most (Not x) t k l later (When label) = term_most x t k l later (Unless label)
  term_most (Not x) t k l later (Unless label) = term_most x t k l later (When label)
  term_most (AndAlso x y) t k l later Value = simp (most_append, term_most x, term_most y) (omega (arith, some_largest y later))
  term_most (AndAlso x y) t k l later (When label) = simp (most_append, term_most x, term_most y) (omega arith)
  term_most (AndAlso x y) t k l later (Unless label) = simp (most_append, term_most x, term_most y) (omega arith)
  term_most (OrElse x y) t k l later Value = simp (most_append, term_most x, term_most y) (omega (arith, some_largest y later))
  term_most (OrElse x y) t k l later (When label) = simp (most_append, term_most x, term_most y) (omega arith)
  term_most (OrElse x y) t k l later (Unless label) = simp (most_append, term_most x, term_most y) (omega arith)

  arguments_most : (xs : Terms) (t : Layout) (k l : ℕ) (later : Bool) → most_nodes (passing t k l later xs).steps ≡ arguments_largest later xs
  arguments_most NoMore t k l later = refl
  arguments_most (More x xs) t k l later = simp (most_append, term_most x, arguments_most xs, left_nodes x) (omega arith)

-- ---- commands

leave_most : (leaving : Leaving) → most_nodes (leave leaving) ≡ 0
leave_most Halts = refl
leave_most (Returns result ret) = refl

return_most : (e : Option Term) (t : Layout) (leaving : Leaving) (k l : ℕ) → most_nodes (return_steps t leaving k l e) ≡ return_largest (halts leaving) e
return_most None t leaving k l = leave_most leaving
return_most (Some e) t Halts k l = simp (most_append, term_most e) (omega arith)
return_most (Some e) t (Returns result ret) k l = simp (most_append, term_most e, left_nodes e) (omega arith)

condition_most : (e : Option Term) (t : Layout) (k l label : ℕ) → most_nodes (condition_steps t k l (Unless label) e) ≡ condition_largest e
condition_most None t k l label = refl
condition_most (Some e) t k l label = term_most e t k l false (Unless label)

command_most : (c : Command) (t : Layout) (leaving : Leaving) (ends : Ends) (k l : ℕ) → most_nodes (statements t leaving ends k l c) ≡ command_largest (halts leaving) c
command_most Skip t leaving ends k l = refl
command_most (Seq x y) t leaving ends k l = simp (most_append, command_most x, command_most y) (omega arith)
command_most (Turn x) t leaving ends k l = command_most x t leaving ends k l
command_most (Set p e) t leaving ends k l = simp (most_append, term_most e, left_nodes e) (omega arith)
command_most (Store p n i e) t leaving ends k l = simp (most_append, term_most i, term_most e, left_nodes i, left_nodes e, test_nodes) (omega arith)
command_most (Change p n i op e) t leaving ends k l = simp (most_append, term_most i, term_most e, left_nodes i, left_nodes e, test_nodes) (omega arith)
command_most (Print e) t leaving ends k l = simp (most_append, term_most e, left_nodes e) (omega arith)
command_most Take t leaving ends k l = refl
command_most (Invoke f xs) t leaving ends k l =
    simp (most_append, arguments_most xs) (omega (arith, passed_most (passing t k l false xs).values (frame_of t f).first))
command_most (If e x) t leaving ends k l = simp (most_append, term_most e, command_most x) (omega arith)
command_most (IfElse e x y) t leaving ends k l = simp (most_append, term_most e, command_most x, command_most y) (omega arith)
command_most (While e x) t leaving ends k l = simp (most_append, term_most e, command_most x) (omega arith)
command_most (Do x e) t leaving ends k l = simp (most_append, term_most e, command_most x) (omega arith)
command_most (For e step x) t leaving ends k l = simp (most_append, condition_most e, command_most step, command_most x) (omega arith)
command_most Break t leaving ends k l = refl
command_most Continue t leaving ends k l = refl
command_most (Return e) t leaving ends k l = return_most e t leaving k l

-- ---- programs

-- the end of a function's body, where the value of `main` is dropped
end_most : (returns gives : Bool) (result ret : ℕ) → most_nodes (if returns then [] else if gives then leave_with (Returns result ret) (Const (pos 0)) else leave (Returns result ret)) ≡ (if returns then 0 else one_if gives)
end_most true gives result ret = refl
end_most false true result ret = refl
end_most false false result ret = refl

main_end_most : (returns gives : Bool) → most_nodes (if returns then [] else if gives then leave_with Halts (Const (pos 0)) else leave Halts) ≡ 0
main_end_most true gives = refl
main_end_most false true = refl
main_end_most false false = refl

main_most : (p : Program) (n : ℕ) (f : Option Function) → most_nodes (main_steps p n f) ≡ main_largest f
main_most p n None = refl
main_most p n (Some f) = simp (most_append, command_most f.body, main_end_most f.returns f.gives) (omega arith)

others_most : (p : Program) (n : ℕ) (fs : List Function) (cell label : ℕ) → most_nodes (other_steps p n fs (frames cell label fs)) ≡ functions_largest fs
others_most p n [] cell label = refl
others_most p n (f ∷ fs) cell label = simp (most_append, command_most f.body, end_most f.returns f.gives, others_most p n fs) (omega arith)

trap_most : (p : Program) (n : ℕ) → most_nodes (trap_steps p n) ≡ 0
trap_most p n = by (list_any (goes_to (trap_label p)) (all_steps p n))
  where
    by : (b : Bool) → most_nodes (if b then Mark (trap_label p) ∷ Halt 1 ∷ [] else []) ≡ 0
    by true = refl
    by false = refl

-- the largest statement of a program has as many nodes as are counted
pub largest_is_counted : (p : Program) (n : ℕ) → most_nodes (program_entries p n) ≡ program_largest p
largest_is_counted p n = simp (most_append, main_most, others_most, trap_most) (omega arith)
