-- The statements of a command have one return label for each call in it.
use Rattle.std.proofs.Common.{◌≡◌, refl, ◌∙◌, ℕ, zero, suc, ◌+◌, ◌-◌, ◌^◌, nat_lt, pos, Bool, true, false, List, [], ◌∷◌, ◌++◌, length, Option, Some, None, arith, if◌then◌else◌}
use Rattle.std.specs.Prelude.{flat_map}
use Rattle.std.specs.List.{list_any}
use Rattle.std.proofs.lemmas.List.{length-append}
use Rattle.ir_run.specs.Node.{Const, Cell}
use Rattle.ir_run.specs.Entry.{Entry, Branch, Mark, Halt}
use Rattle.ir_run.specs.Entry as entry
use Rattle.ir_core.specs.declared.relation.Rel.TheVariants as rel
use Rattle.c_tree.specs.Program.{Term, Terms, Number, Scalar, Element, Input, Call, Unary, Shifted, Arithmetic, Compare, Not, AndAlso, OrElse, NoMore, More, Command, Skip, Seq, Turn, Set, Store, Change, Print, Take, Invoke, If, IfElse, While, Do, For, Break, Continue, Return, Function, Program}
use Rattle.c_tree.specs.Code.{Aim, Value, When, Unless, Layout, Piece, used, scalar_read, is_saved, cell_of, is_below_length, passed, piece, passing}
use Rattle.c_tree.specs.Lowered.{Leaving, Halts, Returns, leave, leave_with, Ends, statements, condition_steps, return_steps, end_steps, function_steps, main_steps, frames, other_steps, goes_to, trap_label, all_steps, trap_steps, program_entries, returned_label}
use Rattle.c_tree.specs.Lowered as lowered
use Rattle.c_counted.specs.Counted.{calls, arguments_calls, option_calls, command_calls}
use Rattle.c_counted.specs.Total.{main_calls, functions_calls, program_calls}

-- how many labels a statement puts into a cell
abbrev pub one : Entry → ℕ
one e = length (returned_label e)

abbrev pub labels : List Entry → ℕ
labels [] = 0
labels (e ∷ es) = one e + labels es

pub labels_are : (es : List Entry) → length (flat_map returned_label es) ≡ labels es
labels_are [] = refl
labels_are (e ∷ es) = let rest = labels_are es in let front = length-append (returned_label e) (flat_map returned_label es) in omega (arith, rest, front)

pub labels_append : (es fs : List Entry) → labels (es ++ fs) ≡ labels es + labels fs
labels_append [] fs = omega arith
labels_append (e ∷ es) fs = let rest = labels_append es fs in omega (arith, rest)

-- ---- terms

used_labels : (aim : Aim) (p : Piece) → labels (used aim p).steps ≡ labels p.steps
used_labels Value p = refl
used_labels (When label) p = simp labels_append (omega arith)
used_labels (Unless label) p = simp labels_append (omega arith)

read_labels : (saved : Bool) (k x : ℕ) → labels (scalar_read saved k x).steps ≡ 0
read_labels true k x = refl
read_labels false k x = refl

test_label : (t : Layout) (n s : ℕ) → one (is_below_length t n s) ≡ 0
test_label t n s = by (nat_lt n (2 ^ (t.bits - 1)))
  where
    by : (b : Bool) → one (if b then Branch rel.Ge (Cell s) (Const (pos n)) t.trap else Branch rel.Lt (Cell s) (Const (pos 0)) t.trap) ≡ 0
    by true = refl
    by false = refl

passed_labels : (ss : List ℕ) (k : ℕ) → labels (passed k ss) ≡ 0
passed_labels [] k = refl
passed_labels (s ∷ ss) k = let rest = passed_labels ss (k + 1) in omega (arith, rest)

read_plain : (saved : Bool) (k x s : ℕ) → one (entry.Set s (scalar_read saved k x).tree) ≡ 0
read_plain true k x s = refl
read_plain false k x s = refl

-- no tree that is left of a value is a label
plain : (e : Term) (t : Layout) (k l : ℕ) (later : Bool) (s : ℕ) → one (entry.Set s (piece t k l later Value e).tree) ≡ 0
plain (Number z) t k l later s = refl
plain (Scalar p) t k l later s = read_plain (is_saved later p) k (cell_of t p) s
plain (Element p n i) t k l later s = refl
plain Input t k l later s = refl
plain (Call f xs) t k l later s = refl
plain (Unary op x) t k l later s = refl
plain (Shifted op x zero) t k l later s = plain x t k l later s
plain (Shifted op x (suc j)) t k l later s = refl
plain (Arithmetic op x y) t k l later s = refl
plain (Compare r x y) t k l later s = refl
plain (Not x) t k l later s = refl
plain (AndAlso x y) t k l later s = refl
plain (OrElse x y) t k l later s = refl

mutual
  pub term_labels : (e : Term) (t : Layout) (k l : ℕ) (later : Bool) (aim : Aim) → labels (piece t k l later aim e).steps ≡ calls e
  term_labels (Number z) t k l later aim = used_labels aim _
  term_labels (Scalar p) t k l later aim = used_labels aim _ ∙ read_labels (is_saved later p) k (cell_of t p)
  term_labels (Element p n i) t k l later aim = used_labels aim _ ∙ simp (labels_append, term_labels i, test_label, plain i) (omega arith)
  term_labels Input t k l later aim = used_labels aim _
  term_labels (Call f xs) t k l later aim = used_labels aim _ ∙ simp (labels_append, arguments_labels xs, passed_labels) (omega arith)
  term_labels (Unary op x) t k l later aim = used_labels aim _ ∙ term_labels x t k l later Value
  term_labels (Shifted op x j) t k l later aim = used_labels aim _ ∙ term_labels x t k l later Value
  term_labels (Arithmetic op x y) t k l later aim = used_labels aim _ ∙ simp (labels_append, term_labels x, term_labels y) (omega arith)
  term_labels (Compare r x y) t k l later Value = simp (labels_append, term_labels x, term_labels y) (omega arith)
  term_labels (Compare r x y) t k l later (When label) = simp (labels_append, term_labels x, term_labels y) (omega arith)
  term_labels (Compare r x y) t k l later (Unless label) = simp (labels_append, term_labels x, term_labels y) (omega arith)
  term_labels (Not x) t k l later Value = simp (labels_append, term_labels x) (omega arith)
  term_labels (Not x) t k l later (When label) = term_labels x t k l later (Unless label)
  term_labels (Not x) t k l later (Unless label) = term_labels x t k l later (When label)
  term_labels (AndAlso x y) t k l later Value = simp (labels_append, term_labels x, term_labels y) (omega arith)
  term_labels (AndAlso x y) t k l later (When label) = simp (labels_append, term_labels x, term_labels y) (omega arith)
  term_labels (AndAlso x y) t k l later (Unless label) = simp (labels_append, term_labels x, term_labels y) (omega arith)
  term_labels (OrElse x y) t k l later Value = simp (labels_append, term_labels x, term_labels y) (omega arith)
  term_labels (OrElse x y) t k l later (When label) = simp (labels_append, term_labels x, term_labels y) (omega arith)
  term_labels (OrElse x y) t k l later (Unless label) = simp (labels_append, term_labels x, term_labels y) (omega arith)

  pub arguments_labels : (xs : Terms) (t : Layout) (k l : ℕ) (later : Bool) → labels (passing t k l later xs).steps ≡ arguments_calls xs
  arguments_labels NoMore t k l later = refl
  arguments_labels (More x xs) t k l later = simp (labels_append, term_labels x, arguments_labels xs, plain x) (omega arith)

-- ---- commands

-- the function is `main`
abbrev pub halts : Leaving → Bool
halts Halts = true
halts (Returns result ret) = false

leave_labels : (leaving : Leaving) → labels (leave leaving) ≡ 0
leave_labels Halts = refl
leave_labels (Returns result ret) = refl

return_labels : (e : Option Term) (t : Layout) (leaving : Leaving) (k l : ℕ) → labels (return_steps t leaving k l e) ≡ option_calls e
return_labels None t leaving k l = leave_labels leaving
return_labels (Some e) t Halts k l = simp (labels_append, term_labels e) (omega arith)
return_labels (Some e) t (Returns result ret) k l = simp (labels_append, term_labels e, plain e) (omega arith)

condition_labels : (e : Option Term) (t : Layout) (k l : ℕ) (aim : Aim) → labels (condition_steps t k l aim e) ≡ option_calls e
condition_labels None t k l aim = refl
condition_labels (Some e) t k l aim = term_labels e t k l false aim

-- a statement that puts a value into memory or out has no label of its own
command_labels : (c : Command) (t : Layout) (leaving : Leaving) (ends : Ends) (k l : ℕ) → labels (statements t leaving ends k l c) ≡ command_calls c
command_labels Skip t leaving ends k l = refl
command_labels (Seq x y) t leaving ends k l = simp (labels_append, command_labels x, command_labels y) (omega arith)
command_labels (Turn x) t leaving ends k l = command_labels x t leaving ends k l
command_labels (Set p e) t leaving ends k l = simp (labels_append, term_labels e, plain e) (omega arith)
command_labels (Store p n i e) t leaving ends k l = simp (labels_append, term_labels i, term_labels e, plain i, test_label) (omega arith)
command_labels (Change p n i op e) t leaving ends k l = simp (labels_append, term_labels i, term_labels e, plain i, test_label) (omega arith)
command_labels (Print e) t leaving ends k l = simp (labels_append, term_labels e) (omega arith)
command_labels Take t leaving ends k l = refl
command_labels (Invoke f xs) t leaving ends k l = simp (labels_append, arguments_labels xs, passed_labels) (omega arith)
command_labels (If e x) t leaving ends k l = simp (labels_append, term_labels e, command_labels x) (omega arith)
command_labels (IfElse e x y) t leaving ends k l = simp (labels_append, term_labels e, command_labels x, command_labels y) (omega arith)
command_labels (While e x) t leaving ends k l = simp (labels_append, term_labels e, command_labels x) (omega arith)
command_labels (Do x e) t leaving ends k l = simp (labels_append, term_labels e, command_labels x) (omega arith)
command_labels (For e step x) t leaving ends k l = simp (labels_append, condition_labels e, command_labels step, command_labels x) (omega arith)
command_labels Break t leaving ends k l = refl
command_labels Continue t leaving ends k l = refl
command_labels (Return e) t leaving ends k l = return_labels e t leaving k l

-- ---- programs

end_labels : (f : Function) (leaving : Leaving) → labels (end_steps f leaving) ≡ 0
end_labels f leaving = by f.returns f.gives leaving
  where
    by : (returns gives : Bool) (leaving : Leaving) → labels (if returns then [] else if gives then leave_with leaving (Const (pos 0)) else leave leaving) ≡ 0
    by true gives leaving = refl
    by false true Halts = refl
    by false true (Returns result ret) = refl
    by false false leaving = leave_labels leaving

function_labels : (f : Function) (t : Layout) (leaving : Leaving) (k label : ℕ) → labels (function_steps t leaving f k label) ≡ command_calls f.body
function_labels f t leaving k label = simp (labels_append, command_labels f.body, end_labels f) (omega arith)

main_labels : (p : Program) (n : ℕ) (f : Option Function) → labels (main_steps p n f) ≡ main_calls f
main_labels p n None = refl
main_labels p n (Some f) = function_labels f _ Halts _ 0

others_labels : (p : Program) (n : ℕ) (fs : List Function) (cell label : ℕ) → labels (other_steps p n fs (frames cell label fs)) ≡ functions_calls fs
others_labels p n [] cell label = refl
others_labels p n (f ∷ fs) cell label = simp (labels_append, command_labels f.body, end_labels f, others_labels p n fs) (omega arith)

trap_labels : (p : Program) (n : ℕ) → labels (trap_steps p n) ≡ 0
trap_labels p n = by (list_any (goes_to (trap_label p)) (all_steps p n))
  where
    by : (b : Bool) → labels (if b then Mark (trap_label p) ∷ Halt 1 ∷ [] else []) ≡ 0
    by true = refl
    by false = refl

-- the statements of a program have one return label for each call in it
pub calls_are_counted : (p : Program) (n : ℕ) → length (lowered.return_labels p n) ≡ program_calls p
calls_are_counted p n = labels_are (program_entries p n) ∙ simp (labels_append, main_labels, others_labels, trap_labels) (omega arith)
