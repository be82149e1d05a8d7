-- Labels are numbered from 0 in the order of their marks.
use Rattle.std.proofs.Common.{◌≡◌, refl, sym, ◌∙◌, ap, subst, ℕ, zero, suc, ◌+◌, List, [], ◌∷◌, ◌++◌, append_assoc, append-nil, arith, Bool, true, false, cond, pos, ◌||◌, Option, Some, None}
use Rattle.std.specs.Prelude.{flat_map, nat_lt, ◌^◌, ◌-◌}
use Rattle.std.specs.List.{range_with_len}
use Rattle.ir_run.specs.Node.{Node, Const, Cell, Label, In, Load, Binary}
use Rattle.ir_run.specs.Node as node
use Rattle.ir_core.specs.Operator.{wrap}
use Rattle.ir_core.specs.declared.relation.Rel.TheVariants as rel
use Rattle.ir_run.specs.Entry.{Entry, Branch, JumpCell, Jump, Mark, Halt}
use Rattle.ir_run.specs.Entry as entry
use Rattle.ir_core.specs.declared.relation.Rel.{Rel}
use Rattle.c_tree.specs.Program.{Term, Terms, Number, Scalar, Element, Input, Call, Unary, Shifted, Arithmetic, Compare, Not, AndAlso, OrElse, NoMore, More, Command, Skip, Seq, Turn, Set, Store, Change, Print, Take, Invoke, If, IfElse, While, Do, For, Break, Continue, Return, Program, Function, sizes}
use Rattle.c_tree.specs.Code.{Aim, Value, When, Unless, Side, AsValue, IfHolds, IfFails, side, other_side, condition_side, and_marks, or_marks, one_if, is_value, has_call, have_call, cells, argument_cells, marks, argument_marks, Frame, Layout, Piece, Passing, cell_of, used, in_cell, scalar_read, is_saved, element_address, is_below_length, index_steps, branch, negated, truth, both, one_of, passed, frame_of, jump_steps, call_steps, piece, passing, shifted_tree}
use Rattle.c_tree.specs.Lowered.{command_cells, command_marks, condition_cells, condition_marks, value_marks, Leaving, Halts, Returns, leave, leave_with, Ends, condition_steps, return_steps, statements, end_steps, function_steps, function_marks, frames, frame, program_frames, layout, trap_label, main_marks, marks_of_all, main_steps, other_steps, all_steps, program_entries, all_cells, main_cells, goes_to}
use Rattle.c_tree.specs.Meaning.{global_cells}
use Rattle.std.specs.List.{list_any}

-- the labels that are marked, in order
abbrev pub marks_of : Entry → List ℕ
marks_of (Mark l) = l ∷ []
marks_of _ = []

abbrev pub marked : List Entry → List ℕ
marked entries = flat_map marks_of entries

marked_append : (xs ys : List Entry) → marked (xs ++ ys) ≡ marked xs ++ marked ys
marked_append [] ys = refl
marked_append (x ∷ xs) ys = ap (λ zs. marks_of x ++ zs) (marked_append xs ys) ∙ sym (append_assoc (marks_of x) (marked xs) (marked ys))

-- these entries mark so many labels from l on
abbrev Marks : List Entry → ℕ → ℕ → Type 0
Marks entries l n = marked entries ≡ range_with_len l n

range_append : (l m n : ℕ) → range_with_len l m ++ range_with_len (l + m) n ≡ range_with_len l (m + n)
range_append l zero n = ap (λ k. range_with_len k n) (omega arith) ∙ ap (λ k. range_with_len l k) (omega arith)
range_append l (suc m) n =
    let e : l + suc m ≡ (l + 1) + m = omega arith in
    let f : suc (m + n) ≡ suc m + n = omega arith in
    ap (λ k. l ∷ (range_with_len (l + 1) m ++ range_with_len k n)) e ∙ ap (λ ks. l ∷ ks) (range_append (l + 1) m n) ∙ ap (λ k. range_with_len l k) f

-- one after the other
joined : (xs ys : List Entry) (l m n : ℕ) → Marks xs l m → Marks ys (l + m) n → Marks (xs ++ ys) l (m + n)
joined xs ys l m n a b = marked_append xs ys ∙ ap (λ ks. ks ++ marked ys) a ∙ ap (λ ks. range_with_len l m ++ ks) b ∙ range_append l m n

-- entries without marks behind others, and before them
behind : (xs ys : List Entry) (l m : ℕ) → marked ys ≡ [] → Marks xs l m → Marks (xs ++ ys) l m
behind xs ys l m none a = marked_append xs ys ∙ ap (λ ks. marked xs ++ ks) none ∙ append-nil (marked xs) ∙ a

-- the same number, written otherwise
renumbered : (xs : List Entry) (l m n : ℕ) → m ≡ n → Marks xs l m → Marks xs l n
renumbered xs l m n is a = subst (λ k. Marks xs l k) is a

relabeled : (xs : List Entry) (k l m : ℕ) → k ≡ l → Marks xs k m → Marks xs l m
relabeled xs k l m is a = subst (λ j. Marks xs j m) is a

one_mark : (l : ℕ) → Marks (Mark l ∷ []) l 1
one_mark l = refl

-- ---- expressions

used_marked : (aim : Aim) (p : Piece) (l m : ℕ) → Marks p.steps l m → Marks (used aim p).steps l m
used_marked Value p l m a = a
used_marked (When label) p l m a = behind p.steps (Branch _ p.tree _ label ∷ []) l m refl a
used_marked (Unless label) p l m a = behind p.steps (Branch _ p.tree _ label ∷ []) l m refl a

branch_marked : (aim : Aim) (r : Rel) (x y : Node) → marked (branch aim r x y) ≡ []
branch_marked Value r x y = refl
branch_marked (When label) r x y = refl
branch_marked (Unless label) r x y = refl

cond_marked : (b : Bool) (x y : Entry) → marked (x ∷ []) ≡ [] → marked (y ∷ []) ≡ [] → marked (cond b x y ∷ []) ≡ []
cond_marked true x y a b = a
cond_marked false x y a b = b

below_marked : (t : Layout) (n s : ℕ) → marked (is_below_length t n s ∷ []) ≡ []
below_marked t n s =
    cond_marked (nat_lt n (2 ^ (t.bits - 1))) (Branch rel.Ge (Cell s) (Const (pos n)) t.trap) (Branch rel.Lt (Cell s) (Const (pos 0)) t.trap) refl refl

index_marked : (t : Layout) (n : ℕ) (i : Piece) (s l m : ℕ) → Marks i.steps l m → Marks (index_steps t n i s) l m
index_marked t n i s l m a = behind i.steps (entry.Set s i.tree ∷ Branch rel.Lt (Cell s) (Const (pos 0)) t.trap ∷ is_below_length t n s ∷ []) l m (below_marked t n s) a

scalar_marked : (b : Bool) (k x : ℕ) → marked (scalar_read b k x).steps ≡ []
scalar_marked true k x = refl
scalar_marked false k x = refl

passed_marked : (parameter : ℕ) (ss : List ℕ) → marked (passed parameter ss) ≡ []
passed_marked parameter [] = refl
passed_marked parameter (s ∷ ss) = passed_marked (parameter + 1) ss

jump_marked : (f : Frame) (ss : List ℕ) (back : ℕ) → Marks (jump_steps f ss back) back 1
jump_marked f ss back = marked_append (passed f.first ss) (entry.Set f.ret (Label back) ∷ Jump f.label ∷ Mark back ∷ []) ∙ ap (λ ks. ks ++ back ∷ []) (passed_marked f.first ss)

call_marked : (t : Layout) (f : ℕ) (xs : Passing) (l m : ℕ) → Marks xs.steps l m → Marks (call_steps t f xs (l + m)) l (m + 1)
call_marked t f xs l m a = joined xs.steps (jump_steps (frame_of t f) xs.values (l + m)) l m 1 a (jump_marked (frame_of t f) xs.values (l + m))

-- a truth value: so many marks where it aims at a label if it holds, so many where if it fails, and one more as a value
abbrev side_count : Side → ℕ → ℕ → ℕ
side_count AsValue h f = h + 1
side_count IfHolds h f = h
side_count IfFails h f = f

truth_marked : (aim : Aim) (k l label h f : ℕ) (c : ℕ → Aim → List Entry) → label ≡ l + h → ((k to : ℕ) → Marks (c k (When to)) l h) → ((k to : ℕ) → Marks (c k (Unless to)) l f)
    → Marks (truth aim k label c).steps l (side_count (side aim) h f)
truth_marked Value k l label h f c is a b =
    joined (c (k + 1) (When label)) (entry.Set k (Const (pos 0)) ∷ Mark label ∷ []) l h 1 (a (k + 1) label) (ap (λ j. j ∷ []) is)
truth_marked (When to) k l label h f c is a b = a k to
truth_marked (Unless to) k l label h f c is a b = b k to

compare_count : (s : Side) (m : ℕ) → side_count s m m ≡ m + one_if (is_value s)
compare_count AsValue m = refl
compare_count IfHolds m = omega arith
compare_count IfFails m = omega arith

not_count : (s : Side) (e : Term) → side_count s (marks IfFails e) (marks IfHolds e) ≡ marks (other_side s) e + one_if (is_value s)
not_count AsValue e = refl
not_count IfHolds e = omega arith
not_count IfFails e = omega arith

and_count : (s : Side) (m : ℕ) (e : Term) → side_count s (m + marks IfHolds e + 1) (m + marks IfFails e) ≡ m + marks (condition_side s) e + and_marks s + one_if (is_value s)
and_count AsValue m e = refl
and_count IfHolds m e = omega arith
and_count IfFails m e = omega arith

or_count : (s : Side) (m : ℕ) (e : Term) → side_count s (m + marks IfHolds e) (m + marks IfFails e + 1) ≡ m + marks (condition_side s) e + or_marks s + one_if (is_value s)
or_count AsValue m e = omega arith
or_count IfHolds m e = omega arith
or_count IfFails m e = omega arith

two_and_mark : (xs ys : List Entry) (l m n past : ℕ) → past ≡ l + m + n → Marks xs l m → Marks ys (l + m) n → Marks (xs ++ ys ++ Mark past ∷ []) l (m + n + 1)
two_and_mark xs ys l m n past is a b = joined (xs ++ ys) (Mark past ∷ []) l (m + n) 1 (joined xs ys l m n a b) (ap (λ j. j ∷ []) (is ∙ omega arith))

-- two pieces and a branch
two_and_branch : (xs ys zs : List Entry) (l m n : ℕ) → marked zs ≡ [] → Marks xs l m → Marks ys (l + m) n → Marks (xs ++ ys ++ zs) l (m + n)
two_and_branch xs ys zs l m n none a b = behind (xs ++ ys) zs l (m + n) none (joined xs ys l m n a b)

-- what is negated, by the side on which it aims
not_marked : (aim : Aim) (x : Term) (t : Layout) (k l : ℕ) (later : Bool) → ((k to : ℕ) → Marks (piece t k l later (Unless to) x).steps l (marks IfFails x))
    → ((k to : ℕ) → Marks (piece t k l later (When to) x).steps l (marks IfHolds x)) → Marks (piece t k l later aim (Not x)).steps l (side_count (side aim) (marks IfFails x) (marks IfHolds x))
not_marked Value x t k l later a b = truth_marked Value k l (l + marks IfFails x) (marks IfFails x) (marks IfHolds x) (λ k u. (piece t k l later (negated u) x).steps) refl a b
not_marked (When to) x t k l later a b = a k to
not_marked (Unless to) x t k l later a b = b k to

mutual
  piece_marked : (e : Term) (t : Layout) (k l : ℕ) (later : Bool) (aim : Aim) → Marks (piece t k l later aim e).steps l (marks (side aim) e)
  piece_marked (Number z) t k l later aim = used_marked aim (record { steps = []; tree = Const (wrap t.bits (pos z)) }) l 0 refl
  piece_marked (Scalar p) t k l later aim = used_marked aim (scalar_read (is_saved later p) k (cell_of t p)) l 0 (scalar_marked (is_saved later p) k (cell_of t p))
  piece_marked (Element p n i) t k l later aim =
      let s = k + cells later true i in
      let steps = index_steps t n (piece t k l later Value i) s in
      used_marked aim (in_cell (steps ++ entry.Set s (Load (element_address t p s)) ∷ []) s) l (marks AsValue i)
      (behind steps (entry.Set s (Load (element_address t p s)) ∷ []) l (marks AsValue i) refl
      (index_marked t n (piece t k l later Value i) s l (marks AsValue i) (piece_marked i t k l later Value)))
  piece_marked Input t k l later aim = used_marked aim (in_cell (entry.Set k In ∷ []) k) l 0 refl
  piece_marked (Call f xs) t k l later aim =
      let s = k + argument_cells later xs in
      let steps = call_steps t f (passing t k l later xs) (l + argument_marks xs) in
      used_marked aim (in_cell (steps ++ entry.Set s (Cell (frame_of t f).result) ∷ []) s) l (argument_marks xs + 1)
      (behind steps (entry.Set s (Cell (frame_of t f).result) ∷ []) l (argument_marks xs + 1) refl
      (call_marked t f (passing t k l later xs) l (argument_marks xs) (passing_marked xs t k l later)))
  piece_marked (Unary op x) t k l later aim =
      used_marked aim (record { steps = (piece t k l later Value x).steps; tree = node.Unary op (piece t k l later Value x).tree }) l (marks AsValue x) (piece_marked x t k l later Value)
  piece_marked (Shifted op x j) t k l later aim =
      used_marked aim (record { steps = (piece t k l later Value x).steps; tree = shifted_tree op (piece t k l later Value x).tree j }) l (marks AsValue x) (piece_marked x t k l later Value)
  piece_marked (Arithmetic op x y) t k l later aim =
      let a = piece t k l (later || has_call y) Value x in
      let b = piece t (k + cells (later || has_call y) true x) (l + marks AsValue x) later Value y in
      used_marked aim (record { steps = a.steps ++ b.steps; tree = Binary op a.tree b.tree }) l (marks AsValue x + marks AsValue y)
      (joined a.steps b.steps l (marks AsValue x) (marks AsValue y) (piece_marked x t k l (later || has_call y) Value)
      (piece_marked y t (k + cells (later || has_call y) true x) (l + marks AsValue x) later Value))
  piece_marked (Compare r x y) t k l later aim =
      let m = marks AsValue x + marks AsValue y in
      renumbered (piece t k l later aim (Compare r x y)).steps l (side_count (side aim) m m) (marks (side aim) (Compare r x y)) (compare_count (side aim) m)
      (truth_marked aim k l (l + marks AsValue x + marks AsValue y) m m
      (λ k u. (piece t k l (later || has_call y) Value x).steps ++ (piece t (k + cells (later || has_call y) true x) (l + marks AsValue x) later Value y).steps
      ++ branch u r (piece t k l (later || has_call y) Value x).tree (piece t (k + cells (later || has_call y) true x) (l + marks AsValue x) later Value y).tree)
      (omega arith) (λ k to. two_and_branch (piece t k l (later || has_call y) Value x).steps (piece t (k + cells (later || has_call y) true x) (l + marks AsValue x) later Value y).steps
      (branch (When to) r (piece t k l (later || has_call y) Value x).tree (piece t (k + cells (later || has_call y) true x) (l + marks AsValue x) later Value y).tree)
      l (marks AsValue x) (marks AsValue y) refl (piece_marked x t k l (later || has_call y) Value) (piece_marked y t (k + cells (later || has_call y) true x) (l + marks AsValue x) later Value)) (λ k to. two_and_branch (piece t k l (later || has_call y) Value x).steps (piece t (k + cells (later || has_call y) true x) (l + marks AsValue x) later Value y).steps
      (branch (Unless to) r (piece t k l (later || has_call y) Value x).tree (piece t (k + cells (later || has_call y) true x) (l + marks AsValue x) later Value y).tree)
      l (marks AsValue x) (marks AsValue y) refl (piece_marked x t k l (later || has_call y) Value) (piece_marked y t (k + cells (later || has_call y) true x) (l + marks AsValue x) later Value)))
  piece_marked (Not x) t k l later aim =
      renumbered (piece t k l later aim (Not x)).steps l (side_count (side aim) (marks IfFails x) (marks IfHolds x)) (marks (side aim) (Not x)) (not_count (side aim) x)
      (not_marked aim x t k l later (λ k to. piece_marked x t k l later (Unless to)) (λ k to. piece_marked x t k l later (When to)))
  piece_marked (AndAlso x y) t k l later aim =
      let later_x = later || has_call y in
      let m = marks IfFails x in
      renumbered (piece t k l later aim (AndAlso x y)).steps l (side_count (side aim) (m + marks IfHolds y + 1) (m + marks IfFails y)) (marks (side aim) (AndAlso x y)) (and_count (side aim) m y)
      (truth_marked aim k l (l + m + marks IfHolds y + 1) (m + marks IfHolds y + 1) (m + marks IfFails y)
      (λ k u. both u (l + m + marks IfHolds y) (λ v. (piece t k l later_x v x).steps) (λ v. (piece t (k + cells later_x false x) (l + m) later v y).steps))
      (omega arith)
      (λ k to. two_and_mark (piece t k l later_x (Unless (l + m + marks IfHolds y)) x).steps (piece t (k + cells later_x false x) (l + m) later (When to) y).steps
      l m (marks IfHolds y) (l + m + marks IfHolds y) refl (piece_marked x t k l later_x (Unless (l + m + marks IfHolds y))) (piece_marked y t (k + cells later_x false x) (l + m) later (When to)))
      (λ k to. joined (piece t k l later_x (Unless to) x).steps (piece t (k + cells later_x false x) (l + m) later (Unless to) y).steps
      l m (marks IfFails y) (piece_marked x t k l later_x (Unless to)) (piece_marked y t (k + cells later_x false x) (l + m) later (Unless to))))
  piece_marked (OrElse x y) t k l later aim =
      let later_x = later || has_call y in
      let m = marks IfHolds x in
      renumbered (piece t k l later aim (OrElse x y)).steps l (side_count (side aim) (m + marks IfHolds y) (m + marks IfFails y + 1)) (marks (side aim) (OrElse x y)) (or_count (side aim) m y)
      (truth_marked aim k l (l + m + marks IfHolds y) (m + marks IfHolds y) (m + marks IfFails y + 1)
      (λ k u. one_of u (l + m + marks IfFails y) (λ v. (piece t k l later_x v x).steps) (λ v. (piece t (k + cells later_x false x) (l + m) later v y).steps))
      (omega arith)
      (λ k to. joined (piece t k l later_x (When to) x).steps (piece t (k + cells later_x false x) (l + m) later (When to) y).steps
      l m (marks IfHolds y) (piece_marked x t k l later_x (When to)) (piece_marked y t (k + cells later_x false x) (l + m) later (When to)))
      (λ k to. two_and_mark (piece t k l later_x (When (l + m + marks IfFails y)) x).steps (piece t (k + cells later_x false x) (l + m) later (Unless to) y).steps
      l m (marks IfFails y) (l + m + marks IfFails y) refl (piece_marked x t k l later_x (When (l + m + marks IfFails y))) (piece_marked y t (k + cells later_x false x) (l + m) later (Unless to))))

  passing_marked : (xs : Terms) (t : Layout) (k l : ℕ) (later : Bool) → Marks (passing t k l later xs).steps l (argument_marks xs)
  passing_marked NoMore t k l later = refl
  passing_marked (More x xs) t k l later =
      let a = piece t k l (later || have_call xs) Value x in
      let s = k + cells (later || have_call xs) true x in
      joined a.steps (entry.Set s a.tree ∷ (passing t (s + 1) (l + marks AsValue x) later xs).steps) l (marks AsValue x) (argument_marks xs)
      (piece_marked x t k l (later || have_call xs) Value) (passing_marked xs t (s + 1) (l + marks AsValue x) later)

-- ---- statements

condition_marked : (e : Option Term) (t : Layout) (k l label : ℕ) → Marks (condition_steps t k l (Unless label) e) l (condition_marks e)
condition_marked None t k l label = refl
condition_marked (Some e) t k l label = piece_marked e t k l false (Unless label)

leave_marked : (leaving : Leaving) → marked (leave leaving) ≡ []
leave_marked Halts = refl
leave_marked (Returns result ret) = refl

leave_with_marked : (leaving : Leaving) (e : Node) → marked (leave_with leaving e) ≡ []
leave_with_marked Halts e = refl
leave_with_marked (Returns result ret) e = refl

return_marked : (e : Option Term) (t : Layout) (leaving : Leaving) (k l : ℕ) → Marks (return_steps t leaving k l e) l (value_marks e)
return_marked None t leaving k l = leave_marked leaving
return_marked (Some e) t leaving k l =
    let a = piece t k l false Value e in behind a.steps (leave_with leaving a.tree) l (marks AsValue e) (leave_with_marked leaving a.tree) (piece_marked e t k l false Value)

marked_at : (l past m : ℕ) → past ≡ l + m → Marks (Mark past ∷ []) (l + m) 1
marked_at l past m is = ap (λ j. j ∷ []) is

-- a mark before entries
mark_before : (l m : ℕ) (xs : List Entry) → Marks xs (l + 1) m → Marks (Mark l ∷ xs) l (1 + m)
mark_before l m xs a = joined (Mark l ∷ []) xs l 1 m refl a

statements_marked : (x : Command) (t : Layout) (leaving : Leaving) (ends : Ends) (k l : ℕ) → Marks (statements t leaving ends k l x) l (command_marks x)
statements_marked Skip t leaving ends k l = refl
statements_marked (Seq x y) t leaving ends k l =
    joined (statements t leaving ends k l x) (statements t leaving ends (k + command_cells x) (l + command_marks x) y) l (command_marks x) (command_marks y)
    (statements_marked x t leaving ends k l) (statements_marked y t leaving ends (k + command_cells x) (l + command_marks x))
statements_marked (Turn x) t leaving ends k l = statements_marked x t leaving ends k l
statements_marked (Set p e) t leaving ends k l =
    let a = piece t k l false Value e in behind a.steps (entry.Set (cell_of t p) a.tree ∷ []) l (marks AsValue e) refl (piece_marked e t k l false Value)
statements_marked (Store p n i e) t leaving ends k l =
    let s = k + cells false true i in
    let a = piece t (s + 1) (l + marks AsValue i) false Value e in
    let steps = index_steps t n (piece t k l false Value i) s in
    behind (steps ++ a.steps) (entry.Store (element_address t p s) a.tree ∷ []) l (marks AsValue i + marks AsValue e) refl
    (joined steps a.steps l (marks AsValue i) (marks AsValue e) (index_marked t n (piece t k l false Value i) s l (marks AsValue i) (piece_marked i t k l false Value))
    (piece_marked e t (s + 1) (l + marks AsValue i) false Value))
statements_marked (Change p n i op e) t leaving ends k l =
    let s = k + cells false true i in
    let r = s + 1 in
    let a = piece t (r + 1) (l + marks AsValue i) false Value e in
    let steps = index_steps t n (piece t k l false Value i) s in
    behind (steps ++ entry.Set r (Load (element_address t p s)) ∷ a.steps) (entry.Store (element_address t p s) (Binary op (Cell r) a.tree) ∷ []) l (marks AsValue i + marks AsValue e) refl
    (joined steps (entry.Set r (Load (element_address t p s)) ∷ a.steps) l (marks AsValue i) (marks AsValue e) (index_marked t n (piece t k l false Value i) s l (marks AsValue i) (piece_marked i t k l false Value))
    (piece_marked e t (r + 1) (l + marks AsValue i) false Value))
statements_marked (Print e) t leaving ends k l =
    let a = piece t k l false Value e in behind a.steps (entry.Out a.tree ∷ []) l (marks AsValue e) refl (piece_marked e t k l false Value)
statements_marked Take t leaving ends k l = refl
statements_marked (Invoke f xs) t leaving ends k l = call_marked t f (passing t k l false xs) l (argument_marks xs) (passing_marked xs t k l false)
statements_marked (If e x) t leaving ends k l =
    let inside = l + marks IfFails e in
    let past = inside + command_marks x in
    let test = (piece t k l false (Unless past) e).steps in
    let body = statements t leaving ends (k + cells false false e) inside x in
    joined (test ++ body) (Mark past ∷ []) l (marks IfFails e + command_marks x) 1
    (joined test body l (marks IfFails e) (command_marks x) (piece_marked e t k l false (Unless past)) (statements_marked x t leaving ends (k + cells false false e) inside))
    (marked_at l past (marks IfFails e + command_marks x) (omega arith))
statements_marked (IfElse e x y) t leaving ends k l =
    let f = marks IfFails e in
    let inside = l + f in
    let other = inside + command_marks x in
    let past = other + 1 + command_marks y in
    let test = (piece t k l false (Unless other) e).steps in
    let body = statements t leaving ends (k + cells false false e) inside x in
    let rest = statements t leaving ends (k + cells false false e + command_cells x) (other + 1) y in
    let both_marked : Marks (test ++ body ++ Jump past ∷ Mark other ∷ rest) l (f + command_marks x + 1 + command_marks y) =
    renumbered (test ++ body ++ Jump past ∷ Mark other ∷ rest) l (f + command_marks x + (1 + command_marks y)) (f + command_marks x + 1 + command_marks y) (omega arith)
    (joined (test ++ body) (Jump past ∷ Mark other ∷ rest) l (f + command_marks x) (1 + command_marks y)
    (joined test body l f (command_marks x) (piece_marked e t k l false (Unless other)) (statements_marked x t leaving ends (k + cells false false e) inside))
    (relabeled (Mark other ∷ rest) other (l + (f + command_marks x)) (1 + command_marks y) (omega arith)
    (mark_before other (command_marks y) rest (statements_marked y t leaving ends (k + cells false false e + command_cells x) (other + 1))))) in
    joined (test ++ body ++ Jump past ∷ Mark other ∷ rest) (Mark past ∷ []) l (f + command_marks x + 1 + command_marks y) 1 both_marked
    (marked_at l past (f + command_marks x + 1 + command_marks y) (omega arith))
statements_marked (While e x) t leaving ends k l =
    let f = marks IfFails e in
    let inside = l + 1 + f in
    let past = inside + command_marks x in
    let test = (piece t k (l + 1) false (Unless past) e).steps in
    let loop : Ends = record { broke = past; continued = l } in
    let body = statements t leaving loop (k + cells false false e) inside x in
    joined (Mark l ∷ test ++ body) (Jump l ∷ Mark past ∷ []) l (1 + f + command_marks x) 1
    (joined (Mark l ∷ test) body l (1 + f) (command_marks x) (mark_before l f test (piece_marked e t k (l + 1) false (Unless past)))
    (relabeled body inside (l + (1 + f)) (command_marks x) (omega arith) (statements_marked x t leaving loop (k + cells false false e) inside)))
    (marked_at l past (1 + f + command_marks x) (omega arith))
statements_marked (Do x e) t leaving ends k l =
    let h = marks IfHolds e in
    let again = l + 1 + command_marks x in
    let past = again + 1 + h in
    let loop : Ends = record { broke = past; continued = again } in
    let body = statements t leaving loop k (l + 1) x in
    let test = (piece t (k + command_cells x) (again + 1) false (When l) e).steps in
    let both_marked : Marks (Mark l ∷ body ++ Mark again ∷ test) l (1 + command_marks x + 1 + h) =
    renumbered (Mark l ∷ body ++ Mark again ∷ test) l (1 + command_marks x + (1 + h)) (1 + command_marks x + 1 + h) (omega arith)
    (joined (Mark l ∷ body) (Mark again ∷ test) l (1 + command_marks x) (1 + h) (mark_before l (command_marks x) body (statements_marked x t leaving loop k (l + 1)))
    (relabeled (Mark again ∷ test) again (l + (1 + command_marks x)) (1 + h) (omega arith)
    (mark_before again h test (piece_marked e t (k + command_cells x) (again + 1) false (When l))))) in
    joined (Mark l ∷ body ++ Mark again ∷ test) (Mark past ∷ []) l (1 + command_marks x + 1 + h) 1 both_marked
    (marked_at l past (1 + command_marks x + 1 + h) (omega arith))
statements_marked (For e step x) t leaving ends k l =
    let f = condition_marks e in
    let inside = l + 1 + f in
    let next = inside + command_marks x in
    let past = next + 1 + command_marks step in
    let test = condition_steps t k (l + 1) (Unless past) e in
    let loop : Ends = record { broke = past; continued = next } in
    let body = statements t leaving loop (k + condition_cells e) inside x in
    let stepped = statements t leaving ends (k + condition_cells e + command_cells x) (next + 1) step in
    let first_marked : Marks (Mark l ∷ test ++ body) l (1 + f + command_marks x) =
    joined (Mark l ∷ test) body l (1 + f) (command_marks x) (mark_before l f test (condition_marked e t k (l + 1) past))
    (relabeled body inside (l + (1 + f)) (command_marks x) (omega arith) (statements_marked x t leaving loop (k + condition_cells e) inside)) in
    let both_marked : Marks (Mark l ∷ test ++ body ++ Mark next ∷ stepped) l (1 + f + command_marks x + 1 + command_marks step) =
    renumbered (Mark l ∷ test ++ body ++ Mark next ∷ stepped) l (1 + f + command_marks x + (1 + command_marks step)) (1 + f + command_marks x + 1 + command_marks step) (omega arith)
    (joined (Mark l ∷ test ++ body) (Mark next ∷ stepped) l (1 + f + command_marks x) (1 + command_marks step) first_marked
    (relabeled (Mark next ∷ stepped) next (l + (1 + f + command_marks x)) (1 + command_marks step) (omega arith)
    (mark_before next (command_marks step) stepped (statements_marked step t leaving ends (k + condition_cells e + command_cells x) (next + 1))))) in
    joined (Mark l ∷ test ++ body ++ Mark next ∷ stepped) (Jump l ∷ Mark past ∷ []) l (1 + f + command_marks x + 1 + command_marks step) 1 both_marked
    (marked_at l past (1 + f + command_marks x + 1 + command_marks step) (omega arith))
statements_marked Break t leaving ends k l = refl
statements_marked Continue t leaving ends k l = refl
statements_marked (Return e) t leaving ends k l = return_marked e t leaving k l

-- ---- a program

end_marked : (f : Function) (leaving : Leaving) → marked (end_steps f leaving) ≡ []
end_marked f leaving = by f.returns f.gives leaving
  where
    by : (returns gives : Bool) (leaving : Leaving) → marked (cond returns [] (cond gives (leave_with leaving (Const (pos 0))) (leave leaving))) ≡ []
    by true gives leaving = refl
    by false true leaving = leave_with_marked leaving (Const (pos 0))
    by false false leaving = leave_marked leaving

function_marked : (t : Layout) (leaving : Leaving) (f : Function) (k label : ℕ) → Marks (function_steps t leaving f k label) label (function_marks f)
function_marked t leaving f k label =
    let ends : Ends = record { broke = 0; continued = 0 } in
    let body = statements t leaving ends k (label + 1) f.body in
    behind (Mark label ∷ body) (end_steps f leaving) label (1 + command_marks f.body) (end_marked f leaving)
    (mark_before label (command_marks f.body) body (statements_marked f.body t leaving ends k (label + 1)))

others_marked : (p : Program) (n cell label : ℕ) (fs : List Function) → Marks (other_steps p n fs (frames cell label fs)) label (marks_of_all fs)
others_marked p n cell label [] = refl
others_marked p n cell label (f ∷ fs) =
    let g : Frame = frame cell label f in
    joined (function_steps (layout p n g.first) (Returns g.result g.ret) f (g.first + sizes f.variables) g.label) (other_steps p n fs (frames (cell + all_cells f) (label + function_marks f) fs))
    label (function_marks f) (marks_of_all fs)
    (function_marked (layout p n g.first) (Returns g.result g.ret) f (g.first + sizes f.variables) label)
    (others_marked p n (cell + all_cells f) (label + function_marks f) fs)

main_marked : (p : Program) (n : ℕ) (m : Option Function) → Marks (main_steps p n m) 0 (main_marks m)
main_marked p n None = refl
main_marked p n (Some f) = function_marked (layout p n (global_cells p)) Halts f (global_cells p + sizes f.variables) 0

all_marked : (p : Program) (n : ℕ) → Marks (all_steps p n) 0 (trap_label p)
all_marked p n =
    joined (main_steps p n p.main) (other_steps p n p.functions (program_frames p)) 0 (main_marks p.main) (marks_of_all p.functions) (main_marked p n p.main)
    (relabeled (other_steps p n p.functions (program_frames p)) (main_marks p.main) (0 + main_marks p.main) (marks_of_all p.functions) (omega arith)
    (others_marked p n (global_cells p + main_cells p.main) (main_marks p.main) p.functions))

-- so many labels, from 0 on, in the order of their marks; a trap's is the last
pub labels_in_order : (p : Program) (n : ℕ) → (m : ℕ) × (marked (program_entries p n) ≡ range_with_len 0 m)
labels_in_order p n = by (list_any (goes_to (trap_label p)) (all_steps p n))
  where
    by : (b : Bool) → (m : ℕ) × (marked (all_steps p n ++ cond b (Mark (trap_label p) ∷ Halt 1 ∷ []) []) ≡ range_with_len 0 m)
    by true = (trap_label p + 1, joined (all_steps p n) (Mark (trap_label p) ∷ Halt 1 ∷ []) 0 (trap_label p) 1 (all_marked p n) (ap (λ j. j ∷ []) (omega arith)))
    by false = (trap_label p, behind (all_steps p n) [] 0 (trap_label p) refl (all_marked p n))
