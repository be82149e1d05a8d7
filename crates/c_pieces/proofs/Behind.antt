-- Statements that were put behind others, one group after the other.
use Rattle.std.proofs.Common.{arith, ◌≡◌, ℕ, suc, ◌+◌, sym, ◌∙◌, ap, subst, pos, List, [], ◌∷◌, ◌++◌, append_assoc, append-nil, map, Result, Ok, Err, OnOk, IfOk}
use Rattle.ir_run.specs.Node.{Node, Const, node}
use Rattle.ir_run.specs.Entry.{Entry, Set, Mark, entry}
use Rattle.ir_run.specs.declared.tree.Tree.{Tree}
use Rattle.ir_run.specs.declared.statement.Stmt.{Stmt}
use Rattle.c_tree.specs.Code.{Aim, Value, When, Unless, Piece, used, truth}
use Rattle.c_pieces.specs.Pushed.{Pushed, Left, Ends, used_steps, used_tree, inner_cell, inner_aim, truth_before, truth_behind, truth_tree}

-- what holds of an answer carries over
pub if_ok : {X E : Type 0} (r : Result X E) (P Q : X → Type 0) → ((x : X) → P x → Q x) → IfOk r P → IfOk r Q
if_ok (Ok x) P Q f h = f x h
if_ok (Err e) P Q f h = tt

-- and of an answer that holds nothing
pub on_ok : {X E : Type 0} (r : Result X E) (P Q : Type 0) → (P → Q) → OnOk r P → OnOk r Q
on_ok (Ok x) P Q f h = f h
on_ok (Err e) P Q f h = tt

-- two groups
pub pushed_two : (a b c : List Stmt) (xs ys : List Entry) → Pushed a b xs → Pushed b c ys → Pushed a c (xs ++ ys)
pushed_two a b c xs ys p q = record { is = q.is ∙ ap (λ m. m ++ ys) p.is ∙ append_assoc (map entry a) xs ys }

-- no statement
pub pushed_none : (a : List Stmt) → Pushed a a []
pushed_none a = record { is = sym (append-nil (map entry a)) }

-- the second by an answer
pub pushed_ok : {X E : Type 0} (a b c : List Stmt) (xs ys : List Entry) (r : Result X E) → Pushed a b xs → OnOk r (Pushed b c ys) → OnOk r (Pushed a c (xs ++ ys))
pushed_ok a b c xs ys r p h = on_ok r (Pushed b c ys) (Pushed a c (xs ++ ys)) (pushed_two a b c xs ys p) h

-- the steps alone
pub steps_of : (a b : List Stmt) (p : Piece) (t : Tree) → Left a b p t → Pushed a b p.steps
steps_of a b p t h = record { is = h.steps }

-- steps whose tree is known
pub left_of : (a b : List Stmt) (es : List Entry) (n : Node) (t : Tree) → Pushed a b es → node t ≡ n → Left a b (record { steps = es; tree = n }) t
left_of a b es n t p is = record { steps = p.is; tree = is }

-- a value, and what is put behind it for an aim
used_left : (a b c : List Stmt) (aim : Aim) (p : Piece) (v t : Tree) → Left a b p v → Ends b c (used_steps aim (node v)) (used_tree aim (node v)) t → Left a c (used aim p) t
used_left a b c Value p v t h e = record { steps = e.steps ∙ append-nil (map entry b) ∙ h.steps; tree = e.tree ∙ h.tree }
used_left a b c (When l) p v t h e =
    record {
      steps = (subst (λ n. map entry c ≡ map entry b ++ used_steps (When l) n) h.tree e.steps) ∙ ap (λ m. m ++ used_steps (When l) p.tree) h.steps ∙ append_assoc (map entry a) p.steps (used_steps (When l) p.tree);
      tree = e.tree;
    }
used_left a b c (Unless l) p v t h e =
    record {
      steps = (subst (λ n. map entry c ≡ map entry b ++ used_steps (Unless l) n) h.tree e.steps) ∙ ap (λ m. m ++ used_steps (Unless l) p.tree) h.steps ∙ append_assoc (map entry a) p.steps (used_steps (Unless l) p.tree);
      tree = e.tree;
    }

-- the same of an answer
pub used_ok : {E : Type 0} (a b c : List Stmt) (aim : Aim) (p : Piece) (v : Tree) (r : Result Tree E) → Left a b p v → IfOk r (λ t. Ends b c (used_steps aim (node v)) (used_tree aim (node v)) t) → IfOk r (λ t. Left a c (used aim p) t)
used_ok a b c aim p v r h e =
    if_ok r (λ t. Ends b c (used_steps aim (node v)) (used_tree aim (node v)) t) (λ t. Left a c (used aim p) t) (λ t. used_left a b c aim p v t h) e

-- a condition between what stands before it and behind it
truth_left : (a b c d : List Stmt) (aim : Aim) (k label : ℕ) (condition : ℕ → Aim → List Entry) (t : Tree) → Pushed a b (truth_before aim k) → Pushed b c (condition (inner_cell aim k) (inner_aim aim label)) → Ends c d (truth_behind aim k label) (truth_tree aim k) t → Left a d (truth aim k label condition) t
truth_left a b c d Value k label condition t p q e =
    let es : List Entry = condition (suc k) (When label) in
    let before : Pushed a c (Set k (Const (pos 1)) ∷ es) = pushed_two a b c (Set k (Const (pos 1)) ∷ []) es p q in
    let all : Pushed a d (Set k (Const (pos 1)) ∷ es ++ Set k (Const (pos 0)) ∷ Mark label ∷ []) = pushed_two a c d (Set k (Const (pos 1)) ∷ es) (Set k (Const (pos 0)) ∷ Mark label ∷ []) before (record { is = e.steps }) in
    let next : suc k ≡ k + 1 = omega arith in
    record {
      steps = subst (λ n. map entry d ≡ map entry a ++ (Set k (Const (pos 1)) ∷ condition n (When label) ++ Set k (Const (pos 0)) ∷ Mark label ∷ [])) next all.is;
      tree = e.tree;
    }
truth_left a b c d (When l) k label condition t p q e = record {
  steps = e.steps ∙ append-nil (map entry c) ∙ q.is ∙ ap (λ m. m ++ condition k (When l)) (p.is ∙ append-nil (map entry a));
  tree = e.tree;
}
truth_left a b c d (Unless l) k label condition t p q e = record {
  steps = e.steps ∙ append-nil (map entry c) ∙ q.is ∙ ap (λ m. m ++ condition k (Unless l)) (p.is ∙ append-nil (map entry a));
  tree = e.tree;
}

-- the same of an answer
pub truth_ok : {E : Type 0} (a b c d : List Stmt) (aim : Aim) (k label : ℕ) (condition : ℕ → Aim → List Entry) (r : Result Tree E) → Pushed a b (truth_before aim k) → Pushed b c (condition (inner_cell aim k) (inner_aim aim label)) → IfOk r (λ t. Ends c d (truth_behind aim k label) (truth_tree aim k) t) → IfOk r (λ t. Left a d (truth aim k label condition) t)
truth_ok a b c d aim k label condition r p q e =
    if_ok r (λ t. Ends c d (truth_behind aim k label) (truth_tree aim k) t) (λ t. Left a d (truth aim k label condition) t) (λ t. truth_left a b c d aim k label condition t p q) e
