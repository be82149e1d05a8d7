-- Each kind of expression, from the pieces of its parts.
use Rattle.std.proofs.Common.{◌≡◌, ℕ, ◌+◌, sym, ◌∙◌, ap, subst, Bool, List, [], ◌∷◌, ◌++◌, map, Result, IfOk}
use Rattle.ir_run.specs.Node.{Node, Cell, In, node}
use Rattle.ir_run.specs.Entry.{Set, entry}
use Rattle.ir_run.specs.declared.tree.Tree.{Tree}
use Rattle.ir_run.specs.declared.statement.Stmt.{Stmt}
use Rattle.c_tree.specs.Program.{Term, Terms}
use Rattle.c_tree.specs.Program as program
use Rattle.c_tree.specs.Code.{Aim, Layout, piece, passing, marks, argument_cells, argument_marks, IfHolds, IfFails, in_cell, call_steps, frame_of}
use Rattle.c_pieces.specs.Pushed.{Pushed, Left, Ends, used_steps, used_tree, inner_cell, inner_aim, truth_before, truth_behind, truth_tree, and_steps, called_piece}
use Rattle.c_pieces.proofs.Behind.{pushed_two, left_of, used_ok, truth_ok}

-- the same of the term that a node writes out
pub of_term : {E : Type 0} (a b : List Stmt) (t : Layout) (k l : ℕ) (later : Bool) (aim : Aim) (x y : Term) (r : Result Tree E) → x ≡ y → IfOk r (λ u. Left a b (piece t k l later aim y) u) → IfOk r (λ u. Left a b (piece t k l later aim x) u)
of_term a b t k l later aim x y r is h = subst (λ z. IfOk r (λ u. Left a b (piece t k l later aim z) u)) (sym is) h

-- `in()`
pub input_ok : {E : Type 0} (a b c : List Stmt) (t : Layout) (k l : ℕ) (later : Bool) (aim : Aim) (x : Term) (u v : Tree) (r : Result Tree E) → x ≡ program.Input → node u ≡ In → node v ≡ Cell k → Pushed a b (Set k (node u) ∷ []) → IfOk r (λ w. Ends b c (used_steps aim (node v)) (used_tree aim (node v)) w) → IfOk r (λ w. Left a c (piece t k l later aim x) w)
input_ok a b c t k l later aim x u v r is in_is cell_is p h =
    let set : Pushed a b (Set k In ∷ []) = record { is = subst (λ n. map entry b ≡ map entry a ++ Set k n ∷ []) in_is p.is } in
    of_term a c t k l later aim x program.Input r is (used_ok a b c aim (in_cell (Set k In ∷ []) k) v r (left_of a b (Set k In ∷ []) (Cell k) v set cell_is) h)

-- a call
pub called_left : (a b c : List Stmt) (t : Layout) (k l : ℕ) (later : Bool) (g : ℕ) (xs : Terms) (s result : ℕ) (u v : Tree) → s ≡ k + argument_cells later xs → result ≡ (frame_of t g).result → node u ≡ Cell result → node v ≡ Cell s → Pushed a b (call_steps t g (passing t k l later xs) (l + argument_marks xs)) → Pushed b c (Set s (node u) ∷ []) → Left a c (called_piece t k l later g xs) v
called_left a b c t k l later g xs s result u v s_is r_is u_is v_is p q =
    let n : ℕ = k + argument_cells later xs in
    let n' : Node = Cell (frame_of t g).result in
    let value : node u ≡ n' = u_is ∙ ap Cell r_is in
    let set : Pushed b c (Set n n' ∷ []) = record { is = subst (λ m. map entry c ≡ map entry b ++ Set m n' ∷ []) s_is (subst (λ m. map entry c ≡ map entry b ++ Set s m ∷ []) value q.is) } in
    left_of a c (call_steps t g (passing t k l later xs) (l + argument_marks xs) ++ Set n n' ∷ []) (Cell n) v (pushed_two a b c (call_steps t g (passing t k l later xs) (l + argument_marks xs)) (Set n n' ∷ []) p set) (v_is ∙ ap Cell s_is)

-- `&&` as a value or a condition
pub and_ok : {E : Type 0} (a b c d : List Stmt) (t : Layout) (k l : ℕ) (later : Bool) (aim : Aim) (x y : Term) (between past label cell : ℕ) (u : Aim) (r : Result Tree E) → between ≡ l + marks IfFails x → past ≡ between + marks IfHolds y → label ≡ past + 1 → cell ≡ inner_cell aim k → u ≡ inner_aim aim label → Pushed a b (truth_before aim k) → Pushed b c (and_steps t cell l later u past x y) → IfOk r (λ w. Ends c d (truth_behind aim k label) (truth_tree aim k) w) → IfOk r (λ w. Left a d (piece t k l later aim (program.AndAlso x y)) w)
and_ok a b c d t k l later aim x y between past label cell u r b_is p_is l_is c_is u_is p q h =
    let goes : past ≡ l + marks IfFails x + marks IfHolds y = p_is ∙ ap (λ n. n + marks IfHolds y) b_is in
    let ends : label ≡ l + marks IfFails x + marks IfHolds y + 1 = l_is ∙ ap (λ n. n + 1) goes in
    let inner : Pushed b c (and_steps t (inner_cell aim k) l later (inner_aim aim label) (l + marks IfFails x + marks IfHolds y) x y) = subst (λ n. Pushed b c (and_steps t (inner_cell aim k) l later (inner_aim aim label) n x y)) goes (subst (λ v. Pushed b c (and_steps t (inner_cell aim k) l later v past x y)) u_is (subst (λ n. Pushed b c (and_steps t n l later u past x y)) c_is q)) in
    subst (λ n. Pushed b c (and_steps t (inner_cell aim k) l later (inner_aim aim n) (l + marks IfFails x + marks IfHolds y) x y) → IfOk r (λ w. Ends c d (truth_behind aim k n) (truth_tree aim k) w) → IfOk r (λ w. Left a d (piece t k l later aim (program.AndAlso x y)) w)) (sym ends)
    (λ q h. truth_ok a b c d aim k (l + marks IfFails x + marks IfHolds y + 1) (λ n v. and_steps t n l later v (l + marks IfFails x + marks IfHolds y) x y) r p q h)
    inner h
