-- The statements of expressions fit, where their steps' cells lie below a limit.
use Rattle.std.proofs.Common.{◌≡◌, refl, sym, ap, subst, ℕ, zero, suc, ◌+◌, ◌^◌, ◌-◌, ◌<◌, ◌≤◌, List, [], ◌∷◌, ◌++◌, arith, Bool, true, false, ◌||◌, ◌&&◌, cond, Some, length}
use Rattle.std.specs.Prelude.{slice_get, nat_lt, pos}
use Rattle.std.proofs.lemmas.Bool.{and_from, lt-ltb}
use Rattle.ir_core.specs.Operator.{wrap}
use Rattle.ir_core.specs.declared.operator.Shift.{Shift}
use Rattle.ir_core.specs.declared.relation.Rel.{Rel}
use Rattle.ir_core.specs.declared.relation.Rel.TheVariants as rel
use Rattle.ir_run.specs.Node.{Node, Const, Label, Cell, In, Load, Binary}
use Rattle.ir_run.specs.Node as node
use Rattle.ir_run.specs.Entry.{Entry, Branch, Jump, Mark}
use Rattle.ir_run.specs.Entry as entry
use Rattle.ir_run.specs.Promise.{shifts_fit, is_plain}
use Rattle.c_tree.specs.declared.meaning.Place.{Place}
use Rattle.c_tree.specs.Program.{Term, Terms, Number, Scalar, Element, Input, Call, Unary, Shifted, Arithmetic, Compare, Not, AndAlso, OrElse, NoMore, More, Function}
use Rattle.c_tree.specs.Code.{Aim, Value, When, Unless, AsValue, IfHolds, IfFails, side, one_if, is_value, has_call, have_call, cells, argument_cells, marks, argument_marks, other_side, Frame, Layout, Piece, cell_of, used, in_cell, scalar_read, is_saved, element_address, is_below_length, index_steps, branch, negated, truth, both, one_of, passed, frame_of, jump_steps, call_steps, piece, passing, shifted_tree}
use Rattle.c_lowered.specs.Sound.{World, IsScalar, Answers, count, SoundTerm, SoundTerms}
use Rattle.c_promise.proofs.Fit.{IsTree, Back, IsSet, AllFit, join, is_set}

-- what is known of a layout: the cells of scalars, of parameters and of frames lie below the limit
pub record Fits (w : World) (t : Layout) (limit : ℕ) : Type 0 where
  pub bits : w.bits ≡ t.bits
  pub scalars : (p : Place) → IsScalar w p → cell_of t p < limit
  pub parameters : (g : ℕ) (f : Function) → slice_get w.functions g ≡ Some f → (frame_of t g).first + f.arity ≤ limit
  pub returns : (g : ℕ) (f : Function) → slice_get w.functions g ≡ Some f → (frame_of t g).ret < limit

-- the steps, and the tree that is left
pub record Whole (n limit : ℕ) (p : Piece) : Type 0 where
  pub steps : AllFit n limit p.steps
  pub tree : IsTree n p.tree

plain_cell : (n s : ℕ) → IsTree n (Cell s)
plain_cell n s = (refl, refl)

used_whole : (n limit : ℕ) (aim : Aim) (p : Piece) → Whole n limit p → Whole n limit (used aim p)
used_whole n limit Value p h = h
used_whole n limit (When label) p h =
    record { steps = join n limit p.steps (Branch rel.Ne p.tree (Const (pos 0)) label ∷ []) h.steps ((h.tree, (refl, refl)), tt); tree = (refl, refl) }
used_whole n limit (Unless label) p h =
    record { steps = join n limit p.steps (Branch rel.Eq p.tree (Const (pos 0)) label ∷ []) h.steps ((h.tree, (refl, refl)), tt); tree = (refl, refl) }

in_cell_whole : (n limit : ℕ) (steps : List Entry) (s : ℕ) → AllFit n limit steps → Whole n limit (in_cell steps s)
in_cell_whole n limit steps s h = record { steps = h; tree = (refl, refl) }

scalar_whole : (n limit : ℕ) (b : Bool) (k x : ℕ) → k + one_if b ≤ limit → Whole n limit (scalar_read b k x)
scalar_whole n limit true k x room = in_cell_whole n limit (entry.Set k (Cell x) ∷ []) k (is_set n limit k (Cell x) [] (omega (arith, room)) (refl, refl), tt)
scalar_whole n limit false k x room = in_cell_whole n limit [] x tt

below_fit : (t : Layout) (limit n s : ℕ) → AllFit t.bits limit (is_below_length t n s ∷ [])
below_fit t limit n s = by (nat_lt n (2 ^ (t.bits - 1)))
  where
    by : (b : Bool) → AllFit t.bits limit (cond b (Branch rel.Ge (Cell s) (Const (pos n)) t.trap) (Branch rel.Lt (Cell s) (Const (pos 0)) t.trap) ∷ [])
    by true = (((refl, refl), (refl, refl)), tt)
    by false = (((refl, refl), (refl, refl)), tt)

-- an index goes into its cell and is tested
pub index_fit : (t : Layout) (limit n : ℕ) (i : Piece) (s : ℕ) → s < limit → Whole t.bits limit i → AllFit t.bits limit (index_steps t n i s)
index_fit t limit n i s below h =
    let rest : List Entry = Branch rel.Lt (Cell s) (Const (pos 0)) t.trap ∷ is_below_length t n s ∷ [] in
    join t.bits limit i.steps (entry.Set s i.tree ∷ rest) h.steps (is_set t.bits limit s i.tree rest below h.tree, (((refl, refl), (refl, refl)), below_fit t limit n s))

-- an array's element is read
pub element_set : (t : Layout) (limit : ℕ) (p : Place) (s r : ℕ) (es : List Entry) → r < limit → IsSet t.bits limit r (Load (element_address t p s)) es
element_set t limit p s r es below = is_set t.bits limit r (Load (element_address t p s)) es below (refl, refl)

passed_fit : (n limit parameter : ℕ) (ss : List ℕ) → parameter + length ss ≤ limit → AllFit n limit (passed parameter ss)
passed_fit n limit parameter [] room = tt
passed_fit n limit parameter (s ∷ ss) room =
    (is_set n limit parameter (Cell s) (passed (parameter + 1) ss) (omega (arith, room)) (refl, refl), passed_fit n limit (parameter + 1) ss (omega (arith, room)))

jump_fit : (n limit : ℕ) (f : Frame) (ss : List ℕ) (back : ℕ) → f.first + length ss ≤ limit → f.ret < limit → AllFit n limit (jump_steps f ss back)
jump_fit n limit f ss back room below =
    let set : IsSet n limit f.ret (Label back) (Jump f.label ∷ Mark back ∷ []) = record { below = below; shifts = refl; settable = refl; returned = Back f.label [] refl } in
    join n limit (passed f.first ss) (entry.Set f.ret (Label back) ∷ Jump f.label ∷ Mark back ∷ []) (passed_fit n limit f.first ss room) (set, (tt, (tt, tt)))

length_passing : (t : Layout) (k l : ℕ) (later : Bool) (xs : Terms) → length (passing t k l later xs).values ≡ count xs
length_passing t k l later NoMore = refl
length_passing t k l later (More x xs) =
    ap suc (length_passing t (k + cells (later || have_call xs) true x + 1) (l + marks AsValue x) later xs)

shifted_whole : (n : ℕ) (op : Shift) (x : Node) (j : ℕ) → j < n → IsTree n x → IsTree n (shifted_tree op x j)
shifted_whole n op x zero lt h = h
shifted_whole n op x (suc j) lt h =
    let far : (nat_lt 0 (suc j) && nat_lt (suc j) n) ≡ true = and_from (nat_lt 0 (suc j)) (nat_lt (suc j) n) (lt-ltb 0 (suc j) (omega arith)) (lt-ltb (suc j) n lt) in
    (and_from (nat_lt 0 (suc j) && nat_lt (suc j) n) (shifts_fit n x) far h.0, h.1)

branch_fit : (n limit : ℕ) (u : Aim) (r : Rel) (x y : Node) → IsTree n x → IsTree n y → AllFit n limit (branch u r x y)
branch_fit n limit Value r x y h i = tt
branch_fit n limit (When label) r x y h i = ((h, i), tt)
branch_fit n limit (Unless label) r x y h i = ((h, i), tt)

-- entries that aim at going to a label
abbrev ConditionFit : (n limit : ℕ) → (Aim → List Entry) → Type 0
ConditionFit n limit c = (u : Aim) → is_value (side u) ≡ false → AllFit n limit (c u)

truth_whole : (n limit : ℕ) (aim : Aim) (k label m : ℕ) (c : ℕ → Aim → List Entry) → k + (one_if (is_value (side aim)) + m) ≤ limit
    → ((k : ℕ) → k + m ≤ limit → ConditionFit n limit (c k)) → Whole n limit (truth aim k label c)
truth_whole n limit Value k label m c room h =
    let body = c (k + 1) (When label) in
    let last : List Entry = entry.Set k (Const (pos 0)) ∷ Mark label ∷ [] in
    let below : k < limit = omega (arith, room) in
    in_cell_whole n limit (entry.Set k (Const (pos 1)) ∷ body ++ last) k
    (is_set n limit k (Const (pos 1)) (body ++ last) below (refl, refl), join n limit body last (h (k + 1) (omega (arith, room)) (When label) refl) (is_set n limit k (Const (pos 0)) (Mark label ∷ []) below (refl, refl), (tt, tt)))
truth_whole n limit (When to) k label m c room h = record { steps = h k (omega (arith, room)) (When to) refl; tree = (refl, refl) }
truth_whole n limit (Unless to) k label m c room h = record { steps = h k (omega (arith, room)) (Unless to) refl; tree = (refl, refl) }

both_fit : (n limit past : ℕ) (x y : Aim → List Entry) → ConditionFit n limit x → ConditionFit n limit y → ConditionFit n limit (λ u. both u past x y)
both_fit n limit past x y h i Value is = tt
both_fit n limit past x y h i (When to) is =
    join n limit (x (Unless past) ++ y (When to)) (Mark past ∷ []) (join n limit (x (Unless past)) (y (When to)) (h (Unless past) refl) (i (When to) refl)) (tt, tt)
both_fit n limit past x y h i (Unless to) is = join n limit (x (Unless to)) (y (Unless to)) (h (Unless to) refl) (i (Unless to) refl)

one_of_fit : (n limit past : ℕ) (x y : Aim → List Entry) → ConditionFit n limit x → ConditionFit n limit y → ConditionFit n limit (λ u. one_of u past x y)
one_of_fit n limit past x y h i Value is = tt
one_of_fit n limit past x y h i (When to) is = join n limit (x (When to)) (y (When to)) (h (When to) refl) (i (When to) refl)
one_of_fit n limit past x y h i (Unless to) is =
    join n limit (x (When past) ++ y (Unless to)) (Mark past ∷ []) (join n limit (x (When past)) (y (Unless to)) (h (When past) refl) (i (Unless to) refl)) (tt, tt)

-- the cells of a condition
narrow : (limit k : ℕ) (later : Bool) (x : Term) (v : Aim) → is_value (side v) ≡ false → k + cells later false x ≤ limit → k + cells later (is_value (side v)) x ≤ limit
narrow limit k later x v is room = subst (λ b. k + cells later b x ≤ limit) (sym is) room

negated_side : (v : Aim) → is_value (side v) ≡ false → is_value (side (negated v)) ≡ false
negated_side Value is = is
negated_side (When to) is = refl
negated_side (Unless to) is = refl

module _ (w : World) (t : Layout) (limit : ℕ) (h : Fits w t limit) where
  -- a call, behind its arguments' steps
  pub call_fit : (g : ℕ) (uses : Bool) (xs : Terms) (k l back : ℕ) (later : Bool) → Answers w g (count xs) uses → AllFit t.bits limit (passing t k l later xs).steps
      → AllFit t.bits limit (call_steps t g (passing t k l later xs) back)
  call_fit g uses xs k l back later a steps =
      let p = passing t k l later xs in
      let f = frame_of t g in
      let room = h.parameters g a.function a.is in
      let arity = a.arity in
      let long = length_passing t k l later xs in
      join t.bits limit p.steps (jump_steps f p.values back) steps (jump_fit t.bits limit f p.values back (omega (arith, room, arity, long)) (h.returns g a.function a.is))

  mutual
    -- the piece of an expression
    pub piece_whole : (e : Term) (k l : ℕ) (later : Bool) (aim : Aim) → SoundTerm w e → k + cells later (is_value (side aim)) e ≤ limit → Whole t.bits limit (piece t k l later aim e)
    piece_whole (Number z) k l later aim s room = used_whole t.bits limit aim (record { steps = []; tree = Const (wrap t.bits (pos z)) }) (record { steps = tt; tree = (refl, refl) })
    piece_whole (Scalar p) k l later aim s room = used_whole t.bits limit aim (scalar_read (is_saved later p) k (cell_of t p)) (scalar_whole t.bits limit (is_saved later p) k (cell_of t p) room)
    piece_whole (Element p n i) k l later aim s room =
        let c = k + cells later true i in
        let index = index_steps t n (piece t k l later Value i) c in
        let read : List Entry = entry.Set c (Load (element_address t p c)) ∷ [] in
        used_whole t.bits limit aim (in_cell (index ++ read) c) (in_cell_whole t.bits limit (index ++ read) c
        (join t.bits limit index read (index_fit t limit n (piece t k l later Value i) c (omega (arith, room)) (piece_whole i k l later Value s.1 (omega (arith, room))))
        (element_set t limit p c c [] (omega (arith, room)), tt)))
    piece_whole Input k l later aim s room =
        used_whole t.bits limit aim (in_cell (entry.Set k In ∷ []) k)
        (in_cell_whole t.bits limit (entry.Set k In ∷ []) k (record { below = omega (arith, room); shifts = refl; settable = refl; returned = tt }, tt))
    piece_whole (Call g xs) k l later aim s room =
        let c = k + argument_cells later xs in
        let back = l + argument_marks xs in
        let called = call_steps t g (passing t k l later xs) back in
        let taken : List Entry = entry.Set c (Cell (frame_of t g).result) ∷ [] in
        used_whole t.bits limit aim (in_cell (called ++ taken) c) (in_cell_whole t.bits limit (called ++ taken) c
        (join t.bits limit called taken (call_fit g true xs k l back later s.0 (passing_fit xs k l later s.1 (omega (arith, room))))
        (is_set t.bits limit c (Cell (frame_of t g).result) [] (omega (arith, room)) (refl, refl), tt)))
    piece_whole (Unary op x) k l later aim s room =
        let a = piece t k l later Value x in
        let f = piece_whole x k l later Value s room in
        used_whole t.bits limit aim (record { steps = a.steps; tree = node.Unary op a.tree }) (record { steps = f.steps; tree = f.tree })
    piece_whole (Shifted op x j) k l later aim s room =
        let a = piece t k l later Value x in
        let f = piece_whole x k l later Value s.1 room in
        used_whole t.bits limit aim (record { steps = a.steps; tree = shifted_tree op a.tree j })
        (record { steps = f.steps; tree = shifted_whole t.bits op a.tree j (subst (λ n. j < n) h.bits s.0) f.tree })
    piece_whole (Arithmetic op x y) k l later aim s room =
        let k2 = k + cells (later || has_call y) true x in
        let l2 = l + marks AsValue x in
        let a = piece t k l (later || has_call y) Value x in
        let b = piece t k2 l2 later Value y in
        let f = piece_whole x k l (later || has_call y) Value s.0 (omega (arith, room)) in
        let g = piece_whole y k2 l2 later Value s.1 (omega (arith, room)) in
        used_whole t.bits limit aim (record { steps = a.steps ++ b.steps; tree = Binary op a.tree b.tree })
        (record { steps = join t.bits limit a.steps b.steps f.steps g.steps; tree = (and_from (shifts_fit t.bits a.tree) (shifts_fit t.bits b.tree) f.tree.0 g.tree.0, and_from (is_plain a.tree) (is_plain b.tree) f.tree.1 g.tree.1) })
    piece_whole (Compare r x y) k l later aim s room =
        let m = cells (later || has_call y) true x + cells later true y in
        let l2 = l + marks AsValue x in
        truth_whole t.bits limit aim k (l + marks AsValue x + marks AsValue y) m (λ k u.
        (piece t k l (later || has_call y) Value x).steps ++ (piece t (k + cells (later || has_call y) true x) l2 later Value y).steps
        ++ branch u r (piece t k l (later || has_call y) Value x).tree (piece t (k + cells (later || has_call y) true x) l2 later Value y).tree)
        (omega (arith, room)) (λ k room u is.
        let k2 = k + cells (later || has_call y) true x in
        let a = piece t k l (later || has_call y) Value x in
        let b = piece t k2 l2 later Value y in
        let f = piece_whole x k l (later || has_call y) Value s.0 (omega (arith, room)) in
        let g = piece_whole y k2 l2 later Value s.1 (omega (arith, room)) in
        join t.bits limit (a.steps ++ b.steps) (branch u r a.tree b.tree) (join t.bits limit a.steps b.steps f.steps g.steps) (branch_fit t.bits limit u r a.tree b.tree f.tree g.tree))
    piece_whole (Not x) k l later aim s room =
        truth_whole t.bits limit aim k (l + marks (other_side (side aim)) x) (cells later false x) (λ k u. (piece t k l later (negated u) x).steps)
        (omega (arith, room)) (λ k room u is.
        (piece_whole x k l later (negated u) s (narrow limit k later x (negated u) (negated_side u is) room)).steps)
    piece_whole (AndAlso x y) k l later aim s room =
        let first = later || has_call y in
        let l2 = l + marks IfFails x in
        let past = l + marks IfFails x + marks IfHolds y in
        truth_whole t.bits limit aim k (l + marks IfFails x + marks IfHolds y + 1) (cells first false x + cells later false y) (λ k u.
        both u past (λ v. (piece t k l first v x).steps) (λ v. (piece t (k + cells first false x) l2 later v y).steps))
        (omega (arith, room)) (λ k room.
        both_fit t.bits limit past (λ v. (piece t k l first v x).steps) (λ v. (piece t (k + cells first false x) l2 later v y).steps)
        (λ v is. (piece_whole x k l first v s.0 (narrow limit k first x v is (omega (arith, room)))).steps)
        (λ v is. (piece_whole y (k + cells first false x) l2 later v s.1 (narrow limit (k + cells first false x) later y v is (omega (arith, room)))).steps))
    piece_whole (OrElse x y) k l later aim s room =
        let first = later || has_call y in
        let l2 = l + marks IfHolds x in
        let past = l + marks IfHolds x + marks IfFails y in
        truth_whole t.bits limit aim k (l + marks IfHolds x + marks IfHolds y) (cells first false x + cells later false y) (λ k u.
        one_of u past (λ v. (piece t k l first v x).steps) (λ v. (piece t (k + cells first false x) l2 later v y).steps))
        (omega (arith, room)) (λ k room.
        one_of_fit t.bits limit past (λ v. (piece t k l first v x).steps) (λ v. (piece t (k + cells first false x) l2 later v y).steps)
        (λ v is. (piece_whole x k l first v s.0 (narrow limit k first x v is (omega (arith, room)))).steps)
        (λ v is. (piece_whole y (k + cells first false x) l2 later v s.1 (narrow limit (k + cells first false x) later y v is (omega (arith, room)))).steps))

    -- the steps of arguments
    pub passing_fit : (xs : Terms) (k l : ℕ) (later : Bool) → SoundTerms w xs → k + argument_cells later xs ≤ limit → AllFit t.bits limit (passing t k l later xs).steps
    passing_fit NoMore k l later s room = tt
    passing_fit (More x xs) k l later s room =
        let a = piece t k l (later || have_call xs) Value x in
        let c = k + cells (later || have_call xs) true x in
        let rest = (passing t (c + 1) (l + marks AsValue x) later xs).steps in
        let f = piece_whole x k l (later || have_call xs) Value s.0 (omega (arith, room)) in
        join t.bits limit a.steps (entry.Set c a.tree ∷ rest) f.steps
        (is_set t.bits limit c a.tree rest (omega (arith, room)) f.tree, passing_fit xs (c + 1) (l + marks AsValue x) later s.1 (omega (arith, room)))
