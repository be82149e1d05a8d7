-- Steps that have no parts.
use Rattle.std.proofs.Common.{arith, ◌<◌, ◌≤◌, ◌≡◌, ℕ, ◌+◌, ◌-◌, ◌^◌, nat_lt, sym, ◌∙◌, ap, subst, pos, Bool, true, false, List, [], ◌∷◌, ◌++◌, append_assoc, append-nil, map, Result, OnOk, if◌then◌else◌}
use Rattle.std.proofs.Math.Pow.{pow_mono}
use Rattle.std.proofs.lemmas.Bool.Decides.{nat_tests}
use Rattle.ir_run.specs.Node.{Const, Cell, Label, node}
use Rattle.ir_run.specs.Entry.{Entry, Set, Jump, Mark, entry}
use Rattle.ir_run.specs.declared.tree.Tree.{Tree}
use Rattle.ir_run.specs.declared.statement.Stmt.{Stmt}
use Rattle.c_tree.specs.Code.{Aim, Value, When, Unless, scalar_read, passed}
use Rattle.c_pieces.specs.Pushed.{Pushed, Left, Ends, truth_behind, truth_tree}
use Rattle.c_pieces.proofs.Behind.{pushed_two, pushed_ok}

-- a scalar that isn't saved
pub read_plain : (a : List Stmt) (k x : ℕ) (b : Bool) (t : Tree) → b ≡ false → node t ≡ Cell x → Left a a (scalar_read b k x) t
read_plain a k x b t off is =
    subst (λ z. Left a a (scalar_read z k x) t) (sym off) (record { steps = sym (append-nil (map entry a)); tree = is })

-- a statement by a test, where it holds
pub test_one : {X E : Type 0} (a b : List Stmt) (test : Bool) (x y z : Entry) (r : Result X E) → test ≡ true → z ≡ x → OnOk r (Pushed a b (z ∷ [])) → OnOk r (Pushed a b ((if test then x else y) ∷ []))
test_one a b test x y z r on same h =
    subst (λ c. OnOk r (Pushed a b ((if c then x else y) ∷ []))) (sym on) (subst (λ e. OnOk r (Pushed a b (e ∷ []))) same h)

-- and where it fails
pub test_other : {X E : Type 0} (a b : List Stmt) (test : Bool) (x y z : Entry) (r : Result X E) → test ≡ false → z ≡ y → OnOk r (Pushed a b (z ∷ [])) → OnOk r (Pushed a b ((if test then x else y) ∷ []))
test_other a b test x y z r off same h =
    subst (λ c. OnOk r (Pushed a b ((if c then x else y) ∷ []))) (sym off) (subst (λ e. OnOk r (Pushed a b (e ∷ []))) same h)

-- what stands behind a condition that is a value
pub behind_value : (a b c : List Stmt) (aim : Aim) (k label : ℕ) (u t : Tree) → aim ≡ Value → node u ≡ Const (pos 0) → node t ≡ Cell k → Pushed a b (Set k (node u) ∷ []) → Pushed b c (Mark label ∷ []) → Ends a c (truth_behind aim k label) (truth_tree aim k) t
behind_value a b c aim k label u t is zero_is of p q =
    let both : Pushed a c (Set k (node u) ∷ Mark label ∷ []) = pushed_two a b c (Set k (node u) ∷ []) (Mark label ∷ []) p q in
    subst (λ z. Ends a c (truth_behind z k label) (truth_tree z k) t) (sym is) (record {
      steps = subst (λ n. map entry c ≡ map entry a ++ Set k n ∷ Mark label ∷ []) zero_is both.is;
      tree = of;
    })

-- behind one that goes to a label where it holds
pub behind_when : (a : List Stmt) (aim : Aim) (k label l : ℕ) (t : Tree) → aim ≡ When l → node t ≡ Const (pos 0) → Ends a a (truth_behind aim k label) (truth_tree aim k) t
behind_when a aim k label l t is of =
    subst (λ z. Ends a a (truth_behind z k label) (truth_tree z k) t) (sym is) (record { steps = sym (append-nil (map entry a)); tree = of })

-- behind one that goes to a label where it fails
pub behind_unless : (a : List Stmt) (aim : Aim) (k label l : ℕ) (t : Tree) → aim ≡ Unless l → node t ≡ Const (pos 0) → Ends a a (truth_behind aim k label) (truth_tree aim k) t
behind_unless a aim k label l t is of =
    subst (λ z. Ends a a (truth_behind z k label) (truth_tree z k) t) (sym is) (record { steps = sym (append-nil (map entry a)); tree = of })

-- three statements
pub three_ok : {X E : Type 0} (a b c d : List Stmt) (x y z : Entry) (r : Result X E) → Pushed a b (x ∷ []) → Pushed b c (y ∷ []) → OnOk r (Pushed c d (z ∷ [])) → OnOk r (Pushed a d (x ∷ y ∷ z ∷ []))
three_ok a b c d x y z r p q h = pushed_ok a c d (x ∷ y ∷ []) (z ∷ []) r (pushed_two a b c (x ∷ []) (y ∷ []) p q) h

-- the values so far and those to come
pub record Passing (a b : List Stmt) (from to : ℕ) (all rest : List ℕ) : Type 0 where
  pub is : map entry b ++ passed to rest ≡ map entry a ++ passed from all

-- one value more
pub passing_more : (a b c : List Stmt) (from to next : ℕ) (all rest : List ℕ) (s : ℕ) (t : Tree) → Passing a b from to all (s ∷ rest) → Pushed b c (Set to (node t) ∷ []) → node t ≡ Cell s → next ≡ to + 1 → Passing a c from next all rest
passing_more a b c from to next all rest s t h p is n =
    let here : map entry c ≡ map entry b ++ Set to (Cell s) ∷ [] = subst (λ m. map entry c ≡ map entry b ++ Set to m ∷ []) is p.is in
    let so : map entry c ++ passed (to + 1) rest ≡ map entry b ++ Set to (Cell s) ∷ passed (to + 1) rest = ap (λ m. m ++ passed (to + 1) rest) here ∙ append_assoc (map entry b) (Set to (Cell s) ∷ []) (passed (to + 1) rest) in
    record { is = subst (λ m. map entry c ++ passed m rest ≡ map entry a ++ passed from all) (sym n) (so ∙ h.is) }

-- a length that is tested fits 32 bits
pub is_below : (n bits : ℕ) → bits ≤ 32 → nat_lt n (2 ^ (bits - 1)) ≡ true → n < 4294967296
is_below n bits small test =
    let power : 2 ^ (bits - 1) ≤ 2 ^ 31 = pow_mono {i = bits - 1} {j = 31} (omega arith) in
    let less : n < 2 ^ (bits - 1) = grind (arith, nat_tests) in
    omega (arith, power, less)

-- what is behind the arguments of a call
pub jump_ok : {X E : Type 0} (a b c d e : List Stmt) (es : List Entry) (back ret label : ℕ) (t : Tree) (r : Result X E) → node t ≡ Label back → Pushed a b es → Pushed b c (Set ret (node t) ∷ []) → Pushed c d (Jump label ∷ []) → OnOk r (Pushed d e (Mark back ∷ [])) → OnOk r (Pushed a e (es ++ Set ret (Label back) ∷ Jump label ∷ Mark back ∷ []))
jump_ok a b c d e es back ret label t r is p q s h =
    let set : Pushed b c (Set ret (Label back) ∷ []) = record { is = subst (λ n. map entry c ≡ map entry b ++ Set ret n ∷ []) is q.is } in
    pushed_ok a b e es (Set ret (Label back) ∷ Jump label ∷ Mark back ∷ []) r p (three_ok b c d e (Set ret (Label back)) (Jump label) (Mark back) r set s h)
