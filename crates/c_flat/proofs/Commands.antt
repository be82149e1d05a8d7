-- The commands of declarations and statements, over those of their parts.
use Rattle.std.proofs.Common.{◌≡◌, ℕ, ◌<◌, ◌≤◌, ◌+◌, List, length, drop, get_or, ap, sym, ◌∙◌, refl, Option, Some, None, subst}
use Rattle.std.specs.Result.{IfOk}
use Rattle.std.specs.declared.result.Result.{Result}
use Rattle.c_tree.specs.declared.statement.LVar.{LVar}
use Rattle.c_tree.specs.declared.statement.Part.{Part}
use Rattle.c_tree.specs.declared.statement.Part.TheVariants as p
use Rattle.c_tree.specs.declared.statement.Stmt.{Stmt}
use Rattle.c_tree.specs.declared.statement.Decl.{Decl}
use Rattle.c_tree.proofs.StatementLaws.{part-Decl, part-Stmt}
use Rattle.c_tree.specs.Statement.{variable, declaration, statement, Body, body, part}
use Rattle.c_tree.specs.Names.{Names, behind_variable, behind_variables, behind_statement, declared_variables}
use Rattle.c_tree.specs.Program.{Term, Command, Turn, Skip, Seq, For}
use Rattle.c_tree.specs.Resolve as resolve
use Rattle.c_walk.specs.Walk.{listed, behind_body}
use Rattle.c_flat.specs.declared.node.Node.{Node}
use Rattle.c_flat.specs.declared.chain.Chain.TheVariants as chain
use Rattle.c_flat.specs.Written.{Written, OfCommand, as_term, as_command, one, written, Grew, Extends}
use Rattle.c_flat.specs.Listing.{link, Conditioned, IsWithin, condition_of}
use Rattle.c_flat.proofs.Grown.{first_below, Extends-trans}
use Rattle.c_flat.proofs.Chained.{drop_step, drop_end, ok_more, grew_on, still}

pub locals_step : (s : Names) (rest : List (ℕ × LVar)) (i : ℕ) (x : ℕ × LVar) → i < length rest → x ≡ get_or rest i x → link chain.Commands (OfCommand (resolve.variable s (variable x.1))) (OfCommand (resolve.variables (behind_variable s (variable x.1)) (listed (drop (i + 1) rest)))) ≡ OfCommand (resolve.variables s (listed (drop i rest)))
locals_step s rest i x lt is = ap (λ ys. OfCommand (resolve.variables s (listed ys))) (sym (drop_step rest i x lt is))

pub locals_end : (s : Names) (rest : List (ℕ × LVar)) (i : ℕ) → length rest ≤ i → OfCommand (resolve.variables s (listed (drop i rest))) ≡ OfCommand Skip
locals_end s rest i h = ap (λ ys. OfCommand (resolve.variables s (listed ys))) (drop_end rest i h)

-- a turn over one part, over two, over three
pub turn_one : {E : Type 0} (a b c : List Node) (v r : Written) (k : Node) (i : ℕ) (res : Result ℕ E) → Grew a b v i → IfOk res (λ n. Grew b c (OfCommand (Turn (as_command (one k (written b))))) n) → ((f : ℕ → Written) → f i ≡ v → one k f ≡ r) → IfOk res (λ n. Grew a c (OfCommand (Turn (as_command r))) n)
turn_one a b c v r k i res g t is =
    ok_more (λ n. Grew b c (OfCommand (Turn (as_command (one k (written b))))) n) (λ n. Grew a c (OfCommand (Turn (as_command r))) n) res (λ n m. grew_on a b c _ _ i n g (subst (λ w. Grew b c (OfCommand (Turn (as_command w))) n) (is (written b) g.is) m)) t

pub turn_two : {E : Type 0} (a b c d : List Node) (v w r : Written) (k : Node) (i j : ℕ) (res : Result ℕ E) → Grew a b v i → Grew b c w j → IfOk res (λ n. Grew c d (OfCommand (Turn (as_command (one k (written c))))) n) → ((f : ℕ → Written) → f i ≡ v → f j ≡ w → one k f ≡ r) → IfOk res (λ n. Grew a d (OfCommand (Turn (as_command r))) n)
turn_two a b c d v w r k i j res g h t is =
    ok_more (λ n. Grew c d (OfCommand (Turn (as_command (one k (written c))))) n) (λ n. Grew a d (OfCommand (Turn (as_command r))) n) res (λ n m. grew_on a b d _ _ i n g (grew_on b c d _ _ j n h (subst (λ w. Grew c d (OfCommand (Turn (as_command w))) n) (is (written c) (still a b c _ _ i j g h) h.is) m))) t

pub turn_three : {E : Type 0} (a b c d e : List Node) (u v w r : Written) (k : Node) (i j l : ℕ) (res : Result ℕ E) → Grew a b u i → Grew b c v j → Grew c d w l → IfOk res (λ n. Grew d e (OfCommand (Turn (as_command (one k (written d))))) n) → ((f : ℕ → Written) → f i ≡ u → f j ≡ v → f l ≡ w → one k f ≡ r) → IfOk res (λ n. Grew a e (OfCommand (Turn (as_command r))) n)
turn_three a b c d e u v w r k i j l res g h o t is =
    ok_more (λ n. Grew d e (OfCommand (Turn (as_command (one k (written d))))) n) (λ n. Grew a e (OfCommand (Turn (as_command r))) n) res (λ n m. grew_on a b e _ _ i n g (grew_on b c e _ _ j n h (grew_on c d e _ _ l n o (subst (λ w. Grew d e (OfCommand (Turn (as_command w))) n) (is (written d) ((o.extends.same i (first_below a b c _ _ i j g h)) ∙ still a b c _ _ i j g h) (still b c d _ _ j l h o) o.is) m)))) t

pub part_step : (s u : Names) (parts : List Part) (i : ℕ) (one : Part) (w : Written) → i < length parts → one ≡ get_or parts i one → ((rest : Body) → link chain.Commands w (OfCommand (resolve.commands u rest)) ≡ OfCommand (resolve.commands s (part one rest))) → link chain.Commands w (OfCommand (resolve.commands u (body (drop (i + 1) parts)))) ≡ OfCommand (resolve.commands s (body (drop i parts)))
part_step s u parts i one w lt is step = step (body (drop (i + 1) parts)) ∙ ap (λ ys. OfCommand (resolve.commands s (body ys))) (sym (drop_step parts i one lt is))

pub part_names : (s u : Names) (parts : List Part) (i : ℕ) (one : Part) → i < length parts → one ≡ get_or parts i one → ((rest : Body) → behind_body u rest ≡ behind_body s (part one rest)) → behind_body u (body (drop (i + 1) parts)) ≡ behind_body s (body (drop i parts))
part_names s u parts i one lt is step = step (body (drop (i + 1) parts)) ∙ ap (λ ys. behind_body s (body ys)) (sym (drop_step parts i one lt is))

pub parts_end : (s : Names) (parts : List Part) (i : ℕ) → length parts ≤ i → OfCommand (resolve.commands s (body (drop i parts))) ≡ OfCommand Skip
parts_end s parts i h = ap (λ ys. OfCommand (resolve.commands s (body ys))) (drop_end parts i h)

condition_same : (old new : List Node) (t : Option Term) (k : Option ℕ) → Extends old new → IsWithin k (length old) → condition_of (written old) k ≡ t → condition_of (written new) k ≡ t
condition_same old new t None e h is = is
condition_same old new t (Some i) e h is = ap (λ w. Some (as_term w)) (e.same i h) ∙ is

-- a `for`, over its four parts
pub for_ok : {E : Type 0} (a b c d e f : List Node) (x y z : Command) (t : Option Term) (i j l : ℕ) (k : Option ℕ) (res : Result ℕ E) → Grew a b (OfCommand x) i → Conditioned b c t k → Grew c d (OfCommand y) j → Grew d e (OfCommand z) l → IfOk res (λ n. Grew e f (OfCommand (Turn (Seq (as_command (written e i)) (For (condition_of (written e) k) (as_command (written e j)) (as_command (written e l)))))) n) → IfOk res (λ n. Grew a f (OfCommand (Turn (Seq x (For t y z)))) n)
for_ok a b c d e f x y z t i j l k res g h o q m =
    let bd = Extends-trans b c d h.extends o.extends in
    let be = Extends-trans b d e bd q.extends in
    let ce = Extends-trans c d e o.extends q.extends in
    let first = be.same i g.within ∙ g.is in
    let second = condition_same c e t k ce h.within h.is in
    let third = q.extends.same j o.within ∙ o.is in
    ok_more (λ n. Grew e f (OfCommand (Turn (Seq (as_command (written e i)) (For (condition_of (written e) k) (as_command (written e j)) (as_command (written e l)))))) n) (λ n. Grew a f (OfCommand (Turn (Seq x (For t y z)))) n) res (λ n u. record {
      extends = Extends-trans a b f g.extends (Extends-trans b e f be u.extends);
      falls = u.falls;
      within = u.within;
      is = u.is ∙ rw (first, second, third, q.is) refl;
    }) m

-- a declaration, and a statement, as parts of a block
pub decl_names : (s u : Names) (d : Decl) (one : Part) → one ≡ p.Decl d → u ≡ behind_variables s (declared_variables (declaration d)) → (rest : Body) → behind_body u rest ≡ behind_body s (part one rest)
decl_names s u d one is to rest = rw (is, part-Decl, to) refl

pub decl_step : (s u : Names) (d : Decl) (one : Part) → one ≡ p.Decl d → u ≡ behind_variables s (declared_variables (declaration d)) → (rest : Body) → link chain.Commands (OfCommand (Turn (resolve.variables s (declared_variables (declaration d))))) (OfCommand (resolve.commands u rest)) ≡ OfCommand (resolve.commands s (part one rest))
decl_step s u d one is to rest = rw (is, part-Decl, to) refl

pub stmt_names : (s u : Names) (x : Stmt) (one : Part) → one ≡ p.Stmt x → u ≡ behind_statement s (statement x) → (rest : Body) → behind_body u rest ≡ behind_body s (part one rest)
stmt_names s u x one is to rest = rw (is, part-Stmt, to) refl

pub stmt_step : (s u : Names) (x : Stmt) (one : Part) → one ≡ p.Stmt x → u ≡ behind_statement s (statement x) → (rest : Body) → link chain.Commands (OfCommand (resolve.command s (statement x))) (OfCommand (resolve.commands u rest)) ≡ OfCommand (resolve.commands s (part one rest))
stmt_step s u x one is to rest = rw (is, part-Stmt, to) refl
