-- One statement, and the action of a derivation.
use Rattle.std.proofs.Common.{ℕ, ◌+◌, ◌-◌, ◌<◌, ◌≡◌, arith, refl, sym, ◌∙◌, ap, subst, List, [], ◌∷◌, ◌++◌, length, Option, Some, None}
use Rattle.std.specs.Prelude.{Result, IfOk}
use Rattle.std.specs.Map.{lookup}
use Rattle.std.proofs.lemmas.Result.{IfOk-weaker}
use Rattle.nk_base.specs.Text.{text_eq}
use Rattle.nml_tree.specs.declared.names.Name.{Name}
use Rattle.nml_tree.specs.declared.expression.Expr.{Expr}
use Rattle.nml_tree.specs.declared.statement.Place.{Place}
use Rattle.nml_tree.specs.declared.statement.Stmt.{Stmt}
use Rattle.nml_tree.specs.declared.statement.Stmt.TheVariants as s
use Rattle.nml_tree.specs.declared.tree.Par.{Par}
use Rattle.nml_tree.specs.Act as acts
use Rattle.nml_tree.specs.Act.{Term, Act, Done, When, Halt, followed, assigned}
use Rattle.nml_tree.specs.Block as block
use Rattle.nml_tree.specs.Block.{Block, Index, stmt, index}
use Rattle.nml_tree.specs.Formula.{Formula, formula}
use Rattle.nml_tree.specs.Table.{Text, Table, Rule, Declared, declared, table, alternative, pars_of, Parameter, parameter_of}
use Rattle.nml_tree.specs.Derivation.{Derivation, Arguments, IsDerivation, picks, picks_of, fields}
use Rattle.nml_tree.specs.Refused.{IsTyped}
use Rattle.nml_tree.specs.Written as written
use Rattle.nml_tree.specs.Written.{Scope, Argument, act, action_of, arguments, term, reference, index_term}
use Rattle.nml_tree.proofs.BlockLaws.{stmt-Assign, stmt-Part, stmt-Halt, stmt-If, stmt-If_else}
use Rattle.nml_widths.specs.Fitting.{EachIndex}
use Rattle.attr_exec.proofs.Statements.{otherwise}
use Rattle.attr_eval.specs.Found.{IsFirst, Other}
use Rattle.attr_eval.specs.Walks.{from}
use Rattle.attr_eval.proofs.Steps.{field_at}
use Rattle.attr_eval.proofs.Values.{none_named}
use Rattle.isg_nodes.specs.declared.node.Node.{Node}
use Rattle.isg_nodes.specs.declared.node.Node.TheVariants as node
use Rattle.isg_nodes.specs.Written as nodes
use Rattle.isg_nodes.specs.Written.{AllBelow, IsBelow, in_order, statement, one_act}
use Rattle.isg_nodes.specs.Grow.{Extends}
use Rattle.isg_written.specs.declared.found.Found.{Found}
use Rattle.isg_written.specs.declared.front.Front.{Front}
use Rattle.isg_written.specs.Stands.{Stands, StandsAll, before}
use Rattle.isg_written.specs.Apt.{AreRead, IsRead}
use Rattle.isg_written.specs.Found.{Grows, Is, IsWithin, Indexes, Refers, Reads, here, scope, Holds}
use Rattle.isg_written.specs.Puts.{Puts, Pushes, Adds, AddsBlock, AddsAction, Lists, set_by}
use Rattle.isg_written.proofs.Gives.{front_holds, is_more, grows_trans}
use Rattle.isg_written.proofs.Named.{part_named, field_named}
use Rattle.isg_written.proofs.Steps.{next_picked, next_made, stands_at}
use Rattle.isg_written.proofs.Quiet.{rule_read}
use Rattle.isg_written.proofs.Putting.{followed_done, followed_both, assigned_followed, below_kept, puts_kept, puts_both, puts_same, puts_later, lists_more}

module _ (f : Front) where
  abbrev pub Given : Index → Formula → Scope → Type 0
  Given i e s = EachIndex (IsRead (here f) s) i × IsRead (here f) s e

  abbrev pub Assigns : Text → Index → Formula → Scope → Act → Act
  Assigns name i e s = assigned (reference (here f) s name (index_term (here f) s i)) (term (here f) s e)

  -- what is set is what is assigned
  set_is : (n1 n2 n3 : List Node) (name : Text) (i : Index) (e : Formula) (k : Option ℕ) (x : Found) (v : ℕ) (o : Option Node) → Indexes f n1 k i → Refers f n1 n2 x name k → Grows n2 n3 → Reads f n3 v e
      → ((u : Term) → Is n3 x u → (rest : Act) → assigned u (nodes.term n3 v) rest ≡ set_by n3 o rest)
      → (args : Arguments) (ks : List ℕ) → Holds f args ks → Given i e (scope f args) → (rest : Act) → set_by n3 o rest ≡ Assigns name i e (scope f args) rest
  set_is n1 n2 n3 name i e k x v o a b g c set args ks holds h rest =
      let u = b.is args ks (index_term (here f) (scope f args) i) holds (a.is args ks holds h.0) in
      sym (set _ (is_more n2 n3 x _ g.extends b.within u) rest) ∙ ap (λ z. assigned (reference (here f) (scope f args) name (index_term (here f) (scope f args) i)) z rest) (c.is args ks holds h.1)

  pub assign_none : (old n1 n2 n3 : List Node) (list : List ℕ) (name : Text) (i : Index) (e : Formula) (k : Option ℕ) (x : Found) (v : ℕ) (o : Option Node) → AllBelow list (length old) → Grows old n1 → Grows n1 n2 → Indexes f n1 k i → Refers f n1 n2 x name k → Grows n2 n3 → Reads f n3 v e
      → ((u : Term) → Is n3 x u → (rest : Act) → assigned u (nodes.term n3 v) rest ≡ set_by n3 o rest) → o ≡ None → Adds f (Given i e) old n3 list list (Assigns name i e)
  assign_none old n1 n2 n3 list name i e k x v o low g h a b g' c set none =
      let all = grows_trans old n2 n3 (grows_trans old n1 n2 g h) g' in
      record {
        below = below_kept old n3 list all.extends low;
        puts = λ args ks holds p. puts_same old n3 list list (λ r. r) _ (λ r. (let y : r ≡ set_by n3 o r = rw none refl in y ∙ set_is n1 n2 n3 name i e k x v o a b g' c set args ks holds p r)) (puts_kept old n3 list all.extends);
      }

  pub assign_some : (old n1 n2 n3 n4 : List Node) (list now : List ℕ) (name : Text) (i : Index) (e : Formula) (k : Option ℕ) (x : Found) (v : ℕ) (o : Option Node) (y : Node) {U E : Type 0} (r : Result U E) → Grows old n1 → Grows n1 n2 → Indexes f n1 k i → Refers f n1 n2 x name k → Grows n2 n3 → Reads f n3 v e
      → ((u : Term) → Is n3 x u → (rest : Act) → assigned u (nodes.term n3 v) rest ≡ set_by n3 o rest) → o ≡ Some y → IfOk r (λ done. Pushes n3 n4 list now y) → IfOk r (λ done. Adds f (Given i e) old n4 list now (Assigns name i e))
  assign_some old n1 n2 n3 n4 list now name i e k x v o y r g h a b g' c set some pushed =
      let all = grows_trans old n2 n3 (grows_trans old n1 n2 g h) g' in
      IfOk-weaker r _ _ (λ done q. record {
        below = q.below;
        puts = λ args ks holds p. puts_same old n4 list now _ _ (λ r. (let z : one_act y (nodes.term n3) (statement n3) r ≡ set_by n3 o r = rw some refl in z ∙ set_is n1 n2 n3 name i e k x v o a b g' c set args ks holds p r)) (puts_later old n3 n4 list now _ all.extends q.puts);
      }) pushed

  pub halt_adds : (old mid new : List Node) (list now : List ℕ) (e : Formula) (n : ℕ) {U E : Type 0} (r : Result U E) → Grows old mid → Reads f mid n e → IfOk r (λ done. Pushes mid new list now (node.Halt n)) → IfOk r (λ done. Adds f (λ s. IsRead (here f) s e) old new list now (λ s. Halt (term (here f) s e)))
  halt_adds old mid new list now e n r g h pushed = IfOk-weaker r _ _ (λ done q. record {
    below = q.below;
    puts = λ args ks holds p. puts_same old new list now _ _ (λ r. ap (λ z. Halt z r) (h.is args ks holds p)) (puts_later old mid new list now _ g.extends q.puts);
  }) pushed

  abbrev pub Whens : Formula → Block → Block → Scope → Type 0
  Whens c b d s = IsRead (here f) s c × AreRead (here f) s b × AreRead (here f) s d

  pub when_adds : (old n1 n2 n3 new : List Node) (list now : List ℕ) (c : Formula) (b d : Block) (n : ℕ) (xs ys : List ℕ) {U E : Type 0} (r : Result U E) → Grows old n1 → Reads f n1 n c → Grows n1 n2 → Lists f n2 xs b → Grows n2 n3 → Lists f n3 ys d → IfOk r (λ done. Pushes n3 new list now (node.When n xs ys))
      → IfOk r (λ done. Adds f (Whens c b d) old new list now (λ s. When (term (here f) s c) (act (here f) s b) (act (here f) s d)))
  when_adds old n1 n2 n3 new list now c b d n xs ys r g h g' l g'' m pushed = IfOk-weaker r _ _ (λ done q. record {
    below = q.below;
    puts = λ args ks holds p.
        let t = here f in
        let s = scope f args in
        let e : nodes.term n3 n ≡ term t s c = g''.extends.values n (below_two h.within g') ∙ (g'.extends.values n h.within ∙ h.is args ks holds p.0) in
        let u : in_order (statement n3) xs Done ≡ act t s b = ((lists_more f n2 n3 xs b g''.extends l).is args ks holds p.1).is Done ∙ followed_done (act t s b) in
        let v : in_order (statement n3) ys Done ≡ act t s d = (m.is args ks holds p.2).is Done ∙ followed_done (act t s d) in
        puts_same old new list now _ _ (λ r. ap (λ z. When z (in_order (statement n3) xs Done) (in_order (statement n3) ys Done) r) e ∙ ap (λ z. When (term t s c) z (in_order (statement n3) ys Done) r) u ∙ ap (λ z. When (term t s c) (act t s b) z r) v)
        (puts_later old n3 new list now _ (grows_trans old n2 n3 (grows_trans old n1 n2 g g') g'').extends q.puts);
  }) pushed
    where
      below_two : n < length n1 → Grows n1 n2 → n < length n2
      below_two low g = omega (arith, low, g.extends.longer)

  -- statement by statement
  abbrev pub One : List Node → List Node → List ℕ → List ℕ → Stmt → Type 0
  One old new list now x = AddsBlock f old new list now (stmt x block.Done)

  weaker : (old new : List Node) (list now : List ℕ) (P Q : Scope → Type 0) (x y : Scope → Act → Act) → ((s : Scope) → Q s → P s) → ((s : Scope) (r : Act) → x s r ≡ y s r) → Adds f P old new list now x → Adds f Q old new list now y
  weaker old new list now P Q x y pq same h = record { below = h.below; puts = λ args ks holds p. puts_same old new list now _ _ (same (scope f args)) (h.puts args ks holds (pq (scope f args) p)) }

  pub assign_one : (old new : List Node) (list now : List ℕ) {U E : Type 0} (r : Result U E) (x : Stmt) (p : Place) (at : ℕ) (e : Expr) (semicolon : ℕ) → x ≡ s.Assign p at e semicolon → IfOk r (λ done. Adds f (Given (index p.index) (formula e)) old new list now (Assigns p.name.text (index p.index) (formula e))) → IfOk r (λ done. One old new list now x)
  assign_one old new list now r x p at e semicolon is h =
      let b : stmt x block.Done ≡ block.Assign p.name (index p.index) at (formula e) semicolon block.Done = ap (λ y. stmt y block.Done) is ∙ stmt-Assign p at e semicolon block.Done in
      IfOk-weaker r _ _ (λ done q. subst (λ c. AddsBlock f old new list now c) (sym b) (weaker old new list now _ _ _ _ (λ s k. (k.0, k.1)) (λ s r. sym (assigned_followed _ _ Done r)) q)) h

  pub part_one : (old new : List Node) (list now : List ℕ) {U E : Type 0} (r : Result U E) (x : Stmt) (n : Name) (dot at semicolon : ℕ) → x ≡ s.Part n dot at semicolon → IfOk r (λ done. Adds f (λ s. Unit {0}) old new list now (λ s. followed (action_of (lookup (text_eq n.text) s)))) → IfOk r (λ done. One old new list now x)
  part_one old new list now r x n dot at semicolon is h =
      let b : stmt x block.Done ≡ block.Part n dot at semicolon block.Done = ap (λ y. stmt y block.Done) is ∙ stmt-Part n dot at semicolon block.Done in
      IfOk-weaker r _ _ (λ done q. subst (λ c. AddsBlock f old new list now c) (sym b) (weaker old new list now _ _ _ _ (λ s k. tt) (λ s r. ap (λ a. followed a r) (sym (followed_done _))) q)) h

  pub halt_one : (old new : List Node) (list now : List ℕ) {U E : Type 0} (r : Result U E) (x : Stmt) (at p : ℕ) (e : Expr) (q semicolon : ℕ) → x ≡ s.Halt at p e q semicolon → IfOk r (λ done. Adds f (λ s. IsRead (here f) s (formula e)) old new list now (λ s. Halt (term (here f) s (formula e)))) → IfOk r (λ done. One old new list now x)
  halt_one old new list now r x at p e q semicolon is h =
      let b : stmt x block.Done ≡ block.Halt at p (formula e) q semicolon block.Done = ap (λ y. stmt y block.Done) is ∙ stmt-Halt at p e q semicolon block.Done in
      IfOk-weaker r _ _ (λ done q. subst (λ c. AddsBlock f old new list now c) (sym b) (weaker old new list now _ _ _ _ (λ s k. k.0) (λ s r. refl) q)) h

  pub when_one : (old new : List Node) (list now : List ℕ) {U E : Type 0} (r : Result U E) (x : Stmt) (at : ℕ) (c : Expr) (k : ℕ) (xs : List Stmt) (o : Option (ℕ × List Stmt)) (end semicolon : ℕ) → x ≡ s.If at c k xs o end semicolon
      → IfOk r (λ done. Adds f (Whens (formula c) (block.block xs) (otherwise o)) old new list now (λ s. When (term (here f) s (formula c)) (act (here f) s (block.block xs)) (act (here f) s (otherwise o)))) → IfOk r (λ done. One old new list now x)
  when_one old new list now r x at c k xs None end semicolon is h =
      let b : stmt x block.Done ≡ block.If at (formula c) k (block.block xs) end semicolon block.Done = ap (λ y. stmt y block.Done) is ∙ stmt-If at c k xs end semicolon block.Done in
      IfOk-weaker r _ _ (λ done q. subst (λ c. AddsBlock f old new list now c) (sym b) (weaker old new list now _ _ _ _ (λ s k. (k.0, k.1, tt)) (λ s r. refl) q)) h
  when_one old new list now r x at c k xs (Some (j, ys)) end semicolon is h =
      let b : stmt x block.Done ≡ block.IfElse at (formula c) k (block.block xs) j (block.block ys) end semicolon block.Done = ap (λ y. stmt y block.Done) is ∙ stmt-If_else at c k xs j ys end semicolon block.Done in
      IfOk-weaker r _ _ (λ done q. subst (λ c. AddsBlock f old new list now c) (sym b) (weaker old new list now _ _ _ _ (λ s k. (k.0, k.1, k.2)) (λ s r. refl) q)) h

  -- the part of a name
  pub part_none : (old : List Node) (list : List ℕ) (name : Text) → nodes.Falls old → AllBelow list (length old) → ((args : Arguments) (ks : List ℕ) → Holds f args ks → action_of (lookup (text_eq name) (scope f args)) ≡ Done) → Adds f (λ s. Unit {0}) old old list list (λ s. followed (action_of (lookup (text_eq name) s)))
  part_none old list name falls low none = record { below = low; puts = λ args ks holds p. puts_same old old list list (λ r. r) _ (λ r. ap (λ a. followed a r) (sym (none args ks holds))) (record { each = λ a l. l }) }

  pub part_some : (old new : List Node) (list now : List ℕ) (name rule : Text) (k : ℕ) (x : Par) (ps : List ℕ) (n : ℕ) {U E : Type 0} (r : Result U E) → IsFirst name (pars_of f.pars.now) k x → parameter_of (here f) x.ty ≡ Some (Parameter.Part rule)
      → ((args : Arguments) (ks : List ℕ) → Holds f args ks → (ps ≡ picks_of (from k args) ++ ks) × (n ≡ f.first + before k args)) → IfOk r (λ done. AddsAction (here f) rule f.limit n ps old new list now)
      → IfOk r (λ done. Adds f (λ s. Unit {0}) old new list now (λ s. followed (action_of (lookup (text_eq name) s))))
  part_some old new list now name rule k x ps n r first is left h = IfOk-weaker r _ _ (λ done q. record {
    below = q.below;
    puts = λ args ks holds p.
        let e = left args ks holds in
        let w = stands_at (here f) (pars_of f.pars.now) f.limit args f.first f.picks.now ks k rule x ps n holds first.stands is e.0 e.1 in
        let found = part_named args (here f) (pars_of f.pars.now) name k x _ _ _ f.first holds.fill first w.0.at in
        let same : (written.written (here f) n w.0.of).action ≡ action_of (lookup (text_eq name) (scope f args)) = ap (λ j. (written.written (here f) j w.0.of).action) e.1 ∙ ap action_of (sym found) in
        puts_same old new list now _ _ (λ r. ap (λ a. followed a r) same) (q.puts w.0.of _ w.1);
  }) h

  pub none_action : (name : Text) → Other name (pars_of f.pars.now) (length (pars_of f.pars.now)) → (args : Arguments) (ks : List ℕ) → Holds f args ks → action_of (lookup (text_eq name) (scope f args)) ≡ Done
  none_action name other args ks holds = ap action_of (none_named args (here f) (pars_of f.pars.now) name f.first holds.fill other)

  pub field_action : (name : Text) (k : ℕ) (x : Par) → IsFirst name (pars_of f.pars.now) k x → ((rule : Text) → parameter_of (here f) x.ty ≡ Some (Parameter.Part rule) → ⊥) → (args : Arguments) (ks : List ℕ) → Holds f args ks → action_of (lookup (text_eq name) (scope f args)) ≡ Done
  field_action name k x first none args ks holds =
      let p = field_at args (here f) (pars_of f.pars.now) k x holds.fill first.stands none in
      ap action_of (field_named args (here f) (pars_of f.pars.now) name k x _ p.ty p.z _ f.first holds.fill first p.at)

-- the action of a derivation
pub no_action : (t : Table) (name : Text) (limit n : ℕ) (ps : List ℕ) (old : List Node) (list : List ℕ) → AllBelow list (length old) → ((d : Derivation) (ks : List ℕ) → Stands t name limit d n ps ks → (written.written t n d).action ≡ Done) → AddsAction t name limit n ps old old list list
no_action t name limit n ps old list low none = record { below = low; puts = λ d ks w. puts_same old old list list (λ r. r) _ (λ r. ap (λ a. followed a r) (sym (none d ks w))) (record { each = λ a l. l }) }

pub picked_action : (t : Table) (name chosen : Text) (limit n : ℕ) (ps rest : List ℕ) (old new : List Node) (list now : List ℕ) {U E : Type 0} (r : Result U E) → (k : ℕ) × (ps ≡ k ∷ rest) × (alternative t name k ≡ Some chosen) → IfOk r (λ done. AddsAction t chosen (limit - 1) n rest old new list now) → IfOk r (λ done. AddsAction t name limit n ps old new list now)
picked_action t name chosen limit n ps rest old new list now r is h = IfOk-weaker r _ _ (λ done q. record { below = q.below; puts = λ d ks w. (let s = next_picked t name limit n ps ks d chosen rest is w in subst (λ y. Puts old new list now (followed (written.written t n y).action)) (sym s.2) (q.puts s.1 ks s.3)) }) h

pub made_done : (t : Table) (name : Text) (rule : Rule) (limit n : ℕ) (ps : List ℕ) → declared t name ≡ Some (Declared.And rule) → rule.action ≡ block.Done → (d : Derivation) (ks : List ℕ) → Stands t name limit d n ps ks → (written.written t n d).action ≡ Done
made_done t name rule limit n ps is none d ks w =
    let s = next_made t name limit n ps ks rule is d w in
    ap (λ y. (written.written t n y).action) s.1 ∙ ap (act t (arguments t n s.0)) none

pub made_action : (f : Front) → IsTyped f.numbered.now → (name : Text) (rule : Rule) (limit : ℕ) (b : Block) (old new : List Node) (list now : List ℕ) {U E : Type 0} (r : Result U E) → declared (here f) name ≡ Some (Declared.And rule) → rule.action ≡ b
    → rule.pars ≡ pars_of f.pars.now → limit - 1 ≡ f.limit → IfOk r (λ done. AddsBlock f old new list now b) → IfOk r (λ done. AddsAction (here f) name limit f.first f.picks.now old new list now)
made_action f typed name rule limit b old new list now r is same pars_are limit_is h = IfOk-weaker r _ _ (λ done q. record {
  below = q.below;
  puts = λ y ks w.
      let t : Table = here f in
      let s = next_made t name limit f.first f.picks.now ks rule is y w in
      let holds : Holds f s.0 ks = front_holds f limit rule.pars s.0 ks pars_are limit_is s.2 in
      let read : AreRead t (scope f s.0) b = subst (AreRead t (scope f s.0)) same (rule_read f.numbered.now typed name rule s.0 f.first (subst (IsDerivation t name) s.1 w.is)).0 in
      let e : act t (scope f s.0) b ≡ (written.written t f.first y).action = ap (act t (scope f s.0)) (sym same) ∙ ap (λ z. (written.written t f.first z).action) (sym s.1) in
      puts_same old new list now _ _ (λ r. ap (λ a. followed a r) e) (q.puts s.0 ks holds read);
}) h
