-- Statements that are put behind those of a list.
use Rattle.std.proofs.Common.{ℕ, ◌+◌, ◌-◌, ◌<◌, ◌≤◌, ◌≡◌, arith, refl, sym, ◌∙◌, ap, subst, List, [], ◌∷◌, ◌++◌, drop, get_or, length, Option, Some, None}
use Rattle.std.specs.Prelude.{Result, IfOk}
use Rattle.nml_tree.specs.declared.statement.Stmt.{Stmt}
use Rattle.nml_tree.specs.declared.statement.Stmt.TheOpen.{Stmt-F}
use Rattle.nml_tree.specs.declared.statement.Stmt.TheFolds.{map-Stmt, ind-Stmt}
use Rattle.nml_tree.specs.declared.statement.Stmt.TheViews.{roll-Stmt}
use Rattle.nml_tree.specs.Act as acts
use Rattle.nml_tree.specs.Act.{Term, Act, Cell, Trn, Inp, Out, Unary, Binary, Choose, Done, SetCell, SetTrn, Put, Halt, When, followed, assigned}
use Rattle.nml_tree.specs.Block as block
use Rattle.nml_tree.specs.Block.{Block, block_step, stmt}
use Rattle.nml_tree.specs.Table.{Table}
use Rattle.nml_tree.specs.Derivation.{Arguments}
use Rattle.nml_tree.specs.Written as written
use Rattle.nml_tree.specs.Written.{Scope, act, action_of}
use Rattle.nml_tree.proofs.BlockLaws.{stmt_at}
use Rattle.attr_exec.proofs.Running.{block_drop, block_end}
use Rattle.isg_nodes.specs.declared.node.Node.{Node}
use Rattle.isg_nodes.specs.declared.node.Node.TheVariants as node
use Rattle.isg_nodes.specs.Written as nodes
use Rattle.isg_nodes.specs.Written.{AllBelow, in_order, statement, one_act}
use Rattle.isg_nodes.specs.Grow.{Extends, Grown, Listed}
use Rattle.isg_nodes.proofs.Growing.{listed_none, listed_kept, listed_push}
use Rattle.isg_written.specs.declared.front.Front.{Front}
use Rattle.isg_written.specs.Apt.{AreRead, IsRead}
use Rattle.isg_written.specs.Found.{Grows, here, scope, Holds}
use Rattle.isg_written.specs.Puts.{Puts, Pushes, Adds, AddsBlock, Lists}
use Rattle.isg_written.proofs.Gives.{grows_refl, grows_trans}

pub followed_done : (a : Act) → followed a Done ≡ a
followed_done Done = refl
followed_done (SetCell n i e a) = ap (SetCell n i e) (followed_done a)
followed_done (SetTrn n e a) = ap (SetTrn n e) (followed_done a)
followed_done (Put e a) = ap (Put e) (followed_done a)
followed_done (Halt e a) = ap (Halt e) (followed_done a)
followed_done (When c x y a) = ap (When c x y) (followed_done a)

pub followed_both : (a b c : Act) → followed (followed a b) c ≡ followed a (followed b c)
followed_both Done b c = refl
followed_both (SetCell n i e a) b c = ap (SetCell n i e) (followed_both a b c)
followed_both (SetTrn n e a) b c = ap (SetTrn n e) (followed_both a b c)
followed_both (Put e a) b c = ap (Put e) (followed_both a b c)
followed_both (Halt e a) b c = ap (Halt e) (followed_both a b c)
followed_both (When x y z a) b c = ap (When x y z) (followed_both a b c)

pub assigned_followed : (x e : Term) (a r : Act) → followed (assigned x e a) r ≡ assigned x e (followed a r)
assigned_followed (acts.Number z) e a r = refl
assigned_followed (acts.Field n) e a r = refl
assigned_followed (Cell n i) e a r = refl
assigned_followed (Trn n) e a r = refl
assigned_followed Inp e a r = refl
assigned_followed Out e a r = refl
assigned_followed (Unary op x) e a r = refl
assigned_followed (Binary op x y) e a r = refl
assigned_followed (Choose c x y) e a r = refl

-- a statement, and what is behind it
module _ (t : Table) (s : Scope) where
  abbrev Split : Stmt → Type 0
  Split x = (rest : Block) → (act t s (stmt x rest) ≡ followed (act t s (stmt x block.Done)) (act t s rest)) × (AreRead t s (stmt x rest) → AreRead t s (stmt x block.Done) × AreRead t s rest)

  abbrev at_step : Stmt-F Stmt → Block → Block
  at_step y rest = block_step (map-Stmt Stmt (Block → Block) stmt y) rest

  split_step : (y : Stmt-F Stmt) (rest : Block) → (act t s (at_step y rest) ≡ followed (act t s (at_step y block.Done)) (act t s rest)) × (AreRead t s (at_step y rest) → AreRead t s (at_step y block.Done) × AreRead t s rest)
  split_step (Stmt-F.Assign p at x semicolon) rest = (sym (assigned_followed _ _ Done (act t s rest)), λ h. ((h.0, h.1, tt), h.2))
  split_step (Stmt-F.Part n dot at semicolon) rest = (ap (λ a. followed a (act t s rest)) (sym (followed_done _)), λ h. (tt, h))
  split_step (Stmt-F.Halt at p x q semicolon) rest = (refl, λ h. ((h.0, tt), h.1))
  split_step (Stmt-F.If at c k xs None end semicolon) rest = (refl, λ h. ((h.0, h.1, tt), h.2))
  split_step (Stmt-F.If at c k xs (Some (f, ys)) end semicolon) rest = (refl, λ h. ((h.0, h.1, h.2, tt), h.3))

  abbrev Kid : Type 0
  Kid = (x : Stmt) × Split x

  abbrev plain : Stmt-F Kid → Stmt-F Stmt
  plain y = map-Stmt Kid Stmt (λ k. k.0) y

  pub split : (x : Stmt) → Split x
  split = ind-Stmt Split
      (λ x y is. subst (λ z. Split (roll-Stmt z)) is
      (λ rest.
      let e : stmt (roll-Stmt (plain y)) rest ≡ at_step (plain y) rest = stmt_at (plain y) refl rest in
      let d : stmt (roll-Stmt (plain y)) block.Done ≡ at_step (plain y) block.Done = stmt_at (plain y) refl block.Done in
      let h = split_step (plain y) rest in (
        ap (act t s) e ∙ h.0 ∙ ap (λ b. followed (act t s b) (act t s rest)) (sym d),
        λ r. (let k = h.1 (subst (AreRead t s) e r) in (subst (AreRead t s) (sym d) k.0, k.1)),
      )))

-- lists
pub below_kept : (old new : List Node) (ns : List ℕ) → Extends old new → AllBelow ns (length old) → AllBelow ns (length new)
below_kept old new ns e b = (listed_kept old new ns (in_order (statement old) ns) e (record { below = b; is = λ rest. refl })).below

pub below_push : (old new : List Node) (ns : List ℕ) (x : Node) (n : ℕ) → Grown old new x n → AllBelow ns (length old) → AllBelow (ns ++ n ∷ []) (length new)
below_push old new ns x n g b = (listed_push old new ns (in_order (statement old) ns) _ n g.extends (record { below = b; is = λ rest. refl }) g.within g.act).below

pub puts_kept : (old new : List Node) (ns : List ℕ) → Extends old new → Puts old new ns ns (λ rest. rest)
puts_kept old new ns e = record { each = λ a l. listed_kept old new ns a e l }

pub puts_push : (old new : List Node) (ns : List ℕ) (x : Node) (n : ℕ) → Grown old new x n → Puts old new ns (ns ++ n ∷ []) (λ rest. one_act x (nodes.term old) (statement old) rest)
puts_push old new ns x n g = record { each = λ a l. listed_push old new ns a _ n g.extends l g.within g.act }

pub puts_both : (a b c : List Node) (k l m : List ℕ) (x y : Act → Act) → Puts a b k l x → Puts b c l m y → Puts a c k m (λ rest. x (y rest))
puts_both a b c k l m x y p q = record { each = λ z h. q.each (λ r. z (x r)) (p.each z h) }

pub puts_same : (old new : List Node) (k l : List ℕ) (x y : Act → Act) → ((r : Act) → x r ≡ y r) → Puts old new k l x → Puts old new k l y
puts_same old new k l x y same p = record { each = λ a h. (let u = p.each a h in record { below = u.below; is = λ rest. u.is rest ∙ ap a (same rest) }) }

pub pushes : (old new : List Node) (before now : List ℕ) (x : Node) (n : ℕ) → Grown old new x n → AllBelow before (length old) → now ≡ before ++ n ∷ [] → Pushes old new before now x
pushes old new before now x n g b is = subst (λ ns. Pushes old new before ns x) (sym is) (record { below = below_push old new before x n g b; puts = puts_push old new before x n g })

-- what is put while nodes are older
pub puts_later : (old mid new : List Node) (k l : List ℕ) (x : Act → Act) → Extends old mid → Puts mid new k l x → Puts old new k l x
puts_later old mid new k l x e p = puts_both old mid new k k l (λ r. r) x (puts_kept old mid k e) p

-- the statements of a block so far
pub record Goes (t : Table) (s : Scope) (old new : List Node) (before now : List ℕ) (rest all : Block) : Type 0 where
  pub x : Act → Act
  pub puts : Puts old new before now x
  pub is : (r : Act) → x (followed (act t s rest) r) ≡ followed (act t s all) r
  pub read : AreRead t s rest

pub record Walked (f : Front) (old new : List Node) (before now : List ℕ) (rest all : Block) : Type 0 where
  pub grows : Grows old new
  pub below : AllBelow now (length new)
  pub goes : (args : Arguments) (ks : List ℕ) → Holds f args ks → AreRead (here f) (scope f args) all → Goes (here f) (scope f args) old new before now rest all

pub walk_begin : (f : Front) (old : List Node) (before : List ℕ) (stmts : List Stmt) → nodes.Falls old → AllBelow before (length old) → Walked f old old before before (block.block stmts) (block.block stmts)
walk_begin f old before stmts falls b = record {
  grows = grows_refl old falls;
  below = b;
  goes = λ args ks h r. record { x = λ r. r; puts = record { each = λ a l. l }; is = λ r. refl; read = r };
}

pub walk_next : (f : Front) (old mid new : List Node) (before list now : List ℕ) (stmts : List Stmt) (i : ℕ) (x : Stmt) → i < length stmts → x ≡ get_or stmts i x → Walked f old mid before list (block.block (drop i stmts)) (block.block stmts) → Grows mid new
    → AddsBlock f mid new list now (stmt x block.Done) → Walked f old new before now (block.block (drop (i + 1) stmts)) (block.block stmts)
walk_next f old mid new before list now stmts i x low at w g h = record {
  grows = grows_trans old mid new w.grows g;
  below = h.below;
  goes = λ args ks holds r.
      let t = here f in
      let s = scope f args in
      let k = w.goes args ks holds r in
      let e : block.block (drop i stmts) ≡ stmt x (block.block (drop (i + 1) stmts)) = block_drop stmts i x low at in
      let p = split t s x (block.block (drop (i + 1) stmts)) in
      let q = p.1 (subst (AreRead t s) e k.read) in
      let a = act t s (stmt x block.Done) in
      let b = act t s (block.block (drop (i + 1) stmts)) in
      record {
        x = λ r. k.x (followed a r);
        puts = puts_both old mid new before list now k.x (followed a) k.puts (h.puts args ks holds q.0);
        is = λ r. ap k.x (sym (followed_both a b r) ∙ ap (λ c. followed c r) (sym p.0) ∙ ap (λ c. followed (act t s c) r) (sym e)) ∙ k.is r;
        read = q.1;
      };
}

pub walk_end : (f : Front) (old new : List Node) (before now : List ℕ) (stmts : List Stmt) (i : ℕ) → length stmts ≤ i → Walked f old new before now (block.block (drop i stmts)) (block.block stmts) → AddsBlock f old new before now (block.block stmts)
walk_end f old new before now stmts i low w = record {
  below = w.below;
  puts = λ args ks holds r.
      let k = w.goes args ks holds r in
      let e = block_end stmts i low in
      puts_same old new before now k.x (followed (act (here f) (scope f args) (block.block stmts))) (λ r. ap (λ b. k.x (followed (act (here f) (scope f args) b) r)) (sym e) ∙ k.is r) k.puts;
}

-- a block by itself
lists_block : (f : Front) (old new : List Node) (now : List ℕ) (b : Block) → AddsBlock f old new [] now b → Lists f new now b
lists_block f old new now b h = record { below = h.below; is = λ args ks holds r. (h.puts args ks holds r).each (λ a. a) (listed_none old) }

pub lists_made : (f : Front) (old new : List Node) (before now ns : List ℕ) (b : Block) → before ≡ [] → ns ≡ now → AddsBlock f old new before now b → Lists f new ns b
lists_made f old new before now ns b none same h = subst (λ ms. Lists f new ms b) (sym same) (lists_block f old new now b (subst (λ ms. AddsBlock f old new ms now b) none h))

pub lists_more : (f : Front) (old new : List Node) (ns : List ℕ) (b : Block) → Extends old new → Lists f old ns b → Lists f new ns b
lists_more f old new ns b e h = record { below = below_kept old new ns e h.below; is = λ args ks holds r. listed_kept old new ns _ e (h.is args ks holds r) }
