-- How deep statements stand in actions.
use Rattle.std.proofs.Common.{ℕ, zero, suc, ◌+◌, ◌-◌, ◌*◌, ◌≤◌, ◌<◌, max, List, [], ◌∷◌, Option, ◌≡◌, refl, sym, ◌∙◌, ap, subst, Some, None, Bool, true, false, cond, arith, suc-mul, drop}
use Rattle.std.proofs.Common.{length, get_or}
use Rattle.nk_base.specs.Text.{text_eq}
use Rattle.nml_tree.specs.declared.expression.Expr.{Expr}
use Rattle.nml_tree.specs.declared.statement.Stmt.{Stmt}
use Rattle.nml_tree.specs.declared.statement.Stmt.TheVariants as s
use Rattle.nml_tree.specs.declared.statement.Stmt.TheOpen.{Stmt-F}
use Rattle.nml_tree.specs.declared.statement.Stmt.TheFolds.{map-Stmt, ind-Stmt}
use Rattle.nml_tree.specs.declared.statement.Stmt.TheViews.{roll-Stmt}
use Rattle.nml_tree.specs.Block.{Block, Done, block_step, stmt, block}
use Rattle.nml_tree.specs.Depth.{block_depth}
use Rattle.nml_tree.specs.Table.{Text, Table, Rule, Declared, declared}
use Rattle.nml_tree.proofs.BlockLaws.{stmt_at, stmt-If, stmt-If_else}
use Rattle.attr_legal.specs.Nested.{deepest_action}

-- an action is no deeper than the deepest
not_deeper : (b : Bool) (y x : Declared) (r : Rule) (o : Option Declared) (most least : ℕ) → x ≡ Declared.And r → (y ≡ Declared.And r → block_depth r.action ≤ least) → most ≤ least → (o ≡ Some x → block_depth r.action ≤ most) → cond b (Some y) o ≡ Some x → block_depth r.action ≤ least
not_deeper true y x r o most least is first low f h = let s : y ≡ x = cc in first (s ∙ is)
not_deeper false y x r o most least is first low f h = omega (arith, f h, low)

pub within_deepest : (t : Table) (name : Text) (r : Rule) → declared t name ≡ Some (Declared.And r) → block_depth r.action ≤ deepest_action t
within_deepest [] name r is = absurd cc
within_deepest ((q, Declared.And x) ∷ t) name r is = not_deeper (text_eq name q) (Declared.And x) (Declared.And r) r (declared t name) (deepest_action t) (max (block_depth x.action) (deepest_action t)) refl (λ e. (let s : x ≡ r = cc in rw (← s) (omega arith))) (omega arith) (within_deepest t name r) is
within_deepest ((q, Declared.Constant z) ∷ t) name r is = not_deeper (text_eq name q) (Declared.Constant z) (Declared.And r) r (declared t name) (deepest_action t) (deepest_action t) refl (λ e. absurd cc) (omega arith) (within_deepest t name r) is
within_deepest ((q, Declared.TypeName ty) ∷ t) name r is = not_deeper (text_eq name q) (Declared.TypeName ty) (Declared.And r) r (declared t name) (deepest_action t) (deepest_action t) refl (λ e. absurd cc) (omega arith) (within_deepest t name r) is
within_deepest ((q, Declared.Storage n k ty) ∷ t) name r is = not_deeper (text_eq name q) (Declared.Storage n k ty) (Declared.And r) r (declared t name) (deepest_action t) (deepest_action t) refl (λ e. absurd cc) (omega arith) (within_deepest t name r) is
within_deepest ((q, Declared.Trn n ty) ∷ t) name r is = not_deeper (text_eq name q) (Declared.Trn n ty) (Declared.And r) r (declared t name) (deepest_action t) (deepest_action t) refl (λ e. absurd cc) (omega arith) (within_deepest t name r) is
within_deepest ((q, Declared.Inp ty) ∷ t) name r is = not_deeper (text_eq name q) (Declared.Inp ty) (Declared.And r) r (declared t name) (deepest_action t) (deepest_action t) refl (λ e. absurd cc) (omega arith) (within_deepest t name r) is
within_deepest ((q, Declared.Out ty) ∷ t) name r is = not_deeper (text_eq name q) (Declared.Out ty) (Declared.And r) r (declared t name) (deepest_action t) (deepest_action t) refl (λ e. absurd cc) (omega arith) (within_deepest t name r) is
within_deepest ((q, Declared.Or mode names) ∷ t) name r is = not_deeper (text_eq name q) (Declared.Or mode names) (Declared.And r) r (declared t name) (deepest_action t) (deepest_action t) refl (λ e. absurd cc) (omega arith) (within_deepest t name r) is

-- a rule's statements are less than one more rule
pub less_nested : (more limit d most : ℕ) → 0 < limit → d ≤ most → more + (limit - 1) * (2 * most + 5) + 2 * d + 2 < more + limit * (2 * most + 5)
less_nested more zero d most some low = absurd (omega (arith, some))
less_nested more (suc n) d most some low = let e : suc n - 1 ≡ n = omega arith in let f : suc n * (2 * most + 5) ≡ n * (2 * most + 5) + (2 * most + 5) = suc-mul n (2 * most + 5) in rw e (omega (arith, f, low))

-- one statement, by whatever stands in it
abbrev Adds : Stmt → Type 0
Adds x = (rest : Block) → block_depth (stmt x rest) ≡ max (block_depth (stmt x Done)) (block_depth rest)

abbrev Kid : Type 0
Kid = (x : Stmt) × Adds x

abbrev plain : Stmt-F Kid → Stmt-F Stmt
plain y = map-Stmt Kid Stmt (λ x. x.0) y

depth_step : (y : Stmt-F Kid) (rest : Block) → block_depth (block_step (map-Stmt Stmt (Block → Block) stmt (plain y)) rest) ≡ max (block_depth (block_step (map-Stmt Stmt (Block → Block) stmt (plain y)) Done)) (block_depth rest)
depth_step (Stmt-F.Assign p at x semicolon) rest = omega arith
depth_step (Stmt-F.Part n dot at semicolon) rest = omega arith
depth_step (Stmt-F.Halt at p x q semicolon) rest = omega arith
depth_step (Stmt-F.If at c t xs None end semicolon) rest = omega arith
depth_step (Stmt-F.If at c t xs (Some (f, ys)) end semicolon) rest = omega arith

pub depth_before : (x : Stmt) (rest : Block) → block_depth (stmt x rest) ≡ max (block_depth (stmt x Done)) (block_depth rest)
depth_before = ind-Stmt Adds (λ x y is. subst (λ z. Adds (roll-Stmt z)) is (λ rest. ap block_depth (stmt_at (plain y) refl rest) ∙ depth_step y rest ∙ ap (λ b. max (block_depth b) (block_depth rest)) (sym (stmt_at (plain y) refl Done))))

abbrev SomeKid : Type 0
SomeKid = (x : Stmt) × (1 ≤ block_depth (stmt x Done))

abbrev some_plain : Stmt-F SomeKid → Stmt-F Stmt
some_plain y = map-Stmt SomeKid Stmt (λ x. x.0) y

some_step : (y : Stmt-F SomeKid) → 1 ≤ block_depth (block_step (map-Stmt Stmt (Block → Block) stmt (some_plain y)) Done)
some_step (Stmt-F.Assign p at x semicolon) = omega arith
some_step (Stmt-F.Part n dot at semicolon) = omega arith
some_step (Stmt-F.Halt at p x q semicolon) = omega arith
some_step (Stmt-F.If at c t xs None end semicolon) = omega arith
some_step (Stmt-F.If at c t xs (Some (f, ys)) end semicolon) = omega arith

-- a statement is at least one deep
pub some_depth : (x : Stmt) → 1 ≤ block_depth (stmt x Done)
some_depth = ind-Stmt (λ x. 1 ≤ block_depth (stmt x Done)) (λ x y is. subst (λ z. 1 ≤ block_depth (stmt (roll-Stmt z) Done)) is (subst (λ b. 1 ≤ block_depth b) (sym (stmt_at (some_plain y) refl Done)) (some_step y)))

-- what stands in an `if` is less deep than it
pub then_depth : (at : ℕ) (c : Expr) (t : ℕ) (xs : List Stmt) (other : Option (ℕ × List Stmt)) (end semicolon : ℕ) → block_depth (block xs) < block_depth (stmt (s.If at c t xs other end semicolon) Done)
then_depth at c t xs None end semicolon = rw (stmt-If at c t xs end semicolon Done) (omega arith)
then_depth at c t xs (Some (f, ys)) end semicolon = rw (stmt-If_else at c t xs f ys end semicolon Done) (omega arith)

pub else_depth : (at : ℕ) (c : Expr) (t : ℕ) (xs : List Stmt) (f : ℕ) (ys : List Stmt) (end semicolon : ℕ) → block_depth (block ys) < block_depth (stmt (s.If at c t xs (Some (f, ys)) end semicolon) Done)
else_depth at c t xs f ys end semicolon = rw (stmt-If_else at c t xs f ys end semicolon Done) (omega arith)

-- the block from a statement on
pub drop_at : (list : List Stmt) (k : ℕ) (x : Stmt) → k < length list → x ≡ get_or list k x → block (drop k list) ≡ stmt x (block (drop (k + 1) list))
drop_at [] k x low at = absurd (omega (arith, low))
drop_at (y ∷ list) zero x low at = ap (λ z. stmt z (block list)) (sym at)
drop_at (y ∷ list) (suc k) x low at = let e : suc k + 1 ≡ suc (k + 1) = omega arith in drop_at list k x (omega (arith, low)) at ∙ ap (λ m. stmt x (block (drop m (y ∷ list)))) (sym e)

pub drop_end : (list : List Stmt) (k : ℕ) → length list ≤ k → block (drop k list) ≡ Done
drop_end [] zero low = refl
drop_end [] (suc k) low = refl
drop_end (y ∷ list) zero low = absurd (omega (arith, low))
drop_end (y ∷ list) (suc k) low = drop_end list k (omega (arith, low))

-- one of the statements is no deeper than all
pub depth_among : (list : List Stmt) (k : ℕ) (x : Stmt) → k < length list → x ≡ get_or list k x → block_depth (stmt x Done) ≤ block_depth (block list)
depth_among [] k x low at = absurd (omega (arith, low))
depth_among (y ∷ list) zero x low at = let d = depth_before y (block list) in rw at (omega (arith, d))
depth_among (y ∷ list) (suc k) x low at = let d = depth_before y (block list) in let e = depth_among list k x (omega (arith, low)) at in omega (arith, d, e)
