-- An action run on a state: part by part, statement by statement.
use Rattle.std.proofs.Common.{ℕ, zero, suc, ◌+◌, ◌-◌, ◌*◌, ◌≤◌, ◌<◌, max, List, [], ◌∷◌, ◌≡◌, ℤ, pos, length, drop, get_or, arith, refl, sym, ◌∙◌, ap, subst, Some, None, Option, Bool, true, false, cond, suc-mul}
use Rattle.std.specs.Prelude.{slice_get, slice_set, ◌&&◌, not}
use Rattle.std.proofs.lemmas.List.{drop_more, drop_all}
use Rattle.std.specs.Map.{lookup}
use Rattle.nk_base.specs.Text.{text_eq}
use Rattle.nk_base.specs.Number.{InRange}
use Rattle.nk_base.specs.declared.number.Ty.{Ty}
use Rattle.nml_tree.specs.declared.statement.Stmt.{Stmt}
use Rattle.nml_tree.specs.declared.statement.Stmt.TheOpen.{Stmt-F}
use Rattle.nml_tree.specs.declared.statement.Stmt.TheFolds.{map-Stmt, ind-Stmt}
use Rattle.nml_tree.specs.declared.statement.Stmt.TheViews.{roll-Stmt}
use Rattle.nml_tree.specs.declared.expression.Expr.{Expr}
use Rattle.nml_tree.specs.Formula.{formula}
use Rattle.nml_tree.specs.Block as block
use Rattle.nml_tree.specs.Block.{Block, block_step, stmt}
use Rattle.nml_tree.specs.Depth.{block_depth}
use Rattle.nml_tree.specs.Table.{Text, Table, Rule, Declared, declared}
use Rattle.nml_tree.specs.Derivation.{Derivation, Arguments, Compose, IsDerivation, fields_of}
use Rattle.nml_tree.specs.Act as act
use Rattle.nml_tree.specs.Act.{Term, Act, Cell, Trn, Inp, Out, Unary, Binary, Choose, followed, assigned}
use Rattle.nml_tree.specs.Value.{View, value, takes, cell, number_at}
use Rattle.nml_tree.specs.Worth.{rule_scope}
use Rattle.nml_tree.specs.Written as written
use Rattle.nml_tree.specs.Written.{Argument, action_of, arguments}
use Rattle.nml_tree.proofs.BlockLaws.{stmt_at}
use Rattle.nml_state.specs.Cells.{Shown, is_kept}
use Rattle.nml_state.specs.Wrapping.{wraps_into, has_cell, offered, given_trn}
use Rattle.nml_widths.specs.Fitting.{AreOfTypes, IsOfType, StandAt, EachIndex, Everywhere, Sound}
use Rattle.attr_eval.specs.Walks.{Walks, WalksAll}
use Rattle.attr_eval.proofs.Values.{stand_drop}
use Rattle.attr_exec.specs.declared.give.Done.{Done}
use Rattle.attr_exec.specs.Seen.{IsIndex, Stands, view, seen, spot_of}
use Rattle.attr_exec.specs.Seen as looks
use Rattle.attr_exec.specs.declared.look.Seen.{Seen}
use Rattle.attr_exec.specs.Ran.{Scene, looked_at, halted_with, given, ran, Same}
use Rattle.attr_exec.specs.Ready.{Ready, BlockSound, SoundNow, IndexSoundNow, declared_depth, deepest_action}

-- an assignment is what its place is given
pub assigned_ran : (out : Ty) (zs : List ℤ) (next : Option ℤ) (x e : Term) (rest : Act) (c : Scene)
    → ran out zs next (assigned x e rest) c ≡ ran out zs next rest (given out (spot_of (view zs c.state next) x) (takes (view zs c.state next) x) (seen (view zs c.state next) e) c)
assigned_ran out zs next (Term.Number z) e rest c = refl
assigned_ran out zs next (Term.Field n) e rest c = refl
assigned_ran out zs next (Cell n i) e rest c = refl
assigned_ran out zs next (Trn n) e rest c = refl
assigned_ran out zs next Inp e rest c = refl
assigned_ran out zs next Out e rest c = refl
assigned_ran out zs next (Unary op x) e rest c = refl
assigned_ran out zs next (Binary op x y) e rest c = refl
assigned_ran out zs next (Choose a x y) e rest c = refl

-- one action, then another
pub followed_ran : (out : Ty) (zs : List ℤ) (next : Option ℤ) (a b : Act) (c : Scene) → ran out zs next (followed a b) c ≡ ran out zs next b (ran out zs next a c)
followed_ran out zs next act.Done b c = refl
followed_ran out zs next (act.SetCell n i e a) b c = followed_ran out zs next a b _
followed_ran out zs next (act.SetTrn n e a) b c = followed_ran out zs next a b _
followed_ran out zs next (act.Put e a) b c = followed_ran out zs next a b _
followed_ran out zs next (act.Halt e a) b c = followed_ran out zs next a b _
followed_ran out zs next (act.When e x y a) b c = followed_ran out zs next a b _

-- types and cells stay
length_set : (zs : List ℤ) (n : ℕ) (z : ℤ) → length (slice_set zs n z) ≡ length zs
length_set [] n z = refl
length_set (x ∷ zs) zero z = refl
length_set (x ∷ zs) (suc n) z = ap suc (length_set zs n z)

pub offered_same : (s u : Shown) (n i : ℕ) (z : ℤ) → u ≡ offered s n i z → Same s u
offered_same s u n i z e = one (wraps_into (slice_get s.types n) z && (has_cell s.cells n i && not (is_kept s.kept n i))) refl
  where
    one : (b : Bool) → (wraps_into (slice_get s.types n) z && (has_cell s.cells n i && not (is_kept s.kept n i))) ≡ b → Same s u
    one true is = rw (e, is) (refl, refl, refl, refl)
    one false is = rw (e, is) (refl, refl, refl, refl)

pub trn_same : (s u : Shown) (n : ℕ) (z : ℤ) → u ≡ given_trn s n z → Same s u
trn_same s u n z e = one (wraps_into (slice_get s.trn_types n) z) refl
  where
    one : (b : Bool) → wraps_into (slice_get s.trn_types n) z ≡ b → Same s u
    one true is = rw (e, is) (refl, refl, refl, length_set s.trns n _)
    one false is = rw (e, is) (refl, refl, refl, refl)

pub same_self : (a : Shown) → Same a a
same_self a = (refl, refl, refl, refl)

pub same_trans : (a b c : Shown) → Same a b → Same b c → Same a c
same_trans a b c h k = (k.0 ∙ h.0, k.1 ∙ h.1, k.2 ∙ h.2, k.3 ∙ h.3)

pub ready_same : (t : Table) (next : Option ℤ) (s u : Shown) → Same s u → Ready t next s → Ready t next u
ready_same t next s u h r = record { lawful = r.lawful; types_are = h.0 ∙ r.types_are; trn_types_are = h.1 ∙ r.trn_types_are; next_fits = r.next_fits }

-- what a state of the description holds is of the types
pub of_types : (t : Table) (zs : List ℤ) (next : Option ℤ) (s : Shown) → Ready t next s → ((n i : ℕ) (ty : Ty) → slice_get s.types n ≡ Some ty → InRange ty (cell s.cells n i)) → ((n : ℕ) (ty : Ty) → slice_get s.trn_types n ≡ Some ty → InRange ty (number_at s.trns n))
    → AreOfTypes t (view zs s next)
of_types t zs next s r cells trns = record { each = λ name d is. one name d is }
  where
    one : (name : Text) (d : Declared) → declared t name ≡ Some d → IsOfType (view zs s next) d
    one name (Declared.Constant z) is = tt
    one name (Declared.TypeName ty) is = tt
    one name (Declared.Storage n k ty) is = λ i. cells n i ty (ap (λ ts. slice_get ts n) r.types_are ∙ r.lawful.storage_types name n k ty is)
    one name (Declared.Trn n ty) is = trns n ty (ap (λ ts. slice_get ts n) r.trn_types_are ∙ r.lawful.trn_types_are name n ty is)
    one name (Declared.Inp ty) is = r.next_fits name ty is
    one name (Declared.Out ty) is = tt
    one name (Declared.Or mode names) is = tt
    one name (Declared.And rule) is = tt

pub stands_now : (t : Table) (zs left : List ℤ) (next : Option ℤ) (n : ℕ) (s : Shown) → Ready t next s → AreOfTypes t (view zs s next) → drop n zs ≡ left → Stands t n (view zs s next) left
stands_now t zs left next n s r typed is = record { sound = λ name rule args k d st. (r.lawful.sound (view zs s next) typed name rule args k d st).1; left_are = is }

-- the statements of a rule whose derivation stands in front
pub action_sound : (t : Table) (name : Text) (rule : Rule) (n limit j : ℕ) (d : Derivation) (ps : List ℕ) (fs : List ℤ) (ks : List ℕ) (ys zs : List ℤ) (next : Option ℤ) (s : Shown) → Walks t name limit d ps fs ks ys
    → (a : (args : Arguments) × (d ≡ Compose rule args) × WalksAll t rule.pars n args ps fs ks ys) → drop j zs ≡ fs → Ready t next s → BlockSound t rule (arguments t j a.0) zs rule.action
action_sound t name rule n limit j d ps fs ks ys zs next s w a left r = λ v f typed.
    (r.lawful.sound v typed name rule a.0 j (subst (IsDerivation t name) a.1 w.is) (subst (λ q. StandAt q j (fields_of a.0)) (sym f) (stand_drop (fields_of a.0) zs ys j (left ∙ a.2.fields_are)))).0

pub whole_action : (t : Table) (rule : Rule) (n j : ℕ) (d : Derivation) (ps : List ℕ) (fs : List ℤ) (ks : List ℕ) (ys zs : List ℤ) (out : Ty) (next : Option ℤ) (c r : Scene) (b : Block) → (a : (args : Arguments) × (d ≡ Compose rule args) × WalksAll t rule.pars n args ps fs ks ys)
    → rule.action ≡ b → r ≡ ran out zs next (written.act t (arguments t j a.0) b) c → r ≡ ran out zs next (written.written t j d).action c
whole_action t rule n j d ps fs ks ys zs out next c r b a is e = e ∙ ap (λ q. ran out zs next (written.act t (arguments t j a.0) q) c) (sym is) ∙ ap (λ x. ran out zs next (written.written t j x).action c) (sym a.1)

-- the argument that a part's name is
pub part_action : (scope : written.Scope) (name : Text) (o : Option Argument) (out : Ty) (zs : List ℤ) (next : Option ℤ) (c r : Scene) → lookup (text_eq name) scope ≡ o → r ≡ ran out zs next (action_of o) c → r ≡ ran out zs next (action_of (lookup (text_eq name) scope)) c
part_action scope name o out zs next c r is e = e ∙ ap (λ x. ran out zs next (action_of x) c) (sym is)

-- statements from a number on
pub block_drop : (xs : List Stmt) (i : ℕ) (x : Stmt) → i < length xs → x ≡ get_or xs i x → block.block (drop i xs) ≡ stmt x (block.block (drop (i + 1) xs))
block_drop xs i x low is = rw (drop_more xs i x low, ← is) refl

pub block_end : (xs : List Stmt) (i : ℕ) → length xs ≤ i → block.block (drop i xs) ≡ block.Done
block_end xs i low = rw (drop_all i xs low) refl

-- how deep a statement is among others
abbrev Kid : Type 0
Kid = (x : Stmt) × ((rest : Block) → block_depth (stmt x rest) ≡ max (block_depth (stmt x block.Done)) (block_depth rest))

abbrev plain : Stmt-F Kid → Stmt-F Stmt
plain y = map-Stmt Kid Stmt (λ k. k.0) y

depth_step : (y : Stmt-F Stmt) (rest : Block) → block_depth (block_step (map-Stmt Stmt (Block → Block) stmt y) rest) ≡ max (block_depth (block_step (map-Stmt Stmt (Block → Block) stmt y) block.Done)) (block_depth rest)
depth_step (Stmt-F.Assign p at x semicolon) rest = omega arith
depth_step (Stmt-F.Part n dot at semicolon) rest = omega arith
depth_step (Stmt-F.Halt at p x q semicolon) rest = omega arith
depth_step (Stmt-F.If at c t xs None end semicolon) rest = omega arith
depth_step (Stmt-F.If at c t xs (Some (f, ys)) end semicolon) rest = omega arith

stmt_depth : (x : Stmt) (rest : Block) → block_depth (stmt x rest) ≡ max (block_depth (stmt x block.Done)) (block_depth rest)
stmt_depth = ind-Stmt (λ x. (rest : Block) → block_depth (stmt x rest) ≡ max (block_depth (stmt x block.Done)) (block_depth rest))
    (λ x y is. subst (λ z. (rest : Block) → block_depth (stmt (roll-Stmt z) rest) ≡ max (block_depth (stmt (roll-Stmt z) block.Done)) (block_depth rest)) is
    (λ rest. ap block_depth (stmt_at (plain y) refl rest) ∙ depth_step (plain y) rest ∙ ap (λ b. max (block_depth b) (block_depth rest)) (sym (stmt_at (plain y) refl block.Done))))

pub among_depth : (xs : List Stmt) (i : ℕ) (x : Stmt) → i < length xs → x ≡ get_or xs i x → block_depth (stmt x block.Done) ≤ block_depth (block.block xs)
among_depth [] i x low is = absurd (omega (arith, low))
among_depth (y ∷ xs) zero x low is = let h = stmt_depth y (block.block xs) in rw is (omega (arith, h))
among_depth (y ∷ xs) (suc i) x low is = let h = stmt_depth y (block.block xs) in omega (arith, h, among_depth xs i x (omega (arith, low)) is)

-- an action is no deeper than the deepest
pick : (b : Bool) (x d : Declared) (o : Option Declared) (most : ℕ) → (o ≡ Some d → declared_depth d ≤ most) → cond b (Some x) o ≡ Some d → declared_depth d ≤ max (declared_depth x) most
pick true x d o most f is = let e : x ≡ d = cc in rw (← e) (omega arith)
pick false x d o most f is = omega (arith, f is)

pub within_action : (t : Table) (name : Text) (d : Declared) → declared t name ≡ Some d → declared_depth d ≤ deepest_action t
within_action [] name d is = absurd cc
within_action ((q, x) ∷ t) name d is = pick (text_eq name q) x d (declared t name) (deepest_action t) (within_action t name d) is

pub less_action : (limit d most : ℕ) → 0 < limit → d ≤ most → (limit - 1) * (2 * most + 4) + 2 * d + 2 < limit * (2 * most + 4)
less_action zero d most some low = absurd (omega arith)
less_action (suc n) d most some low = let e : suc n - 1 ≡ n = omega arith in let f : suc n * (2 * most + 4) ≡ n * (2 * most + 4) + (2 * most + 4) = suc-mul n (2 * most + 4) in rw e (omega (arith, f))

-- an index that is read
pub index_none : (t : Table) (scope : written.Scope) (v : View) (o : Option (ℕ × Expr × ℕ)) (r : Seen) → o ≡ None → r ≡ looks.plain (pos 0) false → IsIndex v r (written.index_term t scope (block.index o))
index_none t scope v o r is e = rw (is, e) (refl, refl)

pub index_some : (t : Table) (rule : Rule) (scope : written.Scope) (zs : List ℤ) (v : View) (o : Option (ℕ × Expr × ℕ)) (x : ℕ × Expr × ℕ) (r : Seen) → o ≡ Some x → IndexSoundNow t rule scope zs (block.index o) → (SoundNow t rule scope zs (formula x.1) → r ≡ seen v (written.term t scope (formula x.1)))
    → IsIndex v r (written.index_term t scope (block.index o))
index_some t rule scope zs v o x r is h k = let e = k (λ u f typed. subst (λ (q : Option (ℕ × Expr × ℕ)). EachIndex (Everywhere (Sound (rule_scope t rule) scope u)) (block.index q)) is (h u f typed)) in rw (is, e) (refl, refl)

-- what a place is given, and a halt, by what is read
pub given_seen : (out : Ty) (v : View) (x e : Term) (target w : Seen) (c r : Scene) → target ≡ seen v x → w ≡ seen v e → r ≡ given out target.spot target.took w c → r ≡ given out (spot_of v x) (takes v x) (seen v e) c
given_seen out v x e target w c r is also h = h ∙ ap (λ q. given out q.spot q.took w c) is ∙ ap (λ q. given out (spot_of v x) (takes v x) q c) also

pub halt_seen : (v : View) (e : Term) (code : Seen) (d h r : Done) → code ≡ seen v e → h ≡ halted_with code.value d → r ≡ looked_at code.took h → r ≡ looked_at (takes v e) (halted_with (value v e) d)
halt_seen v e code d h r is also k = k ∙ ap (looked_at code.took) also ∙ ap (λ q. looked_at q.took (halted_with q.value d)) is
