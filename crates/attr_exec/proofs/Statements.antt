-- Statement by statement, and what a part's name runs.
use Rattle.std.proofs.Common.{ℕ, ◌+◌, ◌≤◌, List, ◌≡◌, ℤ, arith, refl, sym, ◌∙◌, ap, subst, Some, None, Option, Bool, true, false}
use Rattle.std.specs.Prelude.{if◌then◌else◌, not}
use Rattle.std.specs.Map.{lookup}
use Rattle.nk_base.specs.Text.{text_eq}
use Rattle.nk_base.specs.declared.number.Ty.{Ty}
use Rattle.nml_tree.specs.declared.names.Name.{Name}
use Rattle.nml_tree.specs.declared.expression.Expr.{Expr}
use Rattle.nml_tree.specs.declared.statement.Place.{Place}
use Rattle.nml_tree.specs.declared.statement.Stmt.{Stmt}
use Rattle.nml_tree.specs.declared.statement.Stmt.TheVariants as s
use Rattle.nml_tree.specs.Formula.{formula}
use Rattle.nml_tree.specs.Block as block
use Rattle.nml_tree.specs.Block.{Block, stmt, index}
use Rattle.nml_tree.specs.Depth.{block_depth}
use Rattle.nml_tree.specs.Table.{Table, Rule}
use Rattle.nml_tree.specs.Act as acts
use Rattle.nml_tree.specs.Act.{Term, Act}
use Rattle.nml_tree.specs.Value.{value, takes, is_zero}
use Rattle.nml_tree.specs.Written as written
use Rattle.nml_tree.specs.Written.{act, action_of, term, reference, index_term}
use Rattle.nml_tree.proofs.BlockLaws.{stmt-Assign, stmt-Part, stmt-Halt, stmt-If, stmt-If_else}
use Rattle.nml_state.specs.Cells.{Shown}
use Rattle.attr_exec.specs.declared.give.Done.{Done}
use Rattle.attr_exec.specs.declared.look.Seen.{Seen}
use Rattle.attr_exec.specs.Seen.{view, seen, spot_of}
use Rattle.attr_exec.specs.Ran.{Scene, scene, looked_at, halted_with, given, ran}
use Rattle.attr_exec.specs.Ready.{BlockSound, SoundNow, IndexSoundNow}
use Rattle.attr_exec.proofs.Running.{assigned_ran, followed_ran}

-- the statements behind `else`, where there are some
abbrev pub otherwise : Option (ℕ × List Stmt) → Block
otherwise None = block.Done
otherwise (Some (f, ys)) = block.block ys

pub otherwise_some : (o : Option (ℕ × List Stmt)) (p : ℕ × List Stmt) (ys : List Stmt) → o ≡ Some p → ys ≡ p.1 → otherwise o ≡ block.block ys
otherwise_some o p ys is also = rw (is, also) refl

-- how deep the statements within one are
pub part_depth : (x : Stmt) (n : Name) (dot at semicolon : ℕ) → x ≡ s.Part n dot at semicolon → 1 ≤ block_depth (stmt x block.Done)
part_depth x n dot at semicolon is = rw (is, stmt-Part n dot at semicolon block.Done) (omega arith)

pub then_depth : (x : Stmt) (at : ℕ) (c : Expr) (t : ℕ) (xs : List Stmt) (o : Option (ℕ × List Stmt)) (end semicolon : ℕ) → x ≡ s.If at c t xs o end semicolon → 1 + block_depth (block.block xs) ≤ block_depth (stmt x block.Done)
then_depth x at c t xs None end semicolon is = rw (is, stmt-If at c t xs end semicolon block.Done) (omega arith)
then_depth x at c t xs (Some (f, ys)) end semicolon is = rw (is, stmt-If_else at c t xs f ys end semicolon block.Done) (omega arith)

pub else_depth : (x : Stmt) (at : ℕ) (c : Expr) (t : ℕ) (xs : List Stmt) (o : Option (ℕ × List Stmt)) (end semicolon : ℕ) → x ≡ s.If at c t xs o end semicolon → 1 + block_depth (otherwise o) ≤ block_depth (stmt x block.Done)
else_depth x at c t xs None end semicolon is = rw (is, stmt-If at c t xs end semicolon block.Done) (omega arith)
else_depth x at c t xs (Some (f, ys)) end semicolon is = rw (is, stmt-If_else at c t xs f ys end semicolon block.Done) (omega arith)

module _ (t : Table) (rule : Rule) (scope : written.Scope) (zs : List ℤ) (out : Ty) (next : Option ℤ) (rest : Block) where
  abbrev Runs : Block → Scene → Scene → Type 0
  Runs b c r = (ran out zs next (act t scope b) c ≡ ran out zs next (act t scope rest) r) × BlockSound t rule scope zs rest

  pub assign_one : (x : Stmt) (p : Place) (at : ℕ) (e : Expr) (semicolon : ℕ) (c r : Scene) → x ≡ s.Assign p at e semicolon → BlockSound t rule scope zs (stmt x rest)
      → (IndexSoundNow t rule scope zs (index p.index) → SoundNow t rule scope zs (formula e)
      → r ≡ given out (spot_of (view zs c.state next) (reference t scope p.name.text (index_term t scope (index p.index)))) (takes (view zs c.state next) (reference t scope p.name.text (index_term t scope (index p.index)))) (seen (view zs c.state next) (term t scope (formula e))) c)
      → Runs (stmt x rest) c r
  assign_one x p at e semicolon c r is sound k =
      let b : stmt x rest ≡ block.Assign p.name (index p.index) at (formula e) semicolon rest = ap (λ y. stmt y rest) is ∙ stmt-Assign p at e semicolon rest in
      let h = subst (BlockSound t rule scope zs) b sound in
      let g = k (λ v f a. (h v f a).0) (λ v f a. (h v f a).1) in (
        ap (λ q. ran out zs next (act t scope q) c) b ∙ assigned_ran out zs next (reference t scope p.name.text (index_term t scope (index p.index))) (term t scope (formula e)) (act t scope rest) c ∙ ap (ran out zs next (act t scope rest)) (sym g),
        λ v f a. (h v f a).2,
      )

  pub part_one : (x : Stmt) (n : Name) (dot at semicolon : ℕ) (c r : Scene) → x ≡ s.Part n dot at semicolon → BlockSound t rule scope zs (stmt x rest) → r ≡ ran out zs next (action_of (lookup (text_eq n.text) scope)) c → Runs (stmt x rest) c r
  part_one x n dot at semicolon c r is sound g =
      let b : stmt x rest ≡ block.Part n dot at semicolon rest = ap (λ y. stmt y rest) is ∙ stmt-Part n dot at semicolon rest in
      let h = subst (BlockSound t rule scope zs) b sound in (
        ap (λ q. ran out zs next (act t scope q) c) b ∙ followed_ran out zs next (action_of (lookup (text_eq n.text) scope)) (act t scope rest) c ∙ ap (ran out zs next (act t scope rest)) (sym g),
        λ v f a. h v f a,
      )

  pub halt_one : (x : Stmt) (at p : ℕ) (e : Expr) (q semicolon : ℕ) (u : Shown) (d r : Done) → x ≡ s.Halt at p e q semicolon → BlockSound t rule scope zs (stmt x rest)
      → (SoundNow t rule scope zs (formula e) → r ≡ looked_at (takes (view zs u next) (term t scope (formula e))) (halted_with (value (view zs u next) (term t scope (formula e))) d)) → Runs (stmt x rest) (scene u d) (scene u r)
  halt_one x at p e q semicolon u d r is sound k =
      let b : stmt x rest ≡ block.Halt at p (formula e) q semicolon rest = ap (λ y. stmt y rest) is ∙ stmt-Halt at p e q semicolon rest in
      let h = subst (BlockSound t rule scope zs) b sound in
      let g = k (λ v f a. (h v f a).0) in (
        ap (λ q. ran out zs next (act t scope q) (scene u d)) b ∙ ap (λ q. ran out zs next (act t scope rest) (scene u q)) (sym g),
        λ v f a. (h v f a).1,
      )

  if_act : (x : Stmt) (at : ℕ) (c : Expr) (k : ℕ) (xs : List Stmt) (o : Option (ℕ × List Stmt)) (end semicolon : ℕ) → x ≡ s.If at c k xs o end semicolon
      → act t scope (stmt x rest) ≡ acts.When (term t scope (formula c)) (act t scope (block.block xs)) (act t scope (otherwise o)) (act t scope rest)
  if_act x at c k xs None end semicolon is = ap (act t scope) (ap (λ y. stmt y rest) is ∙ stmt-If at c k xs end semicolon rest)
  if_act x at c k xs (Some (f, ys)) end semicolon is = ap (act t scope) (ap (λ y. stmt y rest) is ∙ stmt-If_else at c k xs f ys end semicolon rest)

  pub if_sound : (x : Stmt) (at : ℕ) (c : Expr) (k : ℕ) (xs : List Stmt) (o : Option (ℕ × List Stmt)) (end semicolon : ℕ) → x ≡ s.If at c k xs o end semicolon → BlockSound t rule scope zs (stmt x rest)
      → SoundNow t rule scope zs (formula c) × BlockSound t rule scope zs (block.block xs) × BlockSound t rule scope zs (otherwise o) × BlockSound t rule scope zs rest
  if_sound x at c k xs None end semicolon is sound =
      let h = subst (BlockSound t rule scope zs) (ap (λ y. stmt y rest) is ∙ stmt-If at c k xs end semicolon rest) sound in
      (λ v f a. (h v f a).0, λ v f a. (h v f a).1, λ v f a. tt, λ v f a. (h v f a).2)
  if_sound x at c k xs (Some (j, ys)) end semicolon is sound =
      let h = subst (BlockSound t rule scope zs) (ap (λ y. stmt y rest) is ∙ stmt-If_else at c k xs j ys end semicolon rest) sound in
      (λ v f a. (h v f a).0, λ v f a. (h v f a).1, λ v f a. (h v f a).2, λ v f a. (h v f a).3)

  pub if_one : (x : Stmt) (at : ℕ) (c : Expr) (k : ℕ) (xs : List Stmt) (o : Option (ℕ × List Stmt)) (end semicolon : ℕ) (u : Shown) (d e : Done) (w : Seen) (b : Bool) (m : Scene) → x ≡ s.If at c k xs o end semicolon → BlockSound t rule scope zs rest
      → w ≡ seen (view zs u next) (term t scope (formula c)) → is_zero w.value ≡ b → e ≡ looked_at w.took d → (b ≡ false → m ≡ ran out zs next (act t scope (block.block xs)) (scene u e)) → (b ≡ true → m ≡ ran out zs next (act t scope (otherwise o)) (scene u e))
      → Runs (stmt x rest) (scene u d) m
  if_one x at c k xs o end semicolon u d e w b m is sound seen_is zero looked one other =
      (ap (λ q. ran out zs next q (scene u d)) (if_act x at c k xs o end semicolon is) ∙ side b (ap (λ q. is_zero q.value) (sym seen_is) ∙ zero) one other, sound)
    where
      same : e ≡ looked_at (takes (view zs u next) (term t scope (formula c))) d
      same = looked ∙ ap (λ q. looked_at q.took d) seen_is

      looked_now : Done
      looked_now = looked_at (takes (view zs u next) (term t scope (formula c))) d

      turn : Bool → Scene
      turn q = if not q then ran out zs next (act t scope (block.block xs)) (scene u looked_now) else ran out zs next (act t scope (otherwise o)) (scene u looked_now)

      side : (b : Bool) → is_zero (value (view zs u next) (term t scope (formula c))) ≡ b → (b ≡ false → m ≡ ran out zs next (act t scope (block.block xs)) (scene u e)) → (b ≡ true → m ≡ ran out zs next (act t scope (otherwise o)) (scene u e))
          → ran out zs next (acts.When (term t scope (formula c)) (act t scope (block.block xs)) (act t scope (otherwise o)) (act t scope rest)) (scene u d) ≡ ran out zs next (act t scope rest) m
      side true z one other = ap (λ q. ran out zs next (act t scope rest) (turn q)) z ∙ ap (ran out zs next (act t scope rest)) (ap (λ q. ran out zs next (act t scope (otherwise o)) (scene u q)) (sym same) ∙ sym (other refl))
      side false z one other = ap (λ q. ran out zs next (act t scope rest) (turn q)) z ∙ ap (ran out zs next (act t scope rest)) (ap (λ q. ran out zs next (act t scope (block.block xs)) (scene u q)) (sym same) ∙ sym (one refl))

  pub otherwise_none : (o : Option (ℕ × List Stmt)) (m : Scene) → o ≡ None → m ≡ ran out zs next (act t scope (otherwise o)) m
  otherwise_none o m is = rw is refl
