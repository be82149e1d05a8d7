-- A list of statements, run from its front.
use Rattle.std.proofs.Common.{◌+◌, zero, suc, drop, get_or, ◌≡◌, ℕ, ◌<◌, ◌≤◌, ℤ, Option, List, [], ◌∷◌, length, refl, ap, sym, ◌∙◌, subst, arith}
use Rattle.std.proofs.lemmas.List.{drop_all}
use Rattle.nk_base.specs.declared.number.Ty.{Ty}
use Rattle.nml_tree.specs.Table.{Table}
use Rattle.nml_tree.specs.Act.{Done}
use Rattle.attr_exec.specs.Ran.{Scene, Same, ran}
use Rattle.attr_exec.specs.Ready.{Ready}
use Rattle.attr_exec.proofs.Running.{same_self, same_trans, ready_same}
use Rattle.isg_nodes.specs.declared.node.Node.{Node}
use Rattle.isg_nodes.specs.Written.{in_order, statement, AllBelow}
use Rattle.isg_run.specs.Narrow.{AreNarrow}
use Rattle.isg_run.proofs.Splits.{splits, narrow_splits}

-- what is left to run does from now what all of it does from the start, and its expressions are narrow
pub record Goes (nodes : List Node) (out : Ty) (zs : List ℤ) (next : Option ℤ) (rest all : List ℕ) (old new : Scene) (t : Table) : Type 0 where
  pub same : ran out zs next (in_order (statement nodes) rest Done) new ≡ ran out zs next (in_order (statement nodes) all Done) old
  pub narrow : AreNarrow t zs (in_order (statement nodes) rest Done)

-- some statements ran, and these are left
pub record Walks (nodes : List Node) (out : Ty) (zs : List ℤ) (next : Option ℤ) (n : ℕ) (rest all : List ℕ) (old new : Scene) : Type 0 where
  pub kept : Same old.state new.state
  pub below : AllBelow rest n
  pub goes : (t : Table) → Ready t next old.state → AreNarrow t zs (in_order (statement nodes) all Done) → Goes nodes out zs next rest all old new t

module _ (nodes : List Node) (out : Ty) (zs : List ℤ) (next : Option ℤ) (n : ℕ) where
  -- what one statement does
  abbrev pub Ran : ℕ → Scene → Scene → Type 0
  Ran x a b = (t : Table) → Ready t next a.state → AreNarrow t zs (statement nodes x Done) → b ≡ ran out zs next (statement nodes x Done) a

  pub walk_begin : (all : List ℕ) (c : Scene) → AllBelow all n → Walks nodes out zs next n all all c c
  walk_begin all c b = record { kept = same_self c.state; below = b; goes = λ t ready narrow. record { same = refl; narrow = narrow } }

  walk_one : (x : ℕ) (rest all : List ℕ) (old new then : Scene) → Walks nodes out zs next n (x ∷ rest) all old new → Same new.state then.state → Ran x new then → Walks nodes out zs next n rest all old then
  walk_one x rest all old new then w s r = record {
    kept = same_trans old.state new.state then.state w.kept s;
    below = w.below.1;
    goes = λ t ready narrow.
        let g = w.goes t ready narrow in
        let p = narrow_splits t zs nodes x (in_order (statement nodes) rest Done) g.narrow in
        let here = r t (ready_same t next old.state new.state w.kept ready) p.0 in
        record { same = ap (ran out zs next (in_order (statement nodes) rest Done)) here ∙ sym (splits out zs next nodes x (in_order (statement nodes) rest Done) new) ∙ g.same; narrow = p.1 };
  }

  front_suc : (xs : List ℕ) (i : ℕ) → i < length xs → drop i xs ≡ get_or xs i 0 ∷ drop (suc i) xs
  front_suc [] i h = absurd (omega arith)
  front_suc (x ∷ xs) zero h = refl
  front_suc (x ∷ xs) (suc i) h = front_suc xs i (omega arith)

  front : (xs : List ℕ) (i : ℕ) → i < length xs → drop i xs ≡ get_or xs i 0 ∷ drop (i + 1) xs
  front xs i h = let e : i + 1 ≡ suc i = omega arith in subst (λ k. drop i xs ≡ get_or xs i 0 ∷ drop k xs) (sym e) (front_suc xs i h)

  abbrev Before : ℕ → List ℕ → Scene → Scene → Type 0
  Before i all old new = Walks nodes out zs next n (drop i all) all old new

  pub walk_here : (i : ℕ) (all : List ℕ) (old new : Scene) → i < length all → Before i all old new → get_or all i 0 < n
  walk_here i all old new h w =
      let w' : Walks nodes out zs next n (get_or all i 0 ∷ drop (i + 1) all) all old new = subst (λ xs. Walks nodes out zs next n xs all old new) (front all i h) w in
      w'.below.0

  pub walk_next : (i : ℕ) (all : List ℕ) (old new then : Scene) → i < length all → Before i all old new → Same new.state then.state → Ran (get_or all i 0) new then → Before (i + 1) all old then
  walk_next i all old new then h w s r =
      let w' : Walks nodes out zs next n (get_or all i 0 ∷ drop (i + 1) all) all old new = subst (λ xs. Walks nodes out zs next n xs all old new) (front all i h) w in
      walk_one (get_or all i 0) (drop (i + 1) all) all old new then w' s r

  -- all ran
  pub walk_end : (i : ℕ) (all : List ℕ) (old new : Scene) → length all ≤ i → Before i all old new → (t : Table) → Ready t next old.state → AreNarrow t zs (in_order (statement nodes) all Done) → new ≡ ran out zs next (in_order (statement nodes) all Done) old
  walk_end i all old new h w t ready narrow =
      let w' : Walks nodes out zs next n [] all old new = subst (λ xs. Walks nodes out zs next n xs all old new) (drop_all i all h) w in
      (w'.goes t ready narrow).same
