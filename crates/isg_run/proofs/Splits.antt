-- A statement of a graph runs, then what stands behind it; and the expressions of both are narrow.
use Rattle.std.proofs.Common.{◌≡◌, ℕ, List, [], ◌∷◌, length, reverse, refl, ℤ, Bool, true, false, Option}
use Rattle.std.specs.Prelude.{◌==◌, if◌then◌else◌}
use Rattle.nk_base.specs.declared.number.Ty.{Ty}
use Rattle.nml_tree.specs.Table.{Table}
use Rattle.nml_tree.specs.Act.{Term, Act, Done}
use Rattle.attr_exec.specs.Ran.{Scene, ran}
use Rattle.isg_nodes.specs.declared.node.Node.{Node}
use Rattle.isg_nodes.specs.declared.node.Node.TheVariants as node
use Rattle.isg_nodes.specs.Written.{one_act, grown_term, grown_act, statement}
use Rattle.isg_run.specs.Narrow.{AreNarrow}

module _ (out : Ty) (zs : List ℤ) (next : Option ℤ) where
  abbrev Run : Act → Scene → Scene
  Run a c = ran out zs next a c

  one_splits : (x : Node) (f : ℕ → Term) (a : ℕ → Act → Act) (rest : Act) (c : Scene) → Run (one_act x f a rest) c ≡ Run rest (Run (one_act x f a Done) c)
  one_splits (node.Number z) f a rest c = refl
  one_splits (node.Field k) f a rest c = refl
  one_splits (node.Cell k i) f a rest c = refl
  one_splits (node.Trn k) f a rest c = refl
  one_splits node.Inp f a rest c = refl
  one_splits (node.Unary op x) f a rest c = refl
  one_splits (node.Binary op x y) f a rest c = refl
  one_splits (node.Choose b x y) f a rest c = refl
  one_splits (node.SetCell k i e) f a rest c = refl
  one_splits (node.SetTrn k e) f a rest c = refl
  one_splits (node.Put e) f a rest c = refl
  one_splits (node.Halt e) f a rest c = refl
  one_splits (node.When b xs ys) f a rest c = refl

  turn : (b : Bool) (one old : Act → Act) (rest : Act) (c : Scene) → Run (one rest) c ≡ Run rest (Run (one Done) c) → Run (old rest) c ≡ Run rest (Run (old Done) c) → Run (if b then one rest else old rest) c ≡ Run rest (Run (if b then one Done else old Done) c)
  turn true one old rest c h g = h
  turn false one old rest c h g = g

  grown_splits : (ns : List Node) (n : ℕ) (rest : Act) (c : Scene) → Run (grown_act ns n rest) c ≡ Run rest (Run (grown_act ns n Done) c)
  grown_splits [] n rest c = refl
  grown_splits (x ∷ older) n rest c =
      turn (n == length older) (λ r. one_act x (grown_term older) (grown_act older) r) (λ r. grown_act older n r) rest c (one_splits x (grown_term older) (grown_act older) rest c) (grown_splits older n rest c)

  pub splits : (nodes : List Node) (n : ℕ) (rest : Act) (c : Scene) → ran out zs next (statement nodes n rest) c ≡ ran out zs next rest (ran out zs next (statement nodes n Done) c)
  unfolding statement
  splits nodes n rest c = grown_splits (reverse nodes) n rest c

module _ (t : Table) (zs : List ℤ) where
  abbrev Both : Act → Act → Type 0
  Both a rest = AreNarrow t zs a × AreNarrow t zs rest

  one_narrow : (x : Node) (f : ℕ → Term) (a : ℕ → Act → Act) (rest : Act) → AreNarrow t zs (one_act x f a rest) → Both (one_act x f a Done) rest
  one_narrow (node.Number z) f a rest h = (tt, h)
  one_narrow (node.Field k) f a rest h = (tt, h)
  one_narrow (node.Cell k i) f a rest h = (tt, h)
  one_narrow (node.Trn k) f a rest h = (tt, h)
  one_narrow node.Inp f a rest h = (tt, h)
  one_narrow (node.Unary op x) f a rest h = (tt, h)
  one_narrow (node.Binary op x y) f a rest h = (tt, h)
  one_narrow (node.Choose b x y) f a rest h = (tt, h)
  one_narrow (node.SetCell k i e) f a rest h = ((h.0, (h.1.0, tt)), h.1.1)
  one_narrow (node.SetTrn k e) f a rest h = ((h.0, tt), h.1)
  one_narrow (node.Put e) f a rest h = ((h.0, tt), h.1)
  one_narrow (node.Halt e) f a rest h = ((h.0, tt), h.1)
  one_narrow (node.When b xs ys) f a rest h = ((h.0, (h.1.0, (h.1.1.0, tt))), h.1.1.1)

  side_narrow : (b : Bool) (one old : Act → Act) (rest : Act) → (AreNarrow t zs (one rest) → Both (one Done) rest) → (AreNarrow t zs (old rest) → Both (old Done) rest) → AreNarrow t zs (if b then one rest else old rest) → Both (if b then one Done else old Done) rest
  side_narrow true one old rest h g n = h n
  side_narrow false one old rest h g n = g n

  grown_narrow : (ns : List Node) (n : ℕ) (rest : Act) → AreNarrow t zs (grown_act ns n rest) → Both (grown_act ns n Done) rest
  grown_narrow [] n rest h = (tt, h)
  grown_narrow (x ∷ older) n rest h =
      side_narrow (n == length older) (λ r. one_act x (grown_term older) (grown_act older) r) (λ r. grown_act older n r) rest (one_narrow x (grown_term older) (grown_act older) rest) (grown_narrow older n rest) h

  pub narrow_splits : (nodes : List Node) (n : ℕ) (rest : Act) → AreNarrow t zs (statement nodes n rest) → AreNarrow t zs (statement nodes n Done) × AreNarrow t zs rest
  unfolding statement
  narrow_splits nodes n rest h = grown_narrow (reverse nodes) n rest h
