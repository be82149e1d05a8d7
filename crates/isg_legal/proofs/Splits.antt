-- A statement of a graph, then what stands behind it.
use Rattle.std.proofs.Common.{◌≡◌, ℕ, ℤ, List, [], ◌∷◌, length, reverse, refl, Bool, true, false}
use Rattle.std.specs.Prelude.{◌==◌, if◌then◌else◌}
use Rattle.isg_legal.specs.Known.{AreFit}
use Rattle.isg_nodes.specs.Written.{one_act, grown_term, grown_act, statement}
use Rattle.isg_nodes.specs.declared.node.Node.{Node}
use Rattle.isg_nodes.specs.declared.node.Node.TheVariants as node
use Rattle.nml_tree.specs.Act.{Term, Act, Done, SetCell, SetTrn, Put, Halt, When, followed}

one_splits : (x : Node) (f : ℕ → Term) (a : ℕ → Act → Act) (rest : Act) → one_act x f a rest ≡ followed (one_act x f a Done) rest
one_splits (node.Number z) f a rest = refl
one_splits (node.Field k) f a rest = refl
one_splits (node.Cell k i) f a rest = refl
one_splits (node.Trn k) f a rest = refl
one_splits node.Inp f a rest = refl
one_splits (node.Unary op x) f a rest = refl
one_splits (node.Binary op x y) f a rest = refl
one_splits (node.Choose b x y) f a rest = refl
one_splits (node.SetCell k i e) f a rest = refl
one_splits (node.SetTrn k e) f a rest = refl
one_splits (node.Put e) f a rest = refl
one_splits (node.Halt e) f a rest = refl
one_splits (node.When b xs ys) f a rest = refl

turn : (b : Bool) (one old : Act → Act) (rest : Act) → one rest ≡ followed (one Done) rest → old rest ≡ followed (old Done) rest → (if b then one rest else old rest) ≡ followed (if b then one Done else old Done) rest
turn true one old rest h g = h
turn false one old rest h g = g

grown_splits : (ns : List Node) (n : ℕ) (rest : Act) → grown_act ns n rest ≡ followed (grown_act ns n Done) rest
grown_splits [] n rest = refl
grown_splits (x ∷ older) n rest =
    turn (n == length older) (λ r. one_act x (grown_term older) (grown_act older) r) (λ r. grown_act older n r) rest (one_splits x (grown_term older) (grown_act older) rest) (grown_splits older n rest)

pub splits : (nodes : List Node) (n : ℕ) (rest : Act) → statement nodes n rest ≡ followed (statement nodes n Done) rest
unfolding statement
splits nodes n rest = grown_splits (reverse nodes) n rest

module _ (put_in : Bool) (zs : List ℤ) where
  pub fit_splits : (a b : Act) → AreFit put_in zs (followed a b) → AreFit put_in zs a × AreFit put_in zs b
  fit_splits Done b h = (tt, h)
  fit_splits (SetCell n i e a) b h = let r = fit_splits a b h.1 in ((h.0, r.0), r.1)
  fit_splits (SetTrn n e a) b h = fit_splits a b h
  fit_splits (Put e a) b h = fit_splits a b h
  fit_splits (Halt e a) b h = fit_splits a b h
  fit_splits (When c x y a) b h = let r = fit_splits a b h.1.1 in ((h.0, (h.1.0, r.0)), r.1)

-- where the fields aren't put in, all fits
pub none_fits : (zs : List ℤ) (a : Act) → AreFit false zs a
none_fits zs Done = tt
none_fits zs (SetCell n i e a) = (tt, none_fits zs a)
none_fits zs (SetTrn n e a) = none_fits zs a
none_fits zs (Put e a) = none_fits zs a
none_fits zs (Halt e a) = none_fits zs a
none_fits zs (When c x y a) = (none_fits zs x, (none_fits zs y, none_fits zs a))
