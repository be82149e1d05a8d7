-- A number that no node has stands for nothing to do.
use Rattle.std.proofs.Common.{◌≡◌, refl, ◌∙◌, ℕ, zero, suc, ◌<◌, ◌≤◌, arith, List, [], ◌∷◌, length, reverse, None}
use Rattle.std.specs.Prelude.{slice_get, ◌==◌, if◌then◌else◌}
use Rattle.std.proofs.lemmas.List.{length-reverse}
use Rattle.std.proofs.lemmas.Bool.Decides.{nat_tests}
use Rattle.c_tree.specs.Program.{Skip}
use Rattle.c_flat.specs.declared.node.Node.{Node}
use Rattle.c_flat.specs.Written.{Written, OfCommand, grown, written}

outside : {X : Type 0} (xs : List X) (n : ℕ) → slice_get xs n ≡ None → length xs ≤ n
outside [] n is = omega arith
outside (x ∷ xs) zero is = absurd (cc)
outside (x ∷ xs) (suc n) is = let h = outside xs n is in omega (arith, h)

test_more : (i n : ℕ) (a b : Written) → n < i → (if i == n then a else b) ≡ b
test_more i n a b h = grind (arith, nat_tests)

grown_outside : (ns : List Node) (n : ℕ) → length ns ≤ n → grown ns n ≡ OfCommand Skip
grown_outside [] n h = refl
grown_outside (x ∷ older) n h = test_more n (length older) _ _ (omega (arith, h)) ∙ grown_outside older n (omega (arith, h))

pub written_nowhere : (nodes : List Node) (n : ℕ) → slice_get nodes n ≡ None → written nodes n ≡ OfCommand Skip
unfolding written
written_nowhere nodes n is = let h = outside nodes n is in grown_outside (reverse nodes) n (omega (arith, h, length-reverse nodes))
