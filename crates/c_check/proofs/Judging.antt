-- What the searches found says whether a program is accepted.
use Rattle.std.proofs.Common.{ℕ, ◌≡◌, ◌<◌, ◌≤◌, refl, sym, ◌∙◌, subst, arith, List, [], length, Option, Some, None, inl, inr}
use Rattle.std.specs.Prelude.{MatchOption, slice_get}
use Rattle.std.specs.Option.{option_map}
use Rattle.c_tree.specs.declared.fault.CFault.TheVariants as fault
use Rattle.c_tree.specs.Items.{Definition, Item}
use Rattle.c_tree.specs.Names.{functions_in, parameters}
use Rattle.c_tree.specs.Faults.{faults}
use Rattle.c_tree.specs.Recursion.{Graph, Reaches, IsAcyclic, calls_of, others, main_of}
use Rattle.c_tree.specs.Accepted.{IsAccepted, IsFaultOf}
use Rattle.c_cycle.specs.Search.{LeastOf}
use Rattle.c_check.specs.First.{IsNamed, recursion_of}

pub acyclic : (g h : Graph) (o : Option ℕ) → LeastOf (λ a. Reaches g a a) o → o ≡ None → g ≡ h → IsAcyclic h
acyclic g h None least is same = subst IsAcyclic same least
acyclic g h (Some a) least is same = absurd cc

pub recursive : (gs : List Item) (n : ℕ) (g : Graph) (o : Option ℕ) (number : ℕ) (name : Option (List ℕ)) → faults gs n ≡ [] → LeastOf (λ a. Reaches g a a) o → o ≡ Some number → g ≡ calls_of gs → MatchOption name (slice_get (others (functions_in gs)) number ≡ None) (λ text. IsNamed (slice_get (others (functions_in gs)) number) text) → IsFaultOf gs n (recursion_of name)
recursive gs n g o number None none least is same told = tt
recursive gs n g None number (Some text) none least is same told = absurd cc
recursive gs n g (Some a) number (Some text) none least is same told =
    let first : a ≡ number = cc in (
      none,
      record {
        number = number;
        function = told.0;
        is = told.1;
        named = told.2;
        recursive = subst (λ k. Reaches (calls_of gs) k k) first (subst (λ h. Reaches h a a) same least.0);
        first = λ f r. subst (λ k. k ≤ f) first (least.1 f (subst (λ h. Reaches h f f) (sym same) r));
      },
    )

abbrev arity : Definition → ℕ
arity f = length (parameters f.params)

missing_of : (o : Option Definition) → None ≡ option_map arity o → o ≡ None
missing_of None is = refl
missing_of (Some f) is = absurd cc

there_of : (o : Option Definition) (k : ℕ) → Some k ≡ option_map arity o → (f : Definition) × (o ≡ Some f) × (arity f ≡ k)
there_of None k is = absurd cc
there_of (Some f) k is = (f, refl, cc)

pub missing : (gs : List Item) (n : ℕ) → faults gs n ≡ [] → IsAcyclic (calls_of gs) → None ≡ option_map arity (main_of (functions_in gs)) → IsFaultOf gs n fault.Main
missing gs n none free is = (none, free, inl (missing_of _ is))

pub taking : (gs : List Item) (n k : ℕ) → faults gs n ≡ [] → IsAcyclic (calls_of gs) → Some k ≡ option_map arity (main_of (functions_in gs)) → (k ≡ 0 → ⊥) → IsFaultOf gs n fault.Main
taking gs n k none free is some = let m = there_of _ k is in let e = m.2 in (none, free, inr (m.0, m.1, rw e (positive k some)))
  where
    positive : (k : ℕ) → (k ≡ 0 → ⊥) → 0 < k
    positive k some = omega (arith, some)

pub accepted : (gs : List Item) (n k : ℕ) → faults gs n ≡ [] → IsAcyclic (calls_of gs) → Some k ≡ option_map arity (main_of (functions_in gs)) → k ≡ 0 → IsAccepted gs n
accepted gs n k none free is zero = let m = there_of _ k is in record { faultless = none; acyclic = free; main = (m.0, m.1, m.2 ∙ zero) }
