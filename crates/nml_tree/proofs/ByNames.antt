-- What is told of a rule from what is told of the rules below it: where no rule reaches itself, looking through as many rules as there are names is enough.
use Rattle.std.proofs.Common.{ℕ, zero, suc, ◌≡◌, refl, List, [], ◌∷◌, length, Option, Some, None, arith}
use Rattle.std.specs.Prelude.{IsSome}
use Rattle.std.proofs.lemmas.Cmp.{nat_list_eq_equiv}
use Rattle.std.proofs.lemmas.Map.Steps.{length-le_from_keys}
use Rattle.nml_tree.specs.Table.{Text, Table, Declared, declared}
use Rattle.nml_tree.specs.Reach.{IsBelow, CycleFault}
use Rattle.nml_tree.proofs.Height.{IsChain, distinct, all_declared}

-- a telling that looks through at most n rules below one another, and that changes nothing where it changes nothing below
pub record IsByNames {A : Type 0} (t : Table) (told : ℕ → Text → A) : Type 0 where
  pub bare : (name : Text) → declared t name ≡ None → told 0 name ≡ told 1 name
  pub below : (n : ℕ) (name : Text) → ((b : Text) → IsBelow t name b → told n b ≡ told (suc n) b) → told (suc n) name ≡ told (suc (suc n)) name

bare_at : {A : Type 0} (t : Table) (told : ℕ → Text → A) → IsByNames t told → (name : Text) (o : Option Declared) → declared t name ≡ o → (IsSome (declared t name) → ⊥) → told 0 name ≡ told 1 name
bare_at t told by name None is not = by.bare name is
bare_at t told by name (Some d) is not = absurd (not (rw is refl))

-- where there is no chain of n further names, n are enough
enough_behind : {A : Type 0} (t : Table) (told : ℕ → Text → A) → IsByNames t told → (n : ℕ) (name : Text)
    → ((ns : List Text) → IsChain t (name ∷ ns) → length ns ≡ n → ⊥) → told n name ≡ told (suc n) name
enough_behind t told by zero name short = bare_at t told by name (declared t name) refl (λ c. short [] c refl)
enough_behind t told by (suc n) name short =
    by.below n name (λ b h. enough_behind t told by n b (λ ns c is. short (b ∷ ns) (h, c) (omega (arith, is))))

no_chain : (t : Table) → ((r : Text) → CycleFault t r → ⊥) → (name : Text) (ns : List Text) → IsChain t (name ∷ ns) → length ns ≡ length t → ⊥
no_chain t free name ns c is =
    let low = length-le_from_keys nat_list_eq_equiv (name ∷ ns) t (distinct ns t name free c) (λ q any. all_declared ns t name q c any) in
    omega (arith, low, is)

-- so one rule more tells nothing new
pub enough : {A : Type 0} (t : Table) (told : ℕ → Text → A) → IsByNames t told → ((r : Text) → CycleFault t r → ⊥) → (name : Text) → told (length t) name ≡ told (suc (length t)) name
enough t told by free name = enough_behind t told by (length t) name (no_chain t free name)
