-- Ranks that rise from each rule to those that it names.
use Rattle.std.proofs.Common.{ℕ, ◌≡◌, ◌≤◌, ◌<◌, ◌+◌, subst, arith, Bool, true, false, List, length, get_or, inl, inr}
use Rattle.std.proofs.lemmas.Bool.{cases_lt}
use Rattle.graphs.specs.Graphs.{Graph, Among, Edge, Reaches, at_once, over, IsUp, Rises}
use Rattle.graphs.proofs.Search.{among_get, from_below, row_is, starts_below}

-- what is reached has no lower rank
reached_kept : (g : Graph) (ranks : List ℕ) (limit a c : ℕ) → Rises g ranks limit → Reaches g a c → get_or ranks a 0 ≤ get_or ranks c 0
reached_kept g ranks limit a c r (at_once e) = r.kept a c e
reached_kept g ranks limit a c r (over {b = b} e s) = let k = r.kept a b e in let h = reached_kept g ranks limit b c r s in omega (arith, k, h)

-- what a rule below the limit reaches has a higher one
reached_higher : (g : Graph) (ranks : List ℕ) (limit a c : ℕ) → Rises g ranks limit → a < limit → Reaches g a c → get_or ranks a 0 < get_or ranks c 0
reached_higher g ranks limit a c r low (at_once e) = r.higher a c low e
reached_higher g ranks limit a c r low (over {b = b} e s) = let k = r.higher a b low e in let h = reached_kept g ranks limit b c r s in omega (arith, k, h)

pub none_below : (g : Graph) (ranks : List ℕ) (limit a : ℕ) → Rises g ranks limit → a < limit → Reaches g a a → ⊥
none_below g ranks limit a r low s = let h = reached_higher g ranks limit a a r low s in absurd (omega (arith, h))

pub none_at_all : (g : Graph) (ranks : List ℕ) (limit a : ℕ) → Rises g ranks limit → length g ≤ limit → Reaches g a a → ⊥
none_at_all g ranks limit a r far s = let h = starts_below g a a s in none_below g ranks limit a r (omega (arith, h)) s

pub none_before : (g : Graph) (ranks : List ℕ) (limit a : ℕ) → Rises g ranks limit → Reaches g a a → limit ≤ a
none_before g ranks limit a r s = elim (cases_lt a limit) [ inl low ↦ absurd (none_below g ranks limit a r low s) | inr far ↦ omega (arith, far) ]

-- what holds at each place holds of each member
pub all_members : (ranks names : List ℕ) (strict : Bool) (low i : ℕ) → ((k : ℕ) → k < i → IsUp strict low (get_or ranks (get_or names k 0) 0)) → length names ≤ i → (b : ℕ) → Among names b → IsUp strict low (get_or ranks b 0)
all_members ranks names strict low i all far b h = let r = among_get names b h in let l = r.1 in subst (λ x. IsUp strict low (get_or ranks x 0)) r.2 (all r.0 (omega (arith, l)))

pub one_place : (ranks names : List ℕ) (strict : Bool) (low i : ℕ) → ((k : ℕ) → k < i → IsUp strict low (get_or ranks (get_or names k 0) 0)) → IsUp strict low (get_or ranks (get_or names i 0) 0) → (k : ℕ) → k < i + 1 → IsUp strict low (get_or ranks (get_or names k 0) 0)
one_place ranks names strict low i all here k less = elim (cases_lt k i) [ inl under ↦ all k under | inr more ↦ (let e : k ≡ i = omega arith in rw e here) ]

-- the ranks rise from the rules in front of i
pub record Rising (g : Graph) (ranks : List ℕ) (limit i : ℕ) : Type 0 where
  pub kept : (a b : ℕ) → a < i → Edge g a b → get_or ranks a 0 ≤ get_or ranks b 0
  pub higher : (a b : ℕ) → a < i → a < limit → Edge g a b → get_or ranks a 0 < get_or ranks b 0

up_kept : (strict : Bool) (low high : ℕ) → IsUp strict low high → low ≤ high
up_kept true low high h = omega (arith, h)
up_kept false low high h = h

up_higher : (strict : Bool) (low high : ℕ) → strict ≡ true → IsUp strict low high → low < high
up_higher true low high is h = h
up_higher false low high is h = absurd cc

pub rising_step : (g : Graph) (ranks : List ℕ) (limit i : ℕ) (d names : List ℕ) (strict : Bool) → Rising g ranks limit i → i < length g → names ≡ get_or g i d → (i < limit → strict ≡ true) → ((b : ℕ) → Among names b → IsUp strict (get_or ranks i 0) (get_or ranks b 0)) → Rising g ranks limit (i + 1)
rising_step g ranks limit i d names strict r here is told all =
    let at : (b : ℕ) → Edge g i b → IsUp strict (get_or ranks i 0) (get_or ranks b 0) = λ b e. all b (rw (is, row_is g i d here) e) in
    record {
      kept = λ a b less e. elim (cases_lt a i) [
        | inl under ↦ r.kept a b under e
        | inr more ↦ (let same : a ≡ i = omega arith in rw same (up_kept strict (get_or ranks i 0) (get_or ranks b 0) (at b (subst (λ x. Edge g x b) same e))))
      ];
      higher = λ a b less low e. elim (cases_lt a i) [
        | inl under ↦ r.higher a b under low e
        | inr more ↦ (let same : a ≡ i = omega arith in rw same (up_higher strict (get_or ranks i 0) (get_or ranks b 0) (told (subst (λ x. x < limit) same low)) (at b (subst (λ x. Edge g x b) same e))))
      ];
    }

pub rising_all : (g : Graph) (ranks : List ℕ) (limit i : ℕ) → Rising g ranks limit i → length g ≤ i → Rises g ranks limit
rising_all g ranks limit i r far = record {
  kept = λ a b e. let h = from_below g a b e in r.kept a b (omega (arith, h)) e;
  higher = λ a b low e. let h = from_below g a b e in r.higher a b (omega (arith, h)) low e;
}
