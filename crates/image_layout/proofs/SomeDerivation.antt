-- Where no rule reaches itself each rule has a derivation: below it there are fewer rules than names.
use Rattle.std.proofs.Common.{ℕ, zero, suc, ◌+◌, ◌≤◌, ◌≡◌, refl, sym, subst, arith, true, append_assoc, List, [], ◌∷◌, ◌++◌, length, length-append, Option, Some, None}
use Rattle.std.specs.Prelude.{IsSome}
use Rattle.std.proofs.lemmas.Cmp.{nat_list_eq_equiv}
use Rattle.std.proofs.lemmas.Map.Steps.{length-le_from_keys}
use Rattle.nml_tree.specs.Table.{Text, Table, Declared, declared}
use Rattle.nml_tree.specs.Reach.{IsBelow, CycleFault}
use Rattle.nml_tree.specs.Worth.{is_rule}
use Rattle.nml_tree.proofs.Height.{IsChain, distinct, all_declared}
use Rattle.nml_upward.specs.Upward.{IsRule, AreMade}
use Rattle.nml_upward.proofs.Upward.{HasOne, has_one, below_is_rule}

rule_known : (t : Table) (a : Text) (o : Option Declared) → declared t a ≡ o → is_rule o ≡ true → IsSome (declared t a)
rule_known t a None is h = absurd cc
rule_known t a (Some x) is h = rw is refl

-- a chain of rules goes on with what is below its last
chain_on : (ns : List Text) (t : Table) (a b : Text) → IsChain t (ns ++ a ∷ []) → IsBelow t a b → IsSome (declared t b) → IsChain t (ns ++ (a ∷ b ∷ []))
chain_on [] t a b h below known = (below, known)
chain_on (x ∷ []) t a b h below known = (h.0, (below, known))
chain_on (x ∷ y ∷ ns) t a b h below known = (h.0, chain_on (y ∷ ns) t a b h.1 below known)

-- it has no more rules than there are names
chain_short : (ns : List Text) (t : Table) → ((r : Text) → CycleFault t r → ⊥) → (a : Text) → IsChain t (ns ++ a ∷ []) → suc (length ns) ≤ length t
chain_short [] t free a c = length-le_from_keys nat_list_eq_equiv (a ∷ []) t (distinct [] t a free c) (λ q any. all_declared [] t a q c any)
chain_short (x ∷ ns) t free a c =
    let low = length-le_from_keys nat_list_eq_equiv (x ∷ (ns ++ a ∷ [])) t (distinct (ns ++ a ∷ []) t x free c) (λ q any. all_declared (ns ++ a ∷ []) t x q c any) in
    let long = length-append ns (a ∷ []) in
    omega (arith, low, long)

descend : (n : ℕ) (t : Table) → AreMade t → ((r : Text) → CycleFault t r → ⊥) → (ns : List Text) (a : Text) → IsChain t (ns ++ a ∷ []) → IsRule t a → length t ≤ length ns + n → HasOne t a
descend zero t made free ns a c rule low = absurd (let short = chain_short ns t free a c in omega (arith, short, low))
descend (suc n) t made free ns a c rule low =
    has_one t made a (declared t a) refl rule (λ b below.
    let is = below_is_rule t made a b below in
    descend n t made free (ns ++ a ∷ []) b (subst (IsChain t) (sym (append_assoc ns (a ∷ []) (b ∷ []))) (chain_on ns t a b c below (rule_known t b (declared t b) refl is))) is
    (let long = length-append ns (a ∷ []) in omega (arith, low, long)))

-- each rule has a derivation
pub has_derivation : (t : Table) → AreMade t → ((r : Text) → CycleFault t r → ⊥) → (a : Text) → IsRule t a → HasOne t a
has_derivation t made free a rule = descend (length t) t made free [] a (rule_known t a (declared t a) refl rule) rule (omega arith)
