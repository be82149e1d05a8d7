-- The closures of a machine agree.
use Rattle.std.proofs.Common.{◌≡◌, ℕ, zero, suc, ◌≤◌, refl, sym, subst, ap, ◌∙◌, arith, ⊎_elim}
use Rattle.std.proofs.lemmas.Bool.{cases_order}
use Rattle.std.specs.Prelude.{Bool, true, false, List, [], ◌∷◌, Option, Some, None, replicate, ◌||◌, slice_get, unwrap_or, option_map}
use Rattle.pat_core.specs.Isa.{Isa}
use Rattle.pat_core.specs.Operation.{Op, op_number, ops}
use Rattle.pat_core.specs.Cert.{Cert, words}
use Rattle.pat_core.specs.Closure.{Closure, Reaches, IsClosure, Reaching, Nothing, IsEntry, AreEntries, cert_of, has, is_closed, is_closed_number}
use Rattle.pat_core.specs.Formulas.{usable, is_usable}
use Rattle.pat_core.specs.Alike.{IsAlike, AreAlike}

-- each is at most the other
both_least : (a b : ℕ) → a ≤ b → b ≤ a → a ≡ b
both_least a b p q = omega (arith, p, q)

entry_one : (isa : Isa) (bits : ℕ) (op : Op) (c d : Option Cert) → IsEntry isa bits op c → IsEntry isa bits op d → IsAlike c d
entry_one isa bits op None None p q = tt
entry_one isa bits op None (Some d) p q = p d q.is
entry_one isa bits op (Some c) None p q = q c p.is
entry_one isa bits op (Some c) (Some d) p q =
    let same : words c ≡ words d = both_least (words c) (words d) (p.shortest d q.is) (q.shortest c p.is) in
    (same, both_least c.pattern d.pattern (p.least d q.is (sym same)) (q.least c p.is same))

entries_one : (isa : Isa) (bits : ℕ) (some : List Op) (cs ds : List (Option Cert)) → AreEntries isa bits some cs → AreEntries isa bits some ds → AreAlike cs ds
entries_one isa bits [] cs ds p q = rw (p, q) tt
entries_one isa bits (op ∷ more) cs ds (c, others, is, entry, rest) (d, those, also, that, behind) =
    rw (is, also) (entry_one isa bits op c d entry that, entries_one isa bits more others those rest behind)

none_alike : (n : ℕ) → AreAlike (replicate n None) (replicate n None)
none_alike zero = tt
none_alike (suc n) = (tt, none_alike n)

reach_one : (isa : Isa) (c d : Closure) → Reaches isa c → Reaches isa d → c.bits ≡ d.bits
reach_one isa c d p q = ⊎_elim (λ same. same)
    (λ other. ⊎_elim (λ below. absurd (p.greatest d.bits below q.most q.copy)) (λ above. absurd (q.greatest c.bits above p.most p.copy)) other)
    (cases_order c.bits d.bits)

-- in what they agree
pub record Agree (c d : Closure) : Type 0 where
  pub bits : c.bits ≡ d.bits
  pub certs : AreAlike c.certs d.certs

pub closure_one : (isa : Isa) (c d : Closure) → IsClosure isa c → IsClosure isa d → Agree c d
closure_one isa c d (Reaching p) (Reaching q) =
    let same = reach_one isa c d p q in
    record { bits = same; certs = entries_one isa c.bits ops c.certs d.certs p.entries (subst (λ b. AreEntries isa b ops d.certs) (sym same) q.entries) }
closure_one isa c d (Reaching p) (Nothing q) = absurd (q.no_copy c.bits p.some p.most p.copy)
closure_one isa c d (Nothing p) (Reaching q) = absurd (p.no_copy d.bits q.some q.most q.copy)
closure_one isa c d (Nothing p) (Nothing q) =
    record { bits = p.no_bits ∙ sym q.no_bits; certs = subst (λ cs. AreAlike cs d.certs) (sym p.no_certs) (subst (λ ds. AreAlike (replicate 26 None) ds) (sym q.no_certs) (none_alike 26)) }

-- ---- what is closed

-- a Cert is there
abbrev is_there : Option Cert → Bool
is_there c = unwrap_or (option_map (λ cert. true) c) false

there : (c d : Option Cert) → IsAlike c d → is_there c ≡ is_there d
there None None p = refl
there None (Some d) p = elim p [ ]
there (Some c) None p = elim p [ ]
there (Some c) (Some d) p = refl

entry_at : (cs ds : List (Option Cert)) (n : ℕ) → AreAlike cs ds → IsAlike (unwrap_or (slice_get cs n) None) (unwrap_or (slice_get ds n) None)
entry_at [] [] n p = tt
entry_at [] (d ∷ ds) n p = elim p [ ]
entry_at (c ∷ cs) [] n p = elim p [ ]
entry_at (c ∷ cs) (d ∷ ds) zero p = p.0
entry_at (c ∷ cs) (d ∷ ds) (suc n) p = entry_at cs ds n p.1

has_same : (c d : Closure) → AreAlike c.certs d.certs → has c ≡ has d
has_same c d p = λ i op. there (cert_of c op) (cert_of d op) (entry_at c.certs d.certs (op_number op) p) i

closed_same : (c d : Closure) → AreAlike c.certs d.certs → (op : Op) → is_closed c op ≡ is_closed d op
closed_same c d p op = ap (λ have. have op || is_usable (usable have op)) (has_same c d p)

pub numbers_same : (c d : Closure) → AreAlike c.certs d.certs → (k : ℕ) → is_closed_number c k ≡ is_closed_number d k
numbers_same c d p k = ap (λ closed. unwrap_or (option_map closed (slice_get ops k)) false) (λ i op. closed_same c d p op i)
