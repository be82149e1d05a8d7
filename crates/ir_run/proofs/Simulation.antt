-- Two machines, where some steps of the first are no step of the second.
use Rattle.std.proofs.Common.{◌≡◌, ℕ, zero, suc, ◌+◌, ◌<◌, ◌≤◌, ℤ, List, [], ◌++◌, ⊎_elim, sym, ap, ◌∙◌, subst, arith, append-nil}
use Rattle.nk_outside.specs.Agree.{Agree}
use Rattle.ir_run.specs.Runs.{Turn, Goes, Ends, put_before, followed, run}
use Rattle.ir_run.specs.Simulation as sim
use Rattle.ir_run.specs.Simulation.{Meets}
use Rattle.ir_run.proofs.Agreement.{meets_rest, meets_turn, meets_more, put_twice, agree_met}

module _ {S T : Type 0} (f : S → Turn S) (g : T → Turn T) (R : S → T → Type 0) (left : S → ℕ) (w : ℕ) where
  -- each step of f from a state is matched from each related state
  abbrev IsSimulated : Type 0
  IsSimulated = (s : S) (t : T) → R s t → sim.Matches f g R left w s t (f s)

  -- w is more than the steps of f that may pass without one of g
  pub met : ((s : S) → left s < w) → IsSimulated → (n : ℕ) (out : List ℤ) (s : S) (t : T) → R s t → Meets g w (left s) out t n (put_before out (run f n s))
  met few every zero out s t r = subst (λ o. Meets g w (left s) out t 0 o) (ap (λ xs. record { out = xs; stop = (run f 0 s).stop }) (sym (append-nil out))) (meets_rest g w (left s) out t)
  met few every (suc n) out s t r = by_turn (λ more next u h. met few every n (out ++ more) next u h) (f s) (every s t r)
    where
      by_turn : ((more : List ℤ) (next : S) (u : T) → R next u → Meets g w (left next) (out ++ more) u n (put_before (out ++ more) (run f n next))) → (x : Turn S) → sim.Matches f g R left w s t x → Meets g w (left s) out t (suc n) (put_before out (followed (run f n) x))
      by_turn rest (Goes more next) h = ⊎_elim
          (λ m. subst (λ o. Meets g w (left s) out t (suc n) o) (sym (put_twice out more (run f n next)))
          (m.leads.by (left s) (suc n) out (put_before (out ++ more) (run f n next)) (meets_more g w (suc (left next)) (left s + w) (out ++ more) m.to (suc n) _ (omega (arith, few next)) (meets_turn g w (left next) (out ++ more) m.to n _ (rest more next m.to m.related)))))
          (λ m. let none : out ++ more ≡ out = ap (λ xs. out ++ xs) m.silent ∙ append-nil out in
          subst (λ o. Meets g w (left s) out t (suc n) o) (sym (put_twice out more (run f n next)))
          (meets_more g w (suc (left next)) (left s) out t (suc n) _ m.fewer (meets_turn g w (left next) out t n _ (subst (λ xs. Meets g w (left next) xs t n (put_before (out ++ more) (run f n next))) none (rest more next t m.related)))))
          h
      by_turn rest (Ends stop) h = subst (λ o. Meets g w (left s) out t (suc n) o) (ap (λ xs. record { out = xs; stop = stop }) (sym (append-nil out))) (h (left s) (suc n) out)

  pub simulates : 1 ≤ w → ((s : S) → left s < w) → IsSimulated → (s : S) (t : T) → R s t → Agree (λ n. run f n s) (λ m. run g m t)
  simulates some few every s t r = agree_met g w (left s) t (λ n. run f n s) some (λ n. met few every n [] s t r)
