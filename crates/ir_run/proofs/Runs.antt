-- A run so far, step by step: what is left of it is the run's outcome, and the lines so far were taken.
use Rattle.std.proofs.Common.{◌≡◌, refl, sym, ap, ◌∙◌, subst, ℕ, zero, suc, ℤ, List, [], ◌∷◌, ◌++◌, append-nil, Option, Some, None}
use Rattle.std.proofs.lemmas.Grind.{flat_map-append}
use Rattle.nk_outside.specs.Outcome.{Outcome, line, lines}
use Rattle.nk_outside.specs.Taken.{Took, TookFront}
use Rattle.nk_outside.specs.declared.stop.Stop.{Stop}
use Rattle.nk_outside.specs.declared.stop.Stop.TheVariants as stops
use Rattle.nk_outside.proofs.Pieces.{took_append, front_after, front_of_first}
use Rattle.ir_run.specs.Runs.{Turn, Goes, Ends, stopped, put_before, followed, run}
use Rattle.ir_run.specs.Entry.{Entry}
use Rattle.ir_run.specs.Value.{State}
use Rattle.ir_run.specs.Run.{step}
use Rattle.ir_run.specs.Running.{Running}
use Rattle.ir_run.proofs.Agreement.{put_twice}

lines_more : (xs ys : List ℤ) → lines (xs ++ ys) ≡ lines xs ++ lines ys
lines_more xs ys = flat_map-append line xs ys

lines_one : (xs : List ℤ) (z : ℤ) → lines (xs ++ z ∷ []) ≡ lines xs ++ line z
lines_one xs z = lines_more xs (z ∷ []) ∙ ap (λ l. lines xs ++ l) (append-nil (line z))

took_nothing : (now : Option (List ℕ)) → Took now now []
took_nothing None = tt
took_nothing (Some xs) = sym (append-nil xs)

pub nothing_taken : (now : Option (List ℕ)) (bytes : List ℕ) → TookFront now now bytes
nothing_taken now bytes = ([], (bytes, refl), took_nothing now)

module _ (entries : List Entry) (n : ℕ) where
  pub begun : (start : Option (List ℕ)) (k : ℕ) (s : State) → Running entries n (run (step entries n) k s) start start k s
  begun start k s = record { out = []; follows = refl; took = took_nothing start }

  on_turn : (o : Outcome) (out : List ℤ) (k : ℕ) (s : State) (t : Turn State) → o ≡ put_before out (run (step entries n) (suc k) s) → t ≡ step entries n s → o ≡ put_before out (followed (run (step entries n) k) t)
  on_turn o out k s t h is = h ∙ ap (λ t. put_before out (followed (run (step entries n) k) t)) (sym is)

  pub goes : (o : Outcome) (start now : Option (List ℕ)) (k : ℕ) (s s2 : State) → Running entries n o start now (suc k) s → Goes [] s2 ≡ step entries n s → Running entries n o start now k s2
  goes o start now k s s2 r is = record { out = r.out; follows = on_turn o r.out k s (Goes [] s2) r.follows is; took = r.took }

  pub puts : (o : Outcome) (start now then : Option (List ℕ)) (k : ℕ) (s s2 : State) (z : ℤ) → Running entries n o start now (suc k) s → Goes (z ∷ []) s2 ≡ step entries n s → Took now then (line z) → Running entries n o start then k s2
  puts o start now then k s s2 z r is took = record {
    out = r.out ++ z ∷ [];
    follows = on_turn o r.out k s (Goes (z ∷ []) s2) r.follows is ∙ put_twice r.out (z ∷ []) (run (step entries n) k s2);
    took = subst (Took start then) (sym (lines_one r.out z)) (took_append start now then (lines r.out) (line z) r.took took);
  }

  pub cut : (o : Outcome) (start now : Option (List ℕ)) (k : ℕ) (s : State) → Running entries n o start now k s → TookFront start now (lines o.out)
  cut o start now k s r =
      let rest = (run (step entries n) k s).out in
      (lines r.out, (lines rest, sym (ap (λ o. lines o.out) r.follows ∙ lines_more r.out rest)), r.took)

  pub put_cut : (o : Outcome) (start now then : Option (List ℕ)) (k : ℕ) (s s2 : State) (z : ℤ) → Running entries n o start now (suc k) s → Goes (z ∷ []) s2 ≡ step entries n s → TookFront now then (line z) → TookFront start then (lines o.out)
  put_cut o start now then k s s2 z r is took =
      let rest = (run (step entries n) k s2).out in
      let follows = on_turn o r.out k s (Goes (z ∷ []) s2) r.follows is ∙ put_twice r.out (z ∷ []) (run (step entries n) k s2) in
      let whole : lines o.out ≡ (lines r.out ++ line z) ++ lines rest = ap (λ o. lines o.out) follows ∙ lines_more (r.out ++ z ∷ []) rest ∙ ap (λ l. l ++ lines rest) (lines_one r.out z) in
      subst (TookFront start then) (sym whole) (front_of_first start then (lines r.out ++ line z) (lines rest) (front_after start now then (lines r.out) (line z) r.took took))

  pub ends : (o : Outcome) (start now : Option (List ℕ)) (k : ℕ) (s : State) (stop : Stop) → Running entries n o start now (suc k) s → Ends stop ≡ step entries n s → (o.stop ≡ stop) × Took start now (lines o.out)
  ends o start now k s stop r is =
      let f : o ≡ put_before r.out (stopped stop) = on_turn o r.out k s (Ends stop) r.follows is in
      (ap (λ o. o.stop) f, subst (λ out. Took start now (lines out)) (sym (ap (λ o. o.out) f ∙ append-nil r.out)) r.took)

  -- no step is left
  pub spent : (o : Outcome) (start now : Option (List ℕ)) (s : State) → Running entries n o start now zero s → (o.stop ≡ stops.Running) × Took start now (lines o.out)
  spent o start now s r = (ap (λ o. o.stop) r.follows, subst (λ out. Took start now (lines out)) (sym (ap (λ o. o.out) r.follows ∙ append-nil r.out)) r.took)
