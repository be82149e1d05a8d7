-- What is said of the first symbol, and of places.
use Rattle.std.proofs.Common.{ℕ, zero, suc, ◌<◌, List, [], ◌∷◌, length, map, drop, get_or, ◌≡◌, refl, sym, subst, arith}
use Rattle.std.specs.Prelude.{Result}
use Rattle.std.proofs.lemmas.List.{length-map}
use Rattle.readings.specs.Symbol.{Symbol, place, first_place}
use Rattle.readings.specs.Reading.{Read, Stuck}
use Rattle.readings.specs.Readings.{Reading}
use Rattle.readings.specs.Seen.{seen, Comes, Says}
use Rattle.readings.specs.declared.sign.Sign.{Sign}
use Rattle.readings.specs.declared.stop.Stop.{Stop}
use Rattle.readings.proofs.Saying.{at_once, says_alike}

-- the reading is stuck before all these symbols, whose first fits nothing
pub comes_stuck : {A : Type 0} (reads : Reading A) (ss rest : List Sign) (first : Sign) → ss ≡ first ∷ rest → ((n : ℕ) (t : List Symbol) → reads n (seen first ∷ t) ≡ Stuck (seen first ∷ t))
    → (left : List Symbol) × (length left ≡ length ss) × Comes reads (map seen ss) (Stuck left)
comes_stuck reads ss rest first is h =
    (map seen ss, length-map ss seen, at_once (λ n. subst (λ (us : List Sign). reads n (map seen us) ≡ Stuck (map seen us)) (sym is) (h n (map seen rest))))

-- what is read behind the first symbol is said of all
pub says_behind : {A B : Type 0} (found : A → Read B) (r : Result A Stop) (reads others : Reading B) (ss rest : List Sign) (first : Sign) → ss ≡ first ∷ rest → ((n : ℕ) (t : List Symbol) → reads n (seen first ∷ t) ≡ others n t)
    → Says found r others (map seen rest) → Says found r reads (map seen ss)
says_behind found r reads others ss rest first is h k =
    subst (λ (us : List Sign). Says found r reads (map seen us)) (sym is) (says_alike found r others reads (map seen rest) (seen first ∷ map seen rest) (λ n. h n (map seen rest)) k)

-- the place of a symbol before which some stand
pub place_at : (end : ℕ) (ss : List Sign) (k : ℕ) (d : Sign) → k < length ss → place (seen (get_or ss k d)) ≡ first_place end (drop k (map seen ss))
place_at end [] k d lt = elim lt [ ]
place_at end (s ∷ ss) zero d lt = refl
place_at end (s ∷ ss) (suc k) d lt = place_at end ss k d (omega (arith, lt))
