-- Texts with a blank behind each, and with one blank between two.
use Rattle.std.proofs.Common.{◌≡◌, refl, sym, ◌∙◌, ap, subst, ℕ, suc, ◌+◌, ◌<◌, List, [], ◌∷◌, ◌++◌, append_assoc, map, length, get_or, drop, drop-cons, add-one, flat_map, take, ◌-◌, length-append, arith}
use Rattle.std.proofs.Math.Seq.{take-append_seam}
use Rattle.nml_tree.specs.Symbol.{Symbol}
use Rattle.nml_tree.specs.Joined.{each_spaced}
use Rattle.nml_tree.specs.Joined.{symbol_text, joined}
use Rattle.nml_tree.specs.Ended.{ended}

pub ended-append : (a b : List Symbol) → ended (a ++ b) ≡ ended a ++ ended b
ended-append [] b = refl
ended-append (s ∷ ss) b = rw (ended-append ss b, append_assoc) refl

-- a blank behind each is a blank before each, but for the ends
shifted : (ss : List Symbol) → 32 ∷ ended ss ≡ each_spaced (map symbol_text ss) ++ 32 ∷ []
shifted [] = refl
shifted (s ∷ ss) = rw (shifted ss, append_assoc) refl

pub ended_joined : (s : Symbol) (ss : List Symbol) → ended (s ∷ ss) ≡ joined (s ∷ ss) ++ 32 ∷ []
ended_joined s ss = rw (shifted ss, append_assoc) refl

pub ruleset ended_laws = (ended-append, append_assoc)

-- a loop that appends the spelling of each thing: what is left to append shrinks by one
pub loop_step : {A : Type 0} (f : A → List Symbol) (xs : List A) (i : ℕ) (x : A) (t0 t1 whole : List ℕ) → i < length xs → x ≡ get_or xs i x → t0 ++ ended (flat_map f (drop i xs)) ≡ whole → t1 ≡ t0 ++ ended (f x) → t1 ++ ended (flat_map f (drop (i + 1) xs)) ≡ whole
loop_step f xs i x t0 t1 whole lt is before after =
    rw (after, append_assoc, ← ended-append (f x) (flat_map f (drop (i + 1) xs)), add-one) (subst (λ ys. t0 ++ ended (flat_map f ys) ≡ whole) (drop-cons xs i x lt ∙ ap (λ y. y ∷ drop (suc i) xs) (sym is)) before)

-- without the last blank the texts are those with one blank between two
pub without_last : (ss : List Symbol) → take (length (ended ss) - 1) (ended ss) ≡ joined ss
without_last [] = refl
without_last (s ∷ ss) =
    let e : length (joined (s ∷ ss) ++ 32 ∷ []) - 1 ≡ length (joined (s ∷ ss)) = rw length-append (omega arith) in
    rw (ended_joined s ss, e, take-append_seam) refl
