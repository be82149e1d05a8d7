-- Texts with a blank behind each, and with one blank between two.
use Rattle.std.proofs.Common.{◌≡◌, refl, sym, ◌∙◌, ap, subst, ℕ, suc, ◌+◌, ◌<◌, List, [], ◌∷◌, ◌++◌, append_assoc, length, get_or, drop, drop-cons, add-one, flat_map, take, ◌-◌, length-append, arith}
use Rattle.std.proofs.Math.Seq.{take-append_seam}
use Rattle.std.specs.Prelude.{codes}
use Rattle.c_tree.specs.declared.names.Name.{Name}
use Rattle.c_tree.specs.Symbol.{Symbol, fixed}
use Rattle.c_tree.specs.Formula.{Formula, Further, CalledWith}
use Rattle.c_tree.specs.Spell.{name_spelling, formula_spelling, further_spelling}
use Rattle.c_tree.specs.Joined.{joined}
use Rattle.c_tree.specs.Ended.{ended}

pub ended-append : (a b : List Symbol) → ended (a ++ b) ≡ ended a ++ ended b
ended-append [] b = refl
ended-append (s ∷ ss) b = rw (ended-append ss b, append_assoc) refl

-- a blank behind each is one between two and one at the end
pub ended_joined : (s : Symbol) (ss : List Symbol) → ended (s ∷ ss) ≡ joined (s ∷ ss) ++ 32 ∷ []
ended_joined s [] = refl
ended_joined s (u ∷ us) = rw (ended_joined u us, append_assoc) refl

pub ruleset ended_laws = (ended-append, append_assoc)

-- without the last blank the texts are those with one blank between two
pub without_last : (ss : List Symbol) → take (length (ended ss) - 1) (ended ss) ≡ joined ss
without_last [] = refl
without_last (s ∷ ss) =
    let e : length (joined (s ∷ ss) ++ 32 ∷ []) - 1 ≡ length (joined (s ∷ ss)) = rw length-append (omega arith) in
    rw (ended_joined s ss, e, take-append_seam) refl

-- the same of a function that goes on from the first thing to the others
pub loop_on : {A : Type 0} (f : A → List Symbol) (g : List A → List Symbol) → ((x : A) (xs : List A) → g (x ∷ xs) ≡ f x ++ g xs) → (xs : List A) (i : ℕ) (x : A) (t0 t1 whole : List ℕ) → i < length xs → x ≡ get_or xs i x → t0 ++ ended (g (drop i xs)) ≡ whole → t1 ≡ t0 ++ ended (f x) → t1 ++ ended (g (drop (i + 1) xs)) ≡ whole
loop_on f g step xs i x t0 t1 whole lt is before after =
    let here : t0 ++ ended (g (x ∷ drop (suc i) xs)) ≡ whole = subst (λ ys. t0 ++ ended (g ys) ≡ whole) (drop-cons xs i x lt ∙ ap (λ y. y ∷ drop (suc i) xs) (sym is)) before in
    let split : ended (g (x ∷ drop (suc i) xs)) ≡ ended (f x) ++ ended (g (drop (suc i) xs)) = ap ended (step x (drop (suc i) xs)) ∙ ended-append (f x) (g (drop (suc i) xs)) in
    rw (after, append_assoc, add-one) (ap (λ y. t0 ++ y) (sym split) ∙ here)

-- the same where each thing stands behind its comma
pub loop_comma : {B : Type 0} (h : B → List Symbol) (g : List (ℕ × B) → List Symbol) → ((x : ℕ × B) (xs : List (ℕ × B)) → g (x ∷ xs) ≡ (fixed x.0 (codes ",") ++ h x.1) ++ g xs) → (xs : List (ℕ × B)) (i : ℕ) (x : ℕ × B) (t0 comma t1 whole : List ℕ) → i < length xs → x ≡ get_or xs i x → t0 ++ ended (g (drop i xs)) ≡ whole → comma ≡ t0 ++ (codes "," ++ 32 ∷ []) → t1 ≡ comma ++ ended (h x.1) → t1 ++ ended (g (drop (i + 1) xs)) ≡ whole
loop_comma h g step xs i x t0 comma t1 whole lt is before first second =
    loop_on (λ x. fixed x.0 (codes ",") ++ h x.1) g step xs i x t0 t1 whole lt is before (rw (second, first, append_assoc) refl)

-- a call with arguments, piece by piece
pub called_with : (n : Name) (p : ℕ) (x : Formula) (xs : Further) (q : ℕ) (t0 t1 t2 t3 t4 : List ℕ) → t1 ≡ t0 ++ ended (name_spelling n) → t2 ≡ t1 ++ (codes "(" ++ 32 ∷ []) → t3 ≡ t2 ++ ended (formula_spelling x) → t4 ≡ t3 ++ ended (further_spelling xs) → t4 ++ (codes ")" ++ 32 ∷ []) ≡ t0 ++ ended (formula_spelling (CalledWith n p x xs q))
called_with n p x xs q t0 t1 t2 t3 t4 a b c d = rw (d, c, b, a) (simp (ended-append, append_assoc) refl)
