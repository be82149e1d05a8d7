-- What is noted of several things, one after the other.
use Rattle.std.proofs.Common.{◌≡◌, ◌<◌, ◌+◌, ℕ, suc, refl, sym, ◌∙◌, ap, subst, Bool, List, [], ◌∷◌, ◌++◌, append_assoc, append-nil, length, get_or, drop, drop-cons, add-one}
use Rattle.c_tree.specs.declared.names.Name.{Name}
use Rattle.c_tree.specs.Formula.{Formula, Further}
use Rattle.c_tree.specs.Names.{Names, callee}
use Rattle.c_tree.specs.Faults.{Fault, call_faults, further_count, formula_faults, further_faults}
use Rattle.c_tree.specs.Recursion.{callee_of, formula_callees, further_callees}
use Rattle.c_check.specs.declared.note.Found.{Found}
use Rattle.c_check.specs.Note.{noted, with_fault}

pub noted_append : (found : Found) (xs ys : List Fault) → noted found (xs ++ ys) ≡ noted (noted found xs) ys
noted_append found [] ys = refl
noted_append found (x ∷ xs) ys = noted_append (with_fault found x) xs ys

pub ruleset walk_laws = (noted_append, append_assoc, append-nil)

-- one thing of a list more: what is noted of all that is left stays
pub loop_found : {A : Type 0} (g0 g1 : List A → List Fault) (fx : List Fault) (xs : List A) (i : ℕ) (x : A) (w0 w1 whole : Found) → ((ys : List A) → g0 (x ∷ ys) ≡ fx ++ g1 ys) → i < length xs → x ≡ get_or xs i x → noted w0 (g0 (drop i xs)) ≡ whole → w1 ≡ noted w0 fx → noted w1 (g1 (drop (i + 1) xs)) ≡ whole
loop_found g0 g1 fx xs i x w0 w1 whole step lt is before after =
    let here : noted w0 (g0 (x ∷ drop (suc i) xs)) ≡ whole = subst (λ ys. noted w0 (g0 ys) ≡ whole) (drop-cons xs i x lt ∙ ap (λ y. y ∷ drop (suc i) xs) (sym is)) before in
    let split : noted w0 (g0 (x ∷ drop (suc i) xs)) ≡ noted (noted w0 fx) (g1 (drop (suc i) xs)) = ap (noted w0) (step (drop (suc i) xs)) ∙ noted_append w0 fx (g1 (drop (suc i) xs)) in
    rw (after, add-one) (sym split ∙ here)

pub loop_calls : {A : Type 0} (g0 g1 : List A → List ℕ) (fx : List ℕ) (xs : List A) (i : ℕ) (x : A) (c0 c1 whole : List ℕ) → ((ys : List A) → g0 (x ∷ ys) ≡ fx ++ g1 ys) → i < length xs → x ≡ get_or xs i x → c0 ++ g0 (drop i xs) ≡ whole → c1 ≡ c0 ++ fx → c1 ++ g1 (drop (i + 1) xs) ≡ whole
loop_calls g0 g1 fx xs i x c0 c1 whole step lt is before after =
    let here : c0 ++ g0 (x ∷ drop (suc i) xs) ≡ whole = subst (λ ys. c0 ++ g0 ys ≡ whole) (drop-cons xs i x lt ∙ ap (λ y. y ∷ drop (suc i) xs) (sym is)) before in
    let split : c0 ++ g0 (x ∷ drop (suc i) xs) ≡ c0 ++ (fx ++ g1 (drop (suc i) xs)) = ap (λ y. c0 ++ y) (step (drop (suc i) xs)) in
    rw (after, add-one) (append_assoc c0 fx (g1 (drop (suc i) xs)) ∙ sym split ∙ here)

-- a call with arguments, piece by piece
pub called_found : (n : ℕ) (s : Names) (name : Name) (x : Formula) (xs : Further) (used : Bool) (k : ℕ) (w0 w1 w2 : Found) → k ≡ further_count xs + 1 → w1 ≡ noted w0 (call_faults (callee s name.text) k used name.at) → w2 ≡ noted w1 (formula_faults n s x) → noted w2 (further_faults n s xs) ≡ noted w0 (call_faults (callee s name.text) (further_count xs + 1) used name.at ++ formula_faults n s x ++ further_faults n s xs)
called_found n s name x xs used k w0 w1 w2 a b c = rw (c, b, a, noted_append, noted_append) refl

pub called_calls : (s : Names) (name : Name) (x : Formula) (xs : Further) (c0 c1 c2 : List ℕ) → c1 ≡ c0 ++ callee_of (callee s name.text) → c2 ≡ c1 ++ formula_callees s x → c2 ++ further_callees s xs ≡ c0 ++ (callee_of (callee s name.text) ++ formula_callees s x ++ further_callees s xs)
called_calls s name x xs c0 c1 c2 a b = rw (b, a) (simp append_assoc refl)

-- three things, one after the other
pub three_found : (w0 w1 w2 w3 : Found) (a b c : List Fault) → w1 ≡ noted w0 a → w2 ≡ noted w1 b → w3 ≡ noted w2 c → w3 ≡ noted w0 (a ++ b ++ c)
three_found w0 w1 w2 w3 a b c h1 h2 h3 = rw (h3, h2, h1, noted_append, noted_append) refl
