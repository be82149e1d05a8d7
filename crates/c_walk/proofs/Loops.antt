-- Loops over lists, and results without an error.
use Rattle.std.proofs.Common.{◌≡◌, ◌<◌, ◌+◌, ℕ, suc, sym, ◌∙◌, ap, subst, List, [], ◌∷◌, length, get_or, drop, drop-cons, add-one}
use Rattle.std.specs.Result.{OnOk}
use Rattle.std.specs.declared.result.Result.{Result}
use Rattle.std.specs.declared.result.Result.TheVariants.{Ok, Err}

-- what holds anyway holds where there is no error
pub ok_of : {T E : Type 0} (r : Result T E) (P : Type 0) → P → OnOk r P
ok_of (Ok x) P p = p
ok_of (Err e) P p = tt

-- what follows where there is no error
pub ok_map : {T E : Type 0} (r : Result T E) (P Q : Type 0) → (P → Q) → OnOk r P → OnOk r Q
ok_map (Ok x) P Q f p = f p
ok_map (Err e) P Q f p = tt

-- one thing of a list more, for any function of the list
pub loop_any : {A B : Type 0} (g0 g1 : List A → B) (xs : List A) (i : ℕ) (x : A) (whole : B) → ((ys : List A) → g0 (x ∷ ys) ≡ g1 ys) → i < length xs → x ≡ get_or xs i x → g0 (drop i xs) ≡ whole → g1 (drop (i + 1) xs) ≡ whole
loop_any g0 g1 xs i x whole step lt is before =
    let here : g0 (x ∷ drop (suc i) xs) ≡ whole = subst (λ ys. g0 ys ≡ whole) (drop-cons xs i x lt ∙ ap (λ y. y ∷ drop (suc i) xs) (sym is)) before in
    rw (add-one) (sym (step (drop (suc i) xs)) ∙ here)
