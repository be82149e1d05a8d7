-- The lines of words, one more at a time.
use Rattle.std.proofs.Common.{◌≡◌, ℕ, ◌+◌, ◌<◌, List, [], ◌∷◌, ◌++◌, Option, length, get_or, take, drop, refl, sym, ap, ◌∙◌, subst, append_assoc, append-nil, drop-cons, suc}
use Rattle.std.proofs.lemmas.List.{take_more, take-append-drop}
use Rattle.std.specs.Prelude.{Result, Ok, Err, OnErr}
use Rattle.nk_outside.specs.Taken.{Took, TookFront}
use Rattle.nk_outside.proofs.Pieces.{front_after, front_of_first}
use Rattle.nml_reply.specs.Reply.{word_line, word_lines}

lines_append : (w : ℕ) (xs ys : List ℕ) → word_lines w (xs ++ ys) ≡ word_lines w xs ++ word_lines w ys
lines_append w [] ys = refl
lines_append w (x ∷ xs) ys = ap (λ t. word_line w x ++ t) (lines_append w xs ys) ∙ sym (append_assoc (word_line w x) (word_lines w xs) (word_lines w ys))

pub lines_more : (w : ℕ) (xs : List ℕ) (i : ℕ) → i < length xs → word_lines w (take (i + 1) xs) ≡ word_lines w (take i xs) ++ word_line w (get_or xs i 0)
lines_more w xs i h =
    ap (word_lines w) (take_more xs i 0 h) ∙ lines_append w (take i xs) (get_or xs i 0 ∷ [])
    ∙ ap (λ t. word_lines w (take i xs) ++ t) (append-nil (word_line w (get_or xs i 0)))

pub lines_split : (w : ℕ) (xs : List ℕ) (i : ℕ) → word_lines w xs ≡ word_lines w (take i xs) ++ word_lines w (drop i xs)
lines_split w xs i = ap (word_lines w) (sym (take-append-drop i xs)) ∙ lines_append w (take i xs) (drop i xs)

-- a front, where the first words were taken, and then a front of the next
pub cut_here : (a b : Option (List ℕ)) (w : ℕ) (xs : List ℕ) (i : ℕ) → Took a b (word_lines w (take i xs)) → TookFront a b (word_lines w xs)
cut_here a b w xs i t =
    subst (TookFront a b) (sym (lines_split w xs i))
    (front_of_first a b (word_lines w (take i xs)) (word_lines w (drop i xs)) (word_lines w (take i xs), ([], append-nil (word_lines w (take i xs))), t))

pub cut_in_line : (a b c : Option (List ℕ)) (w : ℕ) (xs : List ℕ) (i : ℕ) → i < length xs → Took a b (word_lines w (take i xs)) → TookFront b c (word_line w (get_or xs i 0))
    → TookFront a c (word_lines w xs)
cut_in_line a b c w xs i h t f =
    subst (TookFront a c) (sym (lines_split w xs i))
    (front_after a b c (word_lines w (take i xs)) (word_lines w (drop i xs)) t
    (subst (λ l. TookFront b c (word_lines w l)) (sym (drop-cons xs i 0 h)) (front_of_first b c (word_line w (get_or xs i 0)) (word_lines w (drop (suc i) xs)) f)))

pub on_err : {A E : Type 0} (P Q : Type 0) (r : Result A E) → (P → Q) → OnErr r P → OnErr r Q
on_err P Q (Ok x) f p = tt
on_err P Q (Err e) f p = f p
