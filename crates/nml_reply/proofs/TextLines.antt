-- The lines of a text, put one after the other.
use Rattle.std.proofs.Common.{◌≡◌, ℕ, List, [], ◌++◌, Option, refl, sym, ap, ◌∙◌, subst, append_assoc, append-nil, take, drop}
use Rattle.std.proofs.lemmas.List.{take-append-drop}
use Rattle.nk_outside.specs.Taken.{Took, TookFront}
use Rattle.nk_outside.proofs.Pieces.{took_append, front_after, front_of_first}

-- a front of the text was taken, and this is the rest
pub record Sent (old new : Option (List ℕ)) (text rest : List ℕ) : Type 0 where
  pub front : List ℕ
  pub is : text ≡ front ++ rest
  pub took : Took old new front

pub nothing_sent : (a : Option (List ℕ)) (text : List ℕ) → Took a a [] → Sent a a text text
nothing_sent a text none = record { front = []; is = refl; took = none }

-- a line and what stands behind it
pub split_is : (rest line more : List ℕ) (n : ℕ) → line ≡ take n rest → more ≡ drop n rest → rest ≡ line ++ more
split_is rest line more n front back = rw (front, back) (sym (take-append-drop n rest))

-- one line more
pub line_sent : (a b c : Option (List ℕ)) (text rest line more : List ℕ) → Sent a b text rest → rest ≡ line ++ more → Took b c line → Sent a c text more
line_sent a b c text rest line more s e t = record {
  front = s.front ++ line;
  is = s.is ∙ ap (λ r. s.front ++ r) e ∙ sym (append_assoc s.front line more);
  took = took_append a b c s.front line s.took t;
}

-- a front of the line that comes next
pub cut_line : (a b c : Option (List ℕ)) (text rest line more : List ℕ) → Sent a b text rest → rest ≡ line ++ more → TookFront b c line → TookFront a c text
cut_line a b c text rest line more s e t =
    subst (TookFront a c) (sym (s.is ∙ ap (λ r. s.front ++ r) e)) (front_after a b c s.front (line ++ more) s.took (front_of_first b c line more t))

-- none is left
pub all_sent : (a b : Option (List ℕ)) (text rest : List ℕ) → Sent a b text rest → rest ≡ [] → Took a b text
all_sent a b text rest s e = subst (Took a b) (sym (s.is ∙ ap (λ r. s.front ++ r) e ∙ append-nil s.front)) s.took
