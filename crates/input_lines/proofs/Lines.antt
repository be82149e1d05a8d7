-- The lines of an input, and the numbers of those so far.
use Rattle.std.proofs.Common.{◌≡◌, ℕ, ◌+◌, ◌≤◌, true, false, List, [], ◌∷◌, ◌++◌, length, ℤ, ◌∙◌, sym, refl, ap, subst, arith, append_assoc, append-nil, length-append, Bor, Option, Some, None, Result, Ok, Err}
use Rattle.std.specs.Prelude.{◌==◌}
use Rattle.std.specs.List.{list_all, onto_first}
use Rattle.std.proofs.lemmas.Bool.{and_parts, not-true}
use Rattle.std.proofs.lemmas.List.Splits.{slice_split-cons_no}
use Rattle.nk_base.specs.declared.number.Ty.{Ty}
use Rattle.input_lines.specs.Input.{lines, numbers_in, in_front, with_line, numbers_from, numbers}
use Rattle.input_lines.specs.Reading.{is_no_feed, IsFirstLine, TakesLine}

-- the lines that are left
abbrev pub lines_left : Option (Bor (List ℕ)) → List (List ℕ)
lines_left None = []
lines_left (Some text) = lines text.now

-- how many bytes are left, and one for the text's end
abbrev pub size_left : Option (Bor (List ℕ)) → ℕ
size_left None = 0
size_left (Some text) = length text.now + 1

no_feed : (c : ℕ) (cs : List ℕ) → list_all is_no_feed (c ∷ cs) ≡ true → (c == 10) ≡ false
no_feed c cs h = not-true (c == 10) (and_parts _ _ h).0

only_line : (line : List ℕ) → list_all is_no_feed line ≡ true → lines line ≡ line ∷ []
only_line [] h = refl
only_line (c ∷ cs) h =
    slice_split-cons_no (λ c. c == 10) c cs (no_feed c cs h) ∙ ap (onto_first c) (only_line cs (and_parts _ _ h).1)

line_more : (line more : List ℕ) → list_all is_no_feed line ≡ true → lines (line ++ 10 ∷ more) ≡ line ∷ lines more
line_more [] more h = refl
line_more (c ∷ cs) more h =
    slice_split-cons_no (λ c. c == 10) c (cs ++ 10 ∷ more) (no_feed c cs h) ∙ ap (onto_first c) (line_more cs more (and_parts _ _ h).1)

first_of_lines : (text line : List ℕ) (more : Option (Bor (List ℕ))) → IsFirstLine text line more → lines text ≡ line ∷ lines_left more
first_of_lines text line None h = ap lines h.rest ∙ only_line line h.one_line
first_of_lines text line (Some more) h = ap lines h.rest ∙ line_more line more.now h.one_line

size_falls : (text line : List ℕ) (more : Option (Bor (List ℕ))) → IsFirstLine text line more → size_left more + 1 ≤ length text + 1
size_falls text line None h = omega arith
size_falls text line (Some more) h = omega (arith, ap length h.rest, length-append line (10 ∷ more.now))

-- the numbers of the lines so far, and of those that are left, are those of the text
pub record IsSoFar (n : Option Ty) (text : List ℕ) (number : ℕ) (left : Option (Bor (List ℕ))) (found : List ℤ) : Type 0 where
  pub goes : numbers n text ≡ in_front found (numbers_from n (number + 1) (lines_left left))
  pub room : number + size_left left ≤ length text + 1

nothing_in_front : (r : Result (List ℤ) ℕ) → r ≡ in_front [] r
nothing_in_front (Ok zs) = refl
nothing_in_front (Err line) = refl

both_in_front : (xs ys : List ℤ) (r : Result (List ℤ) ℕ) → in_front xs (in_front ys r) ≡ in_front (xs ++ ys) r
both_in_front xs ys (Ok zs) = ap Ok (sym (append_assoc xs ys zs))
both_in_front xs ys (Err line) = refl

pub at_start : (n : Option Ty) (text : Bor (List ℕ)) → IsSoFar n text.now 0 (Some text) []
at_start n text = record { goes = nothing_in_front (numbers n text.now); room = omega arith }

pub at_end : (n : Option Ty) (text : List ℕ) (number : ℕ) (found : List ℤ) → IsSoFar n text number None found → numbers n text ≡ Ok found
at_end n text number found s = s.goes ∙ ap Ok (append-nil found)

-- what the line that is left first comes to
first_line : (n : Option Ty) (text : List ℕ) (number : ℕ) (rest : Option (Bor (List ℕ))) (left : Bor (List ℕ)) (found : List ℤ) (line : List ℕ) (more : Option (Bor (List ℕ)))
    → rest ≡ Some left → IsSoFar n text number rest found → IsFirstLine left.now line more
    → numbers n text ≡ in_front found (with_line (numbers_in n line) (number + 1) (numbers_from n (number + 1 + 1) (lines_left more)))
first_line n text number rest left found line more e s f =
    let t = subst (λ r. IsSoFar n text number r found) e s in
    t.goes ∙ ap (λ l. in_front found (numbers_from n (number + 1) l)) (first_of_lines left.now line more f)

pub goes_on : (n : Option Ty) (text : List ℕ) (number : ℕ) (rest : Option (Bor (List ℕ))) (left : Bor (List ℕ)) (found new : List ℤ) (line : List ℕ) (more : Option (Bor (List ℕ)))
    → rest ≡ Some left → IsSoFar n text number rest found → IsFirstLine left.now line more → TakesLine n line found new true
    → IsSoFar n text (number + 1) more new
goes_on n text number rest left found new line more e s f g =
    let t = subst (λ r. IsSoFar n text number r found) e s in
    let after = numbers_from n (number + 1 + 1) (lines_left more) in record {
      goes = first_line n text number rest left found line more e s f
          ∙ ap (λ o. in_front found (with_line o (number + 1) after)) g.1
          ∙ both_in_front found g.0 after
          ∙ ap (λ zs. in_front zs after) (sym g.2);
      room = omega (arith, t.room, size_falls left.now line more f);
    }

pub fails_here : (n : Option Ty) (text : List ℕ) (number : ℕ) (rest : Option (Bor (List ℕ))) (left : Bor (List ℕ)) (found new : List ℤ) (line : List ℕ) (more : Option (Bor (List ℕ)))
    → rest ≡ Some left → IsSoFar n text number rest found → IsFirstLine left.now line more → TakesLine n line found new false
    → numbers n text ≡ Err (number + 1)
fails_here n text number rest left found new line more e s f g =
    first_line n text number rest left found line more e s f ∙ ap (λ o. in_front found (with_line o (number + 1) (numbers_from n (number + 1 + 1) (lines_left more)))) g
