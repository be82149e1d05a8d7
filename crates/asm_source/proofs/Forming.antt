-- The lines of a text as they are read.
use Rattle.std.proofs.Common.{◌≡◌, ℕ, ◌+◌, ◌≤◌, List, [], ◌∷◌, ◌++◌, length, map, ◌∙◌, sym, refl, ap, subst, arith, append-nil, Bor, Option, Some, None}
use Rattle.std.specs.Prelude.{All}
use Rattle.std.proofs.lemmas.List.Elements.{All-push, All-nil}
use Rattle.nml_tree.specs.Places.{IsLeast, least_of}
use Rattle.nml_tree.proofs.LeastPlace.{is_least}
use Rattle.asm_lines.specs.Line as text
use Rattle.asm_lines.specs.Line.{line}
use Rattle.asm_lines.specs.Seen.{seen, IsLine, IsWritten}
use Rattle.asm_lines.specs.declared.line.Line.{Line}
use Rattle.asm_text.specs.Refused.{form_lines}
use Rattle.asm_text.specs.Source.{source, formed}
use Rattle.asm_source.specs.FirstLine.{IsFirstLine}
use Rattle.asm_source.specs.Formed.{AreFormed}
use Rattle.asm_source.proofs.FirstPlace.{IsBehind, behind_less, both_behind, first_stays}
use Rattle.asm_source.proofs.LineFronts.{lines_left, size_left, first_of_lines, size_falls}

form_behind : (n : ℕ) (ls : List (Option text.Line)) → IsBehind n (least_of (form_lines n ls))
form_behind n [] = tt
form_behind n (None ∷ ls) = both_behind n (Some (n + 1)) (least_of (form_lines (n + 1) ls)) (omega arith) (behind_less n (n + 1) _ (omega arith) (form_behind (n + 1) ls))
form_behind n (Some l ∷ ls) = behind_less n (n + 1) _ (omega arith) (form_behind (n + 1) ls)

-- what the lines that are left come to
abbrev left_source : ℕ → Option (Bor (List ℕ)) → List (Option text.Line)
left_source width left = map (line width) (lines_left left)

-- of so many lines these were read, and the others are left
pub record Forming (width : ℕ) (whole : List ℕ) (number : ℕ) (left : Option (Bor (List ℕ))) (ls : List Line) : Type 0 where
  pub places : form_lines 0 (source width whole) ≡ form_lines number (left_source width left)
  pub same : formed (source width whole) ≡ map seen ls ++ formed (left_source width left)
  pub written : All (λ l. IsWritten l.content) ls
  pub room : number + size_left left ≤ length whole + 1

pub at_start : (width : ℕ) (whole : Bor (List ℕ)) (ls : List Line) → ls ≡ [] → Forming width whole.now 0 (Some whole) ls
at_start width whole ls none = rw none (record { places = refl; same = refl; written = All-nil _; room = omega arith })

pub at_end : (width : ℕ) (whole : List ℕ) (number : ℕ) (ls : List Line) → Forming width whole number None ls → AreFormed width whole ls
at_end width whole number ls f = record { free = f.places; same = sym (f.same ∙ append-nil (map seen ls)); written = f.written }

map_push : (ls : List Line) (l : Line) (more : List text.Line) → map seen ls ++ seen l ∷ more ≡ map seen (ls ++ l ∷ []) ++ more
map_push [] l more = refl
map_push (x ∷ xs) l more = ap (λ ys. seen x ∷ ys) (map_push xs l more)

-- the line that is left first
module _ (width : ℕ) (whole : List ℕ) (number : ℕ) (rest : Option (Bor (List ℕ))) (left : Bor (List ℕ)) (ls : List Line) (first : List ℕ) (more : Option (Bor (List ℕ))) (is : rest ≡ Some left) (f : Forming width whole number rest ls) (l : IsFirstLine left.now first more) where
  so_far : Forming width whole number (Some left) ls
  so_far = subst (λ r. Forming width whole number r ls) is f

  left_first : left_source width (Some left) ≡ line width first ∷ left_source width more
  left_first = ap (map (line width)) (first_of_lines left.now first more l)

  places_first : form_lines 0 (source width whole) ≡ form_lines number (line width first ∷ left_source width more)
  places_first = so_far.places ∙ ap (form_lines number) left_first

  pub goes_on : (found : Option Line) (x : Line) (new : List Line) → IsLine found (line width first) → found ≡ Some x → new ≡ ls ++ x ∷ []
      → Forming width whole (number + 1) more new
  goes_on found x new one some pushed =
      let has : IsLine (Some x) (line width first) = subst (λ o. IsLine o (line width first)) some one in
      rw pushed (record {
        places = places_first ∙ ap (λ o. form_lines number (o ∷ left_source width more)) (sym has.same);
        same = so_far.same ∙ ap (λ os. map seen ls ++ formed os) left_first ∙ ap (λ o. map seen ls ++ formed (o ∷ left_source width more)) (sym has.same) ∙ map_push ls x (formed (left_source width more));
        written = All-push (λ l. IsWritten l.content) ls x so_far.written has.written;
        room = omega (arith, so_far.room, size_falls left.now first more l);
      })

  pub fails_here : (found : Option Line) → IsLine found (line width first) → found ≡ None → IsLeast (form_lines 0 (source width whole)) (number + 1)
  fails_here found one none =
      let has : IsLine None (line width first) = subst (λ o. IsLine o (line width first)) none one in
      let at = places_first ∙ ap (λ o. form_lines number (o ∷ left_source width more)) (sym has.same) in
      is_least _ (number + 1) (ap least_of at ∙ first_stays (number + 1) (least_of (form_lines (number + 1) (left_source width more))) (form_behind (number + 1) (left_source width more)))
