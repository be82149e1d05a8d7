-- References and their labels.
use Rattle.std.proofs.Common.{◌≡◌, ℕ, ◌+◌, Bool, true, false, ◌&&◌, List, [], ◌∷◌, map, drop, ◌∙◌, sym, refl, ap, Option, Some, None}
use Rattle.std.specs.Prelude.{flat_map, is_some, not, if◌then◌else◌}
use Rattle.std.specs.List.{list_all}
use Rattle.std.proofs.lemmas.List.Folds.{list_all-append}
use Rattle.nml_tree.specs.Places.{IsLeast, earlier, least_of}
use Rattle.nml_tree.specs.LineToken.{LineToken}
use Rattle.nml_tree.proofs.LeastPlace.{none_from_least, is_least}
use Rattle.asm_lines.specs.Line as text
use Rattle.asm_lines.specs.Line.{Token, Content, Nothing, Instruction, Bits, Data}
use Rattle.asm_lines.specs.Seen.{seen, seen_reference, seen_tokens, tokens_of}
use Rattle.asm_lines.specs.declared.line.Line.{Line}
use Rattle.asm_lines.specs.declared.line.Reference.{Reference}
use Rattle.asm_lines.specs.declared.line.Tokens.{Tokens}
use Rattle.asm_text.specs.Refused.{is_label, has_doubled, has_referent, are_known, label_lines}
use Rattle.asm_text.specs.Source.{Labels, labels, labels_before}
use Rattle.asm_source.specs.Known.{AreNumbers, KnowsLabels, first_doubled, first_unknown}
use Rattle.asm_source.proofs.FirstPlace.{IsBehind, first_or_behind, either_place}

-- ---- the references of an instruction

module _ (all : Labels) where
  written_known : (ts : List LineToken) → list_all (has_referent all) (map text.Written ts) ≡ true
  written_known [] = refl
  written_known (t ∷ ts) = written_known ts

  references_known : (rs : List Reference) → list_all (has_referent all) (flat_map seen_reference rs) ≡ list_all (λ r. is_label all r.name) rs
  references_known [] = refl
  references_known (r ∷ rs) =
      list_all-append (has_referent all) (seen_reference r) (flat_map seen_reference rs)
      ∙ rw (written_known (tokens_of r.behind.items), references_known rs) (and_true (is_label all r.name) (list_all (λ r. is_label all r.name) rs))
    where
      and_true : (a b : Bool) → ((a && true) && b) ≡ a && b
      and_true true b = refl
      and_true false b = refl

  -- an instruction's references are known where its labels are
  pub tokens_known : (t : Tokens) → list_all (has_referent all) (seen_tokens t) ≡ list_all (λ r. is_label all r.name) t.references.items
  tokens_known t =
      list_all-append (has_referent all) (map text.Written (tokens_of t.front.items)) (flat_map seen_reference t.references.items)
      ∙ rw (written_known (tokens_of t.front.items), references_known t.references.items) refl

-- ---- the first line with a fault

doubled_behind : (before : Labels) (n : ℕ) (ls : List text.Line) → IsBehind n (first_doubled before n ls)
doubled_behind before n [] = tt
doubled_behind before n (l ∷ ls) = first_or_behind (has_doubled before l.label) n _ (doubled_behind (labels_before l.label 0 before) (n + 1) ls)

unknown_behind : (all : Labels) (n : ℕ) (ls : List text.Line) → IsBehind n (first_unknown all n ls)
unknown_behind all n [] = tt
unknown_behind all n (l ∷ ls) = turned (are_known all l.content) (first_or_behind (not (are_known all l.content)) n _ (unknown_behind all (n + 1) ls))
  where
    turned : (b : Bool) → IsBehind n (if not b then Some (n + 1) else first_unknown all (n + 1) ls) → IsBehind n (if b then first_unknown all (n + 1) ls else Some (n + 1))
    turned true h = h
    turned false h = h

either_fault : (all before : Labels) (n : ℕ) (ls : List text.Line) → least_of (label_lines all before n ls) ≡ earlier (first_doubled before n ls) (first_unknown all n ls)
either_fault all before n [] = refl
either_fault all before n (l ∷ ls) =
    let later = labels_before l.label 0 before in
    either_place (has_doubled before l.label) (are_known all l.content) (n + 1) (label_lines all later (n + 1) ls) (first_doubled later (n + 1) ls) (first_unknown all (n + 1) ls)
    (either_fault all later (n + 1) ls) (doubled_behind later (n + 1) ls) (unknown_behind all (n + 1) ls)

-- labels that have the same numbers know the same references
module _ (all found : Labels) (same : AreNumbers all found) where
  same_label : (name : List ℕ) → is_label found name ≡ is_label all name
  same_label name = ap is_some (same name)

  same_referent : (t : Token) → has_referent found t ≡ has_referent all t
  same_referent (text.Written t) = refl
  same_referent (text.Reference name) = same_label name

  same_all : (ts : List Token) → list_all (has_referent found) ts ≡ list_all (has_referent all) ts
  same_all [] = refl
  same_all (t ∷ ts) = rw (same_referent t, same_all ts) refl

  same_known : (c : Content) → are_known found c ≡ are_known all c
  same_known Nothing = refl
  same_known (Instruction ts) = same_all ts
  same_known (Bits w) = refl
  same_known (Data name cell value) = refl

  same_unknown : (n : ℕ) (ls : List text.Line) → first_unknown found n ls ≡ first_unknown all n ls
  same_unknown n [] = refl
  same_unknown n (l ∷ ls) = rw (same_known l.content, same_unknown (n + 1) ls) refl

-- the lines' faults, by what was found of both kinds
module _ (ls : List text.Line) (found : Labels) (doubled unknown : Option ℕ) (same : AreNumbers (labels ls) found) (again : doubled ≡ first_doubled [] 0 ls) (other : unknown ≡ first_unknown found 0 ls) where
  first_fault : (o : Option ℕ) → o ≡ earlier doubled unknown → least_of (label_lines (labels ls) [] 0 ls) ≡ o
  first_fault o is = either_fault (labels ls) [] 0 ls ∙ sym (is ∙ rw (again, other, same_unknown (labels ls) found same 0 ls) refl)

  pub faultless : (o : Option ℕ) → o ≡ earlier doubled unknown → o ≡ None → KnowsLabels ls found
  faultless o is none = record { free = none_from_least _ (first_fault o is ∙ none); numbers = same }

  pub fault_at : (o : Option ℕ) (n : ℕ) → o ≡ earlier doubled unknown → o ≡ Some n → IsLeast (label_lines (labels ls) [] 0 ls) n
  fault_at o n is some = is_least _ n (first_fault o is ∙ some)

-- ---- the first line with a reference that isn't known

-- no line before number i has one
pub record Searched (all : Labels) (ls : List Line) (i number : ℕ) : Type 0 where
  pub rest : first_unknown all 0 (map seen ls) ≡ first_unknown all i (map seen (drop i ls))
  pub number_is : number ≡ i
