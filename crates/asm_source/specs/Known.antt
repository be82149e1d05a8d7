-- The labels of lines, by their names.
use Rattle.std.specs.Prelude.{ℕ, ◌≡◌, ◌+◌, List, [], ◌∷◌, Option, Some, None, unwrap_or, if◌then◌else◌}
use Rattle.std.specs.Map.{lookup}
use Rattle.nk_base.specs.Text.{text_eq}
use Rattle.nml_tree.specs.Places.{IsLeast}
use Rattle.nml_tree.specs.Table.{Text}
use Rattle.asm_lines.specs.Line.{Line}
use Rattle.asm_text.specs.Refused.{has_doubled, are_known, label_lines}
use Rattle.asm_text.specs.Source.{Labels, labels, labels_before}
use Rattle.asm_text.specs.declared.fault.AsmFault.{AsmFault}
use Rattle.asm_text.specs.declared.fault.AsmFault.TheVariants as fault

-- each name has the same number in both, or none in either
abbrev pub AreNumbers : (all found : Labels) → Type 0
AreNumbers all found = (name : Text) → lookup (text_eq name) found ≡ lookup (text_eq name) all

-- each label is defined once, each reference is to a label, and these are the labels' numbers
pub record KnowsLabels (ls : List Line) (found : Labels) : Type 0 where
  pub free : label_lines (labels ls) [] 0 ls ≡ []
  pub numbers : AreNumbers (labels ls) found

-- the first line that defines a label again or refers to no label, or want of memory
abbrev pub IsLabelFault : List Line → AsmFault → Type 0
IsLabelFault ls (fault.Lex n) = ⊥
IsLabelFault ls (fault.Label n) = IsLeast (label_lines (labels ls) [] 0 ls) n
IsLabelFault ls (fault.NoMatch n) = ⊥
IsLabelFault ls (fault.Conflict n) = ⊥
IsLabelFault ls (fault.Full count) = ⊥
IsLabelFault ls (fault.Data n) = ⊥
IsLabelFault ls fault.Memory = Unit {0}

-- the number of a label; 0 where there is none
abbrev pub number_of : Labels → Text → ℕ
number_of labels name = unwrap_or (lookup (text_eq name) labels) 0

-- For private contracts. The first line, behind so many, that defines a label again, these being the labels before.
abbrev pub first_doubled : (before : Labels) → ℕ → List Line → Option ℕ
first_doubled before n [] = None
first_doubled before n (l ∷ ls) = if has_doubled before l.label then Some (n + 1) else first_doubled (labels_before l.label 0 before) (n + 1) ls

-- the first line, behind so many, that refers to none of these labels
abbrev pub first_unknown : (all : Labels) → ℕ → List Line → Option ℕ
first_unknown all n [] = None
first_unknown all n (l ∷ ls) = if are_known all l.content then first_unknown all (n + 1) ls else Some (n + 1)
