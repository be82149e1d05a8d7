-- For what a text is refused. Of several faults the lowest number is answered, within one number the first line.
use Rattle.std.specs.Prelude.{ℕ, ◌≡◌, ◌<◌, ◌≤◌, ◌+◌, ◌^◌, ◌==◌, nat_lt, ℤ, Bool, true, false, not, ◌||◌, ◌&&◌, List, [], ◌∷◌, ◌++◌, map, Option, Some, None, is_some, slice_get, Contains}
use Rattle.std.specs.List.{list_any, list_all}
use Rattle.std.specs.Map.{lookup}
use Rattle.nk_base.specs.Number.{width_of}
use Rattle.nk_base.specs.Text.{text_eq}
use Rattle.nml_tree.specs.Table.{Text, Table, Declared, declared}
use Rattle.nml_tree.specs.Derivation.{Derivation}
use Rattle.nml_tree.specs.Exec.{pc, storage_type}
use Rattle.nml_tree.specs.Legal.{is_legal}
use Rattle.nml_tree.specs.Machine.{Initial}
use Rattle.nml_tree.specs.Places.{unless, when, IsLeast}
use Rattle.nml_tree.specs.Same as same
use Rattle.nml_tree.specs.Valid.{IsRoot}
use Rattle.asm_text.specs.declared.fault.AsmFault.{AsmFault}
use Rattle.asm_text.specs.declared.fault.AsmFault.TheVariants as fault
use Rattle.asm_lines.specs.Line.{Token, Written, Reference, Content, Instruction, Data, Line}
use Rattle.asm_text.specs.Source.{Labels, source, formed, labels, labels_before, count_words, resolved}
use Rattle.nk_range.specs.Range.{is_in_range}
use Rattle.asm_text.specs.Assembled.{given_by, is_same_cell}

-- lines are numbered from 1; these begin behind so many
abbrev pub form_lines : ℕ → List (Option Line) → List ℕ
form_lines n [] = []
form_lines n (l ∷ ls) = unless (is_some l) (n + 1) ++ form_lines (n + 1) ls

abbrev pub is_label : Labels → Text → Bool
is_label labels name = is_some (lookup (text_eq name) labels)

abbrev pub has_doubled : Labels → Option Text → Bool
has_doubled before None = false
has_doubled before (Some name) = is_label before name

abbrev pub has_referent : Labels → Token → Bool
has_referent all (Written t) = true
has_referent all (Reference name) = is_label all name

abbrev pub are_known : Labels → Content → Bool
are_known all (Instruction ts) = list_all (has_referent all) ts
are_known all _ = true

-- a label was defined before, or a reference has no label
abbrev pub label_lines : (all before : Labels) → ℕ → List Line → List ℕ
label_lines all before n [] = []
label_lines all before n (l ∷ ls) =
    when (has_doubled before l.label || not (are_known all l.content)) (n + 1) ++ label_lines all (labels_before l.label 0 before) (n + 1) ls

-- a line is an instruction with these tokens
abbrev pub HasTokens : List Line → ℕ → List Token → Type 0
HasTokens ls n ts = (l : Line) × (k : ℕ) × (n ≡ k + 1) × (slice_get ls k ≡ Some l) × (l.content ≡ Instruction ts)

-- no derivation has the line's tokens
pub record HasNoMatch (t : Table) (ls : List Line) (n : ℕ) : Type 0 where
  pub tokens : List Token
  pub stands : HasTokens ls n tokens
  pub none : (d : Derivation) → IsRoot t d → same.tokens d ≡ map (resolved (labels ls)) tokens → ⊥

-- the derivation that has them isn't legal
pub record HasConflict (t : Table) (ls : List Line) (n : ℕ) : Type 0 where
  pub tokens : List Token
  pub stands : HasTokens ls n tokens
  pub by : Derivation
  pub root : IsRoot t by
  pub has : same.tokens by ≡ map (resolved (labels ls)) tokens
  pub illegal : is_legal t by ≡ false

-- how many words PC can name
abbrev pub word_limit : Table → ℕ
word_limit t = 2 ^ width_of (storage_type t (pc t))

-- a cell of a `mem` or `reg` other than PC, and a number of its type
abbrev pub is_cell : Table → Option Declared → ℕ → ℤ → Bool
is_cell t (Some (Declared.Storage n size ty)) cell value = not (n == pc t) && nat_lt cell size && is_in_range ty value
is_cell t _ cell value = false

abbrev pub is_data : Table → Content → Bool
is_data t (Data name cell value) = is_cell t (declared t name) cell value
is_data t _ = true

-- the storage, the cell or the value is out of range, or the cell was given before
abbrev pub data_lines : Table → (before : List Initial) → ℕ → List Line → List ℕ
data_lines t before n [] = []
data_lines t before n (l ∷ ls) =
    when (not (is_data t l.content) || list_any (λ i. list_any (is_same_cell i) before) (given_by t l.content)) (n + 1)
    ++ data_lines t (before ++ given_by t l.content) (n + 1) ls

-- the fault of this number holds somewhere
pub data Holds (t : Table) (source : List (Option Line)) : ℕ → Type 0 where
  By_form : (n : ℕ) → Contains (form_lines 0 source) n → Holds t source 1
  By_label : (n : ℕ) → Contains (label_lines (labels (formed source)) [] 0 (formed source)) n → Holds t source 2
  By_match : (n : ℕ) → HasNoMatch t (formed source) n → Holds t source 3
  By_conflict : (n : ℕ) → HasConflict t (formed source) n → Holds t source 4
  By_count : word_limit t < count_words (formed source) → Holds t source 5
  By_data : (n : ℕ) → Contains (data_lines t [] 0 (formed source)) n → Holds t source 6

abbrev pub IsFreeBelow : ℕ → Table → List (Option Line) → Type 0
IsFreeBelow n t source = (k : ℕ) → k < n → Holds t source k → ⊥

-- the first line of which this holds
pub record IsFirst (P : ℕ → Type 0) (n : ℕ) : Type 0 where
  pub holds : P n
  pub first : (k : ℕ) → P k → n ≤ k

-- the fault is the one that the text is refused for
abbrev pub IsRefusedSource : Table → List (Option Line) → AsmFault → Type 0
IsRefusedSource t ls (fault.Lex n) = IsLeast (form_lines 0 ls) n
IsRefusedSource t ls (fault.Label n) = IsFreeBelow 2 t ls × IsLeast (label_lines (labels (formed ls)) [] 0 (formed ls)) n
IsRefusedSource t ls (fault.NoMatch n) = IsFreeBelow 3 t ls × IsFirst (HasNoMatch t (formed ls)) n
IsRefusedSource t ls (fault.Conflict n) = IsFreeBelow 4 t ls × IsFirst (HasConflict t (formed ls)) n
IsRefusedSource t ls (fault.Full count) = IsFreeBelow 5 t ls × (count ≡ count_words (formed ls)) × (word_limit t < count)
IsRefusedSource t ls (fault.Data n) = IsFreeBelow 6 t ls × IsLeast (data_lines t [] 0 (formed ls)) n
IsRefusedSource t ls fault.Memory = Unit {0}

-- a text of a description whose words have so many bits
abbrev pub IsRefused : Table → ℕ → Text → AsmFault → Type 0
IsRefused t width text f = IsRefusedSource t (source width text) f
