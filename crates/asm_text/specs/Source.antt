-- An assembly text: its lines, the numbers of its labels, and the tokens that its instructions have.
use Rattle.std.specs.Prelude.{ℕ, ◌+◌, ◌==◌, pos, List, [], ◌∷◌, map, Option, Some, None, unwrap_or}
use Rattle.std.specs.List.{slice_split}
use Rattle.std.specs.Map.{lookup}
use Rattle.nk_base.specs.Text.{text_eq}
use Rattle.nml_tree.specs.LineToken.{LineToken, Number}
use Rattle.nml_tree.specs.Table.{Text}
use Rattle.asm_lines.specs.Line.{Token, Written, Reference, Content, Nothing, Instruction, Bits, Line, line}

-- lines end at a line feed
abbrev pub source : ℕ → Text → List (Option Line)
source width text = map (line width) (slice_split (λ c. c == 10) text)

-- a line of a wrong form counts as an empty one
abbrev pub empty : Line
empty = record { label = None; content = Nothing }

abbrev pub formed : List (Option Line) → List Line
formed ls = map (λ l. unwrap_or l empty) ls

-- an instruction and a `.bits` are a word each
abbrev pub words_of : Content → ℕ
words_of (Instruction ts) = 1
words_of (Bits w) = 1
words_of _ = 0

abbrev pub Labels : Type 0
Labels = List (Text × ℕ)

abbrev pub labels_before : Option Text → ℕ → Labels → Labels
labels_before None n labels = labels
labels_before (Some name) n labels = (name, n) ∷ labels

-- a label's number is that of the next word, so many words standing before these lines
abbrev pub labels_from : ℕ → List Line → Labels
labels_from n [] = []
labels_from n (l ∷ ls) = labels_before l.label n (labels_from (n + words_of l.content) ls)

abbrev pub labels : List Line → Labels
labels ls = labels_from 0 ls

abbrev pub count_words : List Line → ℕ
count_words [] = 0
count_words (l ∷ ls) = words_of l.content + count_words ls

-- a reference is its label's number
abbrev pub resolved : Labels → Token → LineToken
resolved labels (Written t) = t
resolved labels (Reference name) = Number (pos (unwrap_or (lookup (text_eq name) labels) 0))
