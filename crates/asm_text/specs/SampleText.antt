-- Lines and texts for the first sample machine, whose words have 10 bits.
use Rattle.std.specs.Prelude.{◌≡◌, refl, ℕ, pos, negsuc, true, List, [], ◌∷◌, ◌++◌, map, replicate, flat_map, Some, None, codes}
use Rattle.std.specs.Fmt.{digits}
use Rattle.nml_tree.specs.LineToken.{Word, Number}
use Rattle.nml_tree.specs.Same.{tokens}
use Rattle.nml_tree.specs.SampleMachines.{m1, ldi_of}
use Rattle.asm_lines.specs.Line.{Line, line, Written, Reference, Nothing, Instruction, Bits, Data}
use Rattle.asm_text.specs.Source.{source, formed, labels, count_words, resolved}
use Rattle.asm_text.specs.Assembled.{are_initial}
use Rattle.asm_text.specs.Canonical.{data_line, ended}
use Rattle.asm_text.specs.Refused.{form_lines, label_lines, data_lines, word_limit}

-- a label and an instruction with a reference, a tab, a comment
pub labeled :
    (line 10 (codes "on: ldi\t@k-1 ; go on") ≡ Some (record { label = Some (codes "on"); content = Instruction (Written (Word (codes "ldi")) ∷ Reference (codes "k") ∷ Written (Number (negsuc 0)) ∷ []) }))
    × (line 10 (codes "  on:") ≡ Some (record { label = Some (codes "on"); content = Nothing }))
labeled = (refl, refl)

-- a name and a `:` that don't touch are no label, and `:` is no mark
pub label_apart : line 10 (codes "on : outa") ≡ None
label_apart = refl

-- `r5`, `r 5` and `r05` are the same two tokens
pub spaced : line 10 (codes "r5") ≡ line 10 (codes " r 05 ")
spaced = refl

-- a string, and a number of 39 digits
pub refused_tokens :
    (line 10 (codes "ldi \"5\"") ≡ None)
    × (line 10 (codes "ldi 123456789012345678901234567890123456789") ≡ None)
refused_tokens = (refl, refl)

-- a word has three digits, in either case, and a value below 2^10
pub bits :
    (line 10 (codes ".bits 1fF") ≡ Some (record { label = None; content = Bits 0x1ff }))
    × (line 10 (codes ".bits 05") ≡ None)
    × (line 10 (codes ".bits 400") ≡ None)
    × (line 10 (codes ".data A 0 -9") ≡ Some (record { label = None; content = Data (codes "A") 0 (negsuc 8) }))
bits = (refl, refl, refl, refl)

-- blanks stand between the parts
pub data_joined : line 10 (codes ".data A 0-9") ≡ None
data_joined = refl

-- a label's number is that of the next word
abbrev pub jumps : List Line
jumps = formed (source 10 (codes "outa\non: ; here\n.data A 0 9\nldi @on\nend:"))

pub jump_labels :
    (labels jumps ≡ (codes "on", 1) ∷ (codes "end", 2) ∷ [])
    × (count_words jumps ≡ 2)
jump_labels = (refl, refl)

-- the instruction that the fourth line is
pub jump_tokens : tokens (ldi_of (pos 1)) ≡ map (resolved (labels jumps)) (Written (Word (codes "ldi")) ∷ Reference (codes "on") ∷ [])
unfolding digits
jump_tokens = refl

-- the initial value of that text, and none of a value 0
pub begins :
    (are_initial m1 jumps (record { storage = 1; cell = 0; raw = 9 } ∷ []) ≡ true)
    × (are_initial m1 (formed (source 10 (codes ".data A 0 0"))) [] ≡ true)
    × (are_initial m1 (formed (source 10 (codes ".data A 0 -1"))) (record { storage = 1; cell = 0; raw = 255 } ∷ []) ≡ true)
begins = (refl, refl, refl)

-- the canonical text of an initial value, and of lines
pub data_text : data_line m1 (record { storage = 1; cell = 0; raw = 255 }) ≡ codes ".data A 0 -1"
unfolding digits
data_text = refl

pub ended_text : ended (codes "outa" ∷ codes "hlt 0" ∷ []) ≡ codes "outa\nhlt 0\n"
ended_text = refl

-- Refused: a wrong form; a reference without a label; a label twice; more words than PC names; cells and values that aren't there; a cell given before.
pub form_refused : form_lines 0 (source 10 (codes "outa\nldi \"5\"")) ≡ 2 ∷ []
form_refused = refl

abbrev pub label_faults : List ℕ → List ℕ
label_faults text = let ls = formed (source 10 text) in label_lines (labels ls) [] 0 ls

pub labels_refused :
    (label_faults (codes "ldi @k") ≡ 1 ∷ [])
    × (label_faults (codes "k: outa\nldi @k\nk:") ≡ 3 ∷ [])
    × (count_words (formed (source 10 (flat_map (λ l. l ++ 10 ∷ []) (replicate 17 (codes "outa"))))) ≡ 17)
    × (word_limit m1 ≡ 16)
labels_refused = (refl, refl, refl, refl)

abbrev pub data_faults : List ℕ → List ℕ
data_faults text = data_lines m1 [] 0 (formed (source 10 text))

pub data_refused :
    (data_faults (codes ".data A 1 5") ≡ 1 ∷ [])
    × (data_faults (codes ".data A 0 128") ≡ 1 ∷ [])
    × (data_faults (codes ".data PC 0 1") ≡ 1 ∷ [])
    × (data_faults (codes ".data A 0 0\nouta\n.data A 0 1") ≡ 3 ∷ [])
data_refused = (refl, refl, refl, refl)
