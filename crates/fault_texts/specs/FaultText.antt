-- How a fault of a description is told: its number and name, and its fields, each after one blank.
use Rattle.std.specs.Prelude.{ℕ, List, [], ◌++◌, codes, Bool, true, false}
use Rattle.std.specs.Fmt.{decimal}
use Rattle.nk_base.specs.Hexadecimal.{hexadecimal, digits_of_word}
use Rattle.nk_base.specs.declared.number.Bits.{Bits}
use Rattle.nml_tree.specs.declared.fault.DescFault.{DescFault}
use Rattle.nml_tree.specs.declared.fault.DescFault.TheVariants as faults
use Rattle.nml_tree.specs.declared.fault.Root.{Root}
use Rattle.nml_tree.specs.declared.fault.Root.TheVariants as roots

-- a text that is no name stands in double quotes
abbrev pub quoted : List ℕ → List ℕ
quoted text = codes "\"" ++ text ++ codes "\""

-- a word stands in hexadecimal, as many digits as its width calls for
abbrev pub word_text : Bits → List ℕ
word_text word = hexadecimal (digits_of_word word.width) word.value

-- what a description lacks
abbrev pub root_text : Root → List ℕ
root_text roots.Instruction = codes "instruction"
root_text roots.Pc = codes "PC"

-- memory was wanted, which is no fault of a description
abbrev pub is_memory : DescFault → Bool
is_memory faults.Memory = true
is_memory _ = false

-- want of memory isn't told so
abbrev pub fault_text : DescFault → List ℕ
fault_text (faults.Lex at) = codes "N1 Lex " ++ decimal at
fault_text (faults.Syntax at) = codes "N2 Syntax " ++ decimal at
fault_text (faults.Float at) = codes "N3 Float " ++ decimal at
fault_text (faults.Name at) = codes "N4 Name " ++ decimal at
fault_text (faults.Cycle rule) = codes "N5 Cycle " ++ rule
fault_text (faults.TypeFault at) = codes "N6 Type " ++ decimal at
fault_text (faults.Width at) = codes "N7 Width " ++ decimal at
fault_text (faults.Linear rule param) = codes "N8 Linear " ++ rule ++ codes " " ++ param
fault_text (faults.WordWidth rule) = codes "N9 WordWidth " ++ rule
fault_text (faults.Edge rule) = codes "N10 Edge " ++ rule
fault_text (faults.Root what) = codes "N11 Root " ++ root_text what
fault_text (faults.Shapes count nodes size) = codes "N12 Shapes " ++ decimal count ++ codes " " ++ decimal nodes ++ codes " " ++ decimal size
fault_text (faults.SameImage a b word) = codes "N13 SameImage " ++ quoted a ++ codes " " ++ quoted b ++ codes " " ++ word_text word
fault_text (faults.SameSyntax a b text) = codes "N14 SameSyntax " ++ word_text a ++ codes " " ++ word_text b ++ codes " " ++ quoted text
fault_text faults.Memory = []
