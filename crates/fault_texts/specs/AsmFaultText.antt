-- How a fault of assembly text is told: its number and name, and its line or count, after one blank.
use Rattle.std.specs.Prelude.{◌≡◌, refl, ℕ, List, [], ◌++◌, codes, Bool, true, false}
use Rattle.std.specs.Fmt.{decimal, digits}
use Rattle.asm_text.specs.declared.fault.AsmFault.{AsmFault}
use Rattle.asm_text.specs.declared.fault.AsmFault.TheVariants as faults

-- memory was wanted, which is no fault of a text
abbrev pub is_asm_memory : AsmFault → Bool
is_asm_memory faults.Memory = true
is_asm_memory _ = false

-- want of memory isn't told so
abbrev pub asm_fault_text : AsmFault → List ℕ
asm_fault_text (faults.Lex line) = codes "S1 Lex " ++ decimal line
asm_fault_text (faults.Label line) = codes "S2 Label " ++ decimal line
asm_fault_text (faults.NoMatch line) = codes "S3 NoMatch " ++ decimal line
asm_fault_text (faults.Conflict line) = codes "S4 Conflict " ++ decimal line
asm_fault_text (faults.Full count) = codes "S5 Full " ++ decimal count
asm_fault_text (faults.Data line) = codes "S6 Data " ++ decimal line
asm_fault_text faults.Memory = []

-- the tenth line refers to a label that isn't defined
label_line : asm_fault_text (faults.Label 10) ≡ codes "S2 Label 10"
unfolding digits
label_line = refl

-- 65,537 words are more than PC can name
full_line : asm_fault_text (faults.Full 65537) ≡ codes "S5 Full 65537"
unfolding digits
full_line = refl
