-- Texts for the first sample machine, whose words have 10 bits: storage 0 is PC, and storage 1 is A, one cell of 8 bits with a sign.
use Rattle.std.specs.Prelude.{◌≡◌, refl, [], ◌∷◌, List, ℕ, codes}
use Rattle.nml_tree.specs.SampleMachines.{m1}
use Rattle.asm_lines.specs.Line.{Line}
use Rattle.asm_text.specs.Source.{source, formed}
use Rattle.asm_text.specs.Refused.{data_lines}
use Rattle.asm_data.specs.Given.{GiveData}

abbrev lines : List ℕ → List Line
lines text = formed (source 10 text)

-- a value below 0 is stored modulo 2^8
negative : GiveData m1 (lines (codes "outa\n.data A 0 -1")) (record { storage = 1; cell = 0; value = 255 } ∷ [])
negative = record { right = refl; begin = refl }

-- a value of 0 makes no cell
nothing : GiveData m1 (lines (codes ".data A 0 0")) []
nothing = record { right = refl; begin = refl }

-- though it gives its cell, so the third line is wrong
twice : data_lines m1 [] 0 (lines (codes ".data A 0 0\nouta\n.data A 0 1")) ≡ 3 ∷ []
twice = refl
