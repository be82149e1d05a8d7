-- Labels of a text for the first sample machine.
use Rattle.std.specs.Prelude.{◌≡◌, refl, [], ◌∷◌, List, Some, codes}
use Rattle.asm_lines.specs.Line.{Line}
use Rattle.asm_text.specs.Refused.{label_lines}
use Rattle.asm_text.specs.Source.{source, formed, labels}
use Rattle.asm_source.specs.Known.{first_doubled, first_unknown, number_of}

-- `k` is defined again at line 4, and nothing defines `j`, to which line 3 refers
abbrev pub twice : List Line
twice = formed (source 10 (codes "outa\nk: ldi @k\nldi @j\nk:"))

-- so line 3 has the first fault
pub first_faults :
    (first_doubled [] 0 twice ≡ Some 4)
    × (first_unknown (labels twice) 0 twice ≡ Some 3)
    × (label_lines (labels twice) [] 0 twice ≡ 3 ∷ 4 ∷ [])
first_faults = (refl, refl, refl)

-- its first line counts; 0 where there is none
pub label_numbers :
    (number_of (labels twice) (codes "k") ≡ 1)
    × (number_of (labels twice) (codes "j") ≡ 0)
label_numbers = (refl, refl)
