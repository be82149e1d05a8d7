-- What the `.data` lines of a text give, and what they are refused for.
use Rattle.std.specs.Prelude.{◌≡◌, List, [], map, IsTrue}
use Rattle.nml_tree.specs.Machine.{Initial}
use Rattle.nml_tree.specs.Places.{IsLeast}
use Rattle.nml_tree.specs.Table.{Table}
use Rattle.image_file.specs.Measured.{initial}
use Rattle.image_file.specs.Seen.{init_of}
use Rattle.image_file.specs.declared.image.DataCell.{DataCell}
use Rattle.asm_lines.specs.Line.{Line}
use Rattle.asm_text.specs.Assembled.{are_initial}
use Rattle.asm_text.specs.Refused.{data_lines}
use Rattle.asm_text.specs.declared.fault.AsmFault.{AsmFault}
use Rattle.asm_text.specs.declared.fault.AsmFault.TheVariants as fault

-- a data cell, as a machine begins with it
abbrev pub begun : DataCell → Initial
begun c = initial (init_of c)

-- no `.data` line is wrong, and these cells are the initial values
pub record GiveData (t : Table) (ls : List Line) (cells : List DataCell) : Type 0 where
  pub right : data_lines t [] 0 ls ≡ []
  pub begin : IsTrue (are_initial t ls (map begun cells))

-- want of memory, or the first `.data` line that is wrong
abbrev pub IsDataFault : Table → List Line → AsmFault → Type 0
IsDataFault t ls fault.Memory = Unit {0}
IsDataFault t ls (fault.Data n) = IsLeast (data_lines t [] 0 ls) n
IsDataFault t ls _ = ⊥
