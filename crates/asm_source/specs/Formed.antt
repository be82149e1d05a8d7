-- What the lines of a text are read to.
use Rattle.std.specs.Prelude.{ℕ, ◌≡◌, List, [], map, All}
use Rattle.nml_tree.specs.Places.{IsLeast}
use Rattle.nml_tree.specs.Table.{Text}
use Rattle.asm_lines.specs.Seen.{seen, IsWritten}
use Rattle.asm_lines.specs.declared.line.Line.{Line}
use Rattle.asm_text.specs.Refused.{form_lines}
use Rattle.asm_text.specs.Source.{source, formed}
use Rattle.asm_text.specs.declared.fault.AsmFault.{AsmFault}
use Rattle.asm_text.specs.declared.fault.AsmFault.TheVariants as fault

-- each line of the text has a form, these are the lines, and none of their tokens is a field
pub record AreFormed (width : ℕ) (text : Text) (ls : List Line) : Type 0 where
  pub free : form_lines 0 (source width text) ≡ []
  pub same : map seen ls ≡ formed (source width text)
  pub written : All (λ l. IsWritten l.content) ls

-- the first line that has no form, or want of memory
abbrev pub IsFormFault : ℕ → Text → AsmFault → Type 0
IsFormFault width text (fault.Lex n) = IsLeast (form_lines 0 (source width text)) n
IsFormFault width text (fault.Label n) = ⊥
IsFormFault width text (fault.NoMatch n) = ⊥
IsFormFault width text (fault.Conflict n) = ⊥
IsFormFault width text (fault.Full count) = ⊥
IsFormFault width text (fault.Data n) = ⊥
IsFormFault width text fault.Memory = Unit {0}
