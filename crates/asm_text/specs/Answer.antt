-- What an assembly text comes to: words and initial values; and which words and initial values an image may have.
use Rattle.std.specs.Prelude.{ℕ, List, map}
use Rattle.nml_tree.specs.Machine.{Initial}
use Rattle.nml_tree.specs.Table.{Text, Table}
use Rattle.image_file.specs.Measured.{measures, stored}
use Rattle.image_file.specs.Valid.{IsValid}
use Rattle.asm_text.specs.Source.{source, formed}
use Rattle.asm_text.specs.Assembled.{Assembles}
use Rattle.asm_text.specs.Refused.{IsFreeBelow}

-- the text has none of the faults, and these are its words and its initial values
pub record IsAssembled (t : Table) (width : ℕ) (text : Text) (words : List ℕ) (inits : List Initial) : Type 0 where
  pub free : IsFreeBelow 7 t (source width text)
  pub assembles : Assembles t (formed (source width text)) words inits

-- an image of these words and initial values is valid for the description, whatever digest it carries
abbrev pub AreRight : Table → ℕ → List ℕ → List Initial → Type 0
AreRight t width words inits = (digest : List ℕ) → IsValid (measures t width) (record { digest = digest; width = width; words = words; inits = map stored inits })
