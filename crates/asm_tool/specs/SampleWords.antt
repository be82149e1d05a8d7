-- Lines of the first sample machine, and what they give.
use Rattle.std.specs.Prelude.{refl, [], ◌∷◌, codes}
use Rattle.nml_tree.specs.LineToken.{Word}
use Rattle.nml_tree.specs.SampleMachines.{m1, outa_of}
use Rattle.asm_lines.specs.Line.{Written, Nothing, Instruction, Bits}
use Rattle.asm_tool.specs.Words.{IsLineWord}
use Rattle.asm_tool.specs.declared.words.LineWord.TheVariants as word

-- a line without an instruction gives no word, a `.bits` line its own
pub plain_words : IsLineWord m1 [] Nothing word.Nothing × IsLineWord m1 [] (Bits 0x1ff) (word.Word 0x1ff)
plain_words = (refl, refl)

-- an instruction's line gives the word of the derivation with its tokens
pub outa_word : IsLineWord m1 [] (Instruction (Written (Word (codes "outa")) ∷ [])) (word.Word 0x200)
outa_word = (outa_of, (codes "outa", refl, (refl, refl)), refl, refl, refl)
