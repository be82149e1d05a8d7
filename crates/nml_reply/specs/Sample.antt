-- Worked examples of the definitions, each by computation.
use Rattle.std.proofs.Common.{lit≤}
use Rattle.std.specs.Prelude.{◌≡◌, ◌<◌, ◌^◌, ℕ, [], ◌∷◌, codes, refl, pos, negsuc}
use Rattle.std.specs.Fmt.{digits}
use Rattle.nk_base.specs.declared.number.Bits.{Bits}
use Rattle.nml_tree.specs.declared.fault.DescFault.TheVariants as faults
use Rattle.nml_tree.specs.declared.fault.Root.TheVariants as roots
use Rattle.asm_text.specs.declared.fault.AsmFault.TheVariants as source_faults
use Rattle.image_file.specs.declared.fault.ImageFault.TheVariants as image_faults
use Rattle.nml_reply.specs.Reply.{description_fault, text_fault, image_fault, output_lines, word_lines}

-- ten bits are three digits
two_words : word_lines 10 (0x105 ∷ 0 ∷ []) ≡ codes "105\n000\n"
two_words = refl

two_outputs : output_lines (pos 5 ∷ negsuc 127 ∷ []) ≡ codes "5\n-128\n"
unfolding digits
two_outputs = refl

stuck_line : (description_fault (codes "m") (faults.Lex 19)).text ≡ codes "m: N1 Lex 19\n"
unfolding digits
stuck_line = refl

syntax_line : (description_fault (codes "m") (faults.Syntax 7)).text ≡ codes "m: N2 Syntax 7\n"
unfolding digits
syntax_line = refl

float_line : (description_fault (codes "m") (faults.Float 9)).text ≡ codes "m: N3 Float 9\n"
unfolding digits
float_line = refl

-- a word of ten bits
abbrev bits : (value : ℕ) → value < 2 ^ 10 → Bits
bits value below = record { width = 10; value = value; narrow = lit≤ tt; below = below }

-- the texts of two instructions stand in quotes, and their word in hexadecimal
same_image_line : (description_fault (codes "m") (faults.SameImage (codes "ldi 5") (codes "five") (bits 0x105 (lit≤ tt)))).text ≡ codes "m: N13 SameImage \"ldi 5\" \"five\" 105\n"
same_image_line = refl

same_syntax_line : (description_fault (codes "m") (faults.SameSyntax (bits 0x300 (lit≤ tt)) (bits 0x380 (lit≤ tt)) (codes "beq"))).text ≡ codes "m: N14 SameSyntax 300 380 \"beq\"\n"
same_syntax_line = refl

shapes_line : (description_fault (codes "m5") (faults.Shapes 4097 6 0)).text ≡ codes "m5: N12 Shapes 4097 6 0\n"
unfolding digits
shapes_line = refl

root_line : (description_fault (codes "m") (faults.Root roots.Instruction)).text ≡ codes "m: N11 Root instruction\n"
root_line = refl

-- faults of a text and of an image
no_match_line : (text_fault (codes "s") (source_faults.NoMatch 1)).text ≡ codes "s: S3 NoMatch 1\n"
unfolding digits
no_match_line = refl

short_line : (image_fault (codes "i") (image_faults.Short 51)).text ≡ codes "i: I3 Short 51\n"
unfolding digits
short_line = refl
