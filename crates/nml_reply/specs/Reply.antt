-- What is told: a status and a text.
use Rattle.std.specs.Prelude.{ℕ, zero, suc, List, [], ◌∷◌, ◌++◌, length, ℤ, pos, negsuc, Option, Some, None, codes}
use Rattle.std.specs.Fmt.{decimal, signed_decimal}
use Rattle.nk_base.specs.Hexadecimal.{hexadecimal, digits_of_word}
use Rattle.nml_tree.specs.Machine.{Stop, Running, Halted, Wanted, NoWord, BadWord}
use Rattle.nml_tree.specs.Machine as machine
use Rattle.nml_tree.specs.declared.fault.DescFault.{DescFault}
use Rattle.fault_texts.specs.FaultText.{fault_text}
use Rattle.fault_texts.specs.AsmFaultText.{asm_fault_text}
use Rattle.fault_texts.specs.ImageFaultText.{image_fault_text}
use Rattle.fault_texts.specs.CFaultText.{c_fault_text}
use Rattle.asm_text.specs.declared.fault.AsmFault.{AsmFault}
use Rattle.image_file.specs.declared.fault.ImageFault.{ImageFault}
use Rattle.c_tree.specs.declared.fault.CFault.{CFault}
use Rattle.nml_target.specs.declared.width.Lacking.{Lacking}
use Rattle.nml_target.specs.declared.width.Lacking.TheVariants as lacking
use Rattle.nk_outside.specs.Outcome.{Outcome, lines}
use Rattle.nk_outside.specs.declared.stop.Stop as outside
use Rattle.nk_outside.specs.declared.stop.Stop.TheVariants as ends
use Rattle.nml_reply.specs.Reading.{Reading, Got, Absent, Failed, TooLong, Unread}
use Rattle.nml_reply.specs.declared.status.Status.{Status}
use Rattle.nml_reply.specs.declared.status.Status.TheVariants as statuses

pub record Reply : Type 0 where
  pub status : Status
  pub text : List ℕ

abbrev pub reply : Status → List ℕ → Reply
reply status text = record { status = status; text = text }

-- memory was wanted before there is a text
abbrev pub starved : Reply
starved = reply statuses.Memory []

-- where the words match no form
abbrev pub usage_line : List ℕ
usage_line = codes "usage: check D, asm D S I, dis D I, run D I X n, cc D C I, ceval D C X n, demo k\n"

-- a command that isn't built yet
abbrev pub not_built : Reply
not_built = reply statuses.NotBuilt (codes "not built\n")

-- a description that has this fault
abbrev pub description_fault : List ℕ → DescFault → Reply
description_fault name fault = reply statuses.Description (name ++ codes ": " ++ fault_text fault ++ codes "\n")

-- an assembly text that has this fault
abbrev pub text_fault : List ℕ → AsmFault → Reply
text_fault name fault = reply statuses.Source (name ++ codes ": " ++ asm_fault_text fault ++ codes "\n")

-- an image file that has this fault
abbrev pub image_fault : List ℕ → ImageFault → Reply
image_fault name fault = reply statuses.Image (name ++ codes ": " ++ image_fault_text fault ++ codes "\n")

-- a file that gave no bytes
abbrev pub unread : List ℕ → Reading → Reply
unread name (Got bytes) = starved
unread name Absent = reply statuses.Read (name ++ codes ": absent\n")
unread name Failed = reply statuses.Read (name ++ codes ": read failed\n")
unread name TooLong = reply statuses.TooLong (name ++ codes ": too long\n")
unread name Unread = starved

-- a file whose write failed
abbrev pub write_failed : List ℕ → Reply
write_failed name = reply statuses.Write (name ++ codes ": write failed\n")

-- a C program that has this fault
abbrev pub program_fault : List ℕ → CFault → Reply
program_fault name fault = reply statuses.Source (name ++ codes ": " ++ c_fault_text fault ++ codes "\n")

-- what a description lacks for programs, behind its name
abbrev pub lacking_text : Lacking → List ℕ
lacking_text lacking.Dm = codes ": K4 NoTarget DM\n"
lacking_text lacking.In = codes ": K4 NoTarget IN\n"
lacking_text lacking.Out = codes ": K4 NoTarget OUT\n"

-- a description that lacks it
abbrev pub no_target : List ℕ → Lacking → Reply
no_target name what = reply statuses.NotClosed (name ++ lacking_text what)

-- this line of an input isn't blank, and writes no number that is wanted
abbrev pub bad_input : List ℕ → ℕ → Reply
bad_input name line = reply statuses.Input (name ++ codes ": Input " ++ decimal line ++ codes "\n")

-- a word of so many bits, on a line
abbrev pub word_line : ℕ → ℕ → List ℕ
word_line width word = hexadecimal (digits_of_word width) word ++ codes "\n"

abbrev pub word_lines : ℕ → List ℕ → List ℕ
word_lines width [] = []
word_lines width (word ∷ words) = word_line width word ++ word_lines width words

-- how many words there are
abbrev pub ok_line : ℕ → List ℕ
ok_line count = codes "ok: " ++ decimal count ++ codes " words\n"

abbrev pub assembled : ℕ → List ℕ → Reply
assembled width words = reply statuses.Done (word_lines width words ++ ok_line (length words))

-- the canonical text of an image
abbrev pub disassembled : List ℕ → Reply
disassembled text = reply statuses.Done text

-- a description that is accepted, with so many shapes and so many bits in a word
abbrev pub accepted : (count width : ℕ) → Reply
accepted count width = reply statuses.Done (codes "description ok: " ++ decimal count ++ codes " shapes, " ++ decimal width ++ codes " bits\n")

-- an output in decimal, on a line
abbrev pub output_line : ℤ → List ℕ
output_line z = signed_decimal z ++ codes "\n"

-- the text of an output, where there is one
abbrev pub output_text : Option ℤ → List ℕ
output_text None = []
output_text (Some z) = output_line z

abbrev pub output_lines : List ℤ → List ℕ
output_lines [] = []
output_lines (z ∷ zs) = output_line z ++ output_lines zs

-- how a run stopped, on a line
abbrev pub stop_line : Stop → List ℕ
stop_line Running = codes "running\n"
stop_line (Halted code) = codes "halted " ++ signed_decimal code ++ codes "\n"
stop_line Wanted = codes "wants input\n"
stop_line (NoWord place) = codes "no word " ++ decimal place ++ codes "\n"
stop_line (BadWord place) = codes "bad word " ++ decimal place ++ codes "\n"

abbrev pub stop_status : Stop → Status
stop_status Running = statuses.Budget
stop_status (Halted (pos zero)) = statuses.Done
stop_status (Halted (pos (suc code))) = statuses.Stopped
stop_status (Halted (negsuc code)) = statuses.Stopped
stop_status Wanted = statuses.Wants
stop_status (NoWord place) = statuses.NoWord
stop_status (BadWord place) = statuses.BadWord

-- a line for each output of a run, and one that tells how it stopped
abbrev pub told_run : machine.RunOutcome → Reply
told_run r = reply (stop_status r.stop) (output_lines r.out ++ stop_line r.stop)

-- how a run of a program stopped, on a line
abbrev pub ending_line : outside.Stop → List ℕ
ending_line ends.Running = codes "running\n"
ending_line ends.Ended = codes "halted 0\n"
ending_line (ends.Trap code) = codes "halted " ++ decimal code ++ codes "\n"
ending_line ends.Wants = codes "wants input\n"

abbrev pub ending_status : outside.Stop → Status
ending_status ends.Running = statuses.Budget
ending_status ends.Ended = statuses.Done
ending_status (ends.Trap zero) = statuses.Done
ending_status (ends.Trap (suc code)) = statuses.Stopped
ending_status ends.Wants = statuses.Wants

-- a line for each output of a program, and one that tells how its run stopped
abbrev pub told_outcome : Outcome → Reply
told_outcome o = reply (ending_status o.stop) (lines o.out ++ ending_line o.stop)
