-- Worked examples of the definitions, each by computation.
use Rattle.std.specs.Prelude.{◌≡◌, [], ◌∷◌, Some, None, codes, refl}
use Rattle.std.specs.Fmt.{digits}
use Rattle.nml_tree.specs.Machine.{Ends, Nothing, NoWord}
use Rattle.nml_tree.specs.SampleMachines.{m1}
use Rattle.image_file.specs.File.{Picture, file}
use Rattle.nml_suite.specs.Coming.{RunsTo, Input, Ran, made, picture}
use Rattle.nml_command.specs.Form.{Asm, Run, Demo, form_of, files_to_read, file_to_write}
use Rattle.nml_reply.specs.Reply.{reply}
use Rattle.nml_reply.specs.declared.status.Status.TheVariants as statuses
use Rattle.nml_suite.specs.Work.{telling}

asm_form : form_of (codes "asm" ∷ codes "m0" ∷ codes "s" ∷ codes "i" ∷ []) ≡ Some (Asm (codes "m0") (codes "s") (codes "i"))
asm_form = refl

-- a name is a file's whatever it is, but not empty
no_source : form_of (codes "asm" ∷ codes "m0" ∷ [] ∷ codes "i" ∷ []) ≡ None
no_source = refl

run_form : form_of (codes "run" ∷ codes "d" ∷ codes "i" ∷ codes "x" ∷ codes "010" ∷ []) ≡ Some (Run (codes "d") (codes "i") (codes "x") 10)
run_form = refl

no_steps : form_of (codes "run" ∷ codes "d" ∷ codes "i" ∷ codes "x" ∷ codes "0" ∷ []) ≡ None
no_steps = refl

largest_demo : form_of (codes "demo" ∷ codes "200" ∷ []) ≡ Some (Demo 200)
largest_demo = refl

too_large_demo : form_of (codes "demo" ∷ codes "201" ∷ []) ≡ None
too_large_demo = refl

no_words : form_of [] ≡ None
no_words = refl

-- the files of a command, in the order in which they are read, and the one that it writes
reads_three : files_to_read (Run (codes "d") (codes "i") (codes "x") 10) ≡ codes "d" ∷ codes "i" ∷ codes "x" ∷ []
reads_three = refl

writes_one : file_to_write (Asm (codes "m0") (codes "s") (codes "i")) ≡ Some (codes "i")
writes_one = refl

-- what is made of a text: the file of the image, and its words
an_image : made (codes "i") (picture (codes "d") 10 (0x105 ∷ []) []) ≡ record { file = Some (record { name = codes "i"; bytes = file (picture (codes "d") 10 (0x105 ∷ []) []) }); reply = reply statuses.Done (codes "105\nok: 1 words\n") }
unfolding digits
an_image = refl

-- an image without words, of the machine, which has no input
abbrev empty : Picture
empty = record { digest = []; width = 10; words = []; inits = [] }

-- there is no word at 0
no_word : RunsTo (codes "x") 1 m1 empty [] [] (telling (reply statuses.NoWord (codes "no word 0\n")))
unfolding digits
no_word = Ran [] refl (record { out = []; stop = NoWord 0 }) (Ends [] (NoWord 0), (Nothing, refl, refl), refl) (record { last = refl; is = refl })

-- blank lines count, and no number is wanted
refused_input : RunsTo (codes "x") 1 m1 empty (codes "\n7") [] (telling (reply statuses.Input (codes "x: Input 2\n")))
unfolding digits
refused_input = Input 2 refl (record { last = refl; is = refl })
