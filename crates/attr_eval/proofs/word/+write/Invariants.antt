use Rattle.std.proofs.Common.{◌≡◌, ◌+◌, ◌*◌, [], length, ℕ, ℤ, List}
use Rattle.nml_tree.specs.Attribute.{pieces}
use Rattle.nml_tree.specs.Table.{entries, pars_of}
use Rattle.nml_tree.specs.Derivation.{Arguments}
use Rattle.nml_tree.specs.Image.{bit}
use Rattle.nml_tree.specs.Template.{put_in}
use Rattle.attr_eval.specs.Found.{bits_given}
use Rattle.attr_eval.specs.Run.{pushed}
use Rattle.attr_eval.specs.Walks.{WalksAll}
use Rattle.attr_eval.proofs.word.+write.Given as goal

abbrev pub decreases-write : goal.decreases-write
decreases-write l = 5 * l.limit

abbrev pub decreases-write_named : goal.decreases-write_named
decreases-write_named l = 5 * l.limit + 1

abbrev pub decreases-write_piece : goal.decreases-write_piece
decreases-write_piece l = 5 * l.limit + 2

abbrev pub decreases-write_format : goal.decreases-write_format
decreases-write_format l = 5 * l.limit + 3

abbrev pub decreases-write_text : goal.decreases-write_text
decreases-write_text l = 5 * l.limit + 4

abbrev pub decreases-write_format-loop-piece : goal.decreases-write_format-loop-piece
decreases-write_format-loop-piece l = length l.text

abbrev pub invariant-write_format-loop-piece : goal.invariant-write_format-loop-piece
invariant-write_format-loop-piece l =
    (args : Arguments) (ks : List ℕ) (ys : List ℤ) → WalksAll (entries [] l.items) (pars_of l.pars) l.limit args l.picks l.fields ks ys → pushed l.out (put_in bit (pieces l.text) (bits_given args l.list)) ≡ pushed l.fn.out (put_in bit (pieces l.fn.text) (bits_given args l.fn.list))
