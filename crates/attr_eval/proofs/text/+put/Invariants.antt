use Rattle.std.proofs.Common.{◌≡◌, ◌+◌, ◌*◌, [], ◌++◌, length, ℕ, ℤ, List}
use Rattle.nml_tree.specs.Attribute.{pieces}
use Rattle.nml_tree.specs.Table.{entries, pars_of}
use Rattle.nml_tree.specs.Derivation.{Arguments}
use Rattle.nml_tree.specs.Template.{put_in}
use Rattle.attr_eval.specs.Found.{text_given}
use Rattle.attr_eval.specs.Walks.{WalksAll}
use Rattle.attr_eval.proofs.text.+put.Given as goal

abbrev pub decreases-put : goal.decreases-put
decreases-put l = 5 * l.limit

abbrev pub decreases-put_named : goal.decreases-put_named
decreases-put_named l = 5 * l.limit + 1

abbrev pub decreases-put_piece : goal.decreases-put_piece
decreases-put_piece l = 5 * l.limit + 2

abbrev pub decreases-put_format : goal.decreases-put_format
decreases-put_format l = 5 * l.limit + 3

abbrev pub decreases-put_text : goal.decreases-put_text
decreases-put_text l = 5 * l.limit + 4

abbrev pub decreases-put_format-loop-piece : goal.decreases-put_format-loop-piece
decreases-put_format-loop-piece l = length l.text

abbrev pub invariant-put_format-loop-piece : goal.invariant-put_format-loop-piece
invariant-put_format-loop-piece l =
    (args : Arguments) (ks : List ℕ) (ys : List ℤ) → WalksAll (entries [] l.items) (pars_of l.pars) l.limit args l.picks l.fields ks ys → l.out ++ put_in (λ c. c) (pieces l.text) (text_given args l.list) ≡ l.fn.out ++ put_in (λ c. c) (pieces l.fn.text) (text_given args l.fn.list)
