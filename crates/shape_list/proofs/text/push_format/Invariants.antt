use Rattle.std.proofs.Common.{◌≡◌, ◌++◌, length}
use Rattle.nml_tree.specs.Attribute.{pieces}
use Rattle.nml_tree.specs.Template.{put_in}
use Rattle.shape_list.specs.declared.text.Glyph.TheVariants as glyph
use Rattle.shape_list.specs.Drawn.{args_given, named}
use Rattle.shape_list.proofs.text.push_format.Given as goal

abbrev pub decreases-loop-piece : goal.decreases-loop-piece
decreases-loop-piece l = length l.text

abbrev pub invariant-loop-piece : goal.invariant-loop-piece
invariant-loop-piece l =
    l.out.items ++ put_in glyph.Letter (pieces l.text) (args_given (named l.given) l.args) ≡ l.fn.out.items ++ put_in glyph.Letter (pieces l.fn.text) (args_given (named l.given) l.fn.args)
