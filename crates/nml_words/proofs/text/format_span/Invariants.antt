use Rattle.std.proofs.Common.{◌≡◌, length}
use Rattle.nml_tree.specs.Attribute.{pieces}
use Rattle.nml_words.specs.Span.{span, args_given, span_given, with_pieces}
use Rattle.nml_words.proofs.text.format_span.Given as goal

abbrev pub decreases-loop-piece : goal.decreases-loop-piece
decreases-loop-piece l = length l.text

abbrev pub invariant-loop-piece : goal.invariant-loop-piece
invariant-loop-piece l = with_pieces l.total (pieces l.text) (args_given (span_given l.given.entries) l.args) ≡ with_pieces (span 0 0) (pieces l.fn.text) (args_given (span_given l.given.entries) l.fn.args)
