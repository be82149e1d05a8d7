use Rattle.std.proofs.Common.{length}
use Rattle.nml_upward.proofs.piece.+directive_end.Given as goal

abbrev pub decreases-directive_end : goal.decreases-directive_end
decreases-directive_end l = length l.text.now
