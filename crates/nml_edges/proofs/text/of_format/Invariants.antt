use Rattle.std.proofs.Common.{◌≡◌, length}
use Rattle.nml_tree.specs.Attribute.{pieces}
use Rattle.nml_tree.specs.Template.{put_in}
use Rattle.nml_edges.specs.Summary.{still}
use Rattle.nml_edges.specs.Passed.{along, listed, own, holes}
use Rattle.nml_edges.proofs.text.of_format.Given as goal

abbrev pub decreases-loop-piece : goal.decreases-loop-piece
decreases-loop-piece l = length l.text

abbrev pub invariant-loop-piece : goal.invariant-loop-piece
invariant-loop-piece l = along (listed l.sums.entries) l.m (put_in own (pieces l.text) (holes l.args)) ≡ along (listed l.sums.entries) still (put_in own (pieces l.fn.text) (holes l.fn.args))
