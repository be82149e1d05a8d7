use Rattle.c_counted.proofs.Same.{counted_is}
use Rattle.c_counted.proofs.cells_are_counted.Goals as goal

pub returns : goal.returns
returns c = counted_is
