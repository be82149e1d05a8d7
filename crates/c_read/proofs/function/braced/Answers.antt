-- The block of its parts.
use Rattle.c_read.proofs.Gathered.{block_read}
use Rattle.c_read.proofs.function.braced.Goals as goal

pub returns-clause-says : goal.returns-clause-says
returns-clause-says c =
    block_read _ _ _ _ _ _ c.in_ok-opening.ensures.says c.in_ok-parts.ensures.says
