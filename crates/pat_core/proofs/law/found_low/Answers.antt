use Rattle.pat_core.proofs.Finds.{low_is}
use Rattle.pat_core.proofs.Complete.{low_found}
use Rattle.pat_core.proofs.Facts.{arithmetic_facts}
use Rattle.pat_core.proofs.law.found_low.Goals as goal

pub returns-clause-is : goal.returns-clause-is
returns-clause-is c = low_is

pub returns-clause-only : goal.returns-clause-only
returns-clause-only c = λ m f w. low_found m f (arithmetic_facts m.width w).small
