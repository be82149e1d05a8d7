use Rattle.pat_core.proofs.Finds.{exact_is}
use Rattle.pat_core.proofs.Complete.{exact_found}
use Rattle.pat_core.proofs.Facts.{arithmetic_facts}
use Rattle.pat_core.proofs.law.found_exact.Goals as goal

pub returns-clause-is : goal.returns-clause-is
returns-clause-is c = exact_is

pub returns-clause-only : goal.returns-clause-only
returns-clause-only c = λ m f w. exact_found m f (arithmetic_facts m.width w).small
