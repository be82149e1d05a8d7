use Rattle.pat_core.proofs.Laws.{low_holds}
use Rattle.pat_core.proofs.Facts.{arithmetic_facts}
use Rattle.pat_core.proofs.law.low_is_congruent.Goals as goal

pub returns : goal.returns
returns c = λ m f w. low_holds m f (arithmetic_facts m.width w)
