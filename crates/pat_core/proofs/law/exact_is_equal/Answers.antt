use Rattle.pat_core.proofs.Laws.{exact_holds}
use Rattle.pat_core.proofs.Facts.{arithmetic_facts}
use Rattle.pat_core.proofs.law.exact_is_equal.Goals as goal

pub returns : goal.returns
returns c = λ m f w. exact_holds m f (arithmetic_facts m.width w)
