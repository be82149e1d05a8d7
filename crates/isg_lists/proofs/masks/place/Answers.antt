use Rattle.std.proofs.Common.{Err}
use Rattle.std.proofs.lemmas.List.Sorted.{searched}
use Rattle.isg_lists.proofs.Search.{missing_from}
use Rattle.isg_lists.proofs.masks.place.Goals as goal

pub returns-in-Err : goal.returns-in-Err
returns-in-Err c = λ up. missing_from c.args.values.now c.args.value c.in-Err.field-0 (searched c.args.values.now c.args.value (Err c.in-Err.field-0) c.in-Err.ensures.position up)
