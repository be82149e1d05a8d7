use Rattle.nml_suite.proofs.Evaluating.{told_cut, told_whole}
use Rattle.nml_suite.proofs.evaluate.tell_outcome.Goals as goal

pub returns-in-Err : goal.returns-in-Err
returns-in-Err g c = told_cut _ _ _ _ _ _ _ c.in-Err.fault _ _ c.in-Err.ensures.run c.in-Err.ensures.counts c.ended.ensures

pub returns-in-Ok : goal.returns-in-Ok
returns-in-Ok g c = told_whole _ _ _ _ _ _ c.in-Ok.ensures.run c.in-Ok.ensures.counts
