use Rattle.std.proofs.Common.{subst}
use Rattle.nml_suite.specs.Cause.{IsOther}
use Rattle.nml_suite.proofs.Answering.{other_told, usage_told}
use Rattle.nml_suite.proofs.top.answer.Goals as goal

pub returns-in-Some-Cc : goal.returns-in-Some-Cc
returns-in-Some-Cc g c = let e = rw (c.deref.ensures.value, c.in-Some-Cc.field-0-is) at c.in-Some-Cc.ensures in other_told _ _ _ _ _ _ _ (subst IsOther e tt) c.tell_not_built.ensures

pub returns-in-Some-Demo : goal.returns-in-Some-Demo
returns-in-Some-Demo g c = let e = rw (c.deref.ensures.value, c.in-Some-Demo.field-0-is) at c.in-Some-Demo.ensures in other_told _ _ _ _ _ _ _ (subst IsOther e tt) c.tell_not_built-in-Some-Demo.ensures

pub returns-in-None : goal.returns-in-None
returns-in-None g c = let e = rw c.deref.ensures.value at c.in-None.ensures in usage_told _ _ _ _ _ _ _ e c.tell.ensures
