use Rattle.nml_reply.specs.Refusals.{refused}
use Rattle.nml_reply.specs.Reply.{accepted}
use Rattle.nml_suite.proofs.Answering.{told_alone}
use Rattle.nml_suite.proofs.top.answer_check.Goals as goal

pub returns-in-Ok : goal.returns-in-Ok
returns-in-Ok g c = told_alone _ _ _ _ _ _ _ (accepted c.in-Ok.found.count c.in-Ok.found.width) _ c.in-Ok.ensures c.tell_summary.ensures

pub returns-in-Err : goal.returns-in-Err
returns-in-Err g c = told_alone _ _ _ _ _ _ _ (refused c.in-Err.refusal) _ c.in-Err.ensures c.tell_refusal.ensures
