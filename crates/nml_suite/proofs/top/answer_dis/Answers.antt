use Rattle.nml_reply.specs.Refusals.{refused}
use Rattle.nml_reply.specs.Reply.{disassembled}
use Rattle.nml_suite.proofs.Answering.{told_alone}
use Rattle.nml_suite.proofs.top.answer_dis.Goals as goal

pub returns-in-Ok : goal.returns-in-Ok
returns-in-Ok g c = told_alone _ _ _ _ _ _ _ (disassembled c.in-Ok.text) _ c.in-Ok.ensures c.tell_text.ensures

pub returns-in-Err : goal.returns-in-Err
returns-in-Err g c = told_alone _ _ _ _ _ _ _ (refused c.in-Err.refusal) _ c.in-Err.ensures c.tell_refusal.ensures
