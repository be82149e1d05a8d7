use Rattle.c_tree.specs.Meaning.{outcome}
use Rattle.c_tree.specs.Resolve.{resolved}
use Rattle.nml_reply.specs.Refusals.{refused}
use Rattle.nml_reply.specs.Reply.{told_outcome}
use Rattle.nml_suite.proofs.Answering.{told_alone}
use Rattle.nml_suite.proofs.top.answer_ceval.Goals as goal

pub returns-in-Ok : goal.returns-in-Ok
returns-in-Ok g c =
    let r = c.in-Ok.ready in
    told_alone _ _ _ _ _ _ _ (told_outcome (outcome (resolved r.program.0) r.program.1 r.numbers.items c.args.turns)) _ (c.in-Ok.ensures c.args.turns) c.tell_outcome.ensures

pub returns-in-Err : goal.returns-in-Err
returns-in-Err g c = told_alone _ _ _ _ _ _ _ (refused c.in-Err.refusal) _ (c.in-Err.ensures c.args.turns) c.tell_refusal.ensures
