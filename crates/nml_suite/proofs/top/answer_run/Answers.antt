use Rattle.nml_reply.specs.Refusals.{refused}
use Rattle.nml_suite.proofs.Answering.{told_alone, run_told, ready_begins, ready_fits, ready_none}
use Rattle.nml_suite.proofs.top.answer_run.Goals as goal

pub tell_run-requires-clause-initial : goal.tell_run-requires-clause-initial
tell_run-requires-clause-initial g c = ready_begins _ _ _ _ _ c.in-Ok.ready c.in-Ok.ensures

pub tell_run-requires-clause-fit : goal.tell_run-requires-clause-fit
tell_run-requires-clause-fit g c = ready_fits _ _ _ _ _ c.in-Ok.ready c.in-Ok.ensures

pub tell_run-requires-clause-none : goal.tell_run-requires-clause-none
tell_run-requires-clause-none g c = ready_none _ _ _ _ _ c.in-Ok.ready c.in-Ok.ensures

pub returns-in-Ok : goal.returns-in-Ok
returns-in-Ok g c = run_told _ _ _ _ _ _ _ _ _ _ c.in-Ok.ready _ c.in-Ok.ensures c.tell_run.ensures

pub returns-in-Err : goal.returns-in-Err
returns-in-Err g c = told_alone _ _ _ _ _ _ _ (refused c.in-Err.refusal) _ (c.in-Err.ensures c.args.steps) c.tell_refusal.ensures
