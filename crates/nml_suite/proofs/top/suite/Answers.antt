use Rattle.nml_suite.proofs.Causes.{cause_of, usage_of}
use Rattle.nml_suite.proofs.Completeness.{complete}
use Rattle.nml_suite.proofs.Untouched.{untouched, calls_once}
use Rattle.nml_suite.proofs.top.suite.Goals as goal

pub returns : goal.returns
returns g c =
    let a = c.answer.ensures in
    record { answer = a; cause = cause_of _ _ _ _ a; usage = usage_of _ _ _ _ a; complete = complete _ _ _ _ a; files = untouched _ _ _ _ a; calls = calls_once _ _ _ _ a }
