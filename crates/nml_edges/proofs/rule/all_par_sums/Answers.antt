use Rattle.nml_edges.proofs.Params.{first_more}
use Rattle.nml_edges.proofs.rule.all_par_sums.Goals as goal

pub returns-in_ok-insert-in-Some : goal.returns-in_ok-insert-in-Some
returns-in_ok-insert-in-Some c = λ name.
    first_more c.args.names.now c.args.facts.now c.args.pars.now c.in-Some.ps c.as_slice.result.now name _ c.par_sum.result _ _ c.in-Some.is c.as_slice.ensures c.in_ok-clone-in-Some.ensures.cases c.par_sum.ensures
    (c.in_ok-insert-in-Some.ensures.updates.0 name) (c.in_ok-sums-in-Some.ensures name)
