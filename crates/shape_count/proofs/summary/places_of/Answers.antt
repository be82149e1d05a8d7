use Rattle.std.proofs.Common.{sym, subst, Option}
use Rattle.nml_tree.specs.declared.tree.Pars.{Pars}
use Rattle.nml_tree.specs.Table.{pars_of}
use Rattle.shape_count.specs.Weights.{AreGiven, numbered, par_names}
use Rattle.shape_count.proofs.Places.{first_given}
use Rattle.shape_count.proofs.summary.places_of.Goals as goal

pub returns-in_ok-put-in-Some : goal.returns-in_ok-put-in-Some
returns-in_ok-put-in-Some c =
    subst (λ (o : Option Pars). AreGiven c.put.new.places.entries (numbered 0 (par_names (pars_of o)))) (sym c.in-Some.is)
    (first_given c.in-Some.ps.first c.in-Some.ps.rest c.as_slice.result.now _ c.put.new.places.entries c.as_slice.ensures c.in_ok-put_rest-in-Some.ensures c.in_ok-put-in-Some.ensures)
