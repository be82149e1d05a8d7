use Rattle.nml_worth.proofs.Scopes.{first_and_rest, first_part, rest_parts}
use Rattle.nml_worth.proofs.scope.all_given.Goals as goal

pub further-requires : goal.further-requires
further-requires c = rest_parts c.args.names.now c.args.worths.now _ c.in-Some.ps c.as_slice.result.now c.in-Some.is c.as_slice.ensures c.requires

pub add-requires : goal.add-requires
add-requires c = first_part c.args.names.now c.args.worths.now _ c.in-Some.ps c.in-Some.is c.requires

pub returns-in_ok-add-in-Some : goal.returns-in_ok-add-in-Some
returns-in_ok-add-in-Some c =
    first_and_rest c.args.names.now c.args.pars.now c.in-Some.ps c.as_slice.result.now c.add.new.found.entries c.in-Some.is c.as_slice.ensures
    (c.in_ok-add-in-Some.ensures _ c.in_ok-found-in-Some.ensures)
