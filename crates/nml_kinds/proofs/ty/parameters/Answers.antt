use Rattle.std.proofs.Common.{◌≡◌, ◌∙◌, sym, ap, flat_map}
use Rattle.nml_names.specs.Note.{noted}
use Rattle.nml_tree.specs.Table.{table, pars_of}
use Rattle.nml_tree.specs.TypeFault as spec
use Rattle.nml_kinds.specs.Parts.{further}
use Rattle.nml_kinds.proofs.Orders.{one_noted}
use Rattle.nml_kinds.proofs.ty.parameters.Goals as goal

pub returns-in-Some : goal.returns-in-Some
returns-in-Some c =
    let f = spec.parameter_places (table c.args.names.now) in
    c.further_parameters.ensures
    ∙ ap (λ r. noted c.parameter-found.result (flat_map f (further r))) c.as_slice.ensures
    ∙ sym (one_noted f c.in-Some.ps.first (further c.in-Some.ps.rest) c.args.found c.parameter-found.result c.parameter-found.ensures)
    ∙ ap (λ o. noted c.args.found (flat_map f (pars_of o))) (sym c.in-Some.is)
