use Rattle.std.proofs.Common.{sym, ◌∙◌, None, Some}
use Rattle.nml_known.proofs.Fronts.{front_known}
use Rattle.nml_known.proofs.front.declared.Goals as goal

pub returns-in-None : goal.returns-in-None
returns-in-None c =
    front_known c.f.inside.known.now c.f.inside.items.now c.args.f.now c.f.inside.map.now.entries c.args.name.now None (sym c.f.view_is) c.f.invariant.0 c.f.invariant.1
    c.in-None.ensures.value

pub returns-in-Some : goal.returns-in-Some
returns-in-Some c =
    c.item_at.ensures
    ∙ front_known c.f.inside.known.now c.f.inside.items.now c.args.f.now c.f.inside.map.now.entries c.args.name.now (Some c.in-Some.found.now) (sym c.f.view_is) c.f.invariant.0 c.f.invariant.1
    c.in-Some.ensures.value
