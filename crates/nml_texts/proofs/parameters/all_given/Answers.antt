use Rattle.std.proofs.Common.{◌∷◌, [], sym, subst, ◌≡◌, ◌∙◌, ap, None}
use Rattle.std.specs.Map.{lookup}
use Rattle.nk_base.specs.Text.{text_eq}
use Rattle.nml_texts.specs.Around.{what_are}
use Rattle.nml_texts.specs.Given.{AreGiven}
use Rattle.nml_texts.proofs.parameters.all_given.Goals as goal

pub returns-in_ok-add_rest-in-Some : goal.returns-in_ok-add_rest-in-Some
returns-in_ok-add_rest-in-Some c =
    let none : AreGiven c.new-map.result.entries (what_are c.args.widths.now []) = λ name. ap (lookup (text_eq name)) c.new-map.ensures.empty in
    let one = c.in_ok-add-in-Some.ensures [] none in
    rw (c.in-Some.is, ← c.as_slice.ensures) (c.in_ok-add_rest-in-Some.ensures (c.in-Some.ps.first ∷ []) one)
