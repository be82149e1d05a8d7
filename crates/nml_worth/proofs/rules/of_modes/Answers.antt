use Rattle.std.proofs.Common.{◌∷◌, ◌∙◌, ap, map, option_map, refl, sym}
use Rattle.nml_worth.specs.Rules.{alternative, best, greater}
use Rattle.nml_worth.specs.Shown.{shown}
use Rattle.nml_worth.proofs.Alternatives.{modes_none, modes_some, rest_known}
use Rattle.nml_worth.proofs.rules.of_modes.Goals as goal

pub further-found-requires : goal.further-found-requires
further-found-requires c = rest_known c.args.names.now c.args.worths.now c.args.rule.now.first.text c.args.rule.now.rest c.as_slice.result.now c.as_slice.ensures c.requires

pub returns-in-None : goal.returns-in-None
returns-in-None c =
    modes_none c.args.names.now (c.args.rule.now.first.text ∷ map (λ x. x.1.text) c.args.rule.now.rest)
    (greater (alternative c.args.names.now c.args.rule.now.first.text) (best c.args.names.now (map (λ x. x.1.text) c.args.rule.now.rest))) c.any_place.result c.of_mode.result refl
    (sym c.in-None.is ∙ c.greater-found.ensures _ _ c.of_alternative.ensures (c.further-found.ensures ∙ ap (λ xs. option_map shown (best c.args.names.now (map (λ x. x.1.text) xs))) c.as_slice.ensures))
    c.any_place.ensures c.of_mode.ensures

pub returns-in-Some : goal.returns-in-Some
returns-in-Some c =
    modes_some c.args.names.now (c.args.rule.now.first.text ∷ map (λ x. x.1.text) c.args.rule.now.rest)
    (greater (alternative c.args.names.now c.args.rule.now.first.text) (best c.args.names.now (map (λ x. x.1.text) c.args.rule.now.rest))) c.in-Some.w c.of_mode-in-Some.result refl
    (sym c.in-Some.is ∙ c.greater-found.ensures _ _ c.of_alternative.ensures (c.further-found.ensures ∙ ap (λ xs. option_map shown (best c.args.names.now (map (λ x. x.1.text) xs))) c.as_slice.ensures))
    c.of_mode-in-Some.ensures
