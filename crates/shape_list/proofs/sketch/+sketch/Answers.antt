use Rattle.std.proofs.Common.{◌≡◌, ◌+◌, ◌∷◌, ◌++◌, [], length, sym, ◌∙◌, ap, subst, arith, Some, refl}
use Rattle.attr_eval.specs.Walks.{Walks}
use Rattle.nml_tree.specs.Edge as edge
use Rattle.nml_tree.specs.Edge.{flat}
use Rattle.nml_tree.specs.Outline.{outline_bits, types}
use Rattle.nml_tree.specs.Table.{table}
use Rattle.nk_base.specs.Number.{width_of}
use Rattle.nml_known.specs.Known.{parameter_told}
use Rattle.nml_known.specs.declared.known.Parameter.TheVariants as known
use Rattle.nml_tree.specs.Outline as outline
use Rattle.std.specs.Prelude.{option_map, replicate}
use Rattle.nml_tree.specs.Template.{text_of}
use Rattle.shape_list.specs.declared.text.Glyph.TheVariants as glyph
use Rattle.shape_list.specs.Drawn.{Added, named}
use Rattle.shape_list.proofs.Fillings.{kept_none, kept_next, kept_all, drawn, told_type}
use Rattle.shape_list.proofs.Sketches.{drawn_none, drawn_nothing, drawn_past, drawn_picked, drawn_made}
use Rattle.shape_list.proofs.sketch.+sketch.Goals.{filled-in-None, filled-in-Some+in_ok-rest-in-Some}
use Rattle.shape_list.proofs.sketch.+sketch.Goals as goal

pub add-returns-in_ok-add_part-in-Some-clause-part : goal.add-returns-in_ok-add_part-in-Some-clause-part
add-returns-in_ok-add_part-in-Some-clause-part t c = λ rule d zs ks ys is w.
    let h = c.in-Some.ensures in
    let same : c.in-Some.rule.now ≡ rule = cc in
    let s = c.in_ok-part-in-Some.ensures d zs ks ys (subst (λ r. Walks (table c.args.names.now) r c.args.limit d c.args.picks.now zs ks ys) (sym same) w) in
    let number : c.in_ok-number.number ≡ c.args.first + length c.args.filling.now.types.items = c.in_ok-number.ensures ∙ ap (λ xs. c.args.first + length xs) c.as_slice.ensures.value in (
      subst (λ m. Added c.args.filling.now c.add_part.new.filling (types d) c.args.par.now.name.text (outline_bits m d) (edge.Seam ∷ (flat m d ++ edge.Seam ∷ []))) number (c.in_ok-add_part-in-Some.ensures _ _ _ s.0),
      s.1,
    )

pub add-returns-in_ok-add_field-in-None-clause-field : goal.add-returns-in_ok-add_field-in-None-clause-field
add-returns-in_ok-add_field-in-None-clause-field t c = λ u is right.
    let what = c.parameter_of.ensures ∙ ap (option_map (parameter_told c.args.names.now)) is ∙ ap (λ v. Some (known.Field v)) (told_type u right) in
    let number : c.in_ok-number.number ≡ c.args.first + length c.args.filling.now.types.items = c.in_ok-number.ensures ∙ ap (λ xs. c.args.first + length xs) c.as_slice.ensures.value in (
      subst (λ m. Added c.args.filling.now c.add_field.new.filling (u ∷ []) c.args.par.now.name.text (replicate (width_of u) (outline.Free m)) (edge.Number m ∷ [])) number (c.in_ok-add_field-in-None.ensures u what),
      refl,
    )

pub filled-loop-i-init : goal.filled-loop-i-init
filled-loop-i-init t c = λ args zs ks ys w. kept_none _ args _ _ ks c.new.ensures.items c.new-2.ensures.items c.new-3.ensures.items w.picks_are

pub filled-loop-i-preserved : goal.filled-loop-i-preserved
filled-loop-i-preserved t c = λ args zs ks ys w.
    let inv = c.loop-i.invariant args zs ks ys w in
    elim c.match-par_at.branch [
      | filled-in-None b ↦ (let past = b.in-None.ensures in let n = c.par_count-i-end.ensures in let low = c.loop-i-test.true in absurd (omega (arith, past, n, low)))
      | filled-in-Some+in_ok-rest-in-Some b ↦ rw (b.filling-is, b.rest-is) (kept_next _ _ _ _ args _ zs ks ys c.loop-i.i _ _ _ _ _ w b.in-Some.ensures b.in_ok-rest-in-Some.ensures.part b.in_ok-rest-in-Some.ensures.field inv)
    ]

pub filled-returns : goal.filled-returns
filled-returns t c = λ args zs ks ys w.
    let n = c.par_count-i-end.ensures in let past = c.loop-i-test.false in
    kept_all _ _ _ _ args _ zs ks ys c.loop-i.i _ _ w (omega (arith, n, past)) (c.loop-i.invariant args zs ks ys w)

pub sketch_rule-returns : goal.sketch_rule-returns
sketch_rule-returns t c = λ args zs ks ys w.
    let f = c.in_ok-filling.ensures args zs ks ys w in (
      drawn (record { types = c.in_ok-filling.filling.types; image = c.in_ok-image.image; syntax = c.in_ok-syntax.syntax }) c.in_ok-filling.filling args _ c.args.attrs.now.image_text c.args.attrs.now.syntax_text f.0 refl
          (c.in_ok-image.ensures ∙ ap (λ gs. text_of glyph.Letter (named gs) c.args.attrs.now.image_text) c.as_slice.ensures.value)
          (c.in_ok-syntax.ensures ∙ ap (λ gs. text_of glyph.Letter (named gs) c.args.attrs.now.syntax_text) c.as_slice-2.ensures.value),
      f.1,
    )

pub sketch_of-returns-then-limit-eq0 : goal.sketch_of-returns-then-limit-eq0
sketch_of-returns-then-limit-eq0 t c = drawn_none _ _ _ _ _ _ _ c.if-limit-eq0.true

pub sketch_of-returns-in-Nothing : goal.sketch_of-returns-in-Nothing
sketch_of-returns-in-Nothing t c = drawn_nothing _ _ _ _ _ _ _ c.in-Nothing.ensures

pub sketch_of-returns-in-None : goal.sketch_of-returns-in-None
sketch_of-returns-in-None t c = drawn_past _ _ _ _ _ _ _ c.in-Or.rule.now c.in-Or.ensures c.in-None.ensures

pub sketch_of-returns-in-Some : goal.sketch_of-returns-in-Some
sketch_of-returns-in-Some t c = drawn_picked (λ x. x.0) (λ x. x.1.now) _ _ _ _ _ c.in-Or.rule.now _ _ c.in-Or.ensures c.in-Some.ensures c.sketch_of.result c.sketch_of.ensures

pub sketch_of-returns-in-And : goal.sketch_of-returns-in-And
sketch_of-returns-in-And t c = drawn_made (λ x. x.0) (λ x. x.1.now) _ _ _ _ _ c.in-And.pars.now c.in-And.attrs.now c.in-And.ensures c.sketch_rule.result c.sketch_rule.ensures
