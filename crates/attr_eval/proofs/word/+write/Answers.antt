use Rattle.std.proofs.Common.{rules, ◌≡◌, ◌∙◌, sym, ap, arith, [], ◌++◌, length, refl}
use Rattle.std.specs.Prelude.{FitsSigned}
use Rattle.std.specs.Int.{w128}
use Rattle.std.proofs.Common.{to_z, of_z}
use Rattle.std.proofs.lemmas.Int.{to_z-of_z}
use Rattle.nml_tree.specs.Attribute.{pieces}
use Rattle.nml_tree.specs.Table.{entries}
use Rattle.nml_tree.specs.Derivation.{fields_of}
use Rattle.nml_tree.specs.Image.{image, images, bit}
use Rattle.nml_tree.specs.Template.{text_of}
use Rattle.attr_eval.specs.Run.{pushed}
use Rattle.attr_eval.proofs.Steps.{no_limit, next_picked, next_made, walks_at, field_at}
use Rattle.attr_eval.proofs.Images.{part_bits, field_bits, none_bits, among, whole_image, next_text, end_text, next_argument, push_case}
use Rattle.attr_eval.proofs.word.+write.Goals as goal

pub write-returns-then-limit-eq0 : goal.write-returns-then-limit-eq0
write-returns-then-limit-eq0 t c = λ d ks ys w. absurd (no_limit _ _ _ _ _ _ _ d c.if-limit-eq0.true w)

pub write-returns-in-Picked : goal.write-returns-in-Picked
write-returns-in-Picked t c = λ d ks ys w.
    let s = next_picked _ _ _ _ _ _ _ d _ _ c.in-Picked.ensures w in
    let k = rw c.as_bytes.ensures at c.write.ensures in
    k s.1 ks ys s.3 ∙ ap (λ x. pushed c.args.out (image x)) (sym s.2)

pub write-returns-in-Made : goal.write-returns-in-Made
write-returns-in-Made t c = λ d ks ys w.
    let a = next_made _ _ _ _ _ _ _ _ c.in-Made.ensures d w in
    whole_image _ _ _ _ _ _ _ _ c.args.out _ a (c.write_text.ensures a.0 ks ys a.2)

pub write_format-loop-piece-preserved : goal.write_format-loop-piece-preserved
write_format-loop-piece-preserved t c = λ args ks ys w.
    let b = c.in-Some.ensures.piece in
    next_text c.loop-piece.out c.write_piece.result.0 args c.loop-piece.text.now c.in-Some.behind.now c.loop-piece.list.now c.write_piece.result.1.now b.0 b.2 (c.write_piece.ensures args ks ys w b.0 b.1 (pieces c.in-Some.behind.now)) ∙ c.loop-piece.invariant args ks ys w

pub write_format-returns : goal.write_format-returns
write_format-returns t c = λ args ks ys w. sym (end_text c.loop-piece.out args c.loop-piece.text.now c.loop-piece.list.now c.in_default.ensures.piece) ∙ c.loop-piece.invariant args ks ys w

pub write_named-returns-in-None : goal.write_named-returns-in-None
write_named-returns-in-None t c = λ args ks ys w. rw (none_bits args _ _ c.args.name.now w.fill c.in-None.ensures) refl

pub write_named-returns-in-Some-part_of : goal.write_named-returns-in-Some-part_of
write_named-returns-in-Some-part_of t c = λ args ks ys w.
    let f = c.in-Some.ensures in
    let s = c.skip_pars.ensures args ks ys w in
    let p = walks_at _ _ _ _ _ _ _ _ c.in-Some.k _ _ _ _ w f.stands c.in-Some-part_of.ensures s.0 s.1 in
    let k = rw c.as_bytes.ensures at c.write.ensures in
    k p.0.of _ _ p.1 ∙ ap (pushed c.args.out) (sym (part_bits args _ _ c.args.name.now c.in-Some.k _ _ _ _ w.fill f p.0.at))

pub write_named-returns-in-None-split_first : goal.write_named-returns-in-None-split_first
write_named-returns-in-None-split_first t c = λ args ks ys w.
    let f = c.in-Some.ensures in
    let s = c.skip_pars.ensures args ks ys w in
    let p = field_at _ _ _ c.in-Some.k _ w.fill f.stands c.in-None-part_of.ensures in
    let e = s.1 ∙ ap (λ a. fields_of a ++ ys) p.at in
    let l = ap length e in
    let n = c.in-None-split_first.ensures.cases in
    absurd (omega (arith, l, n))

pub write_named-returns-in-Some-split_first : goal.write_named-returns-in-Some-split_first
write_named-returns-in-Some-split_first t c = λ args ks ys w.
    let f = c.in-Some.ensures in
    let s = c.skip_pars.ensures args ks ys w in
    let p = field_at _ _ _ c.in-Some.k _ w.fill f.stands c.in-None-part_of.ensures in
    let e = s.1 ∙ ap (λ a. fields_of a ++ ys) p.at in
    let g = c.in-Some-split_first.ensures.cases in
    let same : c.in-Some-split_first.z.now ≡ p.z = cc in
    let fit : FitsSigned w128 c.in-Some-split_first.z.now = search rules in
    let right = w.here _ p.ty (among _ c.in-Some.k _ f.stands) p.is in
    push_case c.args.out c.push_number.result (entries [] c.args.items.now) c.in-Some.par.now.ty p.ty c.type_value.result p.z (to_z w128 (of_z w128 c.in-Some-split_first.z.now)) p.is right c.type_value.ensures c.push_number.ensures (to_z-of_z w128 c.in-Some-split_first.z.now fit ∙ same) ∙ ap (pushed c.args.out) (sym (field_bits args _ _ c.args.name.now c.in-Some.k _ _ p.ty p.z _ w.fill f p.at))

pub write_piece-returns-in-Some : goal.write_piece-returns-in-Some
write_piece-returns-in-Some t c = λ args ks ys w q is more.
    let d = rw c.in-Directive.is at is in
    let k = rw c.as_bytes.ensures at c.write_named.ensures in
    next_argument c.args.out _ args _ _ c.in-Some.field-0-0.now q more d c.in-Some.ensures.cases.0 (k args ks ys w)

pub write_text-returns-in-Format : goal.write_text-returns-in-Format
write_text-returns-in-Format t c = λ args ks ys w.
    let k = rw (c.as_bytes-in-Format.ensures, c.as_slice.ensures) at c.write_format.ensures in
    k args ks ys w ∙ ap (λ x. pushed c.args.out (text_of bit (images args) x)) (sym c.in-Format.is)
