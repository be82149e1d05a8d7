use Rattle.std.proofs.Common.{rules, ◌≡◌, ◌∙◌, sym, ap, arith, ◌++◌, length}
use Rattle.std.specs.Prelude.{FitsSigned}
use Rattle.std.specs.Int.{w128}
use Rattle.std.proofs.lemmas.Int.{to_z-of_z}
use Rattle.nml_tree.specs.Attribute.{pieces}
use Rattle.nml_tree.specs.Derivation.{fields_of}
use Rattle.nml_tree.specs.Syntax.{syntax_of, syntaxes}
use Rattle.nml_tree.specs.Template.{text_of}
use Rattle.attr_eval.proofs.Steps.{no_limit, next_picked, next_made, walks_at, field_at}
use Rattle.std.specs.Fmt.{signed_decimal}
use Rattle.std.proofs.Common.{append-nil}
use Rattle.attr_eval.proofs.Syntaxes.{part_text, field_text, none_text, whole_syntax, next_text, end_text}
use Rattle.attr_eval.proofs.text.+put.Goals as goal

pub put-returns-then-limit-eq0 : goal.put-returns-then-limit-eq0
put-returns-then-limit-eq0 t c = λ d ks ys w. absurd (no_limit _ _ _ _ _ _ _ d c.if-limit-eq0.true w)

pub put-returns-in_ok-put-in-Picked : goal.put-returns-in_ok-put-in-Picked
put-returns-in_ok-put-in-Picked t c = λ d ks ys w.
    let s = next_picked _ _ _ _ _ _ _ d _ _ c.in-Picked.ensures w in
    let k = rw c.as_bytes.ensures at c.in_ok-put-in-Picked.ensures in
    k s.1 ks ys s.3 ∙ ap (λ x. c.args.out.now ++ syntax_of x) (sym s.2)

pub put-returns-in_ok-put_text-in-Made : goal.put-returns-in_ok-put_text-in-Made
put-returns-in_ok-put_text-in-Made t c = λ d ks ys w.
    let a = next_made _ _ _ _ _ _ _ _ c.in-Made.ensures d w in
    whole_syntax _ _ _ _ _ _ _ _ c.args.out.now _ a (c.in_ok-put_text-in-Made.ensures a.0 ks ys a.2)

pub put_format-loop-piece-preserved : goal.put_format-loop-piece-preserved
put_format-loop-piece-preserved t c = λ args ks ys w.
    let b = c.in-Some.ensures.piece in
    next_text c.loop-piece.out c.put_piece.new.out args c.loop-piece.text.now c.in-Some.behind.now c.loop-piece.list.now c.in_ok-list.list.now b.0 b.2 (c.in_ok-list.ensures args ks ys w b.0 b.1 (pieces c.in-Some.behind.now)) ∙ c.loop-piece.invariant args ks ys w

pub put_format-returns : goal.put_format-returns
put_format-returns t c = λ args ks ys w. sym (end_text c.loop-piece.out args c.loop-piece.text.now c.loop-piece.list.now c.in_default.ensures.piece) ∙ c.loop-piece.invariant args ks ys w

pub put_named-returns-in-None : goal.put_named-returns-in-None
put_named-returns-in-None t c = λ args ks ys w. sym (append-nil c.args.out.now) ∙ ap (λ xs. c.args.out.now ++ xs) (sym (none_text args _ _ c.args.name.now w.fill c.in-None.ensures))

pub put_named-returns-in_ok-put-in-Some-part_of : goal.put_named-returns-in_ok-put-in-Some-part_of
put_named-returns-in_ok-put-in-Some-part_of t c = λ args ks ys w.
    let f = c.in-Some.ensures in
    let s = c.skip_pars.ensures args ks ys w in
    let p = walks_at _ _ _ _ _ _ _ _ c.in-Some.k _ _ _ _ w f.stands c.in-Some-part_of.ensures s.0 s.1 in
    let k = rw c.as_bytes.ensures at c.in_ok-put-in-Some-part_of.ensures in
    k p.0.of _ _ p.1 ∙ ap (λ xs. c.args.out.now ++ xs) (sym (part_text args _ _ c.args.name.now c.in-Some.k _ _ _ _ w.fill f p.0.at))

pub put_named-returns-in-None-split_first : goal.put_named-returns-in-None-split_first
put_named-returns-in-None-split_first t c = λ args ks ys w.
    let f = c.in-Some.ensures in
    let s = c.skip_pars.ensures args ks ys w in
    let p = field_at _ _ _ c.in-Some.k _ w.fill f.stands c.in-None-part_of.ensures in
    let e = s.1 ∙ ap (λ a. fields_of a ++ ys) p.at in
    let l = ap length e in
    let n = c.in-None-split_first.ensures.cases in
    absurd (omega (arith, l, n))

pub put_named-returns-in_ok-push_bytes-in-Some-split_first : goal.put_named-returns-in_ok-push_bytes-in-Some-split_first
put_named-returns-in_ok-push_bytes-in-Some-split_first t c = λ args ks ys w.
    let f = c.in-Some.ensures in
    let s = c.skip_pars.ensures args ks ys w in
    let p = field_at _ _ _ c.in-Some.k _ w.fill f.stands c.in-None-part_of.ensures in
    let e = s.1 ∙ ap (λ a. fields_of a ++ ys) p.at in
    let g = c.in-Some-split_first.ensures.cases in
    let same : c.in-Some-split_first.z.now ≡ p.z = cc in
    let fit : FitsSigned w128 c.in-Some-split_first.z.now = search rules in
    c.in_ok-push_bytes-in-Some-split_first.ensures.ok
    ∙ ap (λ xs. c.args.out.now ++ xs)
    (c.as_bytes-in-Some-split_first.ensures ∙ c.in_ok-number-in-Some-split_first.ensures ∙ ap signed_decimal (to_z-of_z w128 c.in-Some-split_first.z.now fit ∙ same)
    ∙ sym (field_text args _ _ c.args.name.now c.in-Some.k _ _ p.ty p.z _ w.fill f p.at))

pub put_text-returns-in_ok-put_format-in-Format : goal.put_text-returns-in_ok-put_format-in-Format
put_text-returns-in_ok-put_format-in-Format t c = λ args ks ys w.
    let k = rw (c.as_bytes-text.ensures, c.as_slice-list.ensures) at c.in_ok-put_format-in-Format.ensures in
    k args ks ys w ∙ ap (λ x. c.args.out.now ++ text_of (λ c. c) (syntaxes args) x) (sym c.in-Format.is)
