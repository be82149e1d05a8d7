use Rattle.std.proofs.Common.{◌≡◌, ◌∙◌, ◌<◌, ◌≤◌, ◌+◌, ◌*◌, [], refl, sym, ap, subst, arith}
use Rattle.std.specs.Prelude.{option_map}
use Rattle.nml_tree.specs.Depth.{depth}
use Rattle.nml_tree.specs.Formula.{formula}
use Rattle.nml_tree.specs.Table.{entries}
use Rattle.nml_tree.specs.Worth.{rule_scope}
use Rattle.nml_tree.specs.Written.{arguments, written}
use Rattle.nml_widths.specs.Fitting.{Everywhere, Sound}
use Rattle.attr_eval.specs.Alone.{alone, deepest, value_depth}
use Rattle.attr_eval.specs.Turn.{made_rule}
use Rattle.attr_eval.proofs.Steps.{no_limit, next_picked, next_made, walks_at, field_at}
use Rattle.attr_eval.proofs.Values.{less_deep, within_deepest, part_named, field_named, none_named, sound_value}
use Rattle.attr_legal.specs.Target as spec
use Rattle.attr_legal.proofs.Targets.{same_target, argument_target, none_target, some_target, whole_target}
use Rattle.attr_legal.proofs.target.+target.Goals as goal

pub value_target-returns-then-limit-eq0 : goal.value_target-returns-then-limit-eq0
value_target-returns-then-limit-eq0 t c = λ x ks ys n zs w a. absurd (no_limit _ _ _ _ _ _ _ x c.if-limit-eq0.true w)

pub value_target-expr_target-requires : goal.value_target-expr_target-requires
value_target-expr_target-requires t c =
    let is : c.args.limit * (deepest (entries [] c.args.items.now) + 3) ≡ t = c.decreases in
    let one = ap (option_map (λ e. formula e.now)) c.in-Some.is in
    let low : depth (formula c.in-Some.e.now) ≤ deepest (entries [] c.args.items.now) = subst (λ o. value_depth o ≤ deepest (entries [] c.args.items.now)) one (within_deepest _ c.args.name.now _ c.in-Made.ensures) in
    let some : 0 < c.args.limit = omega arith in
    (rw (← is) (less_deep c.args.limit _ _ some low), tt)

pub value_target-returns-in-Nothing : goal.value_target-returns-in-Nothing
value_target-returns-in-Nothing t c = λ x ks ys n zs w a. absurd (c.in-Nothing.ensures x ks w.is w.picks_are)

pub value_target-returns-in-Picked : goal.value_target-returns-in-Picked
value_target-returns-in-Picked t c = λ x ks ys n zs w a.
    let s = next_picked _ _ _ _ _ _ _ x _ _ c.in-Picked.ensures w in
    let k = rw c.as_bytes.ensures at c.value_target.ensures in
    k s.1 ks ys n zs s.3 a ∙ ap (λ d. spec.target (alone zs) c.args.input (written (entries [] c.args.items.now) n d).value) (sym s.2)

pub value_target-returns-in-None : goal.value_target-returns-in-None
value_target-returns-in-None t c = λ x ks ys n zs w a.
    let m = next_made _ _ _ _ _ _ _ (made_rule c.in-Made.rule) c.in-Made.ensures x w in
    whole_target _ (made_rule c.in-Made.rule) _ n x _ _ _ _ zs _ _ m (none_target _ _ zs _ _ (ap (option_map (λ e. formula e.now)) c.in-None.is))

pub value_target-returns-in-Some : goal.value_target-returns-in-Some
value_target-returns-in-Some t c = λ x ks ys n zs w a.
    let m = next_made _ _ _ _ _ _ _ (made_rule c.in-Made.rule) c.in-Made.ensures x w in
    let one = ap (option_map (λ e. formula e.now)) c.in-Some.is in
    let sound = sound_value _ c.args.name.now (made_rule c.in-Made.rule) _ _ n x _ _ _ _ zs _ w m a one in
    whole_target _ (made_rule c.in-Made.rule) _ n x _ _ _ _ zs _ _ m (some_target _ _ zs _ _ _ _ one (c.expr_target.ensures m.0 ks ys n zs (made_rule c.in-Made.rule) m.2 a sound))

pub named_target-returns-in-None : goal.named_target-returns-in-None
named_target-returns-in-None t c = λ args ks ys n zs i w a h.
    argument_target _ _ zs _ c.args.name.now i _ _ (none_named args _ _ c.args.name.now n w.fill c.in-None.ensures) (c.declared_target.ensures zs c.args.input i h)

pub named_target-returns-in-Some-part_of : goal.named_target-returns-in-Some-part_of
named_target-returns-in-Some-part_of t c = λ args ks ys n zs i w a h.
    let f = c.in-Some.ensures in
    let s = c.skip_pars.ensures args ks ys w in
    let p = walks_at _ _ _ _ _ _ _ _ c.in-Some.k _ _ _ _ w f.stands c.in-Some-part_of.ensures s.0 s.1 in
    let r = part_named args _ _ c.args.name.now c.in-Some.k _ _ _ _ n zs ys w.fill f p.0.at (a.left_are ∙ w.fields_are) in
    let k = rw c.as_bytes.ensures at c.value_target.ensures in
    argument_target _ _ zs _ c.args.name.now i _ _ r.1 (k p.0.of _ _ r.0 zs p.1 (record { sound = a.sound; left_are = r.2 ∙ sym s.1 }))

pub named_target-returns-in-None-part_of : goal.named_target-returns-in-None-part_of
named_target-returns-in-None-part_of t c = λ args ks ys n zs i w a h.
    let f = c.in-Some.ensures in
    let p = field_at _ _ _ c.in-Some.k _ w.fill f.stands c.in-None-part_of.ensures in
    let r = field_named args _ _ c.args.name.now c.in-Some.k _ _ p.ty p.z _ n zs ys w.fill f p.at (a.left_are ∙ w.fields_are) in
    argument_target _ _ zs _ c.args.name.now i _ _ r.1 refl

pub expr_target-returns-in-Named : goal.expr_target-returns-in-Named
expr_target-returns-in-Named t c = λ args ks ys n zs rule w a s.
    let k = rw c.as_bytes-text.ensures at c.named_target.ensures in
    same_target _ _ zs _ _ _ _ c.in-Named.ensures.is (k args ks ys n zs _ w a refl)

pub expr_target-returns-in-Indexed : goal.expr_target-returns-in-Indexed
expr_target-returns-in-Indexed t c = λ args ks ys n zs rule w a s.
    let k = rw c.as_bytes-text-in-Indexed.ensures at c.named_target-in-Indexed.ensures in
    let e = subst (Everywhere (Sound (rule_scope (entries [] c.args.items.now) rule) (arguments (entries [] c.args.items.now) n args) (alone zs))) c.in-Indexed.ensures.is.2 s in
    same_target _ _ zs _ _ _ _ c.in-Indexed.ensures.is.2 (k args ks ys n zs _ w a (c.index_of-index.ensures args ks ys n zs rule w a e.1))

pub expr_target-returns-in-Paren : goal.expr_target-returns-in-Paren
expr_target-returns-in-Paren t c = λ args ks ys n zs rule w a s.
    let e = subst (Everywhere (Sound (rule_scope (entries [] c.args.items.now) rule) (arguments (entries [] c.args.items.now) n args) (alone zs))) c.in-Paren.ensures.is.2 s in
    same_target _ _ zs _ _ _ _ c.in-Paren.ensures.is.2 (c.expr_target.ensures args ks ys n zs rule w a e.1)

pub expr_target-returns-in-Numeral : goal.expr_target-returns-in-Numeral
expr_target-returns-in-Numeral t c = λ args ks ys n zs rule w a s. same_target _ _ zs _ _ _ _ c.in-Numeral.ensures.is.1 refl

pub expr_target-returns-in-Truth : goal.expr_target-returns-in-Truth
expr_target-returns-in-Truth t c = λ args ks ys n zs rule w a s. same_target _ _ zs _ _ _ _ c.in-Truth.ensures.is.1 refl

pub expr_target-returns-in-Int : goal.expr_target-returns-in-Int
expr_target-returns-in-Int t c = λ args ks ys n zs rule w a s. same_target _ _ zs _ _ _ _ c.in-Int.ensures.is.4 refl

pub expr_target-returns-in-Card : goal.expr_target-returns-in-Card
expr_target-returns-in-Card t c = λ args ks ys n zs rule w a s. same_target _ _ zs _ _ _ _ c.in-Card.ensures.is.4 refl

pub expr_target-returns-in-Sat : goal.expr_target-returns-in-Sat
expr_target-returns-in-Sat t c = λ args ks ys n zs rule w a s. same_target _ _ zs _ _ _ _ c.in-Sat.ensures.is.4 refl

pub expr_target-returns-in-Bits : goal.expr_target-returns-in-Bits
expr_target-returns-in-Bits t c = λ args ks ys n zs rule w a s. same_target _ _ zs _ _ _ _ c.in-Bits.ensures.is.5 refl

pub expr_target-returns-in-Choose : goal.expr_target-returns-in-Choose
expr_target-returns-in-Choose t c = λ args ks ys n zs rule w a s. same_target _ _ zs _ _ _ _ c.in-Choose.ensures.is.4 refl

pub expr_target-returns-in-Neg : goal.expr_target-returns-in-Neg
expr_target-returns-in-Neg t c = λ args ks ys n zs rule w a s. same_target _ _ zs _ _ _ _ c.in-Neg.ensures.is.1 refl

pub expr_target-returns-in-Inv : goal.expr_target-returns-in-Inv
expr_target-returns-in-Inv t c = λ args ks ys n zs rule w a s. same_target _ _ zs _ _ _ _ c.in-Inv.ensures.is.1 refl

pub expr_target-returns-in-Not : goal.expr_target-returns-in-Not
expr_target-returns-in-Not t c = λ args ks ys n zs rule w a s. same_target _ _ zs _ _ _ _ c.in-Not.ensures.is.1 refl

pub expr_target-returns-in-Binary : goal.expr_target-returns-in-Binary
expr_target-returns-in-Binary t c = λ args ks ys n zs rule w a s. same_target _ _ zs _ _ _ _ c.in-Binary.ensures.is.1 refl
