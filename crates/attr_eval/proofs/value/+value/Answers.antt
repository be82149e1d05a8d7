use Rattle.std.proofs.Common.{rules, ◌≡◌, ◌∙◌, ◌<◌, ◌≤◌, ◌+◌, ◌*◌, [], ◌++◌, sym, ap, subst, length, arith, true, false, to_z, of_z}
use Rattle.std.specs.Prelude.{FitsSigned, option_map}
use Rattle.std.specs.Int.{w128}
use Rattle.std.proofs.lemmas.Int.{to_z-of_z}
use Rattle.nml_tree.specs.Depth.{depth}
use Rattle.nml_tree.specs.Derivation.{fields_of}
use Rattle.nml_tree.specs.Formula.{formula}
use Rattle.nml_tree.specs.Table.{entries}
use Rattle.nml_tree.specs.Value as spec
use Rattle.nml_tree.specs.Written.{written}
use Rattle.attr_eval.specs.Alone.{alone, deepest, value_depth}
use Rattle.attr_eval.specs.Turn.{made_rule}
use Rattle.attr_eval.proofs.Steps.{no_limit, next_picked, next_made, walks_at, field_at}
use Rattle.attr_eval.proofs.Values.{less_deep, within_deepest, part_named, field_named, none_named, argument_is, paren_node, choose_node, binary_node, inverse_node, not_node, negative_node, int_node, card_node, sat_node, bits_node, none_value, some_value, whole_value, sound_value}
use Rattle.attr_eval.proofs.value.+value.Goals as goal

pub value-returns-then-limit-eq0 : goal.value-returns-then-limit-eq0
value-returns-then-limit-eq0 t c = λ x ks ys n zs w a. absurd (no_limit _ _ _ _ _ _ _ x c.if-limit-eq0.true w)

pub value-worth-requires : goal.value-worth-requires
value-worth-requires t c =
    let is : c.args.limit * (deepest (entries [] c.args.items.now) + 3) ≡ t = c.decreases in
    let one = ap (option_map (λ e. formula e.now)) c.in-Some.is in
    let low : depth (formula c.in-Some.e.now) ≤ deepest (entries [] c.args.items.now) = subst (λ o. value_depth o ≤ deepest (entries [] c.args.items.now)) one (within_deepest _ c.args.name.now _ c.in-Made.ensures) in
    let some : 0 < c.args.limit = omega arith in
    (rw (← is) (less_deep c.args.limit _ _ some low), tt)

pub value-returns-in-Picked : goal.value-returns-in-Picked
value-returns-in-Picked t c = λ x ks ys n zs w a.
    let fit : FitsSigned w128 c.value.result = search rules in
    let s = next_picked _ _ _ _ _ _ _ x _ _ c.in-Picked.ensures w in
    let k = rw c.as_bytes.ensures at c.value.ensures in
    to_z-of_z w128 c.value.result fit ∙ k s.1 ks ys n zs s.3 a ∙ ap (λ d. spec.value (alone zs) (written (entries [] c.args.items.now) n d).value) (sym s.2)

pub value-returns-in-None : goal.value-returns-in-None
value-returns-in-None t c = λ x ks ys n zs w a.
    let m = next_made _ _ _ _ _ _ _ (made_rule c.in-Made.rule) c.in-Made.ensures x w in
    whole_value _ (made_rule c.in-Made.rule) _ n x _ _ _ _ zs _ m (none_value _ _ zs _ (ap (option_map (λ e. formula e.now)) c.in-None.is))

pub value-returns-in-Some : goal.value-returns-in-Some
value-returns-in-Some t c = λ x ks ys n zs w a.
    let fit : FitsSigned w128 c.worth.result = search rules in
    let m = next_made _ _ _ _ _ _ _ (made_rule c.in-Made.rule) c.in-Made.ensures x w in
    let one = ap (option_map (λ e. formula e.now)) c.in-Some.is in
    let sound = sound_value _ c.args.name.now (made_rule c.in-Made.rule) _ _ n x _ _ _ _ zs _ w m a one in
    whole_value _ (made_rule c.in-Made.rule) _ n x _ _ _ _ zs _ m (some_value _ _ zs _ _ _ one (to_z-of_z w128 c.worth.result fit ∙ c.worth.ensures m.0 ks ys n zs (made_rule c.in-Made.rule) m.2 a sound))

pub named-returns-in-None : goal.named-returns-in-None
named-returns-in-None t c = λ args ks ys n zs i w a.
    let fit : FitsSigned w128 c.constant.result = search rules in
    argument_is _ _ zs c.args.name.now i _ _ (none_named args _ _ c.args.name.now n w.fill c.in-None.ensures) (to_z-of_z w128 c.constant.result fit ∙ c.constant.ensures zs i)

pub named-returns-in-Some-part_of : goal.named-returns-in-Some-part_of
named-returns-in-Some-part_of t c = λ args ks ys n zs i w a.
    let fit : FitsSigned w128 c.value.result = search rules in
    let f = c.in-Some.ensures in
    let s = c.skip_pars.ensures args ks ys w in
    let p = walks_at _ _ _ _ _ _ _ _ c.in-Some.k _ _ _ _ w f.stands c.in-Some-part_of.ensures s.0 s.1 in
    let r = part_named args _ _ c.args.name.now c.in-Some.k _ _ _ _ n zs ys w.fill f p.0.at (a.left_are ∙ w.fields_are) in
    let k = rw c.as_bytes.ensures at c.value.ensures in
    argument_is _ _ zs c.args.name.now i _ _ r.1 (to_z-of_z w128 c.value.result fit ∙ k p.0.of _ _ r.0 zs p.1 (record { sound = a.sound; left_are = r.2 ∙ sym s.1 }))

pub named-returns-in-None-split_first : goal.named-returns-in-None-split_first
named-returns-in-None-split_first t c = λ args ks ys n zs i w a.
    let f = c.in-Some.ensures in
    let s = c.skip_pars.ensures args ks ys w in
    let p = field_at _ _ _ c.in-Some.k _ w.fill f.stands c.in-None-part_of.ensures in
    let e = s.1 ∙ ap (λ a. fields_of a ++ ys) p.at in
    let l = ap length e in
    let n = c.in-None-split_first.ensures.cases in
    absurd (omega (arith, l, n))

pub named-returns-in-Some-split_first : goal.named-returns-in-Some-split_first
named-returns-in-Some-split_first t c = λ args ks ys n zs i w a.
    let f = c.in-Some.ensures in
    let s = c.skip_pars.ensures args ks ys w in
    let p = field_at _ _ _ c.in-Some.k _ w.fill f.stands c.in-None-part_of.ensures in
    let e = s.1 ∙ ap (λ a. fields_of a ++ ys) p.at in
    let g = c.in-Some-split_first.ensures.cases in
    let same : c.in-Some-split_first.z.now ≡ p.z = cc in
    let fit : FitsSigned w128 c.in-Some-split_first.z.now = search rules in
    let r = field_named args _ _ c.args.name.now c.in-Some.k _ _ p.ty p.z _ n zs ys w.fill f p.at (a.left_are ∙ w.fields_are) in
    argument_is _ _ zs c.args.name.now i _ _ r.1 (to_z-of_z w128 c.in-Some-split_first.z.now fit ∙ same ∙ sym r.2)

pub worth-returns-in-Paren : goal.worth-returns-in-Paren
worth-returns-in-Paren t c = λ args ks ys n zs rule w a s.
    let fit : FitsSigned w128 c.worth.result = search rules in
    paren_node _ rule _ zs _ (formula c.in-Paren.x.now) _ c.in-Paren.ensures.is s (λ e. to_z-of_z w128 c.worth.result fit ∙ c.worth.ensures args ks ys n zs rule w a e)

pub worth-returns-in-Int : goal.worth-returns-in-Int
worth-returns-in-Int t c = λ args ks ys n zs rule w a s.
    let fit : FitsSigned w128 c.unary.result = search rules in
    let fits : FitsSigned w128 c.worth-z.result = search rules in
    int_node _ rule _ zs _ (formula c.in-Int.x.now) c.in-Int.n.now c.size_bits.result (to_z w128 (of_z w128 c.worth-z.result)) _ c.in-Int.ensures.is s (λ e. to_z-of_z w128 c.worth-z.result fits ∙ c.worth-z.ensures args ks ys n zs rule w a e) c.size_bits.ensures (λ h. to_z-of_z w128 c.unary.result fit ∙ c.unary.ensures h)

pub worth-returns-in-Card : goal.worth-returns-in-Card
worth-returns-in-Card t c = λ args ks ys n zs rule w a s.
    let fit : FitsSigned w128 c.unary-in-Card.result = search rules in
    let fits : FitsSigned w128 c.worth-z-in-Card.result = search rules in
    card_node _ rule _ zs _ (formula c.in-Card.x.now) c.in-Card.n.now c.size_bits-in-Card.result (to_z w128 (of_z w128 c.worth-z-in-Card.result)) _ c.in-Card.ensures.is s (λ e. to_z-of_z w128 c.worth-z-in-Card.result fits ∙ c.worth-z-in-Card.ensures args ks ys n zs rule w a e) c.size_bits-in-Card.ensures (λ h. to_z-of_z w128 c.unary-in-Card.result fit ∙ c.unary-in-Card.ensures h)

pub worth-returns-in-Sat : goal.worth-returns-in-Sat
worth-returns-in-Sat t c = λ args ks ys n zs rule w a s.
    let fit : FitsSigned w128 c.unary-in-Sat.result = search rules in
    let fits : FitsSigned w128 c.worth-z-in-Sat.result = search rules in
    sat_node _ rule _ zs _ (formula c.in-Sat.x.now) c.in-Sat.n.now c.size_bits-in-Sat.result (to_z w128 (of_z w128 c.worth-z-in-Sat.result)) _ c.in-Sat.ensures.is s (λ e. to_z-of_z w128 c.worth-z-in-Sat.result fits ∙ c.worth-z-in-Sat.ensures args ks ys n zs rule w a e) c.size_bits-in-Sat.ensures (λ h. to_z-of_z w128 c.unary-in-Sat.result fit ∙ c.unary-in-Sat.ensures h)

pub worth-returns-in-Neg : goal.worth-returns-in-Neg
worth-returns-in-Neg t c = λ args ks ys n zs rule w a s.
    let fit : FitsSigned w128 c.unary-in-Neg.result = search rules in
    let fits : FitsSigned w128 c.worth-in-Neg.result = search rules in
    negative_node _ rule _ zs _ (formula c.in-Neg.x.now) (to_z w128 (of_z w128 c.worth-in-Neg.result)) _ c.in-Neg.ensures.is s (λ e. to_z-of_z w128 c.worth-in-Neg.result fits ∙ c.worth-in-Neg.ensures args ks ys n zs rule w a e) (λ h. to_z-of_z w128 c.unary-in-Neg.result fit ∙ c.unary-in-Neg.ensures h)

pub worth-returns-in-Inv : goal.worth-returns-in-Inv
worth-returns-in-Inv t c = λ args ks ys n zs rule w a s.
    let fit : FitsSigned w128 c.unary-in-Inv.result = search rules in
    let fits : FitsSigned w128 c.worth-in-Inv.result = search rules in
    inverse_node _ rule _ zs _ (formula c.in-Inv.x.now) (to_z w128 (of_z w128 c.worth-in-Inv.result)) _ c.in-Inv.ensures.is s (λ e. to_z-of_z w128 c.worth-in-Inv.result fits ∙ c.worth-in-Inv.ensures args ks ys n zs rule w a e) (λ h. to_z-of_z w128 c.unary-in-Inv.result fit ∙ c.unary-in-Inv.ensures h)

pub worth-returns-in-Not : goal.worth-returns-in-Not
worth-returns-in-Not t c = λ args ks ys n zs rule w a s.
    let fit : FitsSigned w128 c.unary-in-Not.result = search rules in
    let fits : FitsSigned w128 c.worth-in-Not.result = search rules in
    not_node _ rule _ zs _ (formula c.in-Not.x.now) (to_z w128 (of_z w128 c.worth-in-Not.result)) _ c.in-Not.ensures.is s (λ e. to_z-of_z w128 c.worth-in-Not.result fits ∙ c.worth-in-Not.ensures args ks ys n zs rule w a e) (λ h. to_z-of_z w128 c.unary-in-Not.result fit ∙ c.unary-in-Not.ensures h)

pub worth-returns-in-Bits : goal.worth-returns-in-Bits
worth-returns-in-Bits t c = λ args ks ys n zs rule w a s.
    let fit : FitsSigned w128 c.unary-in-Bits.result = search rules in
    let fits : FitsSigned w128 c.worth-z-in-Bits.result = search rules in
    bits_node _ rule _ zs _ (formula c.in-Bits.x.now) c.in-Bits.hi.now c.in-Bits.lo.now c.size_bits-in-Bits.result c.size_bits-in-Bits-2.result (to_z w128 (of_z w128 c.worth-z-in-Bits.result)) _ c.in-Bits.ensures.is s (λ e. to_z-of_z w128 c.worth-z-in-Bits.result fits ∙ c.worth-z-in-Bits.ensures args ks ys n zs rule w a e) c.size_bits-in-Bits.ensures c.size_bits-in-Bits-2.ensures (λ h. to_z-of_z w128 c.unary-in-Bits.result fit ∙ c.unary-in-Bits.ensures h)

pub worth-returns-then-is_zero : goal.worth-returns-then-is_zero
worth-returns-then-is_zero t c = λ args ks ys n zs rule w a s.
    let fit : FitsSigned w128 c.worth-then-is_zero.result = search rules in
    let fits : FitsSigned w128 c.worth-in-Choose.result = search rules in
    choose_node _ rule _ zs _ (formula c.in-Choose.c.now) (formula c.in-Choose.x.now) (formula c.in-Choose.y.now) (to_z w128 (of_z w128 c.worth-in-Choose.result)) _ true c.in-Choose.ensures.is s (λ e. to_z-of_z w128 c.worth-in-Choose.result fits ∙ c.worth-in-Choose.ensures args ks ys n zs rule w a e) (sym c.if-is_zero.ensures)
    (λ e q. absurd cc) (λ e q. to_z-of_z w128 c.worth-then-is_zero.result fit ∙ c.worth-then-is_zero.ensures args ks ys n zs rule w a e)

pub worth-returns-else-is_zero : goal.worth-returns-else-is_zero
worth-returns-else-is_zero t c = λ args ks ys n zs rule w a s.
    let fit : FitsSigned w128 c.worth-else-is_zero.result = search rules in
    let fits : FitsSigned w128 c.worth-in-Choose.result = search rules in
    choose_node _ rule _ zs _ (formula c.in-Choose.c.now) (formula c.in-Choose.x.now) (formula c.in-Choose.y.now) (to_z w128 (of_z w128 c.worth-in-Choose.result)) _ false c.in-Choose.ensures.is s (λ e. to_z-of_z w128 c.worth-in-Choose.result fits ∙ c.worth-in-Choose.ensures args ks ys n zs rule w a e) (sym c.if-is_zero.ensures)
    (λ e q. to_z-of_z w128 c.worth-else-is_zero.result fit ∙ c.worth-else-is_zero.ensures args ks ys n zs rule w a e) (λ e q. absurd cc)

pub worth-returns-in-Binary : goal.worth-returns-in-Binary
worth-returns-in-Binary t c = λ args ks ys n zs rule w a s.
    let fit : FitsSigned w128 c.binary.result = search rules in
    let fits : FitsSigned w128 c.worth-a.result = search rules in
    let also : FitsSigned w128 c.worth-b.result = search rules in
    binary_node _ rule _ zs _ (formula c.in-Binary.x.now) (formula c.in-Binary.y.now) c.in-Binary.op (to_z w128 (of_z w128 c.worth-a.result)) (to_z w128 (of_z w128 c.worth-b.result)) _ c.in-Binary.ensures.is s
    (λ e. to_z-of_z w128 c.worth-a.result fits ∙ c.worth-a.ensures args ks ys n zs rule w a e) (λ e. to_z-of_z w128 c.worth-b.result also ∙ c.worth-b.ensures args ks ys n zs rule w a e) (λ h. to_z-of_z w128 c.binary.result fit ∙ c.binary.ensures h)
