use Rattle.std.proofs.Common.{rules, ◌≡◌, ◌∙◌, ◌<◌, ◌≤◌, ◌+◌, ◌*◌, [], ◌++◌, sym, ap, subst, arith, true, false, pos}
use Rattle.std.specs.Prelude.{option_map, FitsSigned}
use Rattle.std.specs.Int.{w128}
use Rattle.std.proofs.lemmas.Int.{to_z-of_z}
use Rattle.nml_tree.specs.Value as spec
use Rattle.nml_tree.specs.Act.{Number}
use Rattle.nml_tree.specs.Depth.{depth}
use Rattle.nml_tree.specs.Derivation.{fields_of}
use Rattle.nml_tree.specs.Formula.{formula}
use Rattle.nml_tree.specs.Table.{entries}
use Rattle.nml_tree.specs.Written.{arguments, term, written}
use Rattle.attr_eval.specs.Alone.{deepest, value_depth}
use Rattle.attr_eval.specs.Turn.{made_rule}
use Rattle.attr_eval.proofs.Steps.{no_limit, next_picked, next_made, walks_at, field_at}
use Rattle.attr_eval.proofs.Values.{less_deep, within_deepest, part_named, field_named, none_named}
use Rattle.attr_exec.specs.Seen.{view, seen}
use Rattle.attr_exec.proofs.Reading.{argument_is, field_is, named_node, indexed_node, paren_node, choose_node, binary_node, inverse_node, not_node, negative_node, int_node, card_node, sat_node, bits_node, none_value, some_value, whole_value, sound_value}
use Rattle.attr_exec.proofs.read.+read.Goals as goal

pub mode_seen-returns-then-limit-eq0 : goal.mode_seen-returns-then-limit-eq0
mode_seen-returns-then-limit-eq0 t c = λ x ks ys n zs w a. absurd (no_limit _ _ _ _ _ _ _ x c.if-limit-eq0.true w)

pub mode_seen-worth-requires : goal.mode_seen-worth-requires
mode_seen-worth-requires t c =
    let is : c.args.limit * (deepest (entries [] c.args.items.now) + 3) ≡ t = c.decreases in
    let one = ap (option_map (λ e. formula e.now)) c.in-Some.is in
    let low : depth (formula c.in-Some.e.now) ≤ deepest (entries [] c.args.items.now) = subst (λ o. value_depth o ≤ deepest (entries [] c.args.items.now)) one (within_deepest _ c.args.name.now _ c.in-Made.ensures) in
    let some : 0 < c.args.limit = omega arith in
    (rw (← is) (less_deep c.args.limit _ _ some low), tt)

pub mode_seen-returns-in-Picked : goal.mode_seen-returns-in-Picked
mode_seen-returns-in-Picked t c = λ x ks ys n zs w a.
    let s = next_picked _ _ _ _ _ _ _ x _ _ c.in-Picked.ensures w in
    let k = rw c.as_bytes.ensures at c.mode_seen.ensures in
    k s.1 ks ys n zs s.3 a ∙ ap (λ d. seen (view zs c.args.s.now c.args.next) (written (entries [] c.args.items.now) n d).value) (sym s.2)

pub mode_seen-returns-in-None : goal.mode_seen-returns-in-None
mode_seen-returns-in-None t c = λ x ks ys n zs w a.
    let m = next_made _ _ _ _ _ _ _ (made_rule c.in-Made.rule) c.in-Made.ensures x w in
    whole_value _ (made_rule c.in-Made.rule) _ n x _ _ _ _ (view zs c.args.s.now c.args.next) _ m (c.number-in-None.ensures ∙ none_value _ _ (view zs c.args.s.now c.args.next) _ (ap (option_map (λ e. formula e.now)) c.in-None.is))

pub mode_seen-returns-in-Some : goal.mode_seen-returns-in-Some
mode_seen-returns-in-Some t c = λ x ks ys n zs w a.
    let m = next_made _ _ _ _ _ _ _ (made_rule c.in-Made.rule) c.in-Made.ensures x w in
    let one = ap (option_map (λ e. formula e.now)) c.in-Some.is in
    let sound = sound_value _ c.args.name.now (made_rule c.in-Made.rule) _ _ n x _ _ _ _ (view zs c.args.s.now c.args.next) _ w m a.sound a.left_are one in
    whole_value _ (made_rule c.in-Made.rule) _ n x _ _ _ _ (view zs c.args.s.now c.args.next) _ m (some_value _ _ (view zs c.args.s.now c.args.next) _ _ _ one (c.worth.ensures m.0 ks ys n zs (made_rule c.in-Made.rule) m.2 a sound))

pub named-returns-in-None : goal.named-returns-in-None
named-returns-in-None t c = λ args ks ys n zs i w a d.
    argument_is _ _ (view zs c.args.front.state.now c.args.front.next) c.args.name.now i _ _ (none_named args _ _ c.args.name.now n w.fill c.in-None.ensures) (c.declared_seen.ensures zs i d)

pub named-returns-in-Some-part_of : goal.named-returns-in-Some-part_of
named-returns-in-Some-part_of t c = λ args ks ys n zs i w a d.
    let f = c.in-Some.ensures in
    let s = c.skip_pars.ensures args ks ys w in
    let p = walks_at _ _ _ _ _ _ _ _ c.in-Some.k _ _ _ _ w f.stands c.in-Some-part_of.ensures s.0 s.1 in
    let r = part_named args _ _ c.args.name.now c.in-Some.k _ _ _ _ n zs ys w.fill f p.0.at (a.left_are ∙ w.fields_are) in
    let k = rw c.as_bytes-name.ensures at c.mode_seen.ensures in
    argument_is _ _ (view zs c.args.front.state.now c.args.front.next) c.args.name.now i _ _ r.1 (k p.0.of _ _ r.0 zs p.1 (record { sound = a.sound; left_are = r.2 ∙ sym s.1 }))

pub named-returns-in-None-part_of : goal.named-returns-in-None-part_of
named-returns-in-None-part_of t c = λ args ks ys n zs i w a d.
    let f = c.in-Some.ensures in
    let s = c.skip_pars.ensures args ks ys w in
    let p = field_at _ _ _ c.in-Some.k _ w.fill f.stands c.in-None-part_of.ensures in
    let e = s.1 ∙ ap (λ a. fields_of a ++ ys) p.at in
    let r = field_named args _ _ c.args.name.now c.in-Some.k _ _ p.ty p.z _ n zs ys w.fill f p.at (a.left_are ∙ w.fields_are) in
    argument_is _ _ (view zs c.args.front.state.now c.args.front.next) c.args.name.now i _ _ r.1 (c.first_field.ensures p.z _ e ∙ field_is (view zs c.args.front.state.now c.args.front.next) r.0 p.z r.2)

pub worth-returns-in-Named : goal.worth-returns-in-Named
worth-returns-in-Named t c = λ args ks ys n zs rule w a s.
    let k = rw c.as_bytes-text.ensures at c.named.ensures in
    let g = c.number-in-Named.ensures in
    named_node _ rule _ (view zs c.args.front.state.now c.args.front.next) _ c.in-Named.name.now _ c.in-Named.ensures.is (k args ks ys n zs (Number (pos 0)) w a (ap (λ q. q.value) g, ap (λ q. q.took) g))

pub worth-returns-in-Indexed : goal.worth-returns-in-Indexed
worth-returns-in-Indexed t c = λ args ks ys n zs rule w a s.
    let k = rw c.as_bytes-text-in-Indexed.ensures at c.named-in-Indexed.ensures in
    indexed_node _ rule _ (view zs c.args.front.state.now c.args.front.next) _ c.in-Indexed.name.now (formula c.in-Indexed.i.now) _ c.in-Indexed.ensures.is s (λ e.
    let g = c.worth-index.ensures args ks ys n zs rule w a e in
    k args ks ys n zs (term (entries [] c.args.front.items.now) (arguments (entries [] c.args.front.items.now) n args) (formula c.in-Indexed.i.now)) w a (ap (λ q. q.value) g, ap (λ q. q.took) g))

pub worth-returns-in-Paren : goal.worth-returns-in-Paren
worth-returns-in-Paren t c = λ args ks ys n zs rule w a s.
    paren_node _ rule _ (view zs c.args.front.state.now c.args.front.next) _ (formula c.in-Paren.x.now) _ c.in-Paren.ensures.is s (λ e. c.worth.ensures args ks ys n zs rule w a e)

pub worth-returns-in-Int : goal.worth-returns-in-Int
worth-returns-in-Int t c = λ args ks ys n zs rule w a s.
    int_node _ rule _ (view zs c.args.front.state.now c.args.front.next) _ (formula c.in-Int.x.now) c.in-Int.n.now c.size_bits.result c.worth-in-Int.result _ c.in-Int.ensures.is s (λ e. c.worth-in-Int.ensures args ks ys n zs rule w a e) c.size_bits.ensures c.one.ensures

pub worth-returns-in-Card : goal.worth-returns-in-Card
worth-returns-in-Card t c = λ args ks ys n zs rule w a s.
    card_node _ rule _ (view zs c.args.front.state.now c.args.front.next) _ (formula c.in-Card.x.now) c.in-Card.n.now c.size_bits-in-Card.result c.worth-in-Card.result _ c.in-Card.ensures.is s (λ e. c.worth-in-Card.ensures args ks ys n zs rule w a e) c.size_bits-in-Card.ensures c.one-in-Card.ensures

pub worth-returns-in-Sat : goal.worth-returns-in-Sat
worth-returns-in-Sat t c = λ args ks ys n zs rule w a s.
    sat_node _ rule _ (view zs c.args.front.state.now c.args.front.next) _ (formula c.in-Sat.x.now) c.in-Sat.n.now c.size_bits-in-Sat.result c.worth-in-Sat.result _ c.in-Sat.ensures.is s (λ e. c.worth-in-Sat.ensures args ks ys n zs rule w a e) c.size_bits-in-Sat.ensures c.one-in-Sat.ensures

pub worth-returns-in-Neg : goal.worth-returns-in-Neg
worth-returns-in-Neg t c = λ args ks ys n zs rule w a s.
    negative_node _ rule _ (view zs c.args.front.state.now c.args.front.next) _ (formula c.in-Neg.x.now) c.worth-in-Neg.result _ c.in-Neg.ensures.is s (λ e. c.worth-in-Neg.ensures args ks ys n zs rule w a e) c.one-in-Neg.ensures

pub worth-returns-in-Inv : goal.worth-returns-in-Inv
worth-returns-in-Inv t c = λ args ks ys n zs rule w a s.
    inverse_node _ rule _ (view zs c.args.front.state.now c.args.front.next) _ (formula c.in-Inv.x.now) c.worth-in-Inv.result _ c.in-Inv.ensures.is s (λ e. c.worth-in-Inv.ensures args ks ys n zs rule w a e) c.one-in-Inv.ensures

pub worth-returns-in-Not : goal.worth-returns-in-Not
worth-returns-in-Not t c = λ args ks ys n zs rule w a s.
    not_node _ rule _ (view zs c.args.front.state.now c.args.front.next) _ (formula c.in-Not.x.now) c.worth-in-Not.result _ c.in-Not.ensures.is s (λ e. c.worth-in-Not.ensures args ks ys n zs rule w a e) c.one-in-Not.ensures

pub worth-returns-in-Bits : goal.worth-returns-in-Bits
worth-returns-in-Bits t c = λ args ks ys n zs rule w a s.
    bits_node _ rule _ (view zs c.args.front.state.now c.args.front.next) _ (formula c.in-Bits.x.now) c.in-Bits.hi.now c.in-Bits.lo.now c.size_bits-in-Bits.result c.size_bits-in-Bits-2.result c.worth-in-Bits.result _ c.in-Bits.ensures.is s (λ e. c.worth-in-Bits.ensures args ks ys n zs rule w a e) c.size_bits-in-Bits.ensures c.size_bits-in-Bits-2.ensures c.one-in-Bits.ensures

pub worth-returns-then-is_zero : goal.worth-returns-then-is_zero
worth-returns-then-is_zero t c = λ args ks ys n zs rule w a s.
    let fit : FitsSigned w128 c.worth-test.result.value = search rules in
    let zero : spec.is_zero c.worth-test.result.value ≡ true = ap spec.is_zero (sym (to_z-of_z w128 c.worth-test.result.value fit)) ∙ sym c.if-is_zero.ensures in
    choose_node _ rule _ (view zs c.args.front.state.now c.args.front.next) _ (formula c.in-Choose.c.now) (formula c.in-Choose.x.now) (formula c.in-Choose.y.now) c.worth-test.result c.worth-then-is_zero.result _ true c.in-Choose.ensures.is s (λ e. c.worth-test.ensures args ks ys n zs rule w a e) zero
    (λ e q. absurd cc) (λ e q. c.worth-then-is_zero.ensures args ks ys n zs rule w a e) c.behind.ensures

pub worth-returns-else-is_zero : goal.worth-returns-else-is_zero
worth-returns-else-is_zero t c = λ args ks ys n zs rule w a s.
    let fit : FitsSigned w128 c.worth-test.result.value = search rules in
    let zero : spec.is_zero c.worth-test.result.value ≡ false = ap spec.is_zero (sym (to_z-of_z w128 c.worth-test.result.value fit)) ∙ sym c.if-is_zero.ensures in
    choose_node _ rule _ (view zs c.args.front.state.now c.args.front.next) _ (formula c.in-Choose.c.now) (formula c.in-Choose.x.now) (formula c.in-Choose.y.now) c.worth-test.result c.worth-else-is_zero.result _ false c.in-Choose.ensures.is s (λ e. c.worth-test.ensures args ks ys n zs rule w a e) zero
    (λ e q. c.worth-else-is_zero.ensures args ks ys n zs rule w a e) (λ e q. absurd cc) c.behind-else-is_zero.ensures

pub worth-returns-in-Binary : goal.worth-returns-in-Binary
worth-returns-in-Binary t c = λ args ks ys n zs rule w a s.
    binary_node _ rule _ (view zs c.args.front.state.now c.args.front.next) _ (formula c.in-Binary.x.now) (formula c.in-Binary.y.now) c.in-Binary.op c.worth-a.result c.worth-b.result _ c.in-Binary.ensures.is s (λ e. c.worth-a.ensures args ks ys n zs rule w a e) (λ e. c.worth-b.ensures args ks ys n zs rule w a e) c.two.ensures
