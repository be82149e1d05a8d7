use Rattle.std.proofs.Common.{◌≡◌, ◌∙◌, ◌<◌, ◌≤◌, ◌+◌, ◌*◌, [], ◌++◌, refl, sym, ap, subst, arith}
use Rattle.std.specs.Prelude.{option_map}
use Rattle.nml_tree.specs.Depth.{depth}
use Rattle.nml_tree.specs.Derivation.{fields_of}
use Rattle.nml_tree.specs.Formula.{formula}
use Rattle.nml_tree.specs.Table.{entries}
use Rattle.nml_tree.specs.Written.{written}
use Rattle.attr_eval.specs.Alone.{deepest, value_depth}
use Rattle.attr_eval.specs.Turn.{made_rule}
use Rattle.attr_eval.proofs.Steps.{no_limit, next_picked, next_made, walks_at, field_at}
use Rattle.attr_eval.proofs.Values.{less_deep, within_deepest, part_named, field_named, none_named}
use Rattle.attr_legal.specs.Tally as spec
use Rattle.attr_legal.proofs.Readings.{fields_before, same_reads, argument_reads, choose_reads, binary_reads, none_reads, some_reads, whole_reads}
use Rattle.attr_legal.proofs.reads.+reads.Goals as goal

pub value_reads-returns-then-limit-eq0 : goal.value_reads-returns-then-limit-eq0
value_reads-returns-then-limit-eq0 t c = λ x ks ys n w. absurd (no_limit _ _ _ _ _ _ _ x c.if-limit-eq0.true w)

pub value_reads-reads-requires : goal.value_reads-reads-requires
value_reads-reads-requires t c =
    let is : c.args.limit * (deepest (entries [] c.args.items.now) + 3) ≡ t = c.decreases in
    let one = ap (option_map (λ e. formula e.now)) c.in-Some.is in
    let low : depth (formula c.in-Some.e.now) ≤ deepest (entries [] c.args.items.now) = subst (λ o. value_depth o ≤ deepest (entries [] c.args.items.now)) one (within_deepest _ c.args.name.now _ c.in-Made.ensures) in
    let some : 0 < c.args.limit = omega arith in
    (rw (← is) (less_deep c.args.limit _ _ some low), tt)

pub value_reads-returns-in-Nothing : goal.value_reads-returns-in-Nothing
value_reads-returns-in-Nothing t c = λ x ks ys n w. absurd (c.in-Nothing.ensures x ks w.is w.picks_are)

pub value_reads-returns-in-Picked : goal.value_reads-returns-in-Picked
value_reads-returns-in-Picked t c = λ x ks ys n w.
    let s = next_picked _ _ _ _ _ _ _ x _ _ c.in-Picked.ensures w in
    let k = rw c.as_bytes.ensures at c.value_reads.ensures in
    k s.1 ks ys n s.3 ∙ ap (λ d. spec.reads c.args.w.look c.args.w.input (written (entries [] c.args.items.now) n d).value) (sym s.2)

pub value_reads-returns-in-None : goal.value_reads-returns-in-None
value_reads-returns-in-None t c = λ x ks ys n w.
    let m = next_made _ _ _ _ _ _ _ (made_rule c.in-Made.rule) c.in-Made.ensures x w in
    whole_reads _ (made_rule c.in-Made.rule) _ n x _ _ _ _ _ _ _ m (none_reads _ _ _ _ _ (ap (option_map (λ e. formula e.now)) c.in-None.is))

pub value_reads-returns-in-Some : goal.value_reads-returns-in-Some
value_reads-returns-in-Some t c = λ x ks ys n w.
    let m = next_made _ _ _ _ _ _ _ (made_rule c.in-Made.rule) c.in-Made.ensures x w in
    let one = ap (option_map (λ e. formula e.now)) c.in-Some.is in
    whole_reads _ (made_rule c.in-Made.rule) _ n x _ _ _ _ _ _ _ m (some_reads _ _ _ _ _ _ _ one (c.reads.ensures m.0 ks ys n m.2))

pub named_reads-returns-in-None : goal.named_reads-returns-in-None
named_reads-returns-in-None t c = λ args ks ys n i w h.
    argument_reads _ _ _ _ c.args.name.now i _ _ (none_named args _ _ c.args.name.now n w.fill c.in-None.ensures) (c.declared_reads.ensures i h)

pub named_reads-returns-in-Some-part_of : goal.named_reads-returns-in-Some-part_of
named_reads-returns-in-Some-part_of t c = λ args ks ys n i w h.
    let f = c.in-Some.ensures in
    let s = c.skip_pars.ensures args ks ys w in
    let p = walks_at _ _ _ _ _ _ _ _ c.in-Some.k _ _ _ _ w f.stands c.in-Some-part_of.ensures s.0 s.1 in
    let z = fields_before n (fields_of args ++ ys) in
    let r = part_named args _ _ c.args.name.now c.in-Some.k _ _ _ _ n z.0 ys w.fill f p.0.at z.1 in
    let k = rw c.as_bytes.ensures at c.value_reads.ensures in
    argument_reads _ _ _ _ c.args.name.now i _ _ r.1 (k p.0.of _ _ r.0 p.1)

pub named_reads-returns-in-None-part_of : goal.named_reads-returns-in-None-part_of
named_reads-returns-in-None-part_of t c = λ args ks ys n i w h.
    let f = c.in-Some.ensures in
    let p = field_at _ _ _ c.in-Some.k _ w.fill f.stands c.in-None-part_of.ensures in
    let z = fields_before n (fields_of args ++ ys) in
    let r = field_named args _ _ c.args.name.now c.in-Some.k _ _ p.ty p.z _ n z.0 ys w.fill f p.at z.1 in
    argument_reads _ _ _ _ c.args.name.now i _ _ r.1 refl

pub reads-returns-in-Numeral : goal.reads-returns-in-Numeral
reads-returns-in-Numeral t c = λ args ks ys n w. same_reads _ _ _ _ _ _ _ c.in-Numeral.ensures.is.1 refl

pub reads-returns-in-Truth : goal.reads-returns-in-Truth
reads-returns-in-Truth t c = λ args ks ys n w. same_reads _ _ _ _ _ _ _ c.in-Truth.ensures.is.1 refl

pub reads-returns-in-Named : goal.reads-returns-in-Named
reads-returns-in-Named t c = λ args ks ys n w.
    let k = rw c.as_bytes-text.ensures at c.named_reads.ensures in
    same_reads _ _ _ _ _ _ _ c.in-Named.ensures.is (k args ks ys n _ w refl)

pub reads-returns-in-Indexed : goal.reads-returns-in-Indexed
reads-returns-in-Indexed t c = λ args ks ys n w.
    let k = rw c.as_bytes-text-in-Indexed.ensures at c.named_reads-in-Indexed.ensures in
    same_reads _ _ _ _ _ _ _ c.in-Indexed.ensures.is.2 (k args ks ys n _ w (c.reads-index.ensures args ks ys n w))

pub reads-returns-in-Paren : goal.reads-returns-in-Paren
reads-returns-in-Paren t c = λ args ks ys n w. same_reads _ _ _ _ _ _ _ c.in-Paren.ensures.is.2 (c.reads.ensures args ks ys n w)

pub reads-returns-in-Int : goal.reads-returns-in-Int
reads-returns-in-Int t c = λ args ks ys n w. same_reads _ _ _ _ _ _ _ c.in-Int.ensures.is.4 (c.reads-in-Int.ensures args ks ys n w)

pub reads-returns-in-Card : goal.reads-returns-in-Card
reads-returns-in-Card t c = λ args ks ys n w. same_reads _ _ _ _ _ _ _ c.in-Card.ensures.is.4 (c.reads-in-Card.ensures args ks ys n w)

pub reads-returns-in-Sat : goal.reads-returns-in-Sat
reads-returns-in-Sat t c = λ args ks ys n w. same_reads _ _ _ _ _ _ _ c.in-Sat.ensures.is.4 (c.reads-in-Sat.ensures args ks ys n w)

pub reads-returns-in-Bits : goal.reads-returns-in-Bits
reads-returns-in-Bits t c = λ args ks ys n w. same_reads _ _ _ _ _ _ _ c.in-Bits.ensures.is.5 (c.reads-in-Bits.ensures args ks ys n w)

pub reads-returns-in-Neg : goal.reads-returns-in-Neg
reads-returns-in-Neg t c = λ args ks ys n w. same_reads _ _ _ _ _ _ _ c.in-Neg.ensures.is.1 (c.reads-in-Neg.ensures args ks ys n w)

pub reads-returns-in-Inv : goal.reads-returns-in-Inv
reads-returns-in-Inv t c = λ args ks ys n w. same_reads _ _ _ _ _ _ _ c.in-Inv.ensures.is.1 (c.reads-in-Inv.ensures args ks ys n w)

pub reads-returns-in-Not : goal.reads-returns-in-Not
reads-returns-in-Not t c = λ args ks ys n w. same_reads _ _ _ _ _ _ _ c.in-Not.ensures.is.1 (c.reads-in-Not.ensures args ks ys n w)

pub reads-returns-in-Choose : goal.reads-returns-in-Choose
reads-returns-in-Choose t c = λ args ks ys n w.
    same_reads _ _ _ _ _ _ _ c.in-Choose.ensures.is.4
    (choose_reads _ _ _ _ _ _ _ _ c.together.ensures c.greater.ensures (c.reads-first.ensures args ks ys n w) (c.reads-some.ensures args ks ys n w) (c.reads-other.ensures args ks ys n w))

pub reads-returns-in-Binary : goal.reads-returns-in-Binary
reads-returns-in-Binary t c = λ args ks ys n w.
    same_reads _ _ _ _ _ _ _ c.in-Binary.ensures.is.1
    (binary_reads _ _ _ _ _ c.together-in-Binary.ensures (c.reads-a.ensures args ks ys n w) (c.reads-b.ensures args ks ys n w))
