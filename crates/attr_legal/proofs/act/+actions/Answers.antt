use Rattle.std.proofs.Common.{◌≡◌, ◌∙◌, ◌<◌, ◌≤◌, ◌+◌, ◌*◌, [], drop, length, refl, sym, ap, subst, arith}
use Rattle.nml_tree.specs.Block.{Done, If, IfElse, action_block, block, index, stmt}
use Rattle.nml_tree.specs.Depth.{block_depth}
use Rattle.nml_tree.specs.Formula.{formula}
use Rattle.nml_tree.specs.Table.{entries}
use Rattle.nml_tree.specs.Written.{arguments, index_term, reference, term, written}
use Rattle.nml_tree.proofs.BlockLaws.{stmt-Assign, stmt-Part, stmt-Halt, stmt-If, stmt-If_else}
use Rattle.nml_widths.specs.Fitting.{Each}
use Rattle.attr_eval.specs.Alone.{alone}
use Rattle.attr_eval.specs.Lawful.{act_shape}
use Rattle.attr_eval.specs.Turn.{made_rule}
use Rattle.attr_eval.proofs.Steps.{no_limit, next_picked, next_made, walks_at, field_at}
use Rattle.attr_eval.proofs.Values.{part_named, field_named, none_named}
use Rattle.attr_legal.specs.Asked.{Acting, SoundIn, asked_measure, counts, weighed, weight}
use Rattle.attr_legal.specs.Nested.{deepest_action}
use Rattle.attr_legal.specs.Tally.{excess, tally, together}
use Rattle.attr_legal.proofs.Nesting.{within_deepest, less_nested, some_depth, then_depth, else_depth, drop_at, drop_end, depth_among}
use Rattle.attr_legal.proofs.Weights.{counts_low, none_assigned, some_assigned, taken_is, argument_tally, whole_action, sound_action, assign_case, part_case, halt_case, if_case, else_case, first_sum, next_sum, last_sum}
use Rattle.attr_legal.proofs.act.+actions.Goals as goal

pub weigh-returns-in-Check : goal.weigh-returns-in-Check
weigh-returns-in-Check t c = λ zs x g.
    let h = subst (Acting (entries [] c.args.items.now) zs x) c.in-Check.is g in
    let k = rw c.as_slice.ensures at c.rule_action-count.ensures in
    let e = k x [] [] 0 zs x h.asked.0 (record { sound = g.values; left_are = sym h.asked.1 }) (record { values = g.values; actions = g.actions; asked = tt }) in
    c.excess.ensures ∙ ap excess e ∙ ap (λ a. weighed (entries [] c.args.items.now) zs x a c.args.key) (sym c.in-Check.is)

pub rule_action-returns-then-limit-eq0 : goal.rule_action-returns-then-limit-eq0
rule_action-returns-then-limit-eq0 t c = λ d ks ys n zs x w a g. absurd (no_limit _ _ _ _ _ _ _ d c.if-limit-eq0.true w)

pub rule_action-statements-requires : goal.rule_action-statements-requires
rule_action-statements-requires t c =
    let is : asked_measure (2 * deepest_action (entries [] c.args.items.now) + 5) c.args.ask + c.args.limit * (2 * deepest_action (entries [] c.args.items.now) + 5) ≡ t = c.decreases in
    let one = ap action_block c.in-Some.is in
    let low : block_depth (block c.as_slice.result.now) ≤ deepest_action (entries [] c.args.items.now) = rw c.as_slice.ensures (subst (λ b. block_depth b ≤ deepest_action (entries [] c.args.items.now)) one (within_deepest _ c.args.name.now _ c.in-Made.ensures)) in
    let some : 0 < c.args.limit = omega arith in
    (rw (← is) (less_nested _ c.args.limit _ _ some low), tt)

pub rule_action-returns-in-Picked : goal.rule_action-returns-in-Picked
rule_action-returns-in-Picked t c = λ d ks ys n zs x w a g.
    let s = next_picked _ _ _ _ _ _ _ d _ _ c.in-Picked.ensures w in
    let k = rw c.as_bytes.ensures at c.rule_action.ensures in
    k s.1 ks ys n zs x s.3 a g ∙ ap (λ y. tally (counts (entries [] c.args.items.now) zs x c.args.ask) (act_shape (written (entries [] c.args.items.now) n y).action)) (sym s.2)

pub rule_action-returns-in-None : goal.rule_action-returns-in-None
rule_action-returns-in-None t c = λ d ks ys n zs x w a g.
    let m = next_made _ _ _ _ _ _ _ (made_rule c.in-Made.rule) c.in-Made.ensures d w in
    whole_action _ (made_rule c.in-Made.rule) _ n d _ _ _ _ zs x c.args.ask _ _ m (ap action_block c.in-None.is) refl

pub rule_action-returns-in-Some : goal.rule_action-returns-in-Some
rule_action-returns-in-Some t c = λ d ks ys n zs x w a g.
    let m = next_made _ _ _ _ _ _ _ (made_rule c.in-Made.rule) c.in-Made.ensures d w in
    let is = ap action_block c.in-Some.is ∙ ap block (sym c.as_slice.ensures) in
    whole_action _ (made_rule c.in-Made.rule) _ n d _ _ _ _ zs x c.args.ask _ _ m is
    (c.statements.ensures m.0 ks ys n zs x (made_rule c.in-Made.rule) (record { walks = m.2; fields_are = a; acting = g })
    (sound_action _ c.args.name.now (made_rule c.in-Made.rule) _ _ n d _ _ _ _ zs x c.args.ask _ w m a g is))

pub taken_by-returns : goal.taken_by-returns
taken_by-returns t c = λ args ks ys n zs x h.
    taken_is (counts (entries [] c.args.items.now) zs x c.args.ask) (term (entries [] c.args.items.now) (arguments (entries [] c.args.items.now) n args) (formula c.args.e.now)) _ _ (c.weigh-input.ensures zs x h.acting) (c.reads.ensures args ks ys n h.walks)

pub part_action-returns-in-None : goal.part_action-returns-in-None
part_action-returns-in-None t c = λ args ks ys n zs x h.
    argument_tally (entries [] c.args.items.now) _ (counts (entries [] c.args.items.now) zs x c.args.ask) c.args.name.now _ _ (none_named args _ _ c.args.name.now n h.walks.fill c.in-None.ensures) refl

pub part_action-returns-in-Some-part_of : goal.part_action-returns-in-Some-part_of
part_action-returns-in-Some-part_of t c = λ args ks ys n zs x h.
    let f = c.in-Some.ensures in
    let s = c.skip_pars.ensures args ks ys h.walks in
    let p = walks_at _ _ _ _ _ _ _ _ c.in-Some.k _ _ _ _ h.walks f.stands c.in-Some-part_of.ensures s.0 s.1 in
    let r = part_named args _ _ c.args.name.now c.in-Some.k _ _ _ _ n zs ys h.walks.fill f p.0.at (h.fields_are.left_are ∙ h.walks.fields_are) in
    let k = rw c.as_bytes.ensures at c.rule_action.ensures in
    argument_tally (entries [] c.args.items.now) _ (counts (entries [] c.args.items.now) zs x c.args.ask) c.args.name.now _ _ r.1 (k p.0.of _ _ r.0 zs x p.1 (record { sound = h.fields_are.sound; left_are = r.2 ∙ sym s.1 }) h.acting)

pub part_action-returns-in-None-part_of : goal.part_action-returns-in-None-part_of
part_action-returns-in-None-part_of t c = λ args ks ys n zs x h.
    let f = c.in-Some.ensures in
    let p = field_at _ _ _ c.in-Some.k _ h.walks.fill f.stands c.in-None-part_of.ensures in
    let r = field_named args _ _ c.args.name.now c.in-Some.k _ _ p.ty p.z _ n zs ys h.walks.fill f p.at (h.fields_are.left_are ∙ h.walks.fields_are) in
    argument_tally (entries [] c.args.items.now) _ (counts (entries [] c.args.items.now) zs x c.args.ask) c.args.name.now _ _ r.1 refl

pub assignment-returns-in-None : goal.assignment-returns-in-None
assignment-returns-in-None t c = λ args ks ys n zs x rule rest h each.
    let i = c.place_index-index.ensures args ks ys n zs rule h.walks h.fields_are each in
    let k = rw c.as_bytes-name.ensures at c.named_target.ensures in
    let place = reference (entries [] c.args.items.now) (arguments (entries [] c.args.items.now) n args) c.args.place.now.name.text (index_term (entries [] c.args.items.now) (arguments (entries [] c.args.items.now) n args) (index c.args.place.now.index)) in
    none_assigned (alone zs) (weighed (entries [] c.args.items.now) zs x c.args.ask) rest (term (entries [] c.args.items.now) (arguments (entries [] c.args.items.now) n args) (formula c.args.e.now)) c.weigh-input.result place
    (counts_low (entries [] c.args.items.now) zs x c.args.ask (act_shape rest)) (sym c.in-None.is ∙ k args ks ys n zs _ h.walks h.fields_are i)

pub assignment-returns-in-Some : goal.assignment-returns-in-Some
assignment-returns-in-Some t c = λ args ks ys n zs x rule rest h each.
    let i = c.place_index-index.ensures args ks ys n zs rule h.walks h.fields_are each in
    let k = rw c.as_bytes-name.ensures at c.named_target.ensures in
    let place = reference (entries [] c.args.items.now) (arguments (entries [] c.args.items.now) n args) c.args.place.now.name.text (index_term (entries [] c.args.items.now) (arguments (entries [] c.args.items.now) n args) (index c.args.place.now.index)) in
    some_assigned (alone zs) (weighed (entries [] c.args.items.now) zs x c.args.ask) rest (term (entries [] c.args.items.now) (arguments (entries [] c.args.items.now) n args) (formula c.args.e.now)) c.weigh-input.result place
    c.in-Some.target c.reads-taken.result c.together.result c.weigh-write.result _
    (sym c.in-Some.is ∙ k args ks ys n zs _ h.walks h.fields_are i) (c.weigh-input.ensures zs x h.acting) (c.reads-taken.ensures args ks ys n h.walks) (c.weigh-write.ensures zs x h.acting) c.together.ensures c.together-in-Some.ensures

pub statement-assignment-requires : goal.statement-assignment-requires
statement-assignment-requires t c =
    let is : asked_measure (2 * deepest_action (entries [] c.args.items.now) + 5) c.args.ask + c.args.limit * (2 * deepest_action (entries [] c.args.items.now) + 5) + 2 * block_depth (stmt c.args.one.now Done) + 1 ≡ t = c.decreases in
    let some = some_depth c.args.one.now in
    (rw (← is) (omega (arith, some)), tt)

pub statement-part_action-requires : goal.statement-part_action-requires
statement-part_action-requires t c =
    let is : asked_measure (2 * deepest_action (entries [] c.args.items.now) + 5) c.args.ask + c.args.limit * (2 * deepest_action (entries [] c.args.items.now) + 5) + 2 * block_depth (stmt c.args.one.now Done) + 1 ≡ t = c.decreases in
    let some = some_depth c.args.one.now in
    (rw (← is) (omega (arith, some)), tt)

pub statement-taken_by-taken-requires : goal.statement-taken_by-taken-requires
statement-taken_by-taken-requires t c =
    let is : asked_measure (2 * deepest_action (entries [] c.args.items.now) + 5) c.args.ask + c.args.limit * (2 * deepest_action (entries [] c.args.items.now) + 5) + 2 * block_depth (stmt c.args.one.now Done) + 1 ≡ t = c.decreases in
    let some = some_depth c.args.one.now in
    (rw (← is) (omega (arith, some)), tt)

pub statement-weigh-halt-requires : goal.statement-weigh-halt-requires
statement-weigh-halt-requires t c =
    let is : asked_measure (2 * deepest_action (entries [] c.args.items.now) + 5) c.args.ask + c.args.limit * (2 * deepest_action (entries [] c.args.items.now) + 5) + 2 * block_depth (stmt c.args.one.now Done) + 1 ≡ t = c.decreases in
    let some = some_depth c.args.one.now in
    (rw (← is) (omega (arith, some)), tt)

pub statement-taken_by-taken-requires-in-If : goal.statement-taken_by-taken-requires-in-If
statement-taken_by-taken-requires-in-If t c =
    let is : asked_measure (2 * deepest_action (entries [] c.args.items.now) + 5) c.args.ask + c.args.limit * (2 * deepest_action (entries [] c.args.items.now) + 5) + 2 * block_depth (stmt c.args.one.now Done) + 1 ≡ t = c.decreases in
    let some = some_depth c.args.one.now in
    (rw (← is) (omega (arith, some)), tt)

pub statement-statements-some-requires : goal.statement-statements-some-requires
statement-statements-some-requires t c =
    let is : asked_measure (2 * deepest_action (entries [] c.args.items.now) + 5) c.args.ask + c.args.limit * (2 * deepest_action (entries [] c.args.items.now) + 5) + 2 * block_depth (stmt c.args.one.now Done) + 1 ≡ t = c.decreases in
    let less = then_depth c.in-If.field-0 c.in-If.c c.in-If.field-2 c.in-If.xs c.in-If.other c.in-If.field-5 c.in-If.field-6 in
    let low : block_depth (block c.as_slice.result.now) < block_depth (stmt c.args.one.now Done) = rw (c.as_slice.ensures, c.in-If.is) less in
    (rw (← is) (omega (arith, low)), tt)

pub statement-statements-others-requires : goal.statement-statements-others-requires
statement-statements-others-requires t c =
    let is : asked_measure (2 * deepest_action (entries [] c.args.items.now) + 5) c.args.ask + c.args.limit * (2 * deepest_action (entries [] c.args.items.now) + 5) + 2 * block_depth (stmt c.args.one.now Done) + 1 ≡ t = c.decreases in
    let less = else_depth c.in-If.field-0 c.in-If.c c.in-If.field-2 c.in-If.xs c.in-Some.field-0-0 c.in-Some.ys c.in-If.field-5 c.in-If.field-6 in
    let low : block_depth (block c.as_slice-in-Some.result.now) < block_depth (stmt c.args.one.now Done) = rw (c.as_slice-in-Some.ensures, c.in-If.is, c.in-Some.is) less in
    (rw (← is) (omega (arith, low)), tt)

pub statement-returns-in-Assign : goal.statement-returns-in-Assign
statement-returns-in-Assign t c = λ args ks ys n zs x rule rest h each.
    assign_case _ args n zs x c.args.ask rule _ rest _ _ _ _ _ _ (ap (λ s. stmt s rest) c.in-Assign.is ∙ stmt-Assign _ _ _ _ rest) each (λ i. c.assignment.ensures args ks ys n zs x rule _ h i)

pub statement-returns-in-Part : goal.statement-returns-in-Part
statement-returns-in-Part t c = λ args ks ys n zs x rule rest h each.
    let k = rw c.as_bytes.ensures at c.part_action.ensures in
    part_case _ args n zs x c.args.ask rule _ rest _ _ _ _ _ (ap (λ s. stmt s rest) c.in-Part.is ∙ stmt-Part _ _ _ _ rest) each (k args ks ys n zs x h)

pub statement-returns-in-Halt : goal.statement-returns-in-Halt
statement-returns-in-Halt t c = λ args ks ys n zs x rule rest h each.
    halt_case _ args n zs x c.args.ask rule _ rest _ _ _ _ _ _ _ _ (ap (λ s. stmt s rest) c.in-Halt.is ∙ stmt-Halt _ _ _ _ _ rest) each (c.taken_by-taken.ensures args ks ys n zs x h) (c.weigh-halt.ensures zs x h.acting) c.together.ensures

pub statement-returns-in-None : goal.statement-returns-in-None
statement-returns-in-None t c = λ args ks ys n zs x rule rest h each.
    let k = rw c.as_slice.ensures at c.statements-some.ensures in
    let same : stmt c.args.one.now rest ≡ If c.in-If.field-0 (formula c.in-If.c) c.in-If.field-2 (block c.in-If.xs) c.in-If.field-5 c.in-If.field-6 rest = rw (c.in-If.is, c.in-None.is) (stmt-If _ _ _ _ _ _ rest) in
    if_case _ args n zs x c.args.ask rule _ rest _ _ _ _ _ _ _ _ _ same each (c.taken_by-taken-in-If.ensures args ks ys n zs x h) (k args ks ys n zs x rule h) c.together-in-None.ensures

pub statement-returns-in-Some : goal.statement-returns-in-Some
statement-returns-in-Some t c = λ args ks ys n zs x rule rest h each.
    let k = rw c.as_slice.ensures at c.statements-some.ensures in
    let m = rw c.as_slice-in-Some.ensures at c.statements-others.ensures in
    let same : stmt c.args.one.now rest ≡ IfElse c.in-If.field-0 (formula c.in-If.c) c.in-If.field-2 (block c.in-If.xs) c.in-Some.field-0-0 (block c.in-Some.ys) c.in-If.field-5 c.in-If.field-6 rest = rw (c.in-If.is, c.in-Some.is) (stmt-If_else _ _ _ _ _ _ _ _ rest) in
    else_case _ args n zs x c.args.ask rule _ rest _ _ _ _ _ _ _ _ _ _ _ _ _ same each (c.taken_by-taken-in-If.ensures args ks ys n zs x h) (k args ks ys n zs x rule h) (m args ks ys n zs x rule h) c.greater.ensures c.together-in-Some.ensures

pub statements-loop-one-init : goal.statements-loop-one-init
statements-loop-one-init t c = λ args ks ys n zs x rule h each. (each, first_sum _ args n zs x c.args.ask rule (block c.args.list.now), omega arith)

pub statements-statement-more-requires : goal.statements-statement-more-requires
statements-statement-more-requires t c =
    let is : asked_measure (2 * deepest_action (entries [] c.args.items.now) + 5) c.args.ask + c.args.limit * (2 * deepest_action (entries [] c.args.items.now) + 5) + 2 * block_depth (block c.args.list.now) + 2 ≡ t = c.decreases in
    let low = depth_among c.args.list.now c.loop-one.one-index c.one-item.result c.loop-one-test.true c.one-item.is in
    (rw (← is) (omega (arith, low)), tt)

pub statements-loop-one-preserved : goal.statements-loop-one-preserved
statements-loop-one-preserved t c = λ args ks ys n zs x rule h each.
    let inv = c.loop-one.invariant args ks ys n zs x rule h each in
    let e = drop_at c.args.list.now c.loop-one.one-index c.one-item.result c.loop-one-test.true c.one-item.is in
    let s = c.statement-more.ensures args ks ys n zs x rule (block (drop (c.loop-one.one-index + 1) c.args.list.now)) h (subst (Each (SoundIn (entries [] c.args.items.now) rule args n zs)) e inv.0) in
    let low : c.together-sum.result ≤ 2 = rw c.together-sum.ensures (omega arith) in (
      s.0,
      next_sum _ args n zs x c.args.ask rule (block c.args.list.now) (block (drop c.loop-one.one-index c.args.list.now)) (block (drop (c.loop-one.one-index + 1) c.args.list.now)) c.loop-one.sum c.statement-more.result c.together-sum.result inv.1
          (ap (weight (entries [] c.args.items.now) args n zs x c.args.ask) e ∙ s.1) c.together-sum.ensures,
      low,
    )

pub statements-returns : goal.statements-returns
statements-returns t c = λ args ks ys n zs x rule h each.
    let inv = c.loop-one.invariant args ks ys n zs x rule h each in
    let past : length c.args.list.now ≤ c.loop-one.one-index = omega (arith, c.loop-one-test.false) in
    let e = drop_end c.args.list.now c.loop-one.one-index past in
    last_sum _ args n zs x c.args.ask rule (block c.args.list.now) c.loop-one.sum inv.2 (ap (λ b. together c.loop-one.sum (weight (entries [] c.args.items.now) args n zs x c.args.ask b)) (sym e) ∙ inv.1)
