use Rattle.std.proofs.Common.{rules, ◌≡◌, ◌∙◌, ◌<◌, ◌≤◌, ◌+◌, ◌*◌, [], drop, sym, ap, subst, arith, true, false, refl, None}
use Rattle.std.specs.Prelude.{FitsSigned}
use Rattle.std.specs.Int.{w128}
use Rattle.std.proofs.lemmas.Int.{to_z-of_z}
use Rattle.nml_tree.specs.Block as block
use Rattle.nml_tree.specs.Block.{action_block, stmt}
use Rattle.nml_tree.specs.Depth.{block_depth}
use Rattle.nml_tree.specs.Table.{Declared, entries}
use Rattle.nml_tree.specs.Value as spec
use Rattle.nml_tree.specs.Written.{act, arguments, written}
use Rattle.attr_eval.specs.Turn.{made_rule}
use Rattle.attr_eval.proofs.Steps.{no_limit, next_picked, next_made, walks_at, field_at}
use Rattle.attr_eval.proofs.Values.{part_named, field_named, none_named}
use Rattle.attr_exec.specs.Ran.{ran, scene}
use Rattle.attr_exec.specs.Ready.{BlockSound, deepest_action}
use Rattle.attr_exec.proofs.Running.{same_trans, ready_same, action_sound, whole_action, part_action, block_drop, block_end, among_depth, within_action, less_action}
use Rattle.attr_exec.proofs.Statements.{otherwise_some, otherwise_none, part_depth, then_depth, else_depth, assign_one, part_one, halt_one, if_sound, if_one}
use Rattle.attr_exec.proofs.run.+run.Goals as goal

pub run-returns-then-limit-eq0-clause-ran : goal.run-returns-then-limit-eq0-clause-ran
run-returns-then-limit-eq0-clause-ran t c = λ x ks ys n zs w left r. absurd (no_limit _ _ _ _ _ _ _ x c.if-limit-eq0.true w)

pub run-run_block-requires : goal.run-run_block-requires
run-run_block-requires t c =
    let is : c.args.limit * (2 * deepest_action (entries [] c.args.items.now) + 4) ≡ t = c.decreases in
    let low : block_depth (block.block c.as_slice.result.now) ≤ deepest_action (entries [] c.args.items.now) = rw c.as_slice.ensures (subst (λ o. block_depth (action_block o) ≤ deepest_action (entries [] c.args.items.now)) c.in-Some.is (within_action _ c.args.name.now (Declared.And (made_rule c.in-Made.rule)) c.in-Made.ensures)) in
    let some : 0 < c.args.limit = omega arith in
    (rw (← is) (less_action c.args.limit _ _ some low), tt)

pub run-returns-in-Picked-clause-ran : goal.run-returns-in-Picked-clause-ran
run-returns-in-Picked-clause-ran t c = λ x ks ys n zs w left r.
    let s = next_picked _ _ _ _ _ _ _ x _ _ c.in-Picked.ensures w in
    let k = rw c.as_bytes.ensures at c.run.ensures.ran in
    k s.1 ks ys n zs s.3 left r ∙ ap (λ d. ran c.args.out zs c.args.next (written (entries [] c.args.items.now) n d).action (scene c.args.s.now c.args.done)) (sym s.2)

pub run-returns-in-None-clause-ran : goal.run-returns-in-None-clause-ran
run-returns-in-None-clause-ran t c = λ x ks ys n zs w left r.
    let m = next_made _ _ _ _ _ _ _ (made_rule c.in-Made.rule) c.in-Made.ensures x w in
    whole_action _ (made_rule c.in-Made.rule) _ n x _ _ _ _ zs c.args.out c.args.next (scene c.args.s.now c.args.done) _ block.Done m (ap action_block c.in-None.is) refl

pub run-returns-in-Some-clause-ran : goal.run-returns-in-Some-clause-ran
run-returns-in-Some-clause-ran t c = λ x ks ys n zs w left r.
    let m = next_made _ _ _ _ _ _ _ (made_rule c.in-Made.rule) c.in-Made.ensures x w in
    let one = ap action_block c.in-Some.is ∙ ap block.block (sym c.as_slice.ensures) in
    let sound = subst (BlockSound (entries [] c.args.items.now) (made_rule c.in-Made.rule) (arguments (entries [] c.args.items.now) n m.0) zs) one (action_sound _ c.args.name.now (made_rule c.in-Made.rule) _ _ n x _ _ _ _ zs _ _ w m left r) in
    whole_action _ (made_rule c.in-Made.rule) _ n x _ _ _ _ zs c.args.out c.args.next (scene c.args.s.now c.args.done) _ _ m one (c.run_block.ensures.ran m.0 ks ys n zs (made_rule c.in-Made.rule) m.2 left r sound)

pub run_block-run_one-done-requires : goal.run_block-run_one-done-requires
run_block-run_one-done-requires t c =
    let is : c.args.limit * (2 * deepest_action (entries [] c.args.items.now) + 4) + 2 * block_depth (block.block c.args.stmts.now) + 2 ≡ t = c.decreases in
    let low = among_depth c.args.stmts.now c.loop-stmt.stmt-index c.stmt-item.result c.loop-stmt-test.true c.stmt-item.is in
    (rw (← is) (omega (arith, low)), tt)

pub run_block-loop-stmt-preserved : goal.run_block-loop-stmt-preserved
run_block-loop-stmt-preserved t c = (
  same_trans c.args.s.now c.loop-stmt.s c.run_one-done.new.s c.loop-stmt.invariant.0 c.run_one-done.ensures.same,
  λ args ks ys n zs rule w left r sound.
      let inv = c.loop-stmt.invariant.1 args ks ys n zs rule w left r sound in
      let d = block_drop c.args.stmts.now c.loop-stmt.stmt-index c.stmt-item.result c.loop-stmt-test.true c.stmt-item.is in
      let ready = ready_same _ c.args.next c.args.s.now c.loop-stmt.s c.loop-stmt.invariant.0 r in
      let e = c.run_one-done.ensures.ran args ks ys n zs rule (block.block (drop (c.loop-stmt.stmt-index + 1) c.args.stmts.now)) w left ready (subst (BlockSound (entries [] c.args.items.now) rule (arguments (entries [] c.args.items.now) n args) zs) d inv.1) in
      (sym e.0 ∙ ap (λ b. ran c.args.out zs c.args.next (act (entries [] c.args.items.now) (arguments (entries [] c.args.items.now) n args) b) (scene c.loop-stmt.s c.loop-stmt.done)) (sym d) ∙ inv.0, e.1),
)

pub run_block-returns-clause-ran : goal.run_block-returns-clause-ran
run_block-returns-clause-ran t c = λ args ks ys n zs rule w left r sound.
    let inv = c.loop-stmt.invariant.1 args ks ys n zs rule w left r sound in
    let d = block_end c.args.stmts.now c.loop-stmt.stmt-index c.loop-stmt-test.false in
    ap (λ b. ran c.args.out zs c.args.next (act (entries [] c.args.items.now) (arguments (entries [] c.args.items.now) n args) b) (scene c.loop-stmt.s c.loop-stmt.done)) (sym d) ∙ inv.0

pub run_one-run_part-requires : goal.run_one-run_part-requires
run_one-run_part-requires t c =
    let is : c.args.limit * (2 * deepest_action (entries [] c.args.items.now) + 4) + 2 * block_depth (stmt c.args.stmt.now block.Done) + 1 ≡ t = c.decreases in
    let low = part_depth _ _ _ _ _ c.in-Part.is in
    (rw (← is) (omega (arith, low)), tt)

pub run_one-run_block-requires : goal.run_one-run_block-requires
run_one-run_block-requires t c =
    let is : c.args.limit * (2 * deepest_action (entries [] c.args.items.now) + 4) + 2 * block_depth (stmt c.args.stmt.now block.Done) + 1 ≡ t = c.decreases in
    let low = else_depth _ _ _ _ _ _ _ _ c.in-If.is in
    let other = ap block_depth (otherwise_some c.in-If.other _ c.as_slice-ys.result.now c.in-Some.is c.as_slice-ys.ensures) in
    (rw (← is) (omega (arith, low, other)), tt)

pub run_one-run_block-requires-else-is_zero : goal.run_one-run_block-requires-else-is_zero
run_one-run_block-requires-else-is_zero t c =
    let is : c.args.limit * (2 * deepest_action (entries [] c.args.items.now) + 4) + 2 * block_depth (stmt c.args.stmt.now block.Done) + 1 ≡ t = c.decreases in
    let low = then_depth _ _ _ _ _ _ _ _ c.in-If.is in
    let same = ap (λ xs. block_depth (block.block xs)) c.as_slice-xs.ensures in
    (rw (← is) (omega (arith, low, same)), tt)

pub run_one-returns-in-Assign-clause-ran : goal.run_one-returns-in-Assign-clause-ran
run_one-returns-in-Assign-clause-ran t c = λ args ks ys n zs rule rest w left r sound.
    assign_one (entries [] c.args.items.now) rule (arguments (entries [] c.args.items.now) n args) zs c.args.out c.args.next rest _ _ _ _ _ (scene c.args.s.now c.args.done) (scene c.assign.new.s c.assign.result) c.in-Assign.is sound (λ i e. c.assign.ensures.given args ks ys n zs rule w left r i e)

pub run_one-returns-in-Part-clause-ran : goal.run_one-returns-in-Part-clause-ran
run_one-returns-in-Part-clause-ran t c = λ args ks ys n zs rule rest w left r sound.
    let k = rw c.as_bytes-text.ensures at c.run_part.ensures.ran in
    part_one (entries [] c.args.items.now) rule (arguments (entries [] c.args.items.now) n args) zs c.args.out c.args.next rest _ _ _ _ _ (scene c.args.s.now c.args.done) (scene c.run_part.new.s c.run_part.result) c.in-Part.is sound (k args ks ys n zs w left r)

pub run_one-returns-in-Halt-clause-ran : goal.run_one-returns-in-Halt-clause-ran
run_one-returns-in-Halt-clause-ran t c = λ args ks ys n zs rule rest w left r sound.
    halt_one (entries [] c.args.items.now) rule (arguments (entries [] c.args.items.now) n args) zs c.args.out c.args.next rest _ _ _ _ _ _ c.args.s.now c.args.done c.halt.result c.in-Halt.is sound (λ e. c.halt.ensures args ks ys n zs rule w left r e)

pub run_one-returns-in-None-clause-ran : goal.run_one-returns-in-None-clause-ran
run_one-returns-in-None-clause-ran t c = λ args ks ys n zs rule rest w left r sound.
    let fit : FitsSigned w128 c.test-seen.result.value = search rules in
    let zero : spec.is_zero c.test-seen.result.value ≡ true = ap spec.is_zero (sym (to_z-of_z w128 c.test-seen.result.value fit)) ∙ sym c.is_zero.ensures ∙ c.if-is_zero.true in
    let h = if_sound (entries [] c.args.items.now) rule (arguments (entries [] c.args.items.now) n args) zs c.args.out c.args.next rest _ _ _ _ _ _ _ _ c.in-If.is sound in
    if_one (entries [] c.args.items.now) rule (arguments (entries [] c.args.items.now) n args) zs c.args.out c.args.next rest _ _ _ _ _ _ _ _ c.args.s.now c.args.done c.look_at-done.result c.test-seen.result true (scene c.args.s.now c.look_at-done.result) c.in-If.is h.3
    (c.test-seen.ensures args ks ys n zs rule w left r h.0) zero c.look_at-done.ensures (λ e. absurd cc) (λ e. otherwise_none (entries [] c.args.items.now) rule (arguments (entries [] c.args.items.now) n args) zs c.args.out c.args.next rest _ _ c.in-None.is)

pub run_one-returns-in-Some-clause-ran : goal.run_one-returns-in-Some-clause-ran
run_one-returns-in-Some-clause-ran t c = λ args ks ys n zs rule rest w left r sound.
    let fit : FitsSigned w128 c.test-seen.result.value = search rules in
    let zero : spec.is_zero c.test-seen.result.value ≡ true = ap spec.is_zero (sym (to_z-of_z w128 c.test-seen.result.value fit)) ∙ sym c.is_zero.ensures ∙ c.if-is_zero.true in
    let h = if_sound (entries [] c.args.items.now) rule (arguments (entries [] c.args.items.now) n args) zs c.args.out c.args.next rest _ _ _ _ _ _ _ _ c.in-If.is sound in
    let other = otherwise_some c.in-If.other _ c.as_slice-ys.result.now c.in-Some.is c.as_slice-ys.ensures in
    let sub = subst (BlockSound (entries [] c.args.items.now) rule (arguments (entries [] c.args.items.now) n args) zs) other h.2 in
    if_one (entries [] c.args.items.now) rule (arguments (entries [] c.args.items.now) n args) zs c.args.out c.args.next rest _ _ _ _ _ _ _ _ c.args.s.now c.args.done c.look_at-done.result c.test-seen.result true (scene c.run_block.new.s c.run_block.result) c.in-If.is h.3
    (c.test-seen.ensures args ks ys n zs rule w left r h.0) zero c.look_at-done.ensures (λ e. absurd cc)
    (λ e. c.run_block.ensures.ran args ks ys n zs rule w left r sub ∙ ap (λ b. ran c.args.out zs c.args.next (act (entries [] c.args.items.now) (arguments (entries [] c.args.items.now) n args) b) (scene c.args.s.now c.look_at-done.result)) (sym other))

pub run_one-returns-else-is_zero-clause-ran : goal.run_one-returns-else-is_zero-clause-ran
run_one-returns-else-is_zero-clause-ran t c = λ args ks ys n zs rule rest w left r sound.
    let fit : FitsSigned w128 c.test-seen.result.value = search rules in
    let zero : spec.is_zero c.test-seen.result.value ≡ false = ap spec.is_zero (sym (to_z-of_z w128 c.test-seen.result.value fit)) ∙ sym c.is_zero.ensures ∙ c.if-is_zero.false in
    let h = if_sound (entries [] c.args.items.now) rule (arguments (entries [] c.args.items.now) n args) zs c.args.out c.args.next rest _ _ _ _ _ _ _ _ c.in-If.is sound in
    let same = ap block.block c.as_slice-xs.ensures in
    let sub = subst (BlockSound (entries [] c.args.items.now) rule (arguments (entries [] c.args.items.now) n args) zs) (sym same) h.1 in
    if_one (entries [] c.args.items.now) rule (arguments (entries [] c.args.items.now) n args) zs c.args.out c.args.next rest _ _ _ _ _ _ _ _ c.args.s.now c.args.done c.look_at-done.result c.test-seen.result false (scene c.run_block-else-is_zero.new.s c.run_block-else-is_zero.result) c.in-If.is h.3
    (c.test-seen.ensures args ks ys n zs rule w left r h.0) zero c.look_at-done.ensures
    (λ e. c.run_block-else-is_zero.ensures.ran args ks ys n zs rule w left r sub ∙ ap (λ b. ran c.args.out zs c.args.next (act (entries [] c.args.items.now) (arguments (entries [] c.args.items.now) n args) b) (scene c.args.s.now c.look_at-done.result)) same) (λ e. absurd cc)

pub run_part-returns-in-None-clause-ran : goal.run_part-returns-in-None-clause-ran
run_part-returns-in-None-clause-ran t c = λ args ks ys n zs w left r.
    part_action _ c.args.name.now None c.args.out zs c.args.next (scene c.args.s.now c.args.done) _ (none_named args _ _ c.args.name.now n w.fill c.in-None.ensures) refl

pub run_part-returns-in-Some-part_of-clause-ran : goal.run_part-returns-in-Some-part_of-clause-ran
run_part-returns-in-Some-part_of-clause-ran t c = λ args ks ys n zs w left r.
    let f = c.in-Some.ensures in
    let s = c.skip_pars.ensures args ks ys w in
    let p = walks_at _ _ _ _ _ _ _ _ c.in-Some.k _ _ _ _ w f.stands c.in-Some-part_of.ensures s.0 s.1 in
    let q = part_named args _ _ c.args.name.now c.in-Some.k _ _ _ _ n zs ys w.fill f p.0.at (left ∙ w.fields_are) in
    let k = rw c.as_bytes.ensures at c.run.ensures.ran in
    part_action _ c.args.name.now _ c.args.out zs c.args.next (scene c.args.s.now c.args.done) _ q.1 (k p.0.of _ _ q.0 zs p.1 (q.2 ∙ sym s.1) r)

pub run_part-returns-in-None-part_of-clause-ran : goal.run_part-returns-in-None-part_of-clause-ran
run_part-returns-in-None-part_of-clause-ran t c = λ args ks ys n zs w left r.
    let f = c.in-Some.ensures in
    let p = field_at _ _ _ c.in-Some.k _ w.fill f.stands c.in-None-part_of.ensures in
    let q = field_named args _ _ c.args.name.now c.in-Some.k _ _ p.ty p.z _ n zs ys w.fill f p.at (left ∙ w.fields_are) in
    part_action _ c.args.name.now _ c.args.out zs c.args.next (scene c.args.s.now c.args.done) _ q.1 refl
