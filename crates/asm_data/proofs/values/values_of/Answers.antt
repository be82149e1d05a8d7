use Rattle.std.proofs.Common.{◌≤◌, map, subst, sym}
use Rattle.std.proofs.lemmas.List.{length-map}
use Rattle.asm_lines.specs.Seen.{seen, seen_content}
use Rattle.asm_data.specs.Values.{IsAdded, initials}
use Rattle.asm_data.proofs.Walking.{none_yet, all_lines, one_more, wrong_line}
use Rattle.asm_data.proofs.values.values_of.Goals as goal

pub loop-i-init : goal.loop-i-init
loop-i-init c = λ t h. none_yet t _ _ c.new-values.ensures.empty

pub loop-i-preserved : goal.loop-i-preserved
loop-i-preserved c = λ t h.
    let added = subst (λ x. IsAdded t (seen_content x.content) (initials c.loop-i.values.entries) (initials c.add.new.values.entries) c.in_ok-add.field-0) (sym c.index-lines-i.is) (c.in_ok-add.ensures t h) in
    one_more t c.args.lines.now c.loop-i.i c.index-lines-i.result c.loop-i.values.entries c.add.new.values.entries c.in_ok-add.field-0 (c.loop-i.invariant t h) c.loop-i-test.true c.index-lines-i.is added c.if-not-branch.false

pub returns-then-not-branch : goal.returns-then-not-branch
returns-then-not-branch c = λ t h.
    let added = subst (λ x. IsAdded t (seen_content x.content) (initials c.loop-i.values.entries) (initials c.add.new.values.entries) c.in_ok-add.field-0) (sym c.index-lines-i.is) (c.in_ok-add.ensures t h) in
    wrong_line t c.args.lines.now c.loop-i.i c.index-lines-i.result c.loop-i.values.entries c.add.new.values.entries c.in_ok-add.field-0 (c.loop-i.invariant t h) c.loop-i-test.true c.index-lines-i.is added c.if-not-branch.true

pub returns : goal.returns
returns c = λ t h.
    all_lines t (map seen c.args.lines.now) c.loop-i.i c.loop-i.values.entries (c.loop-i.invariant t h) (subst (λ n. n ≤ c.loop-i.i) (sym (length-map c.args.lines.now seen)) c.loop-i-test.false)
