use Rattle.std.proofs.Common.{rules, sym}
use Rattle.asm_lines.proofs.Held.{none_held, held_more, held_wrong}
use Rattle.asm_lines.proofs.Splits.{begins_behind, next_other}
use Rattle.asm_lines.proofs.instruction.references.Goals as goal

pub loop-behind-init : goal.loop-behind-init
loop-behind-init c = (none_held _ _ (search rules), c.requires)

pub returns-then-not-is_reference : goal.returns-then-not-is_reference
returns-then-not-is_reference c =
    held_wrong _ _ _ _ _ c.loop-behind.invariant.0
    (next_other _ _ _ _ _ _ c.loop-behind.invariant.1 c.in-Some.ensures.cases.0 c.plain_len.ensures.exact c.split_at.ensures.front c.split_at.ensures.back) (sym c.if-not-is_reference.ensures)

pub loop-behind-preserved : goal.loop-behind-preserved
loop-behind-preserved c = (
  held_more _ _ _ _ _ _ _ c.loop-behind.invariant.0
      (next_other _ _ _ _ _ _ c.loop-behind.invariant.1 c.in-Some.ensures.cases.0 c.plain_len.ensures.exact c.split_at.ensures.front c.split_at.ensures.back) (sym c.if-not-is_reference.ensures)
      c.in_ok-reference.ensures c.in_ok-push.ensures.items,
  begins_behind _ _ _ c.plain_len.ensures.exact c.split_at.ensures.back,
)
