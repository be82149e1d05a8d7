use Rattle.asm_lines.proofs.Splits.{empty_parts, next_part_is}
use Rattle.asm_lines.proofs.front.next_part.Goals as goal

pub returns-then-is_empty : goal.returns-then-is_empty
returns-then-is_empty c = empty_parts c.args.text.now _ c.without_blanks-text.ensures c.if-is_empty.ensures

pub returns : goal.returns
returns c = next_part_is c.args.text.now _ _ _ _ c.without_blanks-text.ensures c.if-is_empty.ensures c.part_len.ensures.exact c.split_at.ensures.front c.split_at.ensures.back
