use Rattle.std.proofs.Common.{subst, sym}
use Rattle.asm_lines.specs.Seen.{others, AreReferences}
use Rattle.asm_lines.proofs.Held.{front_wrong, others_wrong, all_right}
use Rattle.asm_lines.proofs.Splits.{begins_behind}
use Rattle.asm_lines.proofs.instruction.instruction.Goals as goal

pub returns-then-not-are_tokens : goal.returns-then-not-are_tokens
returns-then-not-are_tokens c = front_wrong _ _ _ _ c.plain_len.ensures.exact c.split_at.ensures.front c.split_at.ensures.back (sym c.if-not-are_tokens.ensures)

pub references-requires : goal.references-requires
references-requires c = begins_behind _ _ _ c.plain_len.ensures.exact c.split_at.ensures.back

pub returns-in-None : goal.returns-in-None
returns-in-None c =
    others_wrong _ _ _ _ c.plain_len.ensures.exact c.split_at.ensures.front c.split_at.ensures.back (sym c.if-not-are_tokens.ensures)
    (subst (AreReferences (others c.split_at.result.1.now)) c.in-None.is c.in_ok-references.ensures)

pub returns-in-Some : goal.returns-in-Some
returns-in-Some c =
    all_right _ _ _ _ c.plain_len.ensures.exact c.split_at.ensures.front c.split_at.ensures.back _ _ (sym c.if-not-are_tokens.ensures) c.in_ok-front.ensures
    (subst (AreReferences (others c.split_at.result.1.now)) c.in-Some.is c.in_ok-references.ensures) c.content_of.ensures
