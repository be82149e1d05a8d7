use Rattle.asm_lines.proofs.Held.{reference_tokens, reference_is}
use Rattle.asm_lines.proofs.instruction.reference.Goals as goal

pub tokens-requires : goal.tokens-requires
tokens-requires c = reference_tokens _ _ _ _ c.name_len.ensures.exact c.split_at.ensures.front c.split_at.ensures.back c.requires

pub returns : goal.returns
returns c = reference_is _ _ _ _ c.name_len.ensures.exact c.split_at.ensures.front c.split_at.ensures.back _ c.in_ok-name.ensures c.in_ok-behind.ensures
