use Rattle.std.proofs.lemmas.Bool.{and_parts}
use Rattle.asm_lines.proofs.Runs.{short_numbers}
use Rattle.asm_lines.proofs.instruction.tokens.Goals as goal

pub push_tokens-requires : goal.push_tokens-requires
push_tokens-requires c = short_numbers c.args.text.now (and_parts _ _ c.requires).1
