use Rattle.std.proofs.Common.{◌^◌, ◌≤◌, ap, sym, ◌∙◌, subst}
use Rattle.image_file.proofs.Refusing as shift
use Rattle.asm_tool.proofs.Assembling.{limit_is}
use Rattle.asm_tool.proofs.tool.word_limit.Goals as goal

pub returns : goal.returns
returns c =
    shift.limit_is c.pc_bits.result (subst (λ n. n ≤ 16) (sym c.pc_bits.ensures) c.is_whole.ensures.pc_most)
    ∙ ap (λ n. 2 ^ n) c.pc_bits.ensures ∙ sym (limit_is c.args.g.now c.is_whole.ensures)
