use Rattle.std.proofs.Common.{sym, ap, ◌∙◌}
use Rattle.std.specs.List.{list_all}
use Rattle.asm_lines.specs.Seen.{seen_content}
use Rattle.asm_text.specs.Refused as refused
use Rattle.asm_text.specs.Refused.{is_label}
use Rattle.asm_source.proofs.Knowing.{tokens_known}
use Rattle.asm_source.proofs.labels.are_known.Goals as goal

pub returns-in-Instruction : goal.returns-in-Instruction
returns-in-Instruction c =
    let labels = c.args.labels.now in
    c.have_labels.ensures ∙ ap (list_all (λ r. is_label labels r.name)) c.as_slice.ensures.value ∙ sym (tokens_known labels c.in-Instruction.tokens)
    ∙ ap (λ x. refused.are_known labels (seen_content x)) (sym c.in-Instruction.is)
