use Rattle.std.proofs.Common.{◌∙◌, ◌++◌, ap}
use Rattle.disasm_tool.proofs.FieldTexts.{instruction_text}
use Rattle.disasm_tool.proofs.LineSteps.{on_ok}
use Rattle.disasm_tool.proofs.instructions.push_instruction.Goals as goal

pub returns : goal.returns
returns c =
    on_ok _ _ (λ same x is. same ∙ ap (λ s. c.args.out.now ++ s) (instruction_text c.args.g.now c.args.i c.args.syntaxes.now c.syntax_at-syntax.result.now c.fields.result x c.requires.syntaxes c.syntax_at-syntax.ensures is (c.fields.ensures x is)))
    c.push_syntax.result c.push_syntax.ensures
