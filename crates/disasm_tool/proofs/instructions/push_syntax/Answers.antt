use Rattle.std.proofs.Common.{refl}
use Rattle.shape_list.specs.declared.text.Glyph.TheVariants as glyph
use Rattle.disasm_tool.proofs.FieldTexts.{next_glyph}
use Rattle.disasm_tool.proofs.instructions.push_syntax.Goals as goal

pub loop-glyph-preserved : goal.loop-glyph-preserved
loop-glyph-preserved c =
    next_glyph c.args.numbers.now c.args.syntax.now c.loop-glyph.glyph-index (glyph.Letter 0) _ c.args.out.now c.loop-glyph.out c.push_glyph.new.out c.loop-glyph-test.true refl c.loop-glyph.invariant c.in_ok-push_glyph.ensures
