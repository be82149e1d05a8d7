use Rattle.shape_list.specs.declared.text.Glyph.TheVariants as glyph
use Rattle.shape_list.proofs.Shaped.{glyph_short}
use Rattle.shape_list.proofs.shape.template.Goals as goal

pub push_glyph-requires : goal.push_glyph-requires
push_glyph-requires c = glyph_short c.loop-g.letters c.args.syntax.now c.loop-g.g-index (glyph.Letter 0) c.loop-g-test.true c.loop-g.invariant.1
