use Rattle.std.proofs.Common.{◌≡◌, ◌++◌, map, drop}
use Rattle.shape_list.specs.declared.text.Glyph.TheVariants as glyph
use Rattle.shape_list.proofs.text.push_letters.Given as goal

abbrev pub invariant-loop-c : goal.invariant-loop-c
invariant-loop-c l = l.out.items ++ map glyph.Letter (drop l.c-index l.text) ≡ l.fn.out.items ++ map glyph.Letter l.text
