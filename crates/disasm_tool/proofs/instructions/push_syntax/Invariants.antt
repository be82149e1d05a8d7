use Rattle.std.proofs.Common.{◌≡◌, ◌++◌, take}
use Rattle.disasm_tool.specs.Syntaxes.{with_fields}
use Rattle.disasm_tool.proofs.instructions.push_syntax.Given as goal

abbrev pub invariant-loop-glyph : goal.invariant-loop-glyph
invariant-loop-glyph l = l.out ≡ l.fn.out ++ with_fields l.numbers (take l.glyph-index l.syntax)
