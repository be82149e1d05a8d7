use Rattle.std.proofs.Common.{◌≡◌, ◌+◌, ◌≤◌, drop, map}
use Rattle.asm_lines.specs.Seen.{seen}
use Rattle.asm_text.specs.Source.{count_words}
use Rattle.asm_source.proofs.count.word_count.Given as goal

abbrev pub invariant-loop-line : goal.invariant-loop-line
invariant-loop-line l =
    (l.count + count_words (map seen (drop l.line-index l.lines)) ≡ count_words (map seen l.lines)) × (l.count ≤ l.line-index)
