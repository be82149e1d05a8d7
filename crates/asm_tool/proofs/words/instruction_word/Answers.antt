use Rattle.asm_lines.specs.Seen.{seen_tokens}
use Rattle.asm_text.specs.Source.{labels}
use Rattle.asm_tool.proofs.LineWords.{front_alone, no_items}
use Rattle.asm_tool.proofs.words.instruction_word.Goals as goal

pub returns-then-is_empty : goal.returns-then-is_empty
returns-then-is_empty c ls known =
    c.word_with.ensures (labels ls) (seen_tokens c.args.tokens.now) (rw c.deref.ensures.value (front_alone (labels ls) c.args.tokens.now c.requires (no_items _ (rw c.as_slice.ensures.value at c.if-is_empty.ensures))))

pub returns : goal.returns
returns c ls known = c.word_with-2.ensures (labels ls) (seen_tokens c.args.tokens.now) (rw c.deref-2.ensures.value (c.in_ok-pieces.ensures ls known c.requires))
