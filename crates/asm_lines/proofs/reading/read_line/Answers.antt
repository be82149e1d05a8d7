use Rattle.std.proofs.Common.{◌∙◌, ap, sym, subst}
use Rattle.asm_lines.specs.Line.{content, without_blanks}
use Rattle.asm_lines.specs.Seen.{IsContent}
use Rattle.asm_lines.proofs.Labeled.{line_is}
use Rattle.asm_lines.proofs.reading.read_line.Goals as goal

pub returns : goal.returns
returns c =
    let behind = c.without_blanks.ensures ∙ ap without_blanks c.behind_first.ensures in
    line_is c.args.width c.args.line.now c.without_blanks-text.result.now c.split_at.result.0.now c.split_at.result.1.now c.name_len.result
    (c.without_blanks-text.ensures ∙ ap without_blanks c.without_comment.ensures) c.name_len.ensures.exact c.split_at.ensures.front c.split_at.ensures.back
    (sym c.if-not-begins_name.ensures) (sym c.if-not-begins_with.ensures) (sym c.if-not-is_name.ensures) _ _ _ c.in_ok-label.ensures
    (subst (λ ts. IsContent c.in_ok-content-2.content (content c.args.width ts)) behind c.in_ok-content-2.ensures) c.with_label-2.ensures
