use Rattle.asm_source.specs.FirstLine.{is_no_feed}
use Rattle.asm_source.proofs.LineFronts.{longest, feed_first, no_feed_left}
use Rattle.asm_source.proofs.first.first_line.Goals as goal

pub returns-in-Some : goal.returns-in-Some
returns-in-Some c =
    feed_first c.args.text.now c.split_at.result.0.now c.split_at.result.1.now c.in-Some.field-0-0.now c.in-Some.more
    (rw (c.split_at.ensures.front, c.split_at.ensures.back, c.line_len.ensures.value) (longest is_no_feed c.args.text.now))
    c.in-Some.ensures.cases.0

pub returns-in-None : goal.returns-in-None
returns-in-None c =
    no_feed_left c.args.text.now c.split_at.result.0.now c.split_at.result.1.now
    (rw (c.split_at.ensures.front, c.split_at.ensures.back, c.line_len.ensures.value) (longest is_no_feed c.args.text.now))
    c.in-None.ensures.cases
