use Rattle.std.proofs.Common.{◌∙◌, sym}
use Rattle.shape_table.proofs.Words.{least_from, none_from}
use Rattle.shape_table.proofs.image.overlap_image.Goals as goal

pub returns-then-words_meet : goal.returns-then-words_meet
returns-then-words_meet c = least_from c.args.a.now c.args.b.now (sym c.words_meet.ensures ∙ c.if-words_meet.true)

pub returns-else-words_meet : goal.returns-else-words_meet
returns-else-words_meet c = λ w p q. none_from c.args.a.now c.args.b.now w (sym c.words_meet.ensures ∙ c.if-words_meet.false) p q
