-- The quote stands behind the characters, or none does.
use Rattle.std.proofs.Common.{◌∙◌, refl, sym}
use Rattle.nml_lex.proofs.Lengths.{longest_string, longest_open, quote_at, no_quote_at}
use Rattle.nml_lex.proofs.word.string_length.Goals as goal

pub returns-then-eq : goal.returns-then-eq
returns-then-eq c =
    sym (longest_string c.args.behind.now c.quoted_run-letters.result c.quoted_run-letters.ensures
    (quote_at c.args.behind.now c.quoted_run-letters.result c.get.result _ refl c.get.ensures.lookup.3 (sym c.eq.ensures ∙ c.if-eq.true)))

pub returns-else-eq : goal.returns-else-eq
returns-else-eq c =
    sym (longest_open c.args.behind.now c.quoted_run-letters.result c.quoted_run-letters.ensures
    (no_quote_at c.args.behind.now c.quoted_run-letters.result c.get.result _ refl c.get.ensures.lookup.3 (sym c.eq.ensures ∙ c.if-eq.false)))
