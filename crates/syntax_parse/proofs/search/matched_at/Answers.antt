use Rattle.std.proofs.Common.{◌∙◌, subst, sym}
use Rattle.std.proofs.lemmas.Option.{same_Some}
use Rattle.syntax_match.specs.Match.{HasNoMatch}
use Rattle.syntax_parse.proofs.search.matched_at.Goals as goal

pub matched-requires-clause-single : goal.matched-requires-clause-single
matched-requires-clause-single c = (c.requires.comparable c.args.shape c.shape_at.result.now c.shape_at.ensures).0

pub matched-requires-clause-full : goal.matched-requires-clause-full
matched-requires-clause-full c = (c.requires.comparable c.args.shape c.shape_at.result.now c.shape_at.ensures).1

pub returns-in-None : goal.returns-in-None
returns-in-None c = λ s at. subst (λ t. HasNoMatch t c.args.tokens.now) (same_Some _ _ (sym c.shape_at.ensures ∙ at)) c.in-None.ensures

pub returns-in-Some : goal.returns-in-Some
returns-in-Some c = record { shape = c.shape_at.result.now; stands = c.shape_at.ensures; is = c.in-Some.ensures }
