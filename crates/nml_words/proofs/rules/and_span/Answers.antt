use Rattle.std.proofs.Common.{◌≡◌, subst, IfOk}
use Rattle.nml_tree.specs.Table.{pars_of}
use Rattle.nml_words.specs.Span.{par_spans}
use Rattle.nml_words.specs.Words.{par_span}
use Rattle.nml_words.proofs.Maps.{same_text_span}
use Rattle.nml_words.proofs.rules.and_span.Goals as goal

pub returns : goal.returns
returns c =
    subst (λ z. IfOk c.text_span.result (λ s. s ≡ z))
    (same_text_span c.in_ok-given.given.entries (par_spans (par_span c.args.names.now c.args.spans.now) (pars_of c.args.pars.now)) c.args.image.now c.in_ok-given.ensures) c.text_span.ensures
