use Rattle.std.proofs.Common.{sym, subst, Option}
use Rattle.nml_tree.specs.declared.tree.Pars.{Pars}
use Rattle.nml_tree.specs.Table.{pars_of}
use Rattle.nml_words.specs.Span.{AreGiven, par_spans}
use Rattle.nml_words.specs.Words.{par_span}
use Rattle.nml_words.proofs.Maps.{first_given}
use Rattle.nml_words.proofs.pars.spans_of.Goals as goal

pub returns-in_ok-put-in-Some : goal.returns-in_ok-put-in-Some
returns-in_ok-put-in-Some c =
    subst (λ (o : Option Pars). AreGiven c.put.new.given.entries (par_spans (par_span c.args.names.now c.args.spans.now) (pars_of o))) (sym c.in-Some.is)
    (first_given (par_span c.args.names.now c.args.spans.now) c.in-Some.ps.first c.in-Some.ps.rest c.as_slice.result.now _ c.put.new.given.entries c.as_slice.ensures c.in_ok-put_rest-in-Some.ensures c.in_ok-put-in-Some.ensures)
