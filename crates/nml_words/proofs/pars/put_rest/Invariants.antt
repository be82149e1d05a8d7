use Rattle.std.proofs.Common.{drop, map}
use Rattle.nml_words.specs.Span.{AreGiven, par_spans}
use Rattle.nml_words.specs.Words.{par_span}
use Rattle.nml_words.proofs.pars.put_rest.Given as goal

-- the parameters from here on
abbrev pub invariant-loop-i : goal.invariant-loop-i
invariant-loop-i l = AreGiven l.given.entries (par_spans (par_span l.names l.spans) (map (λ (comma, p). p) (drop l.i l.rest)))
