use Rattle.std.proofs.Common.{◌≡◌, drop, map}
use Rattle.nml_words.specs.Span.{with_alternatives}
use Rattle.nml_words.specs.Words.{span_named}
use Rattle.nml_words.proofs.rules.or_span.Given as goal

abbrev pub invariant-loop-n : goal.invariant-loop-n
invariant-loop-n l = with_alternatives (span_named l.names l.spans) l.all (map (λ (bar, n). n.text) (drop l.n-index l.rest)) ≡ with_alternatives (span_named l.names l.spans) (span_named l.names l.spans l.first.text) (map (λ (bar, n). n.text) l.rest)
