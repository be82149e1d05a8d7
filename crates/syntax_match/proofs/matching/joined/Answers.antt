use Rattle.std.proofs.Common.{◌∙◌, ap, sym, length}
use Rattle.syntax_match.proofs.Steps.{other_length}
use Rattle.syntax_match.proofs.matching.joined.Goals as goal

pub returns-then-template-tokens : goal.returns-then-template-tokens
returns-then-template-tokens c =
    sym (other_length _ _ _ _ (λ same. c.if-template-tokens.true (ap length c.as_slice-template.ensures.value ∙ same)))
