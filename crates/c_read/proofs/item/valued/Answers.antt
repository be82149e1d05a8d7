-- A parenthesis is behind the name, or none is.
use Rattle.std.proofs.Common.{ap, map, sym}
use Rattle.readings.specs.Seen.{seen}
use Rattle.readings.proofs.Saying.{says_alike, says_later}
use Rattle.c_grammar.specs.Words.{name}
use Rattle.c_grammar.specs.Programs as spec
use Rattle.c_read.proofs.item.valued.Goals as goal

pub returns-in-Some-clause-says : goal.returns-in-Some-clause-says
returns-in-Some-clause-says c =
    says_later _ _ name _ _ _ (λ n x s. spec.valued spec.block_room c.args.at x n s) c.in_ok-name.ensures.says
    (says_alike _ _ _ (spec.valued spec.block_room c.args.at c.in_ok-name.name) _ _
    (λ n. ap (spec.valued_from spec.block_room c.args.at c.in_ok-name.name n (map seen c.in_ok-name.rest.now)) (sym c.in-Some.ensures.behind)) c.function.ensures.says)

pub returns-in-None-clause-says : goal.returns-in-None-clause-says
returns-in-None-clause-says c =
    says_later _ _ name _ _ _ (λ n x s. spec.valued spec.block_room c.args.at x n s) c.in_ok-name.ensures.says
    (says_alike _ _ _ (spec.valued spec.block_room c.args.at c.in_ok-name.name) _ _
    (λ n. ap (spec.valued_from spec.block_room c.args.at c.in_ok-name.name n (map seen c.in_ok-name.rest.now)) (sym c.in-None.ensures.behind)) c.variables.ensures.says)
