-- What stands behind an opening bracket, where that is next.
use Rattle.std.proofs.Common.{map, ap, sym}
use Rattle.nml_grammar.specs.Reading.{climb}
use Rattle.readings.specs.Seen.{seen}
use Rattle.readings.proofs.Saying.{says_alike}
use Rattle.nml_grammar.specs.ReadingStatements as spec
use Rattle.nml_statement.proofs.statement.placed.Goals as goal

pub returns-in-Some-clause-says : goal.returns-in-Some-clause-says
returns-in-Some-clause-says c =
    says_alike _ _ _ _ _ _ (λ n. ap (λ o. spec.place (climb n) c.args.room c.args.name (map seen c.args.signs.now) o)
    (sym c.in-Some.ensures.behind)) c.indexed.ensures.says
