-- A bracket is behind the name.
use Rattle.std.proofs.Common.{ap, map, sym}
use Rattle.readings.specs.Seen.{seen}
use Rattle.readings.proofs.Saying.{says_alike}
use Rattle.c_grammar.specs.Globals.{global_array, global_behind, global_from}
use Rattle.c_read.proofs.variables.variable_behind.Goals as goal

pub returns-in-Some-clause-says : goal.returns-in-Some-clause-says
returns-in-Some-clause-says c =
    says_alike _ _ (global_array c.args.name c.in-Some.opening) (global_behind c.args.name) _ _
    (λ n. ap (global_from c.args.name n (map seen c.args.signs.now)) (sym c.in-Some.ensures.behind)) c.array.ensures.says
