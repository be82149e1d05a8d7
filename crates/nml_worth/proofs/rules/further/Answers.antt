use Rattle.nml_worth.proofs.Alternatives.{alternative_at}
use Rattle.nml_worth.proofs.rules.further.Goals as goal

pub of_alternative-requires : goal.of_alternative-requires
of_alternative-requires c = alternative_at c.args.names.now c.args.worths.now c.args.rest.now c.loop-i.i c.index-rest-i.result c.requires c.loop-i-test.true c.loop-i.auto.i
