use Rattle.std.proofs.Common.{◌∙◌, arith}
use Rattle.attr_eval.proofs.Digits.{next}
use Rattle.attr_eval.proofs.run.push_low.Goals as goal

pub loop-rest-preserved : goal.loop-rest-preserved
loop-rest-preserved c = (next c.loop-rest.out c.push-out.result c.loop-rest.rest c.args.z (omega (arith, c.loop-rest-test.true)) c.push-out.ensures ∙ c.loop-rest.invariant.0, omega (arith, c.loop-rest.invariant.1))
