use Rattle.std.proofs.Common.{rules, ap, ◌∙◌, ◌∷◌, ◌++◌, [], FitsSigned}
use Rattle.std.specs.Int.{w64}
use Rattle.std.proofs.lemmas.Int.{to_z-of_z}
use Rattle.c_eval.proofs.Values.{value_in, values_more}
use Rattle.c_eval.proofs.start.push_values.Goals as goal

pub initial_value-requires : goal.initial_value-requires
initial_value-requires c = value_in c.args.rest.now c.loop-one.one-index _ c.loop-one-test.true c.requires

pub loop-one-preserved : goal.loop-one-preserved
loop-one-preserved c =
    let fits : FitsSigned w64 c.initial_value.result = search rules in
    values_more c.args.rest.now c.loop-one.one-index _ c.loop-one.memory.items _ _ c.loop-one-test.true c.loop-one.invariant
    (c.in_ok-push.ensures.items ∙ ap (λ v. c.loop-one.memory.items ++ v ∷ []) (to_z-of_z w64 c.initial_value.result fits ∙ c.initial_value.ensures))
