use Rattle.nml_worth.proofs.Passes.{Passed}
use Rattle.nml_worth.proofs.rules.rule_worths.Given as goal

-- what the rules are worth that stand before this place of the order
abbrev pub invariant-loop-p : goal.invariant-loop-p
invariant-loop-p l = Passed l.names l.order l.p l.worths.items
