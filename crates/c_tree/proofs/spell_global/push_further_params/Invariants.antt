use Rattle.std.proofs.Common.{◌≡◌, ◌++◌, drop}
use Rattle.c_tree.specs.SpellGlobals.{further_params_spelling}
use Rattle.c_tree.specs.Ended.{ended}
use Rattle.c_tree.proofs.spell_global.push_further_params.Given as goal

abbrev pub invariant-loop-param : goal.invariant-loop-param
invariant-loop-param l = l.text ++ ended (further_params_spelling (drop l.param-index l.rest)) ≡ l.initial.text ++ ended (further_params_spelling l.rest)
