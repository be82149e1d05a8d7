use Rattle.std.proofs.Common.{◌≡◌, ◌++◌, drop}
use Rattle.c_tree.specs.SpellGlobals.{further_snums_spelling}
use Rattle.c_tree.specs.Ended.{ended}
use Rattle.c_tree.proofs.spell_global.push_snums.Given as goal

abbrev pub invariant-loop-z : goal.invariant-loop-z
invariant-loop-z l = l.text ++ ended (further_snums_spelling (drop l.z-index l.rest)) ≡ l.initial.text ++ ended (further_snums_spelling l.rest)
