use Rattle.std.proofs.Common.{◌≡◌, ◌++◌, drop}
use Rattle.c_tree.specs.SpellGlobals.{further_gvars_spelling}
use Rattle.c_tree.specs.Ended.{ended}
use Rattle.c_tree.proofs.spell_global.push_gvars.Given as goal

abbrev pub invariant-loop-one : goal.invariant-loop-one
invariant-loop-one l = l.text ++ ended (further_gvars_spelling (drop l.one-index l.rest)) ≡ l.initial.text ++ ended (further_gvars_spelling l.rest)
