use Rattle.std.proofs.Common.{◌≡◌, ◌++◌, drop, map}
use Rattle.c_tree.specs.Items.{item}
use Rattle.c_tree.specs.SpellGlobals.{spelling}
use Rattle.c_tree.specs.Ended.{ended}
use Rattle.c_tree.proofs.spell_global.push_globals.Given as goal

abbrev pub invariant-loop-one : goal.invariant-loop-one
invariant-loop-one l = l.text ++ ended (spelling (map item (drop l.one-index l.globals))) ≡ l.initial.text ++ ended (spelling (map item l.globals))
