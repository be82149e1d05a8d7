use Rattle.std.proofs.Common.{◌≡◌, ◌++◌, drop, flat_map}
use Rattle.nml_tree.specs.SpellItems.{further_par_spelling}
use Rattle.nml_tree.specs.Ended.{ended}
use Rattle.nml_tree.proofs.spell_item.push_further_pars.Given as goal

abbrev pub invariant-loop-par : goal.invariant-loop-par
invariant-loop-par l = l.text ++ ended (flat_map further_par_spelling (drop l.par-index l.pars)) ≡ l.initial.text ++ ended (flat_map further_par_spelling l.pars)
