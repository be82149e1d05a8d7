use Rattle.std.proofs.Common.{◌≡◌, ◌++◌, drop, flat_map}
use Rattle.nml_tree.specs.SpellItems.{arg_spelling}
use Rattle.nml_tree.specs.Ended.{ended}
use Rattle.nml_tree.proofs.spell_attrs.push_args.Given as goal

abbrev pub invariant-loop-arg : goal.invariant-loop-arg
invariant-loop-arg l = l.text ++ ended (flat_map arg_spelling (drop l.arg-index l.args)) ≡ l.initial.text ++ ended (flat_map arg_spelling l.args)
