use Rattle.std.proofs.Common.{rules, ◌≡◌, ◌∙◌, sym, ap, subst, arith, ◌<◌, ◌≤◌, [], ◌∷◌, ◌++◌, false, true, length, map, drop, take, get_or, pos, Some, None, ℕ, ℤ, List, refl}
use Rattle.nml_tree.specs.Table.{declared, entries, entry, type_or_none}
use Rattle.nml_tree.specs.Uses.{declares}
use Rattle.nml_state.proofs.Lookups.{next_none, found_here, none_found}
use Rattle.nml_state.proofs.lookup.type_value.Given as goal

abbrev pub decreases-loop-before : goal.decreases-loop-before
decreases-loop-before l = length l.items

abbrev pub invariant-loop-before : goal.invariant-loop-before
invariant-loop-before l = type_or_none (entries [] l.items) l.e ≡ type_or_none (entries [] l.fn.items) l.fn.e
