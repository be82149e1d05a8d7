use Rattle.std.proofs.Common.{◌≡◌, ◌+◌, ◌*◌, [], ◌++◌, ℕ, ℤ, List}
use Rattle.nml_tree.specs.Table.{entries, pars_of}
use Rattle.nml_tree.specs.Derivation.{Arguments, picks_of, fields_of}
use Rattle.attr_eval.specs.Walks.{WalksAll, from}
use Rattle.attr_eval.proofs.skip.+skip.Given as goal

abbrev pub decreases-skip : goal.decreases-skip
decreases-skip l = 2 * l.limit

abbrev pub decreases-skip_pars : goal.decreases-skip_pars
decreases-skip_pars l = 2 * l.limit + 1

abbrev pub invariant-skip_pars-loop-i : goal.invariant-skip_pars-loop-i
invariant-skip_pars-loop-i l =
    (args : Arguments) (ks : List ℕ) (ys : List ℤ) → WalksAll (entries [] l.items) (pars_of l.pars) l.limit args l.fn.picks l.fn.fields ks ys → (l.picks ≡ picks_of (from l.i args) ++ ks) × (l.fields ≡ fields_of (from l.i args) ++ ys)
