use Rattle.std.proofs.Common.{◌≡◌, drop}
use Rattle.nml_tree.specs.Block.{block}
use Rattle.nml_names.specs.Tallies.{seen, tally, part_names}
use Rattle.nml_names.proofs.tally.+statements.Given as goal

abbrev pub invariant-add_statements-loop-one : goal.invariant-add_statements-loop-one
invariant-add_statements-loop-one l = tally (seen l.t) (part_names (block (drop l.one-index l.stmts))) ≡ tally (seen l.initial.t) (part_names (block l.stmts))
