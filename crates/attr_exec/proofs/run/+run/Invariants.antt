use Rattle.std.proofs.Common.{◌≡◌, ◌*◌, ◌+◌, [], ℕ, ℤ, List, drop}
use Rattle.nml_tree.specs.Block as block
use Rattle.nml_tree.specs.Derivation.{Arguments}
use Rattle.nml_tree.specs.Depth.{block_depth}
use Rattle.nml_tree.specs.Table.{Rule, entries, pars_of}
use Rattle.nml_tree.specs.Written.{act, arguments}
use Rattle.attr_eval.specs.Walks.{WalksAll}
use Rattle.attr_exec.specs.Ran.{Same, ran, scene}
use Rattle.attr_exec.specs.Ready.{BlockSound, Ready, deepest_action}
use Rattle.attr_exec.proofs.run.+run.Given as goal

abbrev pub decreases-run : goal.decreases-run
decreases-run l = l.limit * (2 * deepest_action (entries [] l.items.now) + 4)

abbrev pub decreases-run_part : goal.decreases-run_part
decreases-run_part l = l.limit * (2 * deepest_action (entries [] l.items.now) + 4) + 1

abbrev pub decreases-run_one : goal.decreases-run_one
decreases-run_one l = l.limit * (2 * deepest_action (entries [] l.items.now) + 4) + 2 * block_depth (block.stmt l.stmt.now block.Done) + 1

abbrev pub decreases-run_block : goal.decreases-run_block
decreases-run_block l = l.limit * (2 * deepest_action (entries [] l.items.now) + 4) + 2 * block_depth (block.block l.stmts.now) + 2

abbrev pub invariant-run_block-loop-stmt : goal.invariant-run_block-loop-stmt
invariant-run_block-loop-stmt l =
    Same l.fn.s l.s
    × ((args : Arguments) (ks : List ℕ) (ys : List ℤ) (n : ℕ) (zs : List ℤ) (rule : Rule) → WalksAll (entries [] l.items) (pars_of l.pars) l.limit args l.picks l.fields ks ys → drop n zs ≡ l.fields → Ready (entries [] l.items) l.next l.fn.s
    → BlockSound (entries [] l.items) rule (arguments (entries [] l.items) n args) zs (block.block l.stmts)
    → (ran l.out zs l.next (act (entries [] l.items) (arguments (entries [] l.items) n args) (block.block (drop l.stmt-index l.stmts))) (scene l.s l.done) ≡ ran l.out zs l.next (act (entries [] l.items) (arguments (entries [] l.items) n args) (block.block l.stmts)) (scene l.fn.s l.fn.done))
    × BlockSound (entries [] l.items) rule (arguments (entries [] l.items) n args) zs (block.block (drop l.stmt-index l.stmts)))
