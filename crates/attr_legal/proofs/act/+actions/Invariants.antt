use Rattle.std.proofs.Common.{◌≡◌, ◌*◌, ◌+◌, ◌≤◌, [], ℕ, ℤ, List, drop}
use Rattle.nml_tree.specs.Block.{Done, block, stmt}
use Rattle.nml_tree.specs.Depth.{block_depth}
use Rattle.nml_tree.specs.Derivation.{Arguments, Derivation}
use Rattle.nml_tree.specs.Table.{Rule, entries, pars_of}
use Rattle.nml_widths.specs.Fitting.{Each}
use Rattle.attr_legal.specs.Asked.{Here, SoundIn, asked_measure, weight}
use Rattle.attr_legal.specs.Nested.{deepest_action}
use Rattle.attr_legal.specs.Tally.{together}
use Rattle.attr_legal.proofs.act.+actions.Given as goal

abbrev pub decreases-weigh : goal.decreases-weigh
decreases-weigh l = asked_measure (2 * deepest_action (entries [] l.items.now) + 5) l.ask + 1

abbrev pub decreases-rule_action : goal.decreases-rule_action
decreases-rule_action l = asked_measure (2 * deepest_action (entries [] l.items.now) + 5) l.ask + l.limit * (2 * deepest_action (entries [] l.items.now) + 5)

abbrev pub decreases-part_action : goal.decreases-part_action
decreases-part_action l = asked_measure (2 * deepest_action (entries [] l.items.now) + 5) l.ask + l.limit * (2 * deepest_action (entries [] l.items.now) + 5) + 1

abbrev pub decreases-assignment : goal.decreases-assignment
decreases-assignment l = asked_measure (2 * deepest_action (entries [] l.items.now) + 5) l.ask + l.limit * (2 * deepest_action (entries [] l.items.now) + 5) + 2

abbrev pub decreases-taken_by : goal.decreases-taken_by
decreases-taken_by l = asked_measure (2 * deepest_action (entries [] l.items.now) + 5) l.ask + l.limit * (2 * deepest_action (entries [] l.items.now) + 5) + 2

abbrev pub decreases-statement : goal.decreases-statement
decreases-statement l = asked_measure (2 * deepest_action (entries [] l.items.now) + 5) l.ask + l.limit * (2 * deepest_action (entries [] l.items.now) + 5) + 2 * block_depth (stmt l.one.now Done) + 1

abbrev pub decreases-statements : goal.decreases-statements
decreases-statements l = asked_measure (2 * deepest_action (entries [] l.items.now) + 5) l.ask + l.limit * (2 * deepest_action (entries [] l.items.now) + 5) + 2 * block_depth (block l.list.now) + 2

abbrev pub invariant-statements-loop-one : goal.invariant-statements-loop-one
invariant-statements-loop-one l =
    (args : Arguments) (ks : List ℕ) (ys : List ℤ) (n : ℕ) (zs : List ℤ) (x : Derivation) (rule : Rule) → Here (entries [] l.items) (pars_of l.pars) l.limit args l.picks l.fields ks ys n zs x l.ask → Each (SoundIn (entries [] l.items) rule args n zs) (block l.list)
    → Each (SoundIn (entries [] l.items) rule args n zs) (block (drop l.one-index l.list)) × (together l.sum (weight (entries [] l.items) args n zs x l.ask (block (drop l.one-index l.list))) ≡ weight (entries [] l.items) args n zs x l.ask (block l.list)) × (l.sum ≤ 2)
