-- The nodes of the largest statement of a node, and its calls.
use Rattle.std.specs.Prelude.{◌≡◌, ℕ, ◌<◌, true, false, List, length, Some, slice_get}
use Rattle.c_tree.specs.Program.{Term, Terms, Command}
use Rattle.c_tree.specs.Code.{has_call, have_call}
use Rattle.c_counted.specs.Counted.{left, largest, arguments_largest, command_largest, calls, arguments_calls, command_calls}
use Rattle.c_flat.specs.declared.node.Node.{Node}
use Rattle.c_flat.specs.Written.{Written, OfTerm, OfTerms, OfCommand, written}
use Rattle.c_tally.specs.declared.tally.TermTally.{TermTally}
use Rattle.c_tally.specs.declared.tally.ArgumentsTally.{ArgumentsTally}
use Rattle.c_tally.specs.declared.tally.CommandTally.{CommandTally}
use Rattle.c_tally.specs.declared.tally.Tally.{Tally}
use Rattle.c_tally.specs.declared.tally.Tally.TheVariants as tallies

-- of an expression
abbrev pub term_tally : Term → TermTally
term_tally t = record {
  call = has_call t;
  left = left t;
  largest = largest false true t;
  tested = largest false false t;
  later_largest = largest true true t;
  later_tested = largest true false t;
  calls = calls t;
}

-- of arguments
abbrev pub terms_tally : Terms → ArgumentsTally
terms_tally ts = record {
  call = have_call ts;
  largest = arguments_largest false ts;
  later_largest = arguments_largest true ts;
  calls = arguments_calls ts;
}

-- of a command
abbrev pub command_tally : Command → CommandTally
command_tally c = record { in_main = command_largest true c; elsewhere = command_largest false c; calls = command_calls c }

-- of what a node writes out
abbrev pub tallied : Written → Tally
tallied (OfTerm t) = tallies.Term (term_tally t)
tallied (OfTerms ts) = tallies.Arguments (terms_tally ts)
tallied (OfCommand c) = tallies.Command (command_tally c)

-- What is counted of each node, in the nodes' order.
pub record AreTallied (nodes : List Node) (counts : List Tally) : Type 0 where
  pub long : length counts ≡ length nodes
  pub each : (k : ℕ) → k < length nodes → slice_get counts k ≡ Some (tallied (written nodes k))
