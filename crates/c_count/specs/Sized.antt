-- How many step cells and labels the statements of a node have.
use Rattle.std.specs.Prelude.{◌≡◌, ℕ, ◌<◌, true, false, List, length, Some, slice_get}
use Rattle.c_tree.specs.Program.{Term, Terms, Command}
use Rattle.c_tree.specs.Code.{has_call, have_call, cells, argument_cells, marks, argument_marks, AsValue, IfHolds, IfFails}
use Rattle.c_tree.specs.Lowered.{command_cells, command_marks}
use Rattle.c_flat.specs.declared.node.Node.{Node}
use Rattle.c_flat.specs.Written.{Written, OfTerm, OfTerms, OfCommand, written}
use Rattle.c_count.specs.declared.size.TermSize.{TermSize}
use Rattle.c_count.specs.declared.size.TermsSize.{TermsSize}
use Rattle.c_count.specs.declared.size.CommandSize.{CommandSize}
use Rattle.c_count.specs.declared.size.Size.{Size}
use Rattle.c_count.specs.declared.size.Size.TheVariants as sizes

-- of an expression
abbrev pub term_size : Term → TermSize
term_size t = record {
  call = has_call t;
  cells = cells false true t;
  tested = cells false false t;
  later_cells = cells true true t;
  later_tested = cells true false t;
  marks = marks AsValue t;
  marks_when = marks IfHolds t;
  marks_unless = marks IfFails t;
}

-- of arguments
abbrev pub terms_size : Terms → TermsSize
terms_size ts = record {
  call = have_call ts;
  cells = argument_cells false ts;
  later_cells = argument_cells true ts;
  marks = argument_marks ts;
}

-- of a command
abbrev pub command_size : Command → CommandSize
command_size c = record { cells = command_cells c; marks = command_marks c }

-- of what a node writes out
abbrev pub sized : Written → Size
sized (OfTerm t) = sizes.Term (term_size t)
sized (OfTerms ts) = sizes.Arguments (terms_size ts)
sized (OfCommand c) = sizes.Command (command_size c)

-- What is counted of each node, in the nodes' order.
pub record AreCounted (nodes : List Node) (sizes : List Size) : Type 0 where
  pub long : length sizes ≡ length nodes
  pub each : (k : ℕ) → k < length nodes → slice_get sizes k ≡ Some (sized (written nodes k))
