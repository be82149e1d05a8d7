-- What is counted of a node, over what is counted of its parts.
use Rattle.std.specs.Prelude.{ℕ, ◌+◌, max, Bool, true, false, ◌||◌, List, Option, Some, None, slice_get, if◌then◌else◌}
use Rattle.c_tree.specs.Code.{one_if, is_saved}
use Rattle.c_tree.specs.declared.meaning.Place.{Place}
use Rattle.c_counted.specs.Counted.{shifted_nodes}
use Rattle.c_flat.specs.declared.node.Node.{Node}
use Rattle.c_flat.specs.declared.node.Node.TheVariants as node
use Rattle.c_tally.specs.declared.tally.TermTally.{TermTally}
use Rattle.c_tally.specs.declared.tally.ArgumentsTally.{ArgumentsTally}
use Rattle.c_tally.specs.declared.tally.CommandTally.{CommandTally}
use Rattle.c_tally.specs.declared.tally.Tally.{Tally}
use Rattle.c_tally.specs.declared.tally.Tally.TheVariants as tally

-- an expression that is a value before it is a condition: what is left of it is then compared with 0
abbrev pub plain : Bool → (left now later calls : ℕ) → TermTally
plain call left now later calls = record {
  call = call;
  left = left;
  largest = now;
  tested = max now (left + 1);
  later_largest = later;
  later_tested = max later (left + 1);
  calls = calls;
}

-- an expression that is a condition: of its value a cell is left
abbrev pub condition : Bool → (now later calls : ℕ) → TermTally
condition call now later calls = record {
  call = call;
  left = 1;
  largest = now;
  tested = now;
  later_largest = later;
  later_tested = later;
  calls = calls;
}

-- what is counted of what stands left of a part in which a call begins, or none does
abbrev pub before : Bool → (later now : ℕ) → ℕ
before call later now = if call then later else now

-- a scalar: a global one is saved where a call begins to its right
abbrev pub scalar_over : Place → TermTally
scalar_over p = plain false 1 0 (one_if (is_saved true p)) 0

-- an array's element, over its index
abbrev pub element_over : TermTally → TermTally
element_over x = plain x.call 1 (max (max x.largest x.left) 4) (max (max x.later_largest x.left) 4) x.calls

-- a call, over its arguments
abbrev pub call_over : ArgumentsTally → TermTally
call_over xs = plain true 1 (max xs.largest 1) (max xs.later_largest 1) (xs.calls + 1)

-- `-` or `~` over a value
abbrev pub prefixed_over : TermTally → TermTally
prefixed_over x = plain x.call (1 + x.left) x.largest x.later_largest x.calls

-- a shift of a value
abbrev pub shifted_over : (by : ℕ) → TermTally → TermTally
shifted_over by x = plain x.call (shifted_nodes by x.left) x.largest x.later_largest x.calls

-- an operator over two values
abbrev pub arithmetic_over : TermTally → TermTally → TermTally
arithmetic_over x y =
    plain (x.call || y.call) (1 + x.left + y.left) (max (before y.call x.later_largest x.largest) y.largest) (max x.later_largest y.later_largest) (x.calls + y.calls)

-- a comparison
abbrev pub compare_over : TermTally → TermTally → TermTally
compare_over x y =
    condition (x.call || y.call) (max (max (before y.call x.later_largest x.largest) y.largest) (x.left + y.left)) (max (max x.later_largest y.later_largest) (x.left + y.left)) (x.calls + y.calls)

-- `!`
abbrev pub not_over : TermTally → TermTally
not_over x = condition x.call x.tested x.later_tested x.calls

-- `&&` or `||`
abbrev pub two_over : TermTally → TermTally → TermTally
two_over x y =
    condition (x.call || y.call) (max (before y.call x.later_tested x.tested) y.tested) (max x.later_tested y.later_tested) (x.calls + y.calls)

-- no arguments
abbrev pub no_arguments : ArgumentsTally
no_arguments = record { call = false; largest = 0; later_largest = 0; calls = 0 }

-- an argument, and those behind it
abbrev pub more_over : TermTally → ArgumentsTally → ArgumentsTally
more_over x xs = record {
  call = x.call || xs.call;
  largest = max (max (before xs.call x.later_largest x.largest) x.left) xs.largest;
  later_largest = max (max x.later_largest x.left) xs.later_largest;
  calls = x.calls + xs.calls;
}

-- a largest statement of so many nodes wherever the command stands, and so many calls
abbrev pub own : (nodes calls : ℕ) → CommandTally
own nodes calls = record { in_main = nodes; elsewhere = nodes; calls = calls }

-- two parts
abbrev pub joined : CommandTally → CommandTally → CommandTally
joined x y = record { in_main = max x.in_main y.in_main; elsewhere = max x.elsewhere y.elsewhere; calls = x.calls + y.calls }

-- an expression whose value stands in a statement with so many other nodes
abbrev pub used : (others : ℕ) → TermTally → CommandTally
used others x = own (max x.largest (others + x.left)) x.calls

-- an expression as a condition
abbrev pub tested : TermTally → CommandTally
tested x = own x.tested x.calls

-- a call for its effect
abbrev pub invoke_over : ArgumentsTally → CommandTally
invoke_over xs = own (max xs.largest 1) (xs.calls + 1)

-- `return` with a value, which in `main` is dropped
abbrev pub returned_over : TermTally → CommandTally
returned_over x = record { in_main = x.largest; elsewhere = max x.largest x.left; calls = x.calls }

-- what is counted of a part; a part of another sort counts as 0, as no arguments or as nothing to do
abbrev pub term_of : Option Tally → TermTally
term_of (Some (tally.Term x)) = x
term_of (Some (tally.Arguments xs)) = plain false 1 0 0 0
term_of (Some (tally.Command c)) = plain false 1 0 0 0
term_of None = plain false 1 0 0 0

-- the same of arguments
abbrev pub terms_of : Option Tally → ArgumentsTally
terms_of (Some (tally.Term x)) = no_arguments
terms_of (Some (tally.Arguments xs)) = xs
terms_of (Some (tally.Command c)) = no_arguments
terms_of None = no_arguments

-- the same of a command
abbrev pub command_of : Option Tally → CommandTally
command_of (Some (tally.Term x)) = own 0 0
command_of (Some (tally.Arguments xs)) = own 0 0
command_of (Some (tally.Command c)) = c
command_of None = own 0 0

-- what is counted of the expression of this number
abbrev pub term_at : List Tally → ℕ → TermTally
term_at tallies k = term_of (slice_get tallies k)

-- what is counted of the arguments of this number
abbrev pub terms_at : List Tally → ℕ → ArgumentsTally
terms_at tallies k = terms_of (slice_get tallies k)

-- what is counted of the command of this number
abbrev pub command_at : List Tally → ℕ → CommandTally
command_at tallies k = command_of (slice_get tallies k)

-- what is counted of one node, over what is counted of the earlier ones
abbrev pub counted : Node → List Tally → Tally
counted (node.Number z) f = tally.Term (plain false 1 0 0 0)
counted (node.Scalar p) f = tally.Term (scalar_over p)
counted (node.Element p n i) f = tally.Term (element_over (term_at f i))
counted node.Input f = tally.Term (plain false 1 1 1 0)
counted (node.Call g xs) f = tally.Term (call_over (terms_at f xs))
counted (node.Unary op x) f = tally.Term (prefixed_over (term_at f x))
counted (node.Shifted op x by) f = tally.Term (shifted_over by (term_at f x))
counted (node.Arithmetic op x y) f = tally.Term (arithmetic_over (term_at f x) (term_at f y))
counted (node.Compare r x y) f = tally.Term (compare_over (term_at f x) (term_at f y))
counted (node.Not x) f = tally.Term (not_over (term_at f x))
counted (node.AndAlso x y) f = tally.Term (two_over (term_at f x) (term_at f y))
counted (node.OrElse x y) f = tally.Term (two_over (term_at f x) (term_at f y))
counted node.NoMore f = tally.Arguments no_arguments
counted (node.More x xs) f = tally.Arguments (more_over (term_at f x) (terms_at f xs))
counted node.Skip f = tally.Command (own 0 0)
counted (node.Seq x y) f = tally.Command (joined (command_at f x) (command_at f y))
counted (node.Turn x) f = tally.Command (command_at f x)
counted (node.Set p e) f = tally.Command (used 0 (term_at f e))
counted (node.Store p n i e) f = tally.Command (joined (used 0 (term_at f i)) (used 3 (term_at f e)))
counted (node.Change p n i op e) f = tally.Command (joined (used 0 (term_at f i)) (used 5 (term_at f e)))
counted (node.Print e) f = tally.Command (used 0 (term_at f e))
counted node.Take f = tally.Command (own 1 0)
counted (node.Invoke g xs) f = tally.Command (invoke_over (terms_at f xs))
counted (node.If e x) f = tally.Command (joined (tested (term_at f e)) (command_at f x))
counted (node.IfElse e x y) f = tally.Command (joined (tested (term_at f e)) (joined (command_at f x) (command_at f y)))
counted (node.While e x) f = tally.Command (joined (tested (term_at f e)) (command_at f x))
counted (node.Do x e) f = tally.Command (joined (tested (term_at f e)) (command_at f x))
counted (node.Forever st x) f = tally.Command (joined (command_at f x) (command_at f st))
counted (node.For e st x) f = tally.Command (joined (tested (term_at f e)) (joined (command_at f x) (command_at f st)))
counted node.Break f = tally.Command (own 0 0)
counted node.Continue f = tally.Command (own 0 0)
counted node.Return f = tally.Command (own 0 0)
counted (node.ReturnWith e) f = tally.Command (returned_over (term_at f e))
