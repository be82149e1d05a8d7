-- What is counted of a node, over what is counted of its parts.
use Rattle.std.specs.Prelude.{ℕ, ◌+◌, Bool, true, false, ◌||◌, List, Option, Some, None, slice_get, if◌then◌else◌}
use Rattle.c_tree.specs.Code.{one_if, is_saved}
use Rattle.c_tree.specs.declared.meaning.Place.{Place}
use Rattle.c_flat.specs.declared.node.Node.{Node}
use Rattle.c_flat.specs.declared.node.Node.TheVariants as node
use Rattle.c_count.specs.declared.size.TermSize.{TermSize}
use Rattle.c_count.specs.declared.size.TermsSize.{TermsSize}
use Rattle.c_count.specs.declared.size.CommandSize.{CommandSize}
use Rattle.c_count.specs.declared.size.Size.{Size}
use Rattle.c_count.specs.declared.size.Size.TheVariants as size

-- an expression that is a value before it is a condition
abbrev pub plain : Bool → (cells later marks : ℕ) → TermSize
plain call cells later marks = record {
  call = call;
  cells = cells;
  tested = cells;
  later_cells = later;
  later_tested = later;
  marks = marks;
  marks_when = marks;
  marks_unless = marks;
}

-- an expression that is a condition: as a value it has a step cell and a label more
abbrev pub condition : Bool → (tested later when unless : ℕ) → TermSize
condition call tested later when unless = record {
  call = call;
  cells = 1 + tested;
  tested = tested;
  later_cells = 1 + later;
  later_tested = later;
  marks = when + 1;
  marks_when = when;
  marks_unless = unless;
}

-- the step cells of what stands left of a part in which a call begins, or none does
abbrev pub before : Bool → (later now : ℕ) → ℕ
before call later now = if call then later else now

-- a scalar: a global one is saved where a call begins to its right
abbrev pub scalar_over : Place → TermSize
scalar_over p = plain false 0 (one_if (is_saved true p)) 0

-- an array's element, over its index
abbrev pub element_over : TermSize → TermSize
element_over x = plain x.call (x.cells + 1) (x.later_cells + 1) x.marks

-- a call, over its arguments
abbrev pub call_over : TermsSize → TermSize
call_over xs = plain true (xs.cells + 1) (xs.later_cells + 1) (xs.marks + 1)

-- an operator over one value
abbrev pub value_over : TermSize → TermSize
value_over x = plain x.call x.cells x.later_cells x.marks

-- an operator over two values
abbrev pub arithmetic_over : TermSize → TermSize → TermSize
arithmetic_over x y =
    plain (x.call || y.call) (before y.call x.later_cells x.cells + y.cells) (x.later_cells + y.later_cells) (x.marks + y.marks)

-- a comparison
abbrev pub compare_over : TermSize → TermSize → TermSize
compare_over x y =
    condition (x.call || y.call) (before y.call x.later_cells x.cells + y.cells) (x.later_cells + y.later_cells) (x.marks + y.marks) (x.marks + y.marks)

-- `!`
abbrev pub not_over : TermSize → TermSize
not_over x = condition x.call x.tested x.later_tested x.marks_unless x.marks_when

-- `&&`
abbrev pub and_over : TermSize → TermSize → TermSize
and_over x y =
    condition (x.call || y.call) (before y.call x.later_tested x.tested + y.tested) (x.later_tested + y.later_tested) (x.marks_unless + y.marks_when + 1) (x.marks_unless + y.marks_unless)

-- `||`
abbrev pub or_over : TermSize → TermSize → TermSize
or_over x y =
    condition (x.call || y.call) (before y.call x.later_tested x.tested + y.tested) (x.later_tested + y.later_tested) (x.marks_when + y.marks_when) (x.marks_when + y.marks_unless + 1)

-- no arguments
abbrev pub no_arguments : TermsSize
no_arguments = record { call = false; cells = 0; later_cells = 0; marks = 0 }

-- an argument, and those behind it
abbrev pub more_over : TermSize → TermsSize → TermsSize
more_over x xs = record {
  call = x.call || xs.call;
  cells = before xs.call x.later_cells x.cells + 1 + xs.cells;
  later_cells = x.later_cells + 1 + xs.later_cells;
  marks = x.marks + xs.marks;
}

-- so many step cells and labels
abbrev pub own : (cells marks : ℕ) → CommandSize
own cells marks = record { cells = cells; marks = marks }

-- two parts one behind the other, and what the command has itself
abbrev pub joined : CommandSize → CommandSize → (cells marks : ℕ) → CommandSize
joined x y cells marks = record { cells = x.cells + y.cells + cells; marks = x.marks + y.marks + marks }

-- an expression whose value is used
abbrev pub as_value : TermSize → CommandSize
as_value x = own x.cells x.marks

-- as a condition that goes on elsewhere where it holds
abbrev pub when_holds : TermSize → CommandSize
when_holds x = own x.tested x.marks_when

-- as a condition that goes on elsewhere where it fails
abbrev pub when_fails : TermSize → CommandSize
when_fails x = own x.tested x.marks_unless

-- a call for its effect
abbrev pub invoke_over : TermsSize → CommandSize
invoke_over xs = own xs.cells (xs.marks + 1)

-- what is counted of a part; a part of another sort counts as 0, as no arguments or as nothing to do
abbrev pub term_of : Option Size → TermSize
term_of (Some (size.Term x)) = x
term_of (Some (size.Arguments xs)) = plain false 0 0 0
term_of (Some (size.Command c)) = plain false 0 0 0
term_of None = plain false 0 0 0

-- the same of arguments
abbrev pub terms_of : Option Size → TermsSize
terms_of (Some (size.Term x)) = no_arguments
terms_of (Some (size.Arguments xs)) = xs
terms_of (Some (size.Command c)) = no_arguments
terms_of None = no_arguments

-- the same of a command
abbrev pub command_of : Option Size → CommandSize
command_of (Some (size.Term x)) = own 0 0
command_of (Some (size.Arguments xs)) = own 0 0
command_of (Some (size.Command c)) = c
command_of None = own 0 0

-- what is counted of the expression of this number
abbrev pub term_at : List Size → ℕ → TermSize
term_at sizes k = term_of (slice_get sizes k)

-- what is counted of the arguments of this number
abbrev pub terms_at : List Size → ℕ → TermsSize
terms_at sizes k = terms_of (slice_get sizes k)

-- what is counted of the command of this number
abbrev pub command_at : List Size → ℕ → CommandSize
command_at sizes k = command_of (slice_get sizes k)

-- what is counted of one node, over what is counted of the earlier ones
abbrev pub counted : Node → List Size → Size
counted (node.Number z) f = size.Term (plain false 0 0 0)
counted (node.Scalar p) f = size.Term (scalar_over p)
counted (node.Element p n i) f = size.Term (element_over (term_at f i))
counted node.Input f = size.Term (plain false 1 1 0)
counted (node.Call g xs) f = size.Term (call_over (terms_at f xs))
counted (node.Unary op x) f = size.Term (value_over (term_at f x))
counted (node.Shifted op x k) f = size.Term (value_over (term_at f x))
counted (node.Arithmetic op x y) f = size.Term (arithmetic_over (term_at f x) (term_at f y))
counted (node.Compare r x y) f = size.Term (compare_over (term_at f x) (term_at f y))
counted (node.Not x) f = size.Term (not_over (term_at f x))
counted (node.AndAlso x y) f = size.Term (and_over (term_at f x) (term_at f y))
counted (node.OrElse x y) f = size.Term (or_over (term_at f x) (term_at f y))
counted node.NoMore f = size.Arguments no_arguments
counted (node.More x xs) f = size.Arguments (more_over (term_at f x) (terms_at f xs))
counted node.Skip f = size.Command (own 0 0)
counted (node.Seq x y) f = size.Command (joined (command_at f x) (command_at f y) 0 0)
counted (node.Turn x) f = size.Command (command_at f x)
counted (node.Set p e) f = size.Command (as_value (term_at f e))
counted (node.Store p n i e) f = size.Command (joined (as_value (term_at f i)) (as_value (term_at f e)) 1 0)
counted (node.Change p n i op e) f = size.Command (joined (as_value (term_at f i)) (as_value (term_at f e)) 2 0)
counted (node.Print e) f = size.Command (as_value (term_at f e))
counted node.Take f = size.Command (own 1 0)
counted (node.Invoke g xs) f = size.Command (invoke_over (terms_at f xs))
counted (node.If e x) f = size.Command (joined (when_fails (term_at f e)) (command_at f x) 0 1)
counted (node.IfElse e x y) f = size.Command (joined (when_fails (term_at f e)) (joined (command_at f x) (command_at f y) 0 1) 0 1)
counted (node.While e x) f = size.Command (joined (when_fails (term_at f e)) (command_at f x) 0 2)
counted (node.Do x e) f = size.Command (joined (command_at f x) (when_holds (term_at f e)) 0 3)
counted (node.Forever st x) f = size.Command (joined (own 0 0) (joined (command_at f x) (command_at f st) 0 2) 0 1)
counted (node.For e st x) f = size.Command (joined (when_fails (term_at f e)) (joined (command_at f x) (command_at f st) 0 2) 0 1)
counted node.Break f = size.Command (own 0 0)
counted node.Continue f = size.Command (own 0 0)
counted node.Return f = size.Command (own 0 0)
counted (node.ReturnWith e) f = size.Command (as_value (term_at f e))
