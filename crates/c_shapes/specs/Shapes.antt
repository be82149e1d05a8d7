-- What a program declares: its global variables, and of each function all but its name and what it does.
use Rattle.std.specs.Prelude.{ℕ, Bool, true, false, List, ◌++◌, length, map, replicate, None}
use Rattle.c_tree.specs.declared.program.GVar.{GVar}
use Rattle.c_tree.specs.Items.{Definition, Item}
use Rattle.c_tree.specs.Names.{body_shapes, functions_in, gives_value, gvar_shape, is_main, parameters}
use Rattle.c_tree.specs.Program.{Shape, Function, GlobalVariable}
use Rattle.c_tree.specs.Resolve.{body_of, ends_with_return, initials, named_main}
use Rattle.c_tree.specs.Statement.{Statement, Return}
use Rattle.c_shapes.specs.declared.variables.Variable.{Variable}
use Rattle.c_shapes.specs.declared.functions.Declared.{Declared}

-- a global variable, as it is written
abbrev pub variable_of : GVar → GlobalVariable
variable_of v = record { shape = gvar_shape v; initial = initials v }

-- a global variable, as it was read
abbrev pub variable_shown : Variable → GlobalVariable
variable_shown v = record { shape = v.length; initial = v.initial.items }

-- what is declared of a function: whether it is called `main`, how many parameters it has, whether it gives a value, whether the last thing in its
-- body is a `return`, and its parameters and then its locals in the text's order
pub record Outline : Type 0 where
  pub main : Bool
  pub arity : ℕ
  pub gives : Bool
  pub returns : Bool
  pub variables : List Shape

-- of a function whose names are resolved
abbrev pub declared : Function → Outline
declared f = record { main = named_main f; arity = f.arity; gives = f.gives; returns = f.returns; variables = f.variables }

-- of a function, as it was read
abbrev pub declared_shown : Declared → Outline
declared_shown d = record { main = d.main; arity = d.arity; gives = d.gives; returns = d.returns; variables = d.variables.items }

-- of a function, as it is written: what names mean has no part in it
abbrev pub outlined : Definition → Outline
outlined f = record {
  main = is_main f;
  arity = length (parameters f.params);
  gives = gives_value f.result;
  returns = ends_with_return (body_of f.braces);
  variables = replicate (length (parameters f.params)) None ++ body_shapes (body_of f.braces);
}

-- the functions of these globals, as they are written
abbrev pub outlines : List Item → List Outline
outlines gs = map outlined (functions_in gs)

-- the statement is a `return`
abbrev pub returns_at_once : Statement → Bool
returns_at_once (Return at e semicolon) = true
returns_at_once _ = false
