-- A plan of a program: it has all of the program but the names of its functions and the numbers of their parameters.
use Rattle.std.specs.Prelude.{◌≡◌, ◌<◌, List, [], map, length, option_map, IfSome, All}
use Rattle.c_tree.specs.declared.names.Name.{Name}
use Rattle.c_tree.specs.Program.{Function, Program}
use Rattle.c_flat.specs.declared.node.Node.{Node}
use Rattle.c_flat.specs.Written.{Falls}
use Rattle.c_flat.specs.Sorts.{command_at}
use Rattle.c_shapes.specs.Shapes.{variable_shown}
use Rattle.c_count.specs.Sized.{AreCounted}
use Rattle.c_plan.specs.declared.routine.Routine.{Routine}
use Rattle.c_plan.specs.declared.plan.Plan.{Plan}

-- no name
abbrev pub no_name : Name
no_name = record { at = 0; text = [] }

-- a function without its name and the number of its parameters, which its statements don't depend on
abbrev pub unnamed : Function → Function
unnamed f = record f { name = no_name; arity = 0 }

-- a program whose functions have no names
abbrev pub unnamed_program : Program → Program
unnamed_program p = record p { main = option_map unnamed p.main; functions = map unnamed p.functions }

-- a function of a plan with these nodes
abbrev pub routine_shown : List Node → Routine → Function
routine_shown nodes r = record {
  name = no_name;
  arity = 0;
  gives = r.gives;
  variables = r.variables.items;
  body = command_at nodes r.body;
  returns = r.returns;
}

-- the program of a plan
abbrev pub plan_shown : Plan → Program
plan_shown plan = record {
  globals = map variable_shown plan.variables.items;
  main = option_map (routine_shown plan.nodes.items) plan.main;
  functions = map (routine_shown plan.nodes.items) plan.others.items;
}

-- The plan is of this program: what it shows is the program without names, its nodes name earlier ones, each node is counted, and the body of
-- each function is one of them.
pub record IsPlan (plan : Plan) (p : Program) : Type 0 where
  pub shown : plan_shown plan ≡ unnamed_program p
  pub falls : Falls plan.nodes.items
  pub counted : AreCounted plan.nodes.items plan.sizes.items
  pub main_within : IfSome plan.main (λ r. r.body < length plan.nodes.items)
  pub within : All (λ r. r.body < length plan.nodes.items) plan.others.items
