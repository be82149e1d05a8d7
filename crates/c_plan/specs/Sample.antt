-- What is left of programs without their functions' names, by computation.
use Rattle.std.specs.Prelude.{◌≡◌, refl, false, [], Some}
use Rattle.ir_core.specs.declared.operator.Arith.TheVariants as arith
use Rattle.c_tree.specs.Program.{Input, Number, Arithmetic, Skip, Seq, Turn, Print}
use Rattle.c_tree.specs.Resolve.{resolved_items}
use Rattle.c_tree.specs.Lowered.{lowered}
use Rattle.c_tree.specs.Texts.{echo, no_value}
use Rattle.c_plan.specs.Plan.{no_name, unnamed_program}

-- void main(void){ out(in()+1); }
echo_unnamed : unnamed_program (resolved_items echo) ≡ record {
  globals = [];
  main = Some (record {
    name = no_name;
    arity = 0;
    gives = false;
    variables = [];
    body = Seq (Turn (Print (Arithmetic arith.Add Input (Number 1)))) Skip;
    returns = false;
  });
  functions = [];
}
echo_unnamed = refl

-- int f(int a){ if (a) return 7; } int main(void){ out(f(1)); out(f(0)); return f(1) + 1; }
same_cells : (lowered (unnamed_program (resolved_items no_value)) 16).cells ≡ (lowered (resolved_items no_value) 16).cells
same_cells = refl
