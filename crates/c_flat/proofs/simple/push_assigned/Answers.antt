use Rattle.ir_core.specs.declared.operator.Arith.TheVariants as arith
use Rattle.c_flat.proofs.Assigned.{added, taken_off, changed_ok}
use Rattle.c_flat.proofs.simple.push_assigned.Goals as goal

pub returns-in_ok-sum-in-Add : goal.returns-in_ok-sum-in-Add
returns-in_ok-sum-in-Add c =
    rw c.in-Add.is (changed_ok c.args.nodes.now.items _ _ c.args.meaning _ arith.Add c.in-Add.field-0 c.args.value c.in_ok-sum-in-Add.sum c.scalar_assigned-in-Add.result c.push_node-in-Add.result (added c.args.meaning c.in-Add.field-0) c.in_ok-sum-in-Add.ensures c.scalar_assigned-in-Add.ensures.is c.push_node-in-Add.ensures)

pub returns-in_ok-difference-in-Sub : goal.returns-in_ok-difference-in-Sub
returns-in_ok-difference-in-Sub c =
    rw c.in-Sub.is (changed_ok c.args.nodes.now.items _ _ c.args.meaning _ arith.Sub c.in-Sub.field-0 c.args.value c.in_ok-difference-in-Sub.difference c.scalar_assigned-in-Sub.result c.push_node-in-Sub.result (taken_off c.args.meaning c.in-Sub.field-0) c.in_ok-difference-in-Sub.ensures c.scalar_assigned-in-Sub.ensures.is c.push_node-in-Sub.ensures)
