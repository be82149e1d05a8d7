use Rattle.std.proofs.Common.{rules, ◌∙◌, ap}
use Rattle.std.specs.Prelude.{FitsSigned}
use Rattle.std.specs.Int.{w128}
use Rattle.std.proofs.lemmas.Int.{to_z-of_z}
use Rattle.nml_tree.specs.Value.{cell}
use Rattle.attr_exec.proofs.Top.{given_sizes, one_more, stepped_is}
use Rattle.attr_exec.proofs.finish.step.Goals as goal

pub returns-clause-same : goal.returns-clause-same
returns-clause-same c = given_sizes c.args.s.now c.give_cell.new.self c.args.pc _ c.give_cell.ensures

pub returns-clause-cells : goal.returns-clause-cells
returns-clause-cells c = λ t h same.
    let fit : FitsSigned w128 c.read-at.result = search rules in
    let fits : FitsSigned w128 c.binary.result = search rules in
    let z = one_more t c.args.s.now c.read-at.result c.binary.result h c.values_fit.ensures.cells (c.read-at.ensures ∙ ap (λ n. cell c.args.s.now.cells n 0) same) (rw (to_z-of_z w128 c.read-at.result fit) at c.binary.ensures) in
    stepped_is t c.args.s.now c.give_cell.new.self c.args.pc c.binary.result h same z (rw (to_z-of_z w128 c.binary.result fits) at c.give_cell.ensures)
