use Rattle.std.proofs.Common.{ℕ, List, IfOk, MatchOption, subst}
use Rattle.nml_tree.specs.declared.tree.Desc.{Desc}
use Rattle.nml_tree.specs.Reach.{CycleFault}
use Rattle.nml_tree.specs.Table.{table}
use Rattle.nml_names.specs.Below as below
use Rattle.graphs.specs.Graphs.{IsOrder}
use Rattle.nml_known.proofs.names.Names.order.Goals as goal

pub returns : goal.returns
returns c = subst (λ (d : Desc). IfOk c.rule_order.result (λ found. MatchOption found ((rule : List ℕ) × CycleFault (table d) rule) (λ order. IsOrder (below.graph d.items) order.items))) c.self.view_is c.rule_order.ensures
