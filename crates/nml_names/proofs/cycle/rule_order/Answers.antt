use Rattle.std.proofs.Common.{◌∙◌, sym, subst, ℕ, IfOk, MatchOption}
use Rattle.graphs.specs.Graphs.{InRange, IsOrder, Reaches}
use Rattle.nml_names.specs.Below.{graph}
use Rattle.nml_names.specs.Naming.{AreDeclared}
use Rattle.nml_names.proofs.Cycles.{in_range, rows_are, told_of_names}
use Rattle.nml_names.proofs.cycle.rule_order.Goals as goal

pub order_of-requires : goal.order_of-requires
order_of-requires c = subst InRange (sym (rows_are c.args.d.now _ _ _ c.as_slice.ensures (subst (λ xs. AreDeclared c.args.names.now.entries xs) (sym c.as_slice.ensures) c.requires) (c.deref.ensures.value ∙ c.in_ok-rows.ensures))) (in_range c.args.d.now)

pub returns : goal.returns
returns c =
    told_of_names c.args.d.now (λ order. IsOrder (graph c.args.d.now.items) order.items) c.order_of.result
    (subst (λ g. IfOk c.order_of.result (λ found. MatchOption found ((n : ℕ) × Reaches g n n) (λ order. IsOrder g order.items))) (rows_are c.args.d.now _ _ _ c.as_slice.ensures (subst (λ xs. AreDeclared c.args.names.now.entries xs) (sym c.as_slice.ensures) c.requires) (c.deref.ensures.value ∙ c.in_ok-rows.ensures)) c.order_of.ensures)
