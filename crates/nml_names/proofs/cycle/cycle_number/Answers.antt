use Rattle.std.proofs.Common.{◌∙◌, sym, subst, IfOk}
use Rattle.graphs.specs.Graphs.{InRange, LeastOf, Reaches}
use Rattle.nml_names.proofs.Cycles.{in_range, rows_are}
use Rattle.nml_names.proofs.cycle.cycle_number.Goals as goal

pub first_loop-requires : goal.first_loop-requires
first_loop-requires c = subst InRange (sym (rows_are c.args.d.now _ _ _ c.as_slice-items.ensures c.in_ok-names.ensures (c.deref.ensures.value ∙ c.in_ok-rows.ensures))) (in_range c.args.d.now)

pub returns : goal.returns
returns c =
    subst (λ g. IfOk c.first_loop.result (λ found. LeastOf (λ n. Reaches g n n) found)) (rows_are c.args.d.now _ _ _ c.as_slice-items.ensures c.in_ok-names.ensures (c.deref.ensures.value ∙ c.in_ok-rows.ensures)) c.first_loop.ensures
