use Rattle.nml_names.proofs.Turns.{looked_none, looked_more}
use Rattle.nml_names.proofs.name_fault.first_name_fault.Goals as goal

pub loop-number-init : goal.loop-number-init
loop-number-init c = looked_none _

pub loop-number-preserved : goal.loop-number-preserved
loop-number-preserved c =
    looked_more _ _ _ _ _ _ _ _ _ _ _ c.loop-number.invariant c.as_slice-items.ensures c.in_ok-names.ensures c.loop-number-test.true c.index-items-number.is
    c.in_ok-found.ensures c.with_inp-inp.ensures c.with_out-out.ensures
