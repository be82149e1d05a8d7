use Rattle.nml_types.proofs.Checks.{are_listed}
use Rattle.nml_types.proofs.checking.listed.Goals as goal

pub returns-in-Ok : goal.returns-in-Ok
returns-in-Ok c = are_listed c.args.d.now c.in-Ok.all.items c.in-Ok.ensures

pub returns-in-Err-Many : goal.returns-in-Err-Many
returns-in-Err-Many c = rw c.in-Err-Many.field-0-is at c.in-Err-Many.ensures
