use Rattle.c_promise.proofs.Promised as promised
use Rattle.c_promise.proofs.law.no_shift_is_too_wide.Goals as goal

pub returns : goal.returns
returns c = promised.shifts
