use Rattle.nk_base.proofs.Numbers.{wrapped_congruent}
use Rattle.nk_base.proofs.number.wrapped_is_congruent.Goals as goal

pub returns : goal.returns
returns c = wrapped_congruent
