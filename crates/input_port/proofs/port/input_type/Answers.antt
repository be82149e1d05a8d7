use Rattle.input_port.proofs.Small.{is_input, types_right}
use Rattle.input_port.proofs.port.input_type.Goals as goal

pub first_input-requires : goal.first_input-requires
first_input-requires c = rw c.as_slice.ensures (types_right c.d.inside.desc c.d.invariant)

pub returns-clause-input : goal.returns-clause-input
returns-clause-input c = rw (c.first_input.ensures, c.as_slice.ensures) (is_input c.d.inside.desc c.d.invariant)
