use Rattle.nml_types.proofs.Free.{edges_free}
use Rattle.nml_types.proofs.typing.refuse_edges.Goals as goal

pub returns-in-None : goal.returns-in-None
returns-in-None c = let none = rw c.in-None.is at c.in_ok-first_edge.ensures in edges_free c.args.names.now c.requires.free none
