use Rattle.nml_types.proofs.Free.{mentions_free}
use Rattle.nml_types.proofs.typing.refuse_mentions.Goals as goal

pub returns-in-None : goal.returns-in-None
returns-in-None c = let none = rw c.in-None.is at c.in_ok-first_unlinear.ensures in mentions_free c.args.d.now c.requires none
