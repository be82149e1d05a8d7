use Rattle.std.proofs.Common.{sym, ◌∙◌}
use Rattle.nml_tree.proofs.LeastPlace.{is_least}
use Rattle.nml_types.proofs.Free.{widths_free}
use Rattle.nml_types.proofs.typing.refuse_width.Goals as goal

pub returns-in-None : goal.returns-in-None
returns-in-None c = widths_free c.args.names.now c.requires.free (sym c.requires.is ∙ c.in-None.is)

pub returns-in-Some : goal.returns-in-Some
returns-in-Some c = rw c.from.ensures (c.requires.free, is_least _ _ (sym c.requires.is ∙ c.in-Some.is))
