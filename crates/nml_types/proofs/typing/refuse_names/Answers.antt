use Rattle.std.proofs.Common.{sym, ◌∙◌}
use Rattle.nml_tree.proofs.LeastPlace.{is_least}
use Rattle.nml_types.proofs.Free.{names_free}
use Rattle.nml_types.proofs.typing.refuse_names.Goals as goal

pub returns-in-None : goal.returns-in-None
returns-in-None c = names_free c.args.d.now (sym c.in_ok-first_name_fault.ensures ∙ c.in-None.is)

pub returns-in-Some : goal.returns-in-Some
returns-in-Some c = rw c.from.ensures (is_least _ _ (sym c.in_ok-first_name_fault.ensures ∙ c.in-Some.is))
