use Rattle.nml_widths.proofs.WidthLaws.{action_sound, mode_sound}
use Rattle.nml_widths.proofs.laws.widths.Goals as goal

pub returns-clause-action : goal.returns-clause-action
returns-clause-action c = λ d v name rule args n free typed h stand. action_sound d free v typed name rule args n h stand

pub returns-clause-mode : goal.returns-clause-mode
returns-clause-mode c = λ d v name x n free typed h stand mode. mode_sound d free v typed name x n h stand mode
