-- The form that a command is.
use Rattle.nml_command.specs.declared.command.Command.{Command}
use Rattle.nml_command.specs.declared.command.Command.TheVariants as commands
use Rattle.nml_command.specs.Form.{Form, Check, Asm, Dis, Run, Cc, Ceval, Demo}

abbrev pub seen : Command → Form
seen (commands.Check d) = Check d.now
seen (commands.Asm d s i) = Asm d.now s.now i.now
seen (commands.Dis d i) = Dis d.now i.now
seen (commands.Run d i x n) = Run d.now i.now x.now n
seen (commands.Cc d c i) = Cc d.now c.now i.now
seen (commands.Ceval d c x n) = Ceval d.now c.now x.now n
seen (commands.Demo k) = Demo k
