use Rattle.std.proofs.Common.{map}
use Rattle.asm_lines.specs.Seen.{seen}
use Rattle.asm_source.proofs.Knowing.{faultless, fault_at}
use Rattle.asm_source.proofs.labels.labels_of.Goals as goal

pub returns-in-None : goal.returns-in-None
returns-in-None c =
    faultless (map seen c.args.lines.now) _ _ _ c.in_ok-labels.ensures.numbers c.in_ok-labels.ensures.doubled c.first_unknown.ensures _ c.earlier.ensures c.in-None.is

pub returns-in-Some : goal.returns-in-Some
returns-in-Some c =
    fault_at (map seen c.args.lines.now) _ _ _ c.in_ok-labels.ensures.numbers c.in_ok-labels.ensures.doubled c.first_unknown.ensures _ _ c.earlier.ensures c.in-Some.is
