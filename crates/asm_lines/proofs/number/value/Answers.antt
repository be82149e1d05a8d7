use Rattle.asm_lines.proofs.Values.{digits_pass, no_value, the_value}
use Rattle.asm_lines.proofs.number.value.Goals as goal

pub number_of_digits-requires : goal.number_of_digits-requires
number_of_digits-requires c = digits_pass c.args.text.now c.requires

pub returns-in-None : goal.returns-in-None
returns-in-None c = absurd (no_value c.args.text.now c.requires c.in-None.ensures)

pub returns-in-Some : goal.returns-in-Some
returns-in-Some c = let v = the_value c.args.text.now _ c.requires c.in-Some.ensures in record { exact = v.0; small = v.1 }
