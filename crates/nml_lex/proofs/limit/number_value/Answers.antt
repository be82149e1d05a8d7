-- The digits stand behind a prefix, or are the whole text.
use Rattle.std.proofs.Common.{◌^◌}
use Rattle.nml_lex.proofs.Limits.{hexadecimal_number, binary_number, decimal_number, worth_is}
use Rattle.nml_lex.proofs.limit.number_value.Goals as goal

pub returns-in-Some : goal.returns-in-Some
returns-in-Some c =
    worth_is c.args.text.now c.in-Some.digits.now 16 (2 ^ 64) c.value_of.result (hexadecimal_number c.args.text.now c.in-Some.digits.now c.requires c.in-Some.ensures) c.value_of.ensures

pub returns-in-Some-behind_prefix : goal.returns-in-Some-behind_prefix
returns-in-Some-behind_prefix c =
    worth_is c.args.text.now c.in-Some-behind_prefix.digits.now 2 (2 ^ 64) c.value_of-in-Some-behind_prefix.result
    (binary_number c.args.text.now c.in-Some-behind_prefix.digits.now c.requires c.in-Some-behind_prefix.ensures) c.value_of-in-Some-behind_prefix.ensures

pub returns : goal.returns
returns c =
    worth_is c.args.text.now c.args.text.now 10 (2 ^ 64) c.value_of-2.result (decimal_number c.args.text.now c.requires c.in_default.ensures c.in_default-behind_prefix.ensures) c.value_of-2.ensures
