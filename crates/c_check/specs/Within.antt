-- Where a statement stands.
use Rattle.c_tree.specs.Faults.{Giving, GivesValue, GivesNone, GivesEither, Within}
use Rattle.c_check.specs.declared.statement.Gives.{Gives}
use Rattle.c_check.specs.declared.statement.Gives.TheVariants as gives
use Rattle.c_check.specs.declared.statement.Around.{Around}

-- what a function gives
abbrev pub giving_of : Gives → Giving
giving_of gives.Value = GivesValue
giving_of gives.Nothing = GivesNone
giving_of gives.Either = GivesEither

abbrev pub within : Around → Within
within w = record { bits = w.width.bits; giving = giving_of w.gives; looped = w.looped }
