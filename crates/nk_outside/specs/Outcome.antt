-- What a bounded run comes to, and the text of its outputs.
use Rattle.std.specs.Prelude.{ℕ, ℤ, List, [], ◌∷◌, ◌++◌, flat_map}
use Rattle.std.specs.Fmt.{signed_decimal}
use Rattle.nk_outside.specs.declared.files.WriteFault.{WriteFault}
use Rattle.nk_outside.specs.declared.files.WriteFault.TheVariants as write
use Rattle.nk_outside.specs.declared.stop.Stop.{Stop}
use Rattle.nk_outside.specs.declared.stop.EvalFault.{EvalFault}
use Rattle.nk_outside.specs.declared.stop.EvalFault.TheVariants as fault

-- the outputs in order, and how it stops
pub record Outcome : Type 0 where
  pub out : List ℤ
  pub stop : Stop

-- an output as a line: the number in decimal, and a line feed
abbrev pub line : ℤ → List ℕ
line z = signed_decimal z ++ 10 ∷ []

-- outputs as lines, one after the other
abbrev pub lines : List ℤ → List ℕ
lines zs = flat_map line zs

-- a fault of a sink, as one of the run that prints into it
abbrev pub of_write : WriteFault → EvalFault
of_write write.Failed = fault.Failed
of_write write.Memory = fault.Memory
