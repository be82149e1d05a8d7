-- A program and a list of statements do the same.
use Rattle.std.specs.Prelude.{ℕ}
use Rattle.ir_core.specs.Inputs.{AgreeOnInputs}
use Rattle.ir_run.specs.Entry.{Listing}
use Rattle.ir_run.specs.Run as statements
use Rattle.c_tree.specs.Program.{Program}
use Rattle.c_tree.specs.Meaning.{outcome}

-- on every input of numbers of n bits, for every bound of steps there is one of turns that goes as far, and the other way round
abbrev pub AgreeIr : Listing → Program → ℕ → Type 0
AgreeIr i p n = AgreeOnInputs n (statements.outcome i n) (outcome p n)
