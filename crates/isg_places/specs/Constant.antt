-- What an expression is worth by the fields alone.
use Rattle.std.specs.Prelude.{ℕ, ◌-◌, ◌^◌, min, ℤ, unsigned_abs, List, Option, Some, None, if◌then◌else◌}
use Rattle.nml_tree.specs.Act.{Term}
use Rattle.nml_tree.specs.Legal.{is_constant}
use Rattle.nml_tree.specs.Value.{value}
use Rattle.attr_eval.specs.Alone.{alone}

-- the value of an expression that reads no storage, transitory or input
abbrev pub constant : List ℤ → Term → Option ℤ
constant zs x = if is_constant x then Some (value (alone zs) x) else None

-- the number without its sign, or the greatest of 32 bits
abbrev pub within_32 : ℤ → ℕ
within_32 z = min (unsigned_abs z) (2 ^ 32 - 1)
