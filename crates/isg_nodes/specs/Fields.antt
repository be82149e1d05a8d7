-- Fields whose numbers can be read off a word.
use Rattle.std.specs.Prelude.{ℕ, ◌≡◌, List, Some, slice_get}
use Rattle.nk_base.specs.Number.{IsTy}
use Rattle.nml_shape.specs.declared.shape.FieldAt.{FieldAt}

-- each of these fields is of a type of 1 to 64 bits
pub record AreTyped (fs : List FieldAt) : Type 0 where
  pub each : (n : ℕ) (f : FieldAt) → slice_get fs n ≡ Some f → IsTy f.ty
