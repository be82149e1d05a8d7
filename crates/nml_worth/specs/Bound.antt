-- What is told of a size.
use Rattle.std.specs.Prelude.{◌≡◌}
use Rattle.nml_tree.specs.declared.tree.Size.{Size}
use Rattle.nml_tree.specs.Table.{Table, size_number, size_or_none}
use Rattle.nml_tree.specs.TypeFault.{size_place}
use Rattle.nml_worth.specs.declared.size.Bound.{Bound}

-- what a size comes to, and where it stands
pub record IsBound (t : Table) (n : Size) (b : Bound) : Type 0 where
  pub number : b.number ≡ size_number t n
  pub size : b.size ≡ size_or_none t n
  pub at : b.at ≡ size_place n
