-- For private contracts: arguments in cells, from the last of the list on.
use Rattle.std.specs.Prelude.{ℕ, ◌+◌, ℤ, List, [], ◌∷◌, reverse, slice_set}

-- the first in this cell, and the others behind it
abbrev pub put_all : List ℤ → ℕ → List ℤ → List ℤ
put_all memory k [] = memory
put_all memory k (z ∷ zs) = put_all (slice_set memory k z) (k + 1) zs

abbrev pub filled : List ℤ → ℕ → List ℤ → List ℤ
filled memory k zs = put_all memory k (reverse zs)
