-- How many bits declared types have.
use Rattle.std.specs.Prelude.{ℕ, ◌+◌, ◌<◌, ◌≡◌, nat_lt, Bool, false, List, length, slice_get, Option, Some, None}
use Rattle.nk_base.specs.Number.{width_of}
use Rattle.nml_tree.specs.declared.tree.Desc.{Desc}
use Rattle.nml_tree.specs.Table.{Text, Declared, TypeName, declared, table}
use Rattle.nml_known.specs.Known.{item_number}

-- how many bits a declared type has; anything else has none
abbrev pub bits_of : Declared → ℕ
bits_of (TypeName ty) = width_of ty
bits_of _ = 0

-- and a name that isn't declared has none
abbrev pub declared_bits : Option Declared → ℕ
declared_bits None = 0
declared_bits (Some d) = bits_of d

-- so many bits and so many, where both are told
abbrev pub both : Option ℕ → Option ℕ → ℕ
both (Some a) (Some b) = a + b
both _ _ = 0

-- of the first items, by their numbers: of each that is the first of its name
abbrev pub HasBits : Desc → List ℕ → Type 0
HasBits d bits = (name : Text) (k : ℕ) → item_number d name ≡ Some k → k < length bits → slice_get bits k ≡ Some (declared_bits (declared (table d) name))

-- whether the item of this number, where there is one, is among the first k
abbrev pub is_before : ℕ → Option ℕ → Bool
is_before k None = false
is_before k (Some n) = nat_lt n k
