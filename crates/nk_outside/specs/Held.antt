-- What files hold: a map from names to bytes, where it is told. A name is looked up as a function of it.
use Rattle.std.specs.Prelude.{◌≡◌, ◌≢◌, ℕ, ◌<◌, ◌≤◌, List, length, Option, Some, None}
use Rattle.std.specs.Map.{lookup}
use Rattle.std.specs.Option.{option_map}
use Rattle.std.specs.Global.{Vec}
use Rattle.nk_base.specs.Text.{text_eq}

abbrev pub Names : Type 0
Names = List ℕ → Option (List ℕ)

-- a file that is read has at most so many bytes
abbrev pub file_limit : ℕ
file_limit = 4194304

-- these bytes were read: within the limit, and those of the name where that is told
abbrev pub Reads : Option Names → List ℕ → List ℕ → Type 0
Reads None name bytes = length bytes ≤ file_limit
Reads (Some held) name bytes = (held name ≡ Some bytes) × (length bytes ≤ file_limit)

-- the name has no bytes, where that is told
abbrev pub Lacks : Option Names → List ℕ → Type 0
Lacks None name = Unit {0}
Lacks (Some held) name = held name ≡ None

-- the name has more bytes than a read gives, where that is told
abbrev pub IsTooLong : Option Names → List ℕ → Type 0
IsTooLong None name = Unit {0}
IsTooLong (Some held) name = (bytes : List ℕ) × (held name ≡ Some bytes) × (file_limit < length bytes)

-- the name has these bytes, where that is told
abbrev pub Holds : Option Names → List ℕ → List ℕ → Type 0
Holds None name bytes = Unit {0}
Holds (Some held) name bytes = held name ≡ Some bytes

-- whether the map is told stays, and so does each name but one
abbrev pub SameElsewhere : List ℕ → Option Names → Option Names → Type 0
SameElsewhere name None None = Unit {0}
SameElsewhere name (Some old) (Some new) = (other : List ℕ) → other ≢ name → new other ≡ old other
SameElsewhere name None (Some new) = ⊥
SameElsewhere name (Some old) None = ⊥

-- the map of a list of entries
abbrev pub names_of : List (List ℕ × Vec ℕ) → Names
names_of entries name = option_map (λ v. v.items) (lookup (text_eq name) entries)
