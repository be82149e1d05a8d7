-- The names that scopes stand for.
use Rattle.std.specs.Prelude.{ℕ, List, [], ◌∷◌, map, reverse}
use Rattle.std.specs.HashMap.{HashMap}
use Rattle.c_tree.specs.declared.meaning.Meaning.{Meaning}
use Rattle.c_tree.specs.Names.{Meanings, Names}
use Rattle.c_names.specs.declared.scopes.Scopes.{Scopes}

-- blocks, the innermost last, as lists, the innermost first
abbrev pub around : {S : Type 0} → List (HashMap (List ℕ) Meaning S) → List Meanings
around blocks = reverse (map (λ m. m.entries) blocks)

abbrev pub names : Scopes → Names
names s = record { block = s.block.entries; outer = around s.outer.items; functions = s.functions.entries; next = s.next }

-- behind a block: what was seen around it, and the cells are taken
abbrev pub outside_of : List Meanings → Names → Names
outside_of [] s = s
outside_of (ms ∷ outer) s = record s { block = ms; outer = outer }

abbrev pub outside : Names → Names
outside s = outside_of s.outer s
