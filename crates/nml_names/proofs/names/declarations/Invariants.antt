use Rattle.std.proofs.Common.{◌≡◌, List, ℕ, drop}
use Rattle.std.specs.Map.{lookup}
use Rattle.nk_base.specs.Text.{text_eq}
use Rattle.nml_names.specs.Naming.{declaration}
use Rattle.nml_names.proofs.names.declarations.Given as goal

-- the map has the names of the items from here on
abbrev pub invariant-loop-i : goal.invariant-loop-i
invariant-loop-i l = (name : List ℕ) → lookup (text_eq name) l.names.entries ≡ declaration l.i (drop l.i l.items) name
