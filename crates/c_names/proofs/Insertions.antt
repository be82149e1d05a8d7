-- A map's entries with a name put in.
use Rattle.std.proofs.Common.{◌≡◌, refl, ap, List, [], ◌∷◌, ℕ, if◌then◌else◌}
use Rattle.nk_base.specs.Text.{text_eq}
use Rattle.indexmap.specs.IndexMap.{insert_entry}
use Rattle.c_tree.specs.declared.meaning.Meaning.{Meaning}
use Rattle.c_tree.specs.Names.{Meanings, with_meaning}

pub inserted : (ms : Meanings) (name : List ℕ) (m : Meaning) → insert_entry text_eq ms name m ≡ with_meaning ms name m
inserted [] name m = refl
inserted (e ∷ es) name m = ap (λ ys. if text_eq name e.0 then (e.0, m) ∷ es else e ∷ ys) (inserted es name m)
