-- The names that items declare, and the map of them.
use Rattle.std.proofs.Common.{◌≡◌, ℕ, ◌+◌, ◌<◌, Bool, true, false, cond, List, ◌∷◌, get_or, drop, length, Option, Some, refl, ◌∙◌}
use Rattle.std.specs.Map.{lookup}
use Rattle.nk_base.specs.Text.{text_eq}
use Rattle.nml_tree.specs.declared.tree.Item.{Item}
use Rattle.nml_tree.specs.Table.{Text}
use Rattle.nml_tree.specs.NameFault.{is_rule}
use Rattle.nml_tree.specs.Uses.{declares}
use Rattle.nml_tree.proofs.SameText.{same_text, equal_text, turned}
use Rattle.nml_tree.proofs.Drops.{dropped}
use Rattle.nml_names.specs.declared.names.Declaration.{Declaration}
use Rattle.nml_names.specs.Naming.{constant_of, declaration, least_place, is_late}

-- an item before others declares its own name, and the others theirs
put_before : (i : ℕ) (f : Item) (rest : List Item) (name k : Text) (old : Option Declaration) (b : Bool) → text_eq k name ≡ b → k ≡ (declares f).text
    → old ≡ declaration (i + 1) rest k
    → cond b (Some (record { first = i; place = least_place (declares f).at old; late = is_late f; rule = is_rule f; constant = constant_of f })) (declaration (i + 1) rest name) ≡ declaration i (f ∷ rest) name
put_before i f rest name k old true same is before =
    let e : k ≡ name = same_text k name same in
    rw (before, ← is, ← e, equal_text k k refl) refl
put_before i f rest name k old false other is before = rw (← is, turned name k, other) refl

pub one_put : (items : List Item) (next i : ℕ) (f : Item) (name k : Text) (old : Option Declaration) (es : List (Text × Declaration))
    → next ≡ i + 1 → i < length items → f ≡ get_or items i f → k ≡ (declares f).text → old ≡ lookup (text_eq k) es
    → ((q : Text) → lookup (text_eq q) es ≡ declaration next (drop next items) q)
    → cond (text_eq k name) (Some (record { first = i; place = least_place (declares f).at old; late = is_late f; rule = is_rule f; constant = constant_of f })) (lookup (text_eq name) es)
    ≡ declaration i (drop i items) name
one_put items next i f name k old es up low is named was before =
    rw (before name, up, dropped items i f low is) (put_before i f (drop (i + 1) items) name k old (text_eq k name) refl named (was ∙ before k ∙ rw up refl))
