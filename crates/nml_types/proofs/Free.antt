-- What is free of faults, one number after the other.
use Rattle.std.proofs.Common.{◌≡◌, ℕ, suc, ◌<◌, refl, subst, arith, List, [], Option, None, Contains}
use Rattle.nml_tree.specs.declared.tree.Desc.{Desc}
use Rattle.nml_tree.specs.declared.fault.Root.{Root}
use Rattle.nml_tree.specs.Table.{Text, table}
use Rattle.nml_tree.specs.Places.{least_of}
use Rattle.nml_tree.specs.NameFault.{name_places}
use Rattle.nml_tree.specs.Reach.{CycleFault}
use Rattle.nml_tree.specs.TypeFault.{type_fault_places}
use Rattle.nml_tree.specs.WidthFault.{width_places}
use Rattle.nml_tree.specs.Mentions.{LinearFault}
use Rattle.nml_tree.specs.Valid.{WordFault, EdgeFault}
use Rattle.nml_tree.specs.Refused.{Holds, By_name, By_cycle, By_type, By_width, By_mention, By_word, By_edge, By_root, By_shapes, By_image, By_syntax, IsFreeBelow, IsTyped, Lacks}
use Rattle.nml_tree.proofs.LeastPlace.{none_from_least}
use Rattle.nml_types.proofs.Refusals.{next_free, none_in, nothing_below}

no_name : (d : Desc) (n : ℕ) → Holds d n → n ≡ 4 → name_places d ≡ [] → ⊥
no_name d n (By_name at h) e none = none_in at (subst (λ xs. Contains xs at) none h)
no_name d n (By_cycle rule h) e none = absurd (omega (arith, e))
no_name d n (By_type at h) e none = absurd (omega (arith, e))
no_name d n (By_width at h) e none = absurd (omega (arith, e))
no_name d n (By_mention rule p h) e none = absurd (omega (arith, e))
no_name d n (By_word rule h) e none = absurd (omega (arith, e))
no_name d n (By_edge rule h) e none = absurd (omega (arith, e))
no_name d n (By_root what h) e none = absurd (omega (arith, e))
no_name d n (By_shapes count nodes size h) e none = absurd (omega (arith, e))
no_name d n (By_image a b h) e none = absurd (omega (arith, e))
no_name d n (By_syntax a b h) e none = absurd (omega (arith, e))

no_cycle : (d : Desc) (n : ℕ) → Holds d n → n ≡ 5 → ((rule : Text) → CycleFault (table d) rule → ⊥) → ⊥
no_cycle d n (By_name at h) e none = absurd (omega (arith, e))
no_cycle d n (By_cycle rule h) e none = none rule h
no_cycle d n (By_type at h) e none = absurd (omega (arith, e))
no_cycle d n (By_width at h) e none = absurd (omega (arith, e))
no_cycle d n (By_mention rule p h) e none = absurd (omega (arith, e))
no_cycle d n (By_word rule h) e none = absurd (omega (arith, e))
no_cycle d n (By_edge rule h) e none = absurd (omega (arith, e))
no_cycle d n (By_root what h) e none = absurd (omega (arith, e))
no_cycle d n (By_shapes count nodes size h) e none = absurd (omega (arith, e))
no_cycle d n (By_image a b h) e none = absurd (omega (arith, e))
no_cycle d n (By_syntax a b h) e none = absurd (omega (arith, e))

no_kind : (d : Desc) (n : ℕ) → Holds d n → n ≡ 6 → type_fault_places d ≡ [] → ⊥
no_kind d n (By_name at h) e none = absurd (omega (arith, e))
no_kind d n (By_cycle rule h) e none = absurd (omega (arith, e))
no_kind d n (By_type at h) e none = none_in at (subst (λ xs. Contains xs at) none h)
no_kind d n (By_width at h) e none = absurd (omega (arith, e))
no_kind d n (By_mention rule p h) e none = absurd (omega (arith, e))
no_kind d n (By_word rule h) e none = absurd (omega (arith, e))
no_kind d n (By_edge rule h) e none = absurd (omega (arith, e))
no_kind d n (By_root what h) e none = absurd (omega (arith, e))
no_kind d n (By_shapes count nodes size h) e none = absurd (omega (arith, e))
no_kind d n (By_image a b h) e none = absurd (omega (arith, e))
no_kind d n (By_syntax a b h) e none = absurd (omega (arith, e))

no_width : (d : Desc) (n : ℕ) → Holds d n → n ≡ 7 → width_places d ≡ [] → ⊥
no_width d n (By_name at h) e none = absurd (omega (arith, e))
no_width d n (By_cycle rule h) e none = absurd (omega (arith, e))
no_width d n (By_type at h) e none = absurd (omega (arith, e))
no_width d n (By_width at h) e none = none_in at (subst (λ xs. Contains xs at) none h)
no_width d n (By_mention rule p h) e none = absurd (omega (arith, e))
no_width d n (By_word rule h) e none = absurd (omega (arith, e))
no_width d n (By_edge rule h) e none = absurd (omega (arith, e))
no_width d n (By_root what h) e none = absurd (omega (arith, e))
no_width d n (By_shapes count nodes size h) e none = absurd (omega (arith, e))
no_width d n (By_image a b h) e none = absurd (omega (arith, e))
no_width d n (By_syntax a b h) e none = absurd (omega (arith, e))

no_mention : (d : Desc) (n : ℕ) → Holds d n → n ≡ 8 → ((rule p : Text) → LinearFault (table d) rule p → ⊥) → ⊥
no_mention d n (By_name at h) e none = absurd (omega (arith, e))
no_mention d n (By_cycle rule h) e none = absurd (omega (arith, e))
no_mention d n (By_type at h) e none = absurd (omega (arith, e))
no_mention d n (By_width at h) e none = absurd (omega (arith, e))
no_mention d n (By_mention rule p h) e none = none rule p h
no_mention d n (By_word rule h) e none = absurd (omega (arith, e))
no_mention d n (By_edge rule h) e none = absurd (omega (arith, e))
no_mention d n (By_root what h) e none = absurd (omega (arith, e))
no_mention d n (By_shapes count nodes size h) e none = absurd (omega (arith, e))
no_mention d n (By_image a b h) e none = absurd (omega (arith, e))
no_mention d n (By_syntax a b h) e none = absurd (omega (arith, e))

no_word : (d : Desc) (n : ℕ) → Holds d n → n ≡ 9 → ((rule : Text) → WordFault (table d) rule → ⊥) → ⊥
no_word d n (By_name at h) e none = absurd (omega (arith, e))
no_word d n (By_cycle rule h) e none = absurd (omega (arith, e))
no_word d n (By_type at h) e none = absurd (omega (arith, e))
no_word d n (By_width at h) e none = absurd (omega (arith, e))
no_word d n (By_mention rule p h) e none = absurd (omega (arith, e))
no_word d n (By_word rule h) e none = none rule h
no_word d n (By_edge rule h) e none = absurd (omega (arith, e))
no_word d n (By_root what h) e none = absurd (omega (arith, e))
no_word d n (By_shapes count nodes size h) e none = absurd (omega (arith, e))
no_word d n (By_image a b h) e none = absurd (omega (arith, e))
no_word d n (By_syntax a b h) e none = absurd (omega (arith, e))

no_edge : (d : Desc) (n : ℕ) → Holds d n → n ≡ 10 → ((rule : Text) → EdgeFault (table d) rule → ⊥) → ⊥
no_edge d n (By_name at h) e none = absurd (omega (arith, e))
no_edge d n (By_cycle rule h) e none = absurd (omega (arith, e))
no_edge d n (By_type at h) e none = absurd (omega (arith, e))
no_edge d n (By_width at h) e none = absurd (omega (arith, e))
no_edge d n (By_mention rule p h) e none = absurd (omega (arith, e))
no_edge d n (By_word rule h) e none = absurd (omega (arith, e))
no_edge d n (By_edge rule h) e none = none rule h
no_edge d n (By_root what h) e none = absurd (omega (arith, e))
no_edge d n (By_shapes count nodes size h) e none = absurd (omega (arith, e))
no_edge d n (By_image a b h) e none = absurd (omega (arith, e))
no_edge d n (By_syntax a b h) e none = absurd (omega (arith, e))

no_lack : (d : Desc) (n : ℕ) → Holds d n → n ≡ 11 → ((what : Root) → Lacks (table d) what → ⊥) → ⊥
no_lack d n (By_name at h) e none = absurd (omega (arith, e))
no_lack d n (By_cycle rule h) e none = absurd (omega (arith, e))
no_lack d n (By_type at h) e none = absurd (omega (arith, e))
no_lack d n (By_width at h) e none = absurd (omega (arith, e))
no_lack d n (By_mention rule p h) e none = absurd (omega (arith, e))
no_lack d n (By_word rule h) e none = absurd (omega (arith, e))
no_lack d n (By_edge rule h) e none = absurd (omega (arith, e))
no_lack d n (By_root what h) e none = none what h
no_lack d n (By_shapes count nodes size h) e none = absurd (omega (arith, e))
no_lack d n (By_image a b h) e none = absurd (omega (arith, e))
no_lack d n (By_syntax a b h) e none = absurd (omega (arith, e))

pub names_free : (d : Desc) → least_of (name_places d) ≡ None → IsFreeBelow 5 d
names_free d h = next_free d 4 (nothing_below d) (λ x. no_name d 4 x refl (none_from_least (name_places d) h))

pub cycles_free : (d : Desc) → IsFreeBelow 5 d → ((rule : Text) → CycleFault (table d) rule → ⊥) → IsFreeBelow 6 d
cycles_free d free none = next_free d 5 free (λ x. no_cycle d 5 x refl none)

pub kinds_free : (d : Desc) → IsFreeBelow 6 d → least_of (type_fault_places d) ≡ None → IsFreeBelow 7 d
kinds_free d free h = next_free d 6 free (λ x. no_kind d 6 x refl (none_from_least (type_fault_places d) h))

pub widths_free : (d : Desc) → IsFreeBelow 7 d → least_of (width_places d) ≡ None → IsFreeBelow 8 d
widths_free d free h = next_free d 7 free (λ x. no_width d 7 x refl (none_from_least (width_places d) h))

pub mentions_free : (d : Desc) → IsFreeBelow 8 d → ((rule p : Text) → LinearFault (table d) rule p → ⊥) → IsFreeBelow 9 d
mentions_free d free none = next_free d 8 free (λ x. no_mention d 8 x refl none)

pub words_free : (d : Desc) → IsFreeBelow 9 d → ((rule : Text) → WordFault (table d) rule → ⊥) → IsFreeBelow 10 d
words_free d free none = next_free d 9 free (λ x. no_word d 9 x refl none)

pub edges_free : (d : Desc) → IsFreeBelow 10 d → ((rule : Text) → EdgeFault (table d) rule → ⊥) → IsFreeBelow 11 d
edges_free d free none = next_free d 10 free (λ x. no_edge d 10 x refl none)

pub lacks_free : (d : Desc) → IsFreeBelow 11 d → ((what : Root) → Lacks (table d) what → ⊥) → IsTyped d
lacks_free d free none = next_free d 11 free (λ x. no_lack d 11 x refl none)
