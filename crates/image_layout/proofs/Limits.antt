-- The limits that a checked description keeps.
use Rattle.std.proofs.Common.{ℕ, zero, suc, ◌+◌, ◌≤◌, ◌<◌, List, [], ◌∷◌, ◌++◌, ◌≡◌, length, arith, refl, sym, ◌∙◌, ap, subst, false, Some, length-append}
use Rattle.std.specs.Prelude.{codes, flat_map, slice_get, unwrap_or, ◌==◌}
use Rattle.std.proofs.lemmas.Bool.{eqb-false}
use Rattle.nk_base.specs.Number.{width_of}
use Rattle.nk_base.specs.declared.number.Ty.{Ty}
use Rattle.nk_base.specs.declared.number.Ty.TheVariants as tys
use Rattle.nml_tree.specs.declared.tree.Desc.{Desc}
use Rattle.nml_tree.specs.declared.tree.Item.{Item}
use Rattle.nml_tree.specs.declared.tree.Item.TheVariants as item
use Rattle.nml_tree.specs.declared.tree.PortWord.{PortWord}
use Rattle.nml_tree.specs.declared.tree.PortWord.TheVariants as port
use Rattle.nml_tree.specs.Table.{Text, Table, Declared, declared, table, entry, entries, port_of, size_or_none}
use Rattle.nml_tree.specs.Places.{when}
use Rattle.nml_tree.specs.Image.{image}
use Rattle.nml_tree.specs.Exec.{pc, storages, storage_type, storage_number}
use Rattle.nml_tree.specs.Valid.{IsWordWidth, Narrow, Wide}
use Rattle.nml_tree.specs.WidthFault.{storage_places, item_widths, width_places}
use Rattle.nml_tree.specs.Refused.{IsTyped, IsChecked, By_cycle, By_width, By_word}
use Rattle.nml_state.proofs.StateLaws.{storages_append}
use Rattle.nml_widths.proofs.Fits.{no_left, no_right, when_none}
use Rattle.nml_upward.proofs.Upward.{HasOne, are_made}
use Rattle.attr_exec.proofs.Ports.{none_from, pc_declared}
use Rattle.attr_exec.proofs.Lawful.{all_numbered, get_mapped}
use Rattle.image_file.specs.Measured.{measures}
use Rattle.image_file.specs.Valid.{IsLimited}
use Rattle.image_layout.proofs.SomeDerivation.{has_derivation}
use Rattle.image_layout.proofs.Named.{root_is_rule}
use Rattle.image_layout.proofs.Sizes.{small, pc_small}

at_least : (m n : ℕ) → (n < m → ⊥) → m ≤ n
at_least zero n h = omega arith
at_least (suc m) zero h = absurd (h (omega arith))
at_least (suc m) (suc n) h = let k = at_least m n (λ low. h (omega (arith, low))) in omega (arith, k)

get_below : {A : Type 0} (xs : List A) (n : ℕ) (x : A) → slice_get xs n ≡ Some x → n < length xs
get_below [] n x h = absurd cc
get_below (y ∷ xs) zero x h = omega arith
get_below (y ∷ xs) (suc n) x h = let k = get_below xs n x h in omega (arith, k)

-- at most 65,536 storages
not_last : (n : ℕ) → (n == 65536) ≡ false → n ≤ 65536 → n + 1 ≤ 65536
not_last n h low = at_least (n + 1) 65536 (λ past. eqb-false n 65536 h (omega (arith, past, low)))

port_none : (t : Table) (name : Text) (w : PortWord) (ty : Ty) → storages ((name, port_of t w ty) ∷ []) ≡ []
port_none t name (port.Trn at) ty = refl
port_none t name (port.Inp at) ty = refl
port_none t name (port.Out at) ty = refl

same_length : (t : Table) (e : Text × Declared) (n : ℕ) → storages (e ∷ []) ≡ [] → length (storages t) ≡ n → length (storages (t ++ e ∷ [])) ≡ n
same_length t e n none is = ap length (storages_append t (e ∷ []) ∙ ap (λ xs. storages t ++ xs) none) ∙ length-append (storages t) [] ∙ omega (arith, is)

few_from : (whole : Table) (cells n : ℕ) (items : List Item) (t : Table) → length (storages t) ≡ n → n ≤ 65536 → storage_places whole cells n items ≡ [] → length (storages (entries t items)) ≤ 65536
few_from whole cells n [] t is low h = omega (arith, is, low)
few_from whole cells n (item.Storage s ∷ items) t is low h =
    let e : Text × Declared = entry t (item.Storage s) in
    let front = no_left _ (storage_places whole (cells + size_or_none whole s.size) (n + 1) items) h in
    let room = when_none (n == 65536) s.name.at (no_right _ (when (n == 65536) s.name.at) front) in
    let long : length (storages (t ++ e ∷ [])) ≡ n + 1 = ap length (storages_append t (e ∷ [])) ∙ length-append (storages t) (storages (e ∷ [])) ∙ omega (arith, is) in
    few_from whole (cells + size_or_none whole s.size) (n + 1) items (t ++ e ∷ []) long (not_last n room low) (no_right _ (storage_places whole (cells + size_or_none whole s.size) (n + 1) items) h)
few_from whole cells n (item.Let at m equals minus z ∷ items) t is low h = few_from whole cells n items (t ++ entry t (item.Let at m equals minus z) ∷ []) (same_length t _ n refl is) low h
few_from whole cells n (item.Type at m equals x ∷ items) t is low h = few_from whole cells n items (t ++ entry t (item.Type at m equals x) ∷ []) (same_length t _ n refl is) low h
few_from whole cells n (item.Port p ∷ items) t is low h = few_from whole cells n items (t ++ entry t (item.Port p) ∷ []) (same_length t (entry t (item.Port p)) n (port_none t p.name.text p.word _) is) low h
few_from whole cells n (item.OrRule r ∷ items) t is low h = few_from whole cells n items (t ++ entry t (item.OrRule r) ∷ []) (same_length t _ n refl is) low h
few_from whole cells n (item.OpRule r ∷ items) t is low h = few_from whole cells n items (t ++ entry t (item.OpRule r) ∷ []) (same_length t _ n refl is) low h
few_from whole cells n (item.ModeRule r ∷ items) t is low h = few_from whole cells n items (t ++ entry t (item.ModeRule r) ∷ []) (same_length t _ n refl is) low h

few_storages : (d : Desc) → IsTyped d → length (storages (table d)) ≤ 65536
few_storages d typed =
    let places : width_places d ≡ [] = none_from (width_places d) (λ at c. typed 7 (omega arith) (By_width at c)) in
    few_from (table d) 0 0 d.items [] refl (omega arith) (no_left (storage_places (table d) 0 0 d.items) (flat_map (item_widths (table d)) d.items) places)

-- PC
pc_stands : (d : Desc) → IsTyped d → (k m : ℕ) × (slice_get (storages (table d)) (pc (table d)) ≡ Some (k, tys.Card m)) × (m ≤ 16)
pc_stands d typed =
    let p = pc_declared d typed in
    let number : pc (table d) ≡ p.0 = ap storage_number p.3 in
    (p.1, p.2, ap (slice_get (storages (table d))) number ∙ (all_numbered d).0 (codes "PC") p.0 p.1 (tys.Card p.2) p.3, pc_small d typed p.0 p.1 (tys.Card p.2) p.3)

pub pc_within : (d : Desc) → IsTyped d → pc (table d) < length (storages (table d))
pc_within d typed = let p = pc_stands d typed in get_below (storages (table d)) (pc (table d)) (p.0, tys.Card p.1) p.2

-- the number that is found for it
pub pc_low : (d : Desc) → IsTyped d → (items : List Item) (name : Text) (n : ℕ) → items ≡ d.items → name ≡ codes "PC" → n ≡ storage_number (declared (entries [] items) name) → n < 65536
pc_low d typed items name n same named is =
    let e : n ≡ pc (table d) = is ∙ ap (λ xs. storage_number (declared (entries [] xs) name)) same ∙ ap (λ q. storage_number (declared (table d) q)) named in
    let low = pc_within d typed in
    let few = few_storages d typed in
    omega (arith, e, low, few)

pc_bits : (d : Desc) → IsTyped d → width_of (storage_type (table d) (pc (table d))) ≤ 16
pc_bits d typed =
    let p = pc_stands d typed in
    let is : storage_type (table d) (pc (table d)) ≡ tys.Card p.1 = ap (λ o. unwrap_or o tys.Bool) (get_mapped (λ s. s.1) (storages (table d)) (pc (table d)) (p.0, tys.Card p.1) p.2) in
    subst (λ ty. width_of ty ≤ 16) (sym is) p.3

-- the root has a derivation, whose image is of 8 to 64 bits
root_derivation : (d : Desc) → IsTyped d → HasOne (table d) (codes "instruction")
root_derivation d typed =
    has_derivation (table d) (are_made d (λ k low. typed k (omega (arith, low)))) (λ rule fault. typed 5 (omega arith) (By_cycle rule fault)) (codes "instruction") (root_is_rule d typed)

pub word_bits : (d : Desc) (width : ℕ) → IsTyped d → IsWordWidth (table d) width → (8 ≤ width) × (width ≤ 64)
word_bits d width typed is =
    let x = root_derivation d typed in
    let low = at_least 8 (length (image x.0)) (λ h. typed 9 (omega arith) (By_word (codes "instruction") (Narrow x.0 refl x.1 h))) in
    let high = at_least (length (image x.0)) 64 (λ h. typed 9 (omega arith) (By_word (codes "instruction") (Wide x.0 refl x.1 h))) in
    let same = is x.0 x.1 in
    (omega (arith, low, same), omega (arith, high, same))

pub limited : (d : Desc) (width : ℕ) → IsChecked d → IsWordWidth (table d) width → IsLimited (measures (table d) width)
limited d width checked is =
    let typed : IsTyped d = λ k low. checked.free k (omega (arith, low)) in
    let word = word_bits d width typed is in
    record { wide = word.0; narrow = word.1; few_words = pc_bits d typed; pc_is = pc_within d typed; few = few_storages d typed; small = small d typed }
