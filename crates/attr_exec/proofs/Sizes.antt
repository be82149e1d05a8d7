-- In a description in which names and types are right each storage has a cell, and a state of it has the cells that are declared.
use Rattle.std.proofs.Common.{◌≡◌, ℕ, zero, suc, ◌≤◌, ◌<◌, ℤ, pos, negsuc, refl, ap, sym, ◌∙◌, subst, arith, List, [], ◌∷◌, ◌++◌, map, length, Option, Some, None, Bool, true, false, cond, append-nil, append_assoc, ◌⊎◌, inl, inr}
use Rattle.std.specs.Prelude.{flat_map, ◌||◌, option_and_then, unwrap_or, slice_get, int_le}
use Rattle.std.proofs.lemmas.Int.{ints}
use Rattle.std.proofs.lemmas.Bool.{lt-ltb}
use Rattle.std.proofs.lemmas.Grind.{flat_map-append}
use Rattle.nk_base.specs.Text.{text_eq}
use Rattle.nk_base.specs.declared.number.Ty.{Ty}
use Rattle.nml_tree.specs.declared.names.Name.{Name}
use Rattle.nml_tree.specs.declared.tree.Size.{Size}
use Rattle.nml_tree.specs.declared.tree.Size.TheVariants as size
use Rattle.nml_tree.specs.declared.tree.PortWord.{PortWord}
use Rattle.nml_tree.specs.declared.tree.PortWord.TheVariants as port
use Rattle.nml_tree.specs.declared.tree.Item.{Item}
use Rattle.nml_tree.specs.declared.tree.Item.TheVariants as item
use Rattle.nml_tree.specs.declared.tree.Desc.{Desc}
use Rattle.nml_tree.specs.Table.{Text, Table, Declared, declared, table, entry, entries, constant, natural, size_number, port_of}
use Rattle.nml_tree.specs.Uses.{declares, parameters, in_size, in_type}
use Rattle.nml_tree.specs.Places.{unless}
use Rattle.nml_tree.specs.NameFault.{is_among, is_known, may_stand_behind, unknown_places, item_name_places, name_places_from, name_places}
use Rattle.nml_tree.specs.TypeFault.{size_places, is_within, item_places, type_fault_places}
use Rattle.nml_tree.specs.Exec.{storages}
use Rattle.nml_tree.specs.Value.{Cells}
use Rattle.nml_tree.specs.Refused.{IsFreeBelow, By_name, By_type}
use Rattle.nml_state.specs.Cells.{Shown}
use Rattle.nml_state.specs.Wrapping.{has_cell}
use Rattle.nml_state.proofs.Lookups.{kept, entry_name, entries_append, lookup_last}
use Rattle.nml_widths.proofs.Fits.{no_left, no_right, unless_none, both_left}
use Rattle.attr_exec.specs.Does.{IsStateOf}
use Rattle.attr_exec.proofs.Ports.{none_from}
use Rattle.attr_exec.proofs.Lawful.{all_numbered, get_mapped}
use Rattle.attr_exec.proofs.Grounds.{IsSized}

-- look-ups in a table that grows
none_step : (b : Bool) (y : Declared) (p q : Option Declared) → (p ≡ None → q ≡ None) → cond b (Some y) p ≡ None → cond b (Some y) q ≡ None
none_step true y p q f h = absurd cc
none_step false y p q f h = f h

none_last : (t : Table) (e : Text × Declared) (name : Text) → declared t name ≡ None → text_eq name e.0 ≡ false → declared (t ++ e ∷ []) name ≡ None
none_last [] e name h k = rw k refl
none_last (a ∷ t) e name h k = none_step (text_eq name a.0) a.1 (declared t name) (declared (t ++ e ∷ []) name) (λ g. none_last t e name g k) h

some_step : (b : Bool) (y x : Declared) (p q : Option Declared) → (p ≡ None → q ≡ Some x) → cond b (Some y) p ≡ None → cond b (Some y) q ≡ Some x
some_step true y x p q f h = absurd cc
some_step false y x p q f h = f h

some_last : (t : Table) (e : Text × Declared) (name : Text) → declared t name ≡ None → text_eq name e.0 ≡ true → declared (t ++ e ∷ []) name ≡ Some e.1
some_last [] e name h k = rw k refl
some_last (a ∷ t) e name h k = some_step (text_eq name a.0) a.1 e.1 (declared t name) (declared (t ++ e ∷ []) name) (λ g. some_last t e name g k) h

or_none : (a b : Bool) → (a || b) ≡ false → (a ≡ false) × (b ≡ false)
or_none true b h = absurd cc
or_none false b h = (refl, h)

or_one : (a b : Bool) → (a || b) ≡ true → (a ≡ true) ⊎ (b ≡ true)
or_one true b h = inl refl
or_one false b h = inr h

not_declared : (earlier : List Item) (t : Table) (name : Text) → is_among name (map declares earlier) ≡ false → declared t name ≡ None → declared (entries t earlier) name ≡ None
not_declared [] t name h none = none
not_declared (i ∷ earlier) t name h none =
    let a = or_none (text_eq name (declares i).text) (is_among name (map declares earlier)) h in
    not_declared earlier (t ++ entry t i ∷ []) name a.1 (none_last t (entry t i) name none (rw (entry_name t i) a.0))

is_there : (earlier : List Item) (t : Table) (name : Text) (o : Option Declared) → declared t name ≡ o → is_among name (map declares earlier) ≡ true → (x : Declared) × (declared (entries t earlier) name ≡ Some x)
is_there [] t name o is h = absurd cc
is_there (i ∷ earlier) t name (Some x) is h = (x, kept (i ∷ earlier) t name x is)
is_there (i ∷ earlier) t name None is h =
    elim (or_one (text_eq name (declares i).text) (is_among name (map declares earlier)) h) [
      | inl here ↦ ((entry t i).1, kept earlier (t ++ entry t i ∷ []) name _ (some_last t (entry t i) name is (rw (entry_name t i) here)))
      | inr later ↦ is_there earlier (t ++ entry t i ∷ []) name _ refl later
    ]

no_constant : (o : Option Declared) → may_stand_behind o ≡ true → option_and_then constant o ≡ None
no_constant None h = absurd cc
no_constant (Some (Declared.Constant z)) h = absurd cc
no_constant (Some (Declared.TypeName ty)) h = absurd cc
no_constant (Some (Declared.Storage n k ty)) h = refl
no_constant (Some (Declared.Trn n ty)) h = refl
no_constant (Some (Declared.Inp ty)) h = refl
no_constant (Some (Declared.Out ty)) h = refl
no_constant (Some (Declared.Or mode names)) h = refl
no_constant (Some (Declared.And rule)) h = refl

-- a size before an item that may name it is what it is in the whole table
same_known : (earlier rest : List Item) (name : Text) (b : Bool) → is_among name (map declares earlier) ≡ b → (b || may_stand_behind (declared (entries [] (earlier ++ rest)) name)) ≡ true
    → option_and_then constant (declared (entries [] earlier) name) ≡ option_and_then constant (declared (entries [] (earlier ++ rest)) name)
same_known earlier rest name true is h =
    let f = is_there earlier [] name _ refl is in
    let g : declared (entries [] (earlier ++ rest)) name ≡ Some f.0 = ap (λ u. declared u name) (entries_append earlier rest []) ∙ kept rest (entries [] earlier) name f.0 f.1 in
    rw (f.1, g) refl
same_known earlier rest name false is h =
    let none = not_declared earlier [] name is refl in
    rw none (sym (no_constant _ h))

abbrev Unknowns : Table → List Item → Item → List Name → List ℕ
Unknowns whole earlier i names = flat_map (λ n. unless (is_known whole earlier i n) n.at) names

same_size : (earlier rest : List Item) (i : Item) (n : Size) → parameters i ≡ [] → Unknowns (entries [] (earlier ++ rest)) earlier i (in_size n) ≡ [] → size_number (entries [] earlier) n ≡ size_number (entries [] (earlier ++ rest)) n
same_size earlier rest i (size.Number z) alone h = refl
same_size earlier rest i (size.Name n) alone h =
    let known = unless_none _ n.at (no_left _ [] h) in
    let e : (is_among n.text (map declares earlier) || may_stand_behind (declared (entries [] (earlier ++ rest)) n.text)) ≡ true = rw alone at known in
    same_known earlier rest n.text _ refl e

unknown_left : (whole : Table) (earlier : List Item) (i : Item) (xs ys : List Name) → Unknowns whole earlier i (xs ++ ys) ≡ [] → Unknowns whole earlier i xs ≡ []
unknown_left whole earlier i xs ys h = no_left _ (Unknowns whole earlier i ys) (sym (flat_map-append (λ n. unless (is_known whole earlier i n) n.at) xs ys) ∙ h)

some_number : (o : Option ℤ) (most : ℕ) → is_within 1 most o ≡ true → 1 ≤ unwrap_or (option_and_then natural o) 0
some_number None most h = absurd cc
some_number (Some (pos n)) most h = omega (arith, ints, both_left (int_le (pos 1) (pos n)) (int_le (pos n) (pos most)) h)
some_number (Some (negsuc n)) most h = absurd (omega (arith, ints, both_left (int_le (pos 1) (negsuc n)) (int_le (negsuc n) (pos most)) h))

-- each storage of a table has a cell
abbrev HaveCells : Table → Type 0
HaveCells t = (q : Text) (n k : ℕ) (u : Ty) → declared t q ≡ Some (Declared.Storage n k u) → 1 ≤ k

no_port : (t : Table) (w : PortWord) (ty u : Ty) (n k : ℕ) → port_of t w ty ≡ Declared.Storage n k u → ⊥
no_port t (port.Trn at) ty u n k h = cc
no_port t (port.Inp at) ty u n k h = cc
no_port t (port.Out at) ty u n k h = cc

same_storage : (a b c d : ℕ) (x y : Ty) → Declared.Storage a c x ≡ Declared.Storage b d y → c ≡ d
same_storage a b c d x y h = cc

item_cells : (earlier rest : List Item) (i : Item) → unknown_places (entries [] (earlier ++ rest)) earlier i ≡ [] → item_places (entries [] (earlier ++ rest)) i ≡ [] → (n k : ℕ) (u : Ty) → (entry (entries [] earlier) i).1 ≡ Declared.Storage n k u → 1 ≤ k
item_cells earlier rest (item.Let at m equals minus z) known h n k u e = absurd cc
item_cells earlier rest (item.Type at m equals x) known h n k u e = absurd cc
item_cells earlier rest (item.Storage s) known h n k u e =
    let whole = entries [] (earlier ++ rest) in
    let sizes : size_places whole 1 s.size ≡ [] = no_left _ _ (no_left _ _ h) in
    let some = some_number (size_number whole s.size) 65536 (unless_none _ _ sizes) in
    let same = same_size earlier rest (item.Storage s) s.size refl (unknown_left whole earlier (item.Storage s) (in_size s.size) (in_type s.ty) known) in
    subst (λ j. 1 ≤ j) (same_storage _ n _ k _ u e) (subst (λ o. 1 ≤ unwrap_or (option_and_then natural o) 0) (sym same) some)
item_cells earlier rest (item.Port p) known h n k u e = absurd (no_port (entries [] earlier) p.word _ u n k e)
item_cells earlier rest (item.OrRule r) known h n k u e = absurd cc
item_cells earlier rest (item.OpRule r) known h n k u e = absurd cc
item_cells earlier rest (item.ModeRule r) known h n k u e = absurd cc

cells_from : (items earlier all : List Item) → all ≡ earlier ++ items → HaveCells (entries [] earlier) → name_places_from (entries [] all) all earlier items ≡ [] → flat_map (item_places (entries [] all)) items ≡ [] → HaveCells (entries [] all)
cells_from [] earlier all is have names types = subst (λ xs. HaveCells (entries [] xs)) (sym (append-nil earlier) ∙ sym is) have
cells_from (i ∷ items) earlier all is have names types =
    let here : item_name_places (entries [] all) all earlier i ≡ [] = no_left _ _ names in
    let known : unknown_places (entries [] all) earlier i ≡ [] = no_left _ _ (no_left _ _ (no_left _ _ here)) in
    let places : item_places (entries [] all) i ≡ [] = no_left _ _ types in
    let one = item_cells earlier (i ∷ items) i (subst (λ xs. unknown_places (entries [] xs) earlier i ≡ []) is known) (subst (λ xs. item_places (entries [] xs) i ≡ []) is places) in
    let next : entries [] (earlier ++ i ∷ []) ≡ entries [] earlier ++ entry (entries [] earlier) i ∷ [] = entries_append earlier (i ∷ []) [] in
    let more : HaveCells (entries [] earlier ++ entry (entries [] earlier) i ∷ []) =
    λ q n k u e. elim (lookup_last (entries [] earlier) (entry (entries [] earlier) i) q _ e) [ inl old ↦ have q n k u old | inr new ↦ one n k u new ] in
    cells_from items (earlier ++ i ∷ []) all (is ∙ sym (append_assoc earlier (i ∷ []) items)) (subst HaveCells (sym next) more) (no_right (item_name_places (entries [] all) all earlier i) _ names) (no_right (item_places (entries [] all) i) _ types)

have_cells : (d : Desc) → IsFreeBelow 8 d → HaveCells (table d)
have_cells d free =
    let names : name_places d ≡ [] = none_from (name_places d) (λ at c. free 4 (omega arith) (By_name at c)) in
    let types : type_fault_places d ≡ [] = none_from (type_fault_places d) (λ at c. free 6 (omega arith) (By_type at c)) in
    cells_from d.items [] d.items refl (λ q n k u is. absurd cc) names types

row_has : (cells : Cells) (n k j : ℕ) → slice_get (map (λ row. length row) cells) n ≡ Some k → j < k → has_cell cells n j ≡ true
row_has [] n k j h low = absurd cc
row_has (row ∷ cells) zero k j h low = let e : length row ≡ k = cc in lt-ltb j (length row) (omega (arith, low, e))
row_has (row ∷ cells) (suc n) k j h low = row_has cells n k j h low

pub sized : (d : Desc) → IsFreeBelow 8 d → (s : Shown) → IsStateOf (table d) s → IsSized (table d) s.cells
sized d free s state q n k u is = (
  have_cells d free q n k u is,
  λ j low. row_has s.cells n k j (ap (λ xs. slice_get xs n) state.sizes_are ∙ get_mapped (λ x. x.0) (storages (table d)) n (k, u) ((all_numbered d).0 q n k u is)) low,
)
