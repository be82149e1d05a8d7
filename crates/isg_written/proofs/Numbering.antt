-- What the item of a number declares, by the name's place in the table.
use Rattle.std.proofs.Common.{◌≡◌, ℕ, zero, suc, ◌+◌, ◌<◌, ◌≤◌, Bool, true, false, cond, List, [], ◌∷◌, ◌++◌, map, length, take, get_or, slice_get, Option, Some, None, option_and_then, option_map, if◌then◌else◌, refl, ap, sym, ◌∙◌, subst, arith, append_assoc}
use Rattle.std.specs.Prelude.{filter}
use Rattle.std.specs.Map.{lookup}
use Rattle.std.proofs.lemmas.Option.{slice_get-get_or}
use Rattle.nk_base.specs.Text.{text_eq}
use Rattle.nml_tree.specs.declared.tree.Item.{Item}
use Rattle.nml_tree.specs.declared.tree.Desc.{Desc}
use Rattle.nml_tree.specs.NameFault as fault
use Rattle.nml_tree.specs.Table.{Text, Table, Declared, declared, table, entry, entries, is_storage, is_trn}
use Rattle.nml_tree.specs.Uses.{declares}
use Rattle.nml_state.proofs.Lookups.{entries_next, entries_all}
use Rattle.nml_names.specs.Naming.{constant_of, declaration, least_place, is_late}
use Rattle.nml_names.proofs.RuleNames.{entry_name}
use Rattle.nml_known.specs.Known.{item_number}
use Rattle.isg_written.specs.declared.numbered.Counts.{Counts}
use Rattle.isg_written.specs.Counted.{AreCounts}
use Rattle.isg_written.specs.Numbers.{number_of, number_named, all_numbers}

-- the place of a name among names
abbrev place_of : List Text → Text → Option ℕ
place_of [] name = None
place_of (n ∷ ns) name = if text_eq name n then Some 0 else option_map suc (place_of ns name)

abbrev texts : List Item → List Text
texts items = map (λ i. (declares i).text) items

abbrev keys : Table → List Text
keys t = map (λ e. e.0) t

keys_push : (t : Table) (e : Text × Declared) → keys (t ++ e ∷ []) ≡ keys t ++ e.0 ∷ []
keys_push [] e = refl
keys_push (x ∷ t) e = ap (λ ns. x.0 ∷ ns) (keys_push t e)

keys_entries : (items : List Item) (t : Table) → keys (entries t items) ≡ keys t ++ texts items
keys_entries [] t = sym (append_none (keys t))
  where
    append_none : (xs : List Text) → xs ++ [] ≡ xs
    append_none [] = refl
    append_none (x ∷ xs) = ap (λ ys. x ∷ ys) (append_none xs)
keys_entries (i ∷ items) t =
    keys_entries items (t ++ entry t i ∷ []) ∙ ap (λ ns. ns ++ texts items) (keys_push t (entry t i)) ∙ append_assoc (keys t) ((entry t i).0 ∷ []) (texts items) ∙ ap (λ n. keys t ++ (n ∷ texts items)) (entry_name t i)

shift : (o : Option ℕ) (j : ℕ) → option_map (λ k. j + 1 + k) o ≡ option_map (λ k. j + k) (option_map suc o)
shift None j = refl
shift (Some k) j = let e : j + 1 + k ≡ j + suc k = omega arith in ap Some e

numbered_from : (items : List Item) (j : ℕ) (name : Text) → option_map (λ k. k.first) (declaration j items name) ≡ option_map (λ k. j + k) (place_of (texts items) name)
numbered_from [] j name = refl
numbered_from (i ∷ items) j name = by (text_eq name (declares i).text) (numbered_from items (j + 1) name)
  where
    by : (b : Bool) → option_map (λ k. k.first) (declaration (j + 1) items name) ≡ option_map (λ k. j + 1 + k) (place_of (texts items) name)
        → option_map (λ k. k.first) (if b then Some (record { first = j; place = least_place (declares i).at (declaration (j + 1) items name); late = is_late i; rule = fault.is_rule i; constant = constant_of i }) else declaration (j + 1) items name)
        ≡ option_map (λ k. j + k) (if b then Some 0 else option_map suc (place_of (texts items) name))
    by true h = let e : j ≡ j + 0 = omega arith in ap Some e
    by false h = h ∙ shift (place_of (texts items) name) j

plain : (o : Option ℕ) → option_map (λ k. 0 + k) o ≡ o
plain None = refl
plain (Some k) = let e : 0 + k ≡ k = omega arith in ap Some e

number_is : (d : Desc) (name : Text) → item_number d name ≡ place_of (keys (table d)) name
number_is d name = numbered_from d.items 0 name ∙ plain (place_of (texts d.items) name) ∙ ap (λ ns. place_of ns name) (sym (keys_entries d.items []))

place_none : (t : Table) (name : Text) → place_of (keys t) name ≡ None → declared t name ≡ None
place_none [] name h = refl
place_none (e ∷ t) name h = by (text_eq name e.0) (place_of (keys t) name) (place_none t name) h
  where
    by : (b : Bool) (o : Option ℕ) → (o ≡ None → declared t name ≡ None) → (if b then Some 0 else option_map suc o) ≡ None → cond b (Some e.1) (declared t name) ≡ None
    by true o f h = absurd cc
    by false None f h = f refl
    by false (Some k) f h = absurd cc

-- the entry there is what the name is declared as
abbrev PlaceAt : Table → Text → ℕ → Type 0
PlaceAt t name k = (e : Text × Declared) × (slice_get t k ≡ Some e) × (declared t name ≡ Some e.1)

place_some : (t : Table) (name : Text) (k : ℕ) → place_of (keys t) name ≡ Some k → PlaceAt t name k
place_some [] name k h = absurd cc
place_some (e ∷ t) name k h = by (text_eq name e.0) (place_of (keys t) name) k (place_some t name) h
  where
    by : (b : Bool) (o : Option ℕ) (k : ℕ) → ((j : ℕ) → o ≡ Some j → PlaceAt t name j) → (if b then Some 0 else option_map suc o) ≡ Some k → (x : Text × Declared) × (slice_get (e ∷ t) k ≡ Some x) × (cond b (Some e.1) (declared t name) ≡ Some x.1)
    by true o k f h = let s : 0 ≡ k = cc in (e, ap (slice_get (e ∷ t)) (sym s), refl)
    by false None k f h = absurd cc
    by false (Some j) k f h = let s : suc j ≡ k = cc in let g = f j refl in (g.0, ap (slice_get (e ∷ t)) (sym s) ∙ g.1, g.2)

pub none_numbered : (d : Desc) (name : Text) → None ≡ item_number d name → declared (table d) name ≡ None
none_numbered d name h = place_none (table d) name (sym (number_is d name) ∙ sym h)

placed : (d : Desc) (name : Text) (k : ℕ) → Some k ≡ item_number d name → PlaceAt (table d) name k
placed d name k h = place_some (table d) name k (sym (number_is d name) ∙ sym h)

-- an item's entry
get_front : {A : Type 0} (xs ys : List A) (k : ℕ) (x : A) → slice_get xs k ≡ Some x → slice_get (xs ++ ys) k ≡ Some x
get_front [] ys k x h = absurd cc
get_front (z ∷ xs) ys zero x h = h
get_front (z ∷ xs) ys (suc k) x h = get_front xs ys k x h

get_seam : {A : Type 0} (xs : List A) (x : A) → slice_get (xs ++ x ∷ []) (length xs) ≡ Some x
get_seam [] x = refl
get_seam (y ∷ xs) x = get_seam xs x

entries_front : (items : List Item) (t : Table) (k : ℕ) (e : Text × Declared) → slice_get t k ≡ Some e → slice_get (entries t items) k ≡ Some e
entries_front [] t k e h = h
entries_front (i ∷ items) t k e h = entries_front items (t ++ entry t i ∷ []) k e (get_front t (entry t i ∷ []) k e h)

push_length : (t : Table) (e : Text × Declared) → length (t ++ e ∷ []) ≡ suc (length t)
push_length [] e = refl
push_length (x ∷ t) e = ap suc (push_length t e)

entry_at : (items : List Item) (t : Table) (k : ℕ) (i : Item) → slice_get items k ≡ Some i → (u : Table) × (slice_get (entries t items) (length t + k) ≡ Some (entry u i))
entry_at [] t k i h = absurd cc
entry_at (x ∷ items) t zero i h =
    let s : x ≡ i = cc in
    let z : length t + 0 ≡ length t = omega arith in
    (t, ap (slice_get (entries t (x ∷ items))) z ∙ entries_front items (t ++ entry t x ∷ []) (length t) (entry t x) (get_seam t (entry t x)) ∙ ap (λ y. Some (entry t y)) s)
entry_at (x ∷ items) t (suc k) i h =
    let r = entry_at items (t ++ entry t x ∷ []) k i h in
    let z : length t + suc k ≡ length (t ++ entry t x ∷ []) + k = let l = push_length t (entry t x) in omega (arith, l) in
    (r.0, ap (slice_get (entries t (x ∷ items))) z ∙ r.1)

pub item_numbered : (d : Desc) (name : Text) (k : ℕ) (items : List Item) (i : Item) → Some k ≡ item_number d name → items ≡ d.items → k < length items → i ≡ get_or items k i → (u : Table) × (declared (table d) name ≡ Some (entry u i).1)
item_numbered d name k items i h are low at =
    let g : slice_get d.items k ≡ Some i = ap (λ xs. slice_get xs k) (sym are) ∙ slice_get-get_or items k i low ∙ ap Some (sym at) in
    let r = entry_at d.items [] k i g in
    let p = placed d name k h in
    let z : 0 + k ≡ k = omega arith in
    let same : Some p.0 ≡ Some (entry r.0 i) = sym p.1 ∙ ap (slice_get (table d)) (sym z) ∙ r.1 in
    let one : p.0 ≡ entry r.0 i = cc in
    (r.0, p.2 ∙ ap (λ (e : Text × Declared). Some e.1) one)

within : {A : Type 0} (xs : List A) (k : ℕ) (x : A) → slice_get xs k ≡ Some x → k < length xs
within [] k x h = absurd cc
within (y ∷ xs) zero x h = omega arith
within (y ∷ xs) (suc k) x h = omega (arith, within xs k x h)

entries_length : (items : List Item) (t : Table) → length (entries t items) ≡ length t + length items
entries_length [] t = omega arith
entries_length (i ∷ items) t = entries_length items (t ++ entry t i ∷ []) ∙ (let e = push_length t (entry t i) in omega (arith, e))

pub past_items : (d : Desc) (name : Text) (k : ℕ) (items : List Item) → Some k ≡ item_number d name → items ≡ d.items → length items ≤ k → ⊥
past_items d name k items h are past =
    let p = placed d name k h in
    let l = within (table d) k p.0 p.1 in
    let m = entries_length d.items [] in
    let n = ap length are in
    omega (arith, l, m, n, past)

-- the number at a place
numbers_get : (t : Table) (k : ℕ) (e : Text × Declared) → slice_get t k ≡ Some e → slice_get (all_numbers t) k ≡ Some (number_of e.1)
numbers_get [] k e h = absurd cc
numbers_get (x ∷ t) zero e h = let s : x ≡ e = cc in ap (λ (y : Text × Declared). Some (number_of y.1)) s
numbers_get (x ∷ t) (suc k) e h = numbers_get t k e h

pub number_found : (d : Desc) (name : Text) (k : ℕ) (xs ys : List ℕ) (n : ℕ) → Some k ≡ item_number d name → xs ≡ all_numbers (table d) → ys ≡ xs → k < length ys → n ≡ get_or ys k n → n ≡ number_named (declared (table d) name)
number_found d name k xs ys n h are same low at =
    let p = placed d name k h in
    let f : slice_get ys k ≡ Some n = slice_get-get_or ys k n low ∙ ap Some (sym at) in
    let g : Some n ≡ Some (number_of p.0.1) = sym f ∙ ap (λ zs. slice_get zs k) (same ∙ are) ∙ numbers_get (table d) k p.0 p.1 in
    let s : n ≡ number_of p.0.1 = cc in
    s ∙ ap number_named (sym p.2)

pub number_past : (d : Desc) (name : Text) (k : ℕ) (xs ys : List ℕ) → Some k ≡ item_number d name → xs ≡ all_numbers (table d) → ys ≡ xs → length ys ≤ k → ⊥
number_past d name k xs ys h are same past =
    let p = placed d name k h in
    let l = within xs k (number_of p.0.1) (ap (λ zs. slice_get zs k) are ∙ numbers_get (table d) k p.0 p.1) in
    let m = ap length same in
    omega (arith, l, m, past)

-- one item more
numbers_push : (t : Table) (e : Text × Declared) → all_numbers (t ++ e ∷ []) ≡ all_numbers t ++ number_of e.1 ∷ []
numbers_push [] e = refl
numbers_push (x ∷ t) e = ap (λ ns. number_of x.1 ∷ ns) (numbers_push t e)

-- the numbers of the first items, and how many storages and transitories they have
pub record Numbering (items : List Item) (i : ℕ) (xs : List ℕ) (c : Counts) : Type 0 where
  pub are : xs ≡ all_numbers (entries [] (take i items))
  pub counts : AreCounts (entries [] (take i items)) c

pub numbering_more : (items : List Item) (i : ℕ) (xs : List ℕ) (c e : Counts) (x : Item) (n : ℕ) → Numbering items i xs c → i < length items → x ≡ get_or items i x → ((t : Table) → AreCounts t c → n ≡ number_of (entry t x).1) → ((t : Table) → AreCounts t c → AreCounts (t ++ entry t x ∷ []) e)
    → Numbering items (i + 1) (xs ++ n ∷ []) e
numbering_more items i xs c e x n h low at number counts =
    let t : Table = entries [] (take i items) in
    let next : entries [] (take (i + 1) items) ≡ t ++ entry t x ∷ [] = entries_next items i x low ∙ ap (λ y. t ++ entry t y ∷ []) (sym at) in
    record {
      are = ap (λ ys. ys ++ n ∷ []) h.are ∙ ap (λ m. all_numbers t ++ m ∷ []) (number t h.counts) ∙ sym (numbers_push t (entry t x)) ∙ ap all_numbers (sym next);
      counts = subst (λ u. AreCounts u e) (sym next) (counts t h.counts);
    }

pub numbering_all : (items : List Item) (i : ℕ) (xs : List ℕ) (c : Counts) → Numbering items i xs c → length items ≤ i → xs ≡ all_numbers (entries [] items)
numbering_all items i xs c h low = h.are ∙ ap all_numbers (entries_all items i low)
