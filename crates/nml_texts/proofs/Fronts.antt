-- What the first items of a description declare.
use Rattle.std.proofs.Common.{◌≡◌, ℕ, zero, suc, ◌+◌, ◌≤◌, ◌<◌, nat_lt, Bool, true, false, List, [], ◌∷◌, ◌++◌, take, length, get_or, slice_get, Option, Some, None, option_map, option_and_then, unwrap_or, refl, ap, sym, subst, ◌∙◌, arith, if◌then◌else◌, ◌⊎◌, inl, inr}
use Rattle.std.proofs.lemmas.Bool.Decides.{nat_tests}
use Rattle.std.specs.Map.{lookup}
use Rattle.std.specs.Option.{option_or}
use Rattle.nk_base.specs.Text.{text_eq}
use Rattle.nml_tree.specs.declared.names.Name.{Name}
use Rattle.nml_tree.specs.declared.tree.Size.TheVariants as size
use Rattle.nml_tree.specs.declared.tree.Item.{Item}
use Rattle.nml_tree.specs.declared.tree.Desc.{Desc}
use Rattle.nml_tree.specs.NameFault.{is_rule}
use Rattle.nml_tree.specs.Table.{Text, Table, Declared, constant, declared, entry, entries, size_number, table}
use Rattle.nml_tree.specs.Uses.{declares}
use Rattle.nml_names.specs.declared.names.Declaration.{Declaration}
use Rattle.nml_names.specs.Naming.{constant_of, declaration, is_late, least_place}
use Rattle.nml_names.proofs.RuleNames.{entry_name, found_behind, some_same}
use Rattle.nml_known.specs.Known.{item_number}
use Rattle.nml_texts.specs.Widths.{bits_of, declared_bits, HasBits, is_before}

lt_true : (a b : ℕ) → a < b → nat_lt a b ≡ true
lt_true a b h = grind (arith, nat_tests)

lt_false : (a b : ℕ) → b ≤ a → nat_lt a b ≡ false
lt_false a b h = grind (arith, nat_tests)

-- the item that is found stands no earlier than the first
first_from : (items : List Item) (j : ℕ) (name : Text) (d : Declaration) → declaration j items name ≡ Some d → j ≤ d.first
first_from [] j name d h = absurd cc
first_from (i ∷ items) j name d h = by (text_eq name (declares i).text) h (first_from items (j + 1) name d)
  where
    by : (b : Bool) → (if b then Some (record { first = j; place = least_place (declares i).at (declaration (j + 1) items name); late = is_late i; rule = is_rule i; constant = constant_of i }) else declaration (j + 1) items name) ≡ Some d
        → (declaration (j + 1) items name ≡ Some d → j + 1 ≤ d.first) → j ≤ d.first
    by true e rest = rw (← some_same _ _ e) (omega arith)
    by false e rest = let l = rest e in omega (arith, l)

-- what a table has stays, whatever stands behind it
kept : (name : Text) (t : Table) (items : List Item) (x : Declared) → lookup (text_eq name) t ≡ Some x → lookup (text_eq name) (entries t items) ≡ Some x
kept name t [] x h = h
kept name t (i ∷ items) x h =
    kept name (t ++ entry t i ∷ []) items x (found_behind name t (entry t i) ∙ ap (λ o. option_or o (if text_eq name (entry t i).0 then Some (entry t i).1 else None)) h)

abbrev first_of : Option Declaration → Option ℕ
first_of o = option_map (λ k. k.first) o

-- with one item more
behind : (t : Table) (i : Item) (name : Text) (b : Bool) → lookup (text_eq name) t ≡ None → text_eq name (declares i).text ≡ b → lookup (text_eq name) (t ++ entry t i ∷ []) ≡ (if b then Some (entry t i).1 else None)
behind t i name b none e =
    found_behind name t (entry t i)
    ∙ ap (λ o. option_or o (if text_eq name (entry t i).0 then Some (entry t i).1 else None)) none
    ∙ ap (λ n. if text_eq name n then Some (entry t i).1 else None) (entry_name t i)
    ∙ ap (λ b. if b then Some (entry t i).1 else None) e

not_before : (j : ℕ) (items : List Item) (name : Text) → is_before (j + 0) (first_of (declaration j items name)) ≡ false
not_before j items name = by (declaration j items name) refl
  where
    by : (o : Option Declaration) → declaration j items name ≡ o → is_before (j + 0) (first_of o) ≡ false
    by None e = refl
    by (Some d) e = let l = first_from items j name d e in lt_false d.first (j + 0) (omega (arith, l))

-- of the first items, what all declare, where one of the first declares it
from_front : (t : Table) (j k : ℕ) (items : List Item) (name : Text) → lookup (text_eq name) t ≡ None
    → lookup (text_eq name) (entries t (take k items)) ≡ (if is_before (j + k) (first_of (declaration j items name)) then lookup (text_eq name) (entries t items) else None)
from_front t j zero items name none = rw (not_before j items name) none
from_front t j (suc k) [] name none = none
from_front t j (suc k) (i ∷ items) name none =
    by (text_eq name (declares i).text) refl (from_front (t ++ entry t i ∷ []) (j + 1) k items name)
  where
    by : (b : Bool) → text_eq name (declares i).text ≡ b
        → (lookup (text_eq name) (t ++ entry t i ∷ []) ≡ None
        → lookup (text_eq name) (entries (t ++ entry t i ∷ []) (take k items)) ≡ (if is_before (j + 1 + k) (first_of (declaration (j + 1) items name)) then lookup (text_eq name) (entries (t ++ entry t i ∷ []) items) else None))
        → lookup (text_eq name) (entries (t ++ entry t i ∷ []) (take k items))
        ≡ (if is_before (j + suc k) (first_of (if b then Some (record { first = j; place = least_place (declares i).at (declaration (j + 1) items name); late = is_late i; rule = is_rule i; constant = constant_of i }) else declaration (j + 1) items name))
        then lookup (text_eq name) (entries (t ++ entry t i ∷ []) items) else None)
    by true e rest =
        let h = behind t i name true none e in
        let low : nat_lt j (j + suc k) ≡ true = lt_true j (j + suc k) (omega arith) in
        rw low (kept name (t ++ entry t i ∷ []) (take k items) (entry t i).1 h ∙ sym (kept name (t ++ entry t i ∷ []) items (entry t i).1 h))
    by false e rest =
        let n : j + suc k ≡ j + 1 + k = omega arith in
        rw n (rest (behind t i name false none e))

pub front_is : (d : Desc) (k : ℕ) (name : Text) → declared (entries [] (take k d.items)) name ≡ (if is_before k (item_number d name) then declared (table d) name else None)
front_is d k name =
    let z : 0 + k ≡ k = omega arith in
    subst (λ m. declared (entries [] (take k d.items)) name ≡ (if is_before m (item_number d name) then declared (table d) name else None)) z (from_front [] 0 k d.items name refl)

pub in_front : (d : Desc) (k : ℕ) (name : Text) (b : Bool) → b ≡ is_before k (item_number d name) → declared (entries [] (take k d.items)) name ≡ (if b then declared (table d) name else None)
in_front d k name b e = front_is d k name ∙ ap (λ b. if b then declared (table d) name else None) (sym e)

-- the size that a name gives
pub size_front : (d : Desc) (k : ℕ) (n : Name) → is_before k (item_number d n.text) ≡ true → size_number (table d) (size.Name n) ≡ size_number (entries [] (take k d.items)) (size.Name n)
size_front d k n e = ap (option_and_then constant) (sym (in_front d k n.text true (sym e)))

pub size_behind : (d : Desc) (k : ℕ) (n : Name) → is_before k (item_number d n.text) ≡ false → None ≡ size_number (entries [] (take k d.items)) (size.Name n)
size_behind d k n e = ap (option_and_then constant) (sym (in_front d k n.text false (sym e)))

beyond : (xs : List ℕ) (n : ℕ) → length xs ≤ n → slice_get xs n ≡ None
beyond [] n h = refl
beyond (x ∷ xs) zero h = absurd (omega (arith, h))
beyond (x ∷ xs) (suc n) h = beyond xs n (omega (arith, h))

-- the bits of a named type
pub named_is : (d : Desc) (bits : List ℕ) (name : Text) (o : Option ℕ) (r : ℕ) → HasBits d bits → o ≡ item_number d name → r ≡ unwrap_or (option_and_then (slice_get bits) o) 0
    → r ≡ declared_bits (declared (entries [] (take (length bits) d.items)) name)
named_is d bits name None r has e is = is ∙ ap declared_bits (sym (in_front d (length bits) name false (ap (is_before (length bits)) e)))
named_is d bits name (Some n) r has e is = by (nat_lt n (length bits)) refl
  where
    by : (b : Bool) → nat_lt n (length bits) ≡ b → r ≡ declared_bits (declared (entries [] (take (length bits) d.items)) name)
    by true t =
        let low : n < length bits = grind (arith, nat_tests) in
        is ∙ ap (λ o. unwrap_or o 0) (has name n (sym e) low) ∙ ap declared_bits (sym (in_front d (length bits) name true (sym t ∙ ap (is_before (length bits)) e)))
    by false t =
        let high : length bits ≤ n = grind (arith, nat_tests) in
        is ∙ ap (λ o. unwrap_or o 0) (beyond bits n high) ∙ ap declared_bits (sym (in_front d (length bits) name false (sym t ∙ ap (is_before (length bits)) e)))

-- the first item of a name declares it
first_entry : (t : Table) (j n : ℕ) (items : List Item) (name : Text) (x : Item) → lookup (text_eq name) t ≡ None → first_of (declaration j items name) ≡ Some (j + n) → n < length items → x ≡ get_or items n x
    → lookup (text_eq name) (entries t items) ≡ Some (entry (entries t (take n items)) x).1
first_entry t j n [] name x none is low at = absurd (omega (arith, low))
first_entry t j n (i ∷ items) name x none is low at = by n (text_eq name (declares i).text) refl is low at (λ m. first_entry (t ++ entry t i ∷ []) (j + 1) m items name x)
  where
    not_here : (o : Option Declaration) → declaration (j + 1) items name ≡ o → first_of o ≡ Some (j + 0) → ⊥
    not_here None e h = cc
    not_here (Some d) e h = let l = first_from items (j + 1) name d e in let s = some_same _ _ h in omega (arith, l, s)

    by : (n : ℕ) (b : Bool) → text_eq name (declares i).text ≡ b
        → first_of (if b then Some (record { first = j; place = least_place (declares i).at (declaration (j + 1) items name); late = is_late i; rule = is_rule i; constant = constant_of i }) else declaration (j + 1) items name) ≡ Some (j + n)
        → n < suc (length items) → x ≡ get_or (i ∷ items) n x
        → ((m : ℕ) → lookup (text_eq name) (t ++ entry t i ∷ []) ≡ None → first_of (declaration (j + 1) items name) ≡ Some (j + 1 + m) → m < length items → x ≡ get_or items m x
        → lookup (text_eq name) (entries (t ++ entry t i ∷ []) items) ≡ Some (entry (entries (t ++ entry t i ∷ []) (take m items)) x).1)
        → lookup (text_eq name) (entries (t ++ entry t i ∷ []) items) ≡ Some (entry (entries t (take n (i ∷ items))) x).1
    by zero true e is low at rest = rw at (kept name (t ++ entry t i ∷ []) items (entry t i).1 (behind t i name true none e))
    by (suc m) true e is low at rest = let s = some_same _ _ is in absurd (omega (arith, s))
    by zero false e is low at rest = absurd (not_here (declaration (j + 1) items name) refl is)
    by (suc m) false e is low at rest =
        let n : j + suc m ≡ j + 1 + m = omega arith in
        rest m (behind t i name false none e) (is ∙ ap Some n) (omega (arith, low)) at

get_old : (xs : List ℕ) (y n : ℕ) → n < length xs → slice_get (xs ++ y ∷ []) n ≡ slice_get xs n
get_old [] y n h = absurd (omega (arith, h))
get_old (x ∷ xs) y zero h = refl
get_old (x ∷ xs) y (suc n) h = get_old xs y n (omega (arith, h))

get_new : (xs : List ℕ) (y : ℕ) → slice_get (xs ++ y ∷ []) (length xs) ≡ Some y
get_new [] y = refl
get_new (x ∷ xs) y = get_new xs y

length_more : (xs : List ℕ) (y : ℕ) → length (xs ++ y ∷ []) ≡ length xs + 1
length_more [] y = refl
length_more (x ∷ xs) y = let h = length_more xs y in omega (arith, h)

-- what is known of the bits of the first items
pub record Known (d : Desc) (bits : List ℕ) (k : ℕ) : Type 0 where
  pub has : HasBits d bits
  pub many : length bits ≡ k

pub known_none : (d : Desc) → Known d [] 0
known_none d = record { has = λ name k is low. absurd (omega (arith, low)); many = refl }

pub known_more : (d : Desc) (bits : List ℕ) (k : ℕ) (i : Item) (b : ℕ) → Known d bits k → k < length d.items → i ≡ get_or d.items k i → b ≡ bits_of (entry (entries [] (take (length bits) d.items)) i).1
    → Known d (bits ++ b ∷ []) (k + 1)
known_more d bits k i b known low at is = record {
  many = length_more bits b ∙ ap (λ n. n + 1) known.many;
  has = λ name n number within. by name n number within (nat_lt n (length bits)) refl;
}
  where
    by : (name : Text) (n : ℕ) → item_number d name ≡ Some n → n < length (bits ++ b ∷ []) → (t : Bool) → nat_lt n (length bits) ≡ t → slice_get (bits ++ b ∷ []) n ≡ Some (declared_bits (declared (table d) name))
    by name n number within true t =
        let old : n < length bits = grind (arith, nat_tests) in
        get_old bits b n old ∙ known.has name n number old
    by name n number within false t =
        let m = length_more bits b in
        let high : length bits ≤ n = grind (arith, nat_tests) in
        let new : n ≡ length bits = omega (arith, m, within, high) in
        let same : length bits ≡ k = known.many in
        let z : 0 + k ≡ k = omega arith in
        let whole : declared (table d) name ≡ Some (entry (entries [] (take k d.items)) i).1 = first_entry [] 0 k d.items name i refl (number ∙ ap Some (new ∙ same ∙ sym z)) low at in
        rw (new) (get_new bits b ∙ ap Some (is ∙ ap (λ m. bits_of (entry (entries [] (take m d.items)) i).1) same ∙ ap declared_bits (sym whole)))
