-- What is known of the items in front, by the number of the item that declares a name first.
use Rattle.std.proofs.Common.{◌≡◌, ℕ, zero, suc, ◌+◌, ◌-◌, ◌≤◌, ◌<◌, Bool, true, false, List, [], ◌∷◌, ◌++◌, take, length, get_or, slice_get, Option, Some, None, option_map, option_and_then, refl, ap, sym, ◌∙◌, arith, if◌then◌else◌}
use Rattle.std.specs.Map.{lookup}
use Rattle.std.specs.Option.{option_or}
use Rattle.nk_base.specs.Text.{text_eq}
use Rattle.nml_tree.specs.declared.tree.Item.{Item}
use Rattle.nml_tree.specs.NameFault.{is_rule}
use Rattle.nml_tree.specs.Table.{Text, Table, Declared, declared, entry, entries}
use Rattle.nml_tree.specs.Uses.{declares}
use Rattle.nml_names.specs.declared.names.Declaration.{Declaration}
use Rattle.nml_names.specs.Naming.{AreDeclared, constant_of, declaration, is_late, least_place}
use Rattle.nml_names.proofs.RuleNames.{entry_name, found_behind, some_same}
use Rattle.nml_known.specs.declared.known.Known.{Known}
use Rattle.nml_known.specs.Known.{all_known, known}

-- the item that is found stands no earlier than the first
first_from : (items : List Item) (j : ℕ) (name : Text) (d : Declaration) → declaration j items name ≡ Some d → j ≤ d.first
first_from [] j name d h = absurd cc
first_from (i ∷ items) j name d h = by (text_eq name (declares i).text) (λ e. first_from items (j + 1) name d e) h
  where
    by : (b : Bool) → (declaration (j + 1) items name ≡ Some d → j + 1 ≤ d.first) → (if b then Some (record { first = j; place = least_place (declares i).at (declaration (j + 1) items name); late = is_late i; rule = is_rule i; constant = constant_of i }) else declaration (j + 1) items name) ≡ Some d → j ≤ d.first
    by true further e = rw (← some_same _ _ e) (omega arith)
    by false further e = let l = further e in omega (arith, l)

-- what a table has stays, whatever stands behind it
kept : (name : Text) (t : Table) (items : List Item) (x : Declared) → lookup (text_eq name) t ≡ Some x → lookup (text_eq name) (entries t items) ≡ Some x
kept name t [] x h = h
kept name t (i ∷ items) x h =
    kept name (t ++ entry t i ∷ []) items x (found_behind name t (entry t i) ∙ ap (λ o. option_or o (if text_eq name (entry t i).0 then Some (entry t i).1 else None)) h)

first_known : (t : Table) (j k : ℕ) (items : List Item) (name : Text) → lookup (text_eq name) t ≡ None
    → option_map known (lookup (text_eq name) (entries t (take k items))) ≡ option_and_then (λ d. slice_get (all_known t (take k items)) (d.first - j)) (declaration j items name)
first_known t j zero items name none = ap (option_map known) none ∙ sym (nothing (declaration j items name))
  where
    nothing : (o : Option Declaration) → option_and_then (λ d. slice_get (all_known t []) (d.first - j)) o ≡ None
    nothing None = refl
    nothing (Some d) = refl
first_known t j (suc k) [] name none = ap (option_map known) none
first_known t j (suc k) (i ∷ items) name none = by (text_eq name (declares i).text) (λ e. first_known (t ++ entry t i ∷ []) (j + 1) k items name e) refl
  where
    next : Table
    next = t ++ entry t i ∷ []

    x : Declared
    x = (entry t i).1

    behind : lookup (text_eq name) next ≡ (if text_eq name (declares i).text then Some x else None)
    behind =
        found_behind name t (entry t i)
        ∙ ap (λ o. option_or o (if text_eq name (entry t i).0 then Some x else None)) none
        ∙ ap (λ n. if text_eq name n then Some x else None) (entry_name t i)

    shifted : (o : Option Declaration) → declaration (j + 1) items name ≡ o
        → option_and_then (λ d. slice_get (all_known next (take k items)) (d.first - (j + 1))) o ≡ option_and_then (λ d. slice_get (known x ∷ all_known next (take k items)) (d.first - j)) o
    shifted None e = refl
    shifted (Some d) e =
        let low = first_from items (j + 1) name d e in
        let n : d.first - j ≡ suc (d.first - (j + 1)) = omega (arith, low) in
        rw n refl

    at_once : slice_get (known x ∷ all_known next (take k items)) (j - j) ≡ Some (known x)
    at_once = let n : j - j ≡ 0 = omega arith in rw n refl

    by : (b : Bool)
        → (lookup (text_eq name) next ≡ None → option_map known (lookup (text_eq name) (entries next (take k items))) ≡ option_and_then (λ d. slice_get (all_known next (take k items)) (d.first - (j + 1))) (declaration (j + 1) items name))
        → text_eq name (declares i).text ≡ b
        → option_map known (lookup (text_eq name) (entries next (take k items)))
        ≡ option_and_then (λ d. slice_get (known x ∷ all_known next (take k items)) (d.first - j)) (if b then Some (record { first = j; place = least_place (declares i).at (declaration (j + 1) items name); late = is_late i; rule = is_rule i; constant = constant_of i }) else declaration (j + 1) items name)
    by true further e = ap (option_map known) (kept name next (take k items) x (behind ∙ ap (λ b. if b then Some x else None) e)) ∙ sym at_once
    by false further e = further (behind ∙ ap (λ b. if b then Some x else None) e) ∙ shifted (declaration (j + 1) items name) refl

-- of the items in front, by what is known of them
pub front_known : (ks : List Known) (items front : List Item) (es : List (Text × Declaration)) (name : Text) (r : Option Declaration) → front ≡ take (length ks) items → AreDeclared es items
    → ks ≡ all_known [] (take (length ks) items) → r ≡ lookup (text_eq name) es
    → option_and_then (λ d. slice_get ks d.first) r ≡ option_map known (declared (entries [] front) name)
front_known ks items front es name r of known_names known_items is =
    rw (is, known_names name, of) (sym (by ks known_items) ∙ sym (first_known [] 0 (length ks) items name refl))
  where
    whole : (n : ℕ) → n - 0 ≡ n
    whole n = omega arith

    plain : (o : Option Declaration) (xs : List Known) → option_and_then (λ d. slice_get xs (d.first - 0)) o ≡ option_and_then (λ d. slice_get xs d.first) o
    plain None xs = refl
    plain (Some d) xs = ap (slice_get xs) (whole d.first)

    by : (xs : List Known) → xs ≡ all_known [] (take (length ks) items) → option_and_then (λ d. slice_get (all_known [] (take (length ks) items)) (d.first - 0)) (declaration 0 items name) ≡ option_and_then (λ d. slice_get xs d.first) (declaration 0 items name)
    by xs e = rw (← e) (plain (declaration 0 items name) xs)

-- ---- one item more

known_append : (t : Table) (xs : List Item) (y : Item) → all_known t (xs ++ y ∷ []) ≡ all_known t xs ++ known (entry (entries t xs) y).1 ∷ []
known_append t [] y = refl
known_append t (x ∷ xs) y = ap (λ ks. known (entry t x).1 ∷ ks) (known_append (t ++ entry t x ∷ []) xs y)

take_more : (xs : List Item) (i : ℕ) (d : Item) → i < length xs → take (suc i) xs ≡ take i xs ++ get_or xs i d ∷ []
take_more [] i d low = absurd (omega (arith, low))
take_more (x ∷ xs) zero d low = refl
take_more (x ∷ xs) (suc i) d low = ap (λ ys. x ∷ ys) (take_more xs i d (omega (arith, low)))

pub take_whole : (xs : List Item) (i : ℕ) → length xs ≤ i → take i xs ≡ xs
take_whole [] zero low = refl
take_whole [] (suc i) low = refl
take_whole (x ∷ xs) zero low = absurd (omega (arith, low))
take_whole (x ∷ xs) (suc i) low = ap (λ ys. x ∷ ys) (take_whole xs i (omega (arith, low)))

length_append : (xs : List Known) (y : Known) → length (xs ++ y ∷ []) ≡ suc (length xs)
length_append [] y = refl
length_append (x ∷ xs) y = ap suc (length_append xs y)

-- what is known of the first items, of which there are so many
pub record Learned (items : List Item) (ks : List Known) (n : ℕ) : Type 0 where
  pub many : length ks ≡ n
  pub are : ks ≡ all_known [] (take n items)

pub learned_none : (items : List Item) → Learned items [] 0
learned_none items = record { many = refl; are = refl }

pub learned_more : (items : List Item) (ks : List Known) (n : ℕ) (i : Item) (k : Known) → Learned items ks n → n < length items → i ≡ get_or items n i → k ≡ known (entry (entries [] (take (length ks) items)) i).1
    → Learned items (ks ++ k ∷ []) (n + 1)
learned_more items ks n i k l low at is = record {
  many = let m = length_append ks k in let n = l.many in omega (arith, m, n);
  are =
      let s : n + 1 ≡ suc n = omega arith in
      rw (s, take_more items n i low, ← at, known_append [] (take n items) i, ← l.are)
      (ap (λ y. ks ++ y ∷ []) (is ∙ ap (λ m. known (entry (entries [] (take m items)) i).1) l.many));
}

pub front_of : (items : List Item) (ks : List Known) (n : ℕ) → Learned items ks n → ks ≡ all_known [] (take (length ks) items)
front_of items ks n l = l.are ∙ ap (λ m. all_known [] (take m items)) (sym l.many)

pub learned_all : (items : List Item) (ks : List Known) (n : ℕ) → Learned items ks n → length items ≤ n → ks ≡ all_known [] items
learned_all items ks n l far = l.are ∙ ap (all_known []) (take_whole items n far)

known_length : (t : Table) (items : List Item) → length (all_known t items) ≡ length items
known_length t [] = refl
known_length t (i ∷ items) = ap suc (known_length (t ++ entry t i ∷ []) items)

-- all of them are the front
pub whole_front : (items : List Item) (ks : List Known) → ks ≡ all_known [] items → take (length ks) items ≡ items
whole_front items ks is =
    let n : length ks ≡ length items = ap length is ∙ known_length [] items in
    take_whole items (length ks) (omega (arith, n))

-- so are they as the code holds them
pub front_is : (held ks : List Known) (these items : List Item) → held ≡ ks → these ≡ items → ks ≡ all_known [] items → take (length held) these ≡ items
front_is held ks these items a b is = rw (a, b) (whole_front items ks is)
