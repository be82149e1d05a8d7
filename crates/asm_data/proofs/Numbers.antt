-- The numbers of the storages by their names, item by item.
use Rattle.std.proofs.Common.{ℕ, ◌≡◌, ◌+◌, ◌≤◌, ◌<◌, refl, sym, ◌∙◌, ap, subst, arith, Bool, true, false, cond, List, [], ◌∷◌, ◌++◌, filter, length, length-append, take, get_or, Option, Some, None}
use Rattle.std.specs.Prelude.{option_map, is_some, if◌then◌else◌}
use Rattle.std.specs.Map.{lookup}
use Rattle.std.specs.Option.{option_or}
use Rattle.nk_base.specs.Text.{text_eq}
use Rattle.nml_tree.specs.declared.names.Name.{Name}
use Rattle.nml_tree.specs.declared.tree.Item.{Item}
use Rattle.nml_tree.specs.Table.{Text, Table, Declared, declared, entries, entry, is_storage}
use Rattle.nml_tree.specs.Uses.{declares}
use Rattle.nml_state.proofs.Lookups.{entries_next, entries_all, entry_name}
use Rattle.asm_data.specs.Storages.{HasNumbers, number_in}

-- each name of the table has its number, and so many storages are declared
pub record AreCounted (t : Table) (es : List (Text × Option ℕ)) (count k : ℕ) : Type 0 where
  pub numbers : HasNumbers t es
  pub count_is : count ≡ length (filter is_storage t)
  pub few : count ≤ k

declared_last : (t : Table) (e : Text × Declared) (q : Text) → declared (t ++ e ∷ []) q ≡ option_or (declared t q) (cond (text_eq q e.0) (Some e.1) None)
declared_last [] e q = refl
declared_last (a ∷ t) e q = by (text_eq q a.0) (declared_last t e q)
  where
    by : (b : Bool) → declared (t ++ e ∷ []) q ≡ option_or (declared t q) (cond (text_eq q e.0) (Some e.1) None)
        → cond b (Some a.1) (declared (t ++ e ∷ []) q) ≡ option_or (cond b (Some a.1) (declared t q)) (cond (text_eq q e.0) (Some e.1) None)
    by true more = refl
    by false more = more

map_or : (o p : Option Declared) → option_map number_in (option_or o p) ≡ option_or (option_map number_in o) (option_map number_in p)
map_or None p = refl
map_or (Some x) p = refl

map_cond : (b : Bool) (x : Declared) → option_map number_in (cond b (Some x) None) ≡ cond b (Some (number_in x)) None
map_cond true x = refl
map_cond false x = refl

numbers_next : (t : Table) (e : Text × Declared) (es new : List (Text × Option ℕ)) → HasNumbers t es
    → ((q : Text) → lookup (text_eq q) new ≡ option_or (lookup (text_eq q) es) (cond (text_eq q e.0) (Some (number_in e.1)) None)) → HasNumbers (t ++ e ∷ []) new
numbers_next t e es new h is q =
    is q ∙ ap (λ o. option_or o (cond (text_eq q e.0) (Some (number_in e.1)) None)) (h q) ∙ ap (λ o. option_or (option_map number_in (declared t q)) o) (sym (map_cond (text_eq q e.0) e.1))
    ∙ sym (map_or (declared t q) (cond (text_eq q e.0) (Some e.1) None)) ∙ ap (option_map number_in) (sym (declared_last t e q))

filter_last : (t : Table) (e : Text × Declared) → filter is_storage (t ++ e ∷ []) ≡ filter is_storage t ++ filter is_storage (e ∷ [])
filter_last [] e = refl
filter_last (a ∷ t) e = by (is_storage a) (filter_last t e)
  where
    by : (b : Bool) → filter is_storage (t ++ e ∷ []) ≡ filter is_storage t ++ filter is_storage (e ∷ [])
        → cond b (a ∷ filter is_storage (t ++ e ∷ [])) (filter is_storage (t ++ e ∷ [])) ≡ cond b (a ∷ filter is_storage t) (filter is_storage t) ++ filter is_storage (e ∷ [])
    by true more = ap (λ xs. a ∷ xs) more
    by false more = more

one_counted : (name : Text) (x : Declared) → length (filter is_storage ((name, x) ∷ [])) ≡ (if is_some (number_in x) then 1 else 0)
one_counted name (Declared.Constant z) = refl
one_counted name (Declared.TypeName ty) = refl
one_counted name (Declared.Storage n k ty) = refl
one_counted name (Declared.Trn n ty) = refl
one_counted name (Declared.Inp ty) = refl
one_counted name (Declared.Out ty) = refl
one_counted name (Declared.Or mode names) = refl
one_counted name (Declared.And rule) = refl

at_most_one : (b : Bool) → (if b then 1 else 0) ≤ 1
at_most_one true = omega arith
at_most_one false = omega arith

pub none_counted : AreCounted [] [] 0 0
none_counted = record { numbers = λ q. refl; count_is = refl; few = omega arith }

counted_last : (t : Table) (e : Text × Declared) (es new : List (Text × Option ℕ)) (count k : ℕ) → AreCounted t es count k
    → ((q : Text) → lookup (text_eq q) new ≡ option_or (lookup (text_eq q) es) (cond (text_eq q e.0) (Some (number_in e.1)) None))
    → AreCounted (t ++ e ∷ []) new (count + (if is_some (number_in e.1) then 1 else 0)) (k + 1)
counted_last t e es new count k h is = record {
  numbers = numbers_next t e es new h.numbers is;
  count_is =
      ap (λ n. n + (if is_some (number_in e.1) then 1 else 0)) h.count_is ∙ ap (λ n. length (filter is_storage t) + n) (sym (one_counted e.0 e.1))
      ∙ sym (length-append (filter is_storage t) (filter is_storage (e ∷ []))) ∙ ap length (sym (filter_last t e));
  few = let one = at_most_one (is_some (number_in e.1)) in let few = h.few in omega (arith, one, few);
}

-- one item more
module _ (items : List Item) (k : ℕ) (i : Item) (number : Option ℕ) (es new : List (Text × Option ℕ)) (count one : ℕ) (name : Name) where
  abbrev t : Table
  t = entries [] (take k items)

  abbrev with_entry : Text → Option ℕ → Text → Option (Option ℕ)
  with_entry s n q = option_or (lookup (text_eq q) es) (cond (text_eq q s) (Some n) None)

  pub counted_next : AreCounted t es count k → k < length items → i ≡ get_or items k i → ((u : Table) → count ≡ length (filter is_storage u) → number ≡ number_in (entry u i).1) → name ≡ declares i
      → ((q : Text) → lookup (text_eq q) new ≡ with_entry name.text number q) → one ≡ (if is_some number then 1 else 0)
      → AreCounted (entries [] (take (k + 1) items)) new (count + one) (k + 1)
  counted_next h low is told name_is added one_is =
      let number_is : number ≡ number_in (entry t i).1 = told t h.count_is in
      let text_is : name.text ≡ (entry t i).0 = ap (λ (n : Name). n.text) name_is ∙ sym (entry_name t i) in
      let whole : entries [] (take (k + 1) items) ≡ t ++ entry t i ∷ [] = entries_next items k i low ∙ ap (λ x. t ++ entry t x ∷ []) (sym is) in
      let last = counted_last t (entry t i) es new count k h (λ q. added q ∙ ap (λ s. with_entry s number q) text_is ∙ ap (λ n. with_entry (entry t i).0 n q) number_is) in
      let same : count + one ≡ count + (if is_some (number_in (entry t i).1) then 1 else 0) = ap (λ n. count + n) (one_is ∙ ap (λ n. if is_some n then 1 else 0) number_is) in
      subst (λ u. AreCounted u new (count + one) (k + 1)) (sym whole) (subst (λ n. AreCounted (t ++ entry t i ∷ []) new n (k + 1)) (sym same) last)

pub all_counted : (items : List Item) (k : ℕ) (es : List (Text × Option ℕ)) (count : ℕ) → AreCounted (entries [] (take k items)) es count k → length items ≤ k → HasNumbers (entries [] items) es
all_counted items k es count h low = subst (λ t. HasNumbers t es) (entries_all items k low) h.numbers
