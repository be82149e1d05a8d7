-- The values in the order of their cells.
use Rattle.std.proofs.Common.{ℕ, ◌≡◌, refl, ◌∙◌, ap, arith, Bool, true, false, cond, List, [], ◌∷◌, filter, Some, None}
use Rattle.std.specs.Prelude.{◌==◌, nat_lt, ◌&&◌, ◌||◌, is_some}
use Rattle.std.specs.List.{list_any, AllByRecursion}
use Rattle.std.specs.List.Sorted.{IsPermutation, IsStrictlySortedBy}
use Rattle.std.specs.Map.{lookup, keys_of}
use Rattle.std.specs.BTreeMap.{insert_entry, is_at}
use Rattle.std.specs.Ordering.{nat_cmp, ordering_then, is_eq, match_ordering}
use Rattle.std.specs.declared.cmp.Ordering.{Ordering}
use Rattle.std.specs.declared.cmp.Ordering.TheVariants.{Less, Equal, Greater}
use Rattle.std.proofs.lemmas.List.Sorted.{IsPermutation-refl, IsPermutation-cons, IsPermutation-trans, IsPermutation-middle}
use Rattle.std.proofs.lemmas.Map.Keys.{sorted_head, sorted_tail}
use Rattle.std.proofs.lemmas.Bool.Decides.{nat_tests}
use Rattle.nml_tree.specs.Machine.{Initial}
use Rattle.asm_text.specs.Assembled.{is_same_cell, is_before, rise}
use Rattle.asm_data.specs.Storages.{initial_of}
use Rattle.asm_data.specs.Values.{initials, is_some_value}
use Rattle.asm_data.specs.declared.storages.Cell.{Cell}

-- cells in order of storage, then number
abbrev pub cell_cmp : Cell → Cell → Ordering
cell_cmp a b = ordering_then (nat_cmp a.storage b.storage) (nat_cmp a.cell b.cell)

equal_numbers : (a b c d : ℕ) → is_eq (ordering_then (nat_cmp a c) (nat_cmp b d)) ≡ ((a == c) && (b == d))
equal_numbers a b c d = grind (arith, nat_tests)

less_numbers : (a b c d : ℕ) → ordering_then (nat_cmp a c) (nat_cmp b d) ≡ Less → (nat_lt a c || ((a == c) && nat_lt b d)) ≡ true
less_numbers a b c d h = grind (arith, nat_tests)

-- the value stands at the cell already
pub found : (es : List (Cell × ℕ)) (p : Cell × ℕ) → is_some (lookup (is_at (cell_cmp p.0)) es) ≡ list_any (is_same_cell (initial_of p)) (initials es)
found [] p = refl
found (e ∷ es) p = ap (λ b. is_some (cond b (Some e.1) (lookup (is_at (cell_cmp p.0)) es))) (equal_numbers p.0.storage p.0.cell e.0.storage e.0.cell) ∙ by (is_same_cell (initial_of p) (initial_of e)) (found es p)
  where
    by : (b : Bool) → is_some (lookup (is_at (cell_cmp p.0)) es) ≡ list_any (is_same_cell (initial_of p)) (initials es)
        → is_some (cond b (Some e.1) (lookup (is_at (cell_cmp p.0)) es)) ≡ (b || list_any (is_same_cell (initial_of p)) (initials es))
    by true more = refl
    by false more = more

-- a new cell's value comes to the others
pub came : (es : List (Cell × ℕ)) (k : Cell) (v : ℕ) → lookup (is_at (cell_cmp k)) es ≡ None → IsPermutation ((k, v) ∷ es) (insert_entry cell_cmp es k v)
came [] k v h = IsPermutation-refl ((k, v) ∷ [])
came (e ∷ es) k v h = by (cell_cmp k e.0) h (λ g. came es k v g)
  where
    by : (o : Ordering) → cond (is_eq o) (Some e.1) (lookup (is_at (cell_cmp k)) es) ≡ None → (lookup (is_at (cell_cmp k)) es ≡ None → IsPermutation ((k, v) ∷ es) (insert_entry cell_cmp es k v))
        → IsPermutation ((k, v) ∷ e ∷ es) (match_ordering o ((k, v) ∷ e ∷ es) ((e.0, v) ∷ es) (e ∷ insert_entry cell_cmp es k v))
    by Less h more = IsPermutation-refl ((k, v) ∷ e ∷ es)
    by Equal h more = absurd cc
    by Greater h more = IsPermutation-trans ((k, v) ∷ e ∷ es) (e ∷ (k, v) ∷ es) (e ∷ insert_entry cell_cmp es k v) (IsPermutation-middle ((k, v) ∷ []) e es) (IsPermutation-cons e ((k, v) ∷ es) (insert_entry cell_cmp es k v) (more h))

-- ---- the order

-- the value stands before each of these
abbrev IsFirst : Initial → List Initial → Type 0
IsFirst x xs = AllByRecursion (λ y. is_before x y ≡ true) xs

first_rises : (x : Initial) (xs : List Initial) → IsFirst x xs → rise xs ≡ true → rise (x ∷ xs) ≡ true
first_rises x [] h k = refl
first_rises x (y ∷ ys) h k = rw (h.0, k) refl

first_filter : (x : Initial) (xs : List Initial) → IsFirst x xs → IsFirst x (filter is_some_value xs)
first_filter x [] h = tt
first_filter x (y ∷ ys) h = by (is_some_value y) (first_filter x ys h.1)
  where
    by : (b : Bool) → IsFirst x (filter is_some_value ys) → IsFirst x (cond b (y ∷ filter is_some_value ys) (filter is_some_value ys))
    by true more = (h.0, more)
    by false more = more

first_of : (k : Cell) (v : ℕ) (es : List (Cell × ℕ)) → AllByRecursion (λ y. cell_cmp k y ≡ Less) (keys_of es) → IsFirst (initial_of (k, v)) (initials es)
first_of k v [] h = tt
first_of k v (e ∷ es) h = (less_numbers k.storage k.cell e.0.storage e.0.cell h.0, first_of k v es h.1)

-- the values that aren't 0 rise
pub rising : (es : List (Cell × ℕ)) → IsStrictlySortedBy cell_cmp (keys_of es) → rise (filter is_some_value (initials es)) ≡ true
rising [] h = refl
rising (e ∷ es) h = by (is_some_value (initial_of e)) (rising es (sorted_tail cell_cmp e.0 (keys_of es) h))
  where
    by : (b : Bool) → rise (filter is_some_value (initials es)) ≡ true → rise (cond b (initial_of e ∷ filter is_some_value (initials es)) (filter is_some_value (initials es))) ≡ true
    by true more = first_rises (initial_of e) (filter is_some_value (initials es)) (first_filter (initial_of e) (initials es) (first_of e.0 e.1 es (sorted_head cell_cmp e.0 (keys_of es) h))) more
    by false more = more
