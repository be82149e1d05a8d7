-- What one line adds to the values.
use Rattle.std.proofs.Common.{ℕ, ◌≡◌, refl, sym, ◌∙◌, ap, subst, Bool, true, false, List, [], ◌∷◌, ◌++◌, Option, Some, None}
use Rattle.std.specs.Prelude.{◌||◌, is_some, not}
use Rattle.std.specs.List.{list_any}
use Rattle.std.specs.List.Sorted.{IsPermutation}
use Rattle.std.specs.Map.{lookup}
use Rattle.std.specs.BTreeMap.{insert_entry, is_at}
use Rattle.std.proofs.lemmas.List.Sorted.{IsPermutation-trans, IsPermutation-to_front, IsPermutation-map}
use Rattle.nml_tree.specs.Machine.{Initial}
use Rattle.nml_tree.specs.Table.{Table}
use Rattle.asm_lines.specs.Line.{Content}
use Rattle.asm_text.specs.Assembled.{given_by, is_same_cell}
use Rattle.asm_text.specs.Refused.{is_data}
use Rattle.asm_data.specs.Storages.{initial_of}
use Rattle.asm_data.specs.Values.{IsAdded, initials, is_wrong}
use Rattle.asm_data.specs.declared.storages.Cell.{Cell}
use Rattle.asm_data.proofs.Ordered.{cell_cmp, found, came}

or_false : (b : Bool) → (b || false) ≡ b
or_false true = refl
or_false false = refl

not_not : (a b : Bool) → a ≡ not b → b ≡ not a
not_not true true h = absurd cc
not_not true false h = refl
not_not false true h = refl
not_not false false h = absurd cc

none_of : (o : Option ℕ) (right : Bool) → is_some o ≡ not right → right ≡ true → o ≡ None
none_of None right h is = refl
none_of (Some v) true h is = absurd cc
none_of (Some v) false h is = absurd cc

-- a line that gives one value is wrong where its cell was given before
wrong_is : (t : Table) (before : List Initial) (c : Content) (x : Initial) → is_data t c ≡ true → given_by t c ≡ x ∷ [] → is_wrong t before c ≡ list_any (is_same_cell x) before
wrong_is t before c x sound gives =
    ap (λ b. not b || list_any (λ i. list_any (is_same_cell i) before) (given_by t c)) sound ∙ ap (λ xs. list_any (λ i. list_any (is_same_cell i) before) xs) gives ∙ or_false (list_any (is_same_cell x) before)

module _ (t : Table) (c : Content) (es new : List (Cell × ℕ)) (k : Cell) (v : ℕ) (old : Option ℕ) (right : Bool) where
  pub added : is_data t c ≡ true → given_by t c ≡ initial_of (k, v) ∷ [] → old ≡ lookup (is_at (cell_cmp k)) es → new ≡ insert_entry cell_cmp es k v → is_some old ≡ not right
      → IsAdded t c (initials es) (initials new) right
  added sound gives was now is = record {
    right_is = not_not (is_wrong t (initials es) c) right (wrong_is t (initials es) c (initial_of (k, v)) sound gives ∙ sym (found es (k, v)) ∙ ap is_some (sym was) ∙ is);
    after_is = λ right_is.
        let one = came es k v (sym was ∙ none_of old right is right_is) in
        let whole = IsPermutation-map initial_of ((k, v) ∷ es) (insert_entry cell_cmp es k v) one in
        subst (λ xs. IsPermutation (initials es ++ xs) (initials new)) (sym gives)
        (subst (λ fs. IsPermutation (initials es ++ initial_of (k, v) ∷ []) (initials fs)) (sym now)
        (IsPermutation-trans (initials es ++ initial_of (k, v) ∷ []) (initial_of (k, v) ∷ initials es) (initials (insert_entry cell_cmp es k v)) (IsPermutation-to_front (initials es) (initial_of (k, v))) whole));
  }
