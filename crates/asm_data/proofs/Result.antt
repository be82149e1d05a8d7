-- The cells are the initial values that the lines give.
use Rattle.std.proofs.Common.{ℕ, ◌≡◌, refl, sym, ap, subst, arith, Bool, true, false, cond, List, [], ◌∷◌, map, filter, Contains, inl, inr}
use Rattle.std.specs.Prelude.{◌&&◌}
use Rattle.std.specs.List.Sorted.{IsPermutation}
use Rattle.std.proofs.lemmas.Bool.{and_from}
use Rattle.std.proofs.lemmas.List.Sorted.{Contains-permutation, IsPermutation-sym}
use Rattle.nml_tree.specs.Machine.{Initial}
use Rattle.nml_tree.specs.Table.{Table}
use Rattle.asm_lines.specs.Line.{Line}
use Rattle.asm_text.specs.Assembled.{given, rise, are_among}
use Rattle.asm_text.proofs.Inits.{IsWithin, behind, first_or_behind, within_among}
use Rattle.asm_data.specs.Given.{GiveData, begun}
use Rattle.asm_data.specs.Values.{AreValues, initials, is_some_value}
use Rattle.asm_data.specs.declared.storages.Cell.{Cell}
use Rattle.image_file.specs.Measured.{stored}
use Rattle.image_file.specs.Seen.{init_of}
use Rattle.image_file.specs.declared.image.DataCell.{DataCell}

filter_has : (xs : List Initial) (z : Initial) → Contains (filter is_some_value xs) z → Contains xs z × (is_some_value z ≡ true)
filter_has [] z c = absurd (omega (arith, c.1))
filter_has (x ∷ xs) z c = by (is_some_value x) refl (λ d. filter_has xs z d) c
  where
    by : (b : Bool) → is_some_value x ≡ b → (Contains (filter is_some_value xs) z → Contains xs z × (is_some_value z ≡ true)) → Contains (cond b (x ∷ filter is_some_value xs) (filter is_some_value xs)) z
        → Contains (x ∷ xs) z × (is_some_value z ≡ true)
    by true is more c =
        elim (first_or_behind x (filter is_some_value xs) z c) [
          | inl e ↦ ((0, omega arith, e), subst (λ y. is_some_value y ≡ true) e is)
          | inr d ↦ (behind x xs z (more d).0, (more d).1)
        ]
    by false is more c = (behind x xs z (more c).0, (more c).1)

has_filter : (xs : List Initial) (z : Initial) → is_some_value z ≡ true → Contains xs z → Contains (filter is_some_value xs) z
has_filter [] z some c = absurd (omega (arith, c.1))
has_filter (x ∷ xs) z some c = by (is_some_value x) refl (λ d. has_filter xs z some d)
  where
    by : (b : Bool) → is_some_value x ≡ b → (Contains xs z → Contains (filter is_some_value xs) z) → Contains (cond b (x ∷ filter is_some_value xs) (filter is_some_value xs)) z
    by true is more = elim (first_or_behind x xs z c) [ inl e ↦ (0, omega arith, e) | inr d ↦ behind x (filter is_some_value xs) z (more d) ]
    by false is more = elim (first_or_behind x xs z c) [ inl e ↦ absurd (differ (is_some_value x) is (subst (λ y. is_some_value y ≡ true) (sym e) some)) | inr d ↦ more d ]
      where
        differ : (b : Bool) → b ≡ false → b ≡ true → ⊥
        differ true h k = cc
        differ false h k = cc

filter_within : (xs ys : List Initial) → IsPermutation xs ys → IsWithin (filter is_some_value xs) (filter is_some_value ys)
filter_within xs ys h z c = let k = filter_has xs z c in has_filter ys z k.1 (Contains-permutation xs ys z h k.0)

pub give : (t : Table) (ls : List Line) (es : List (Cell × ℕ)) (cells : List DataCell) → AreValues t ls es → map begun cells ≡ filter is_some_value (initials es) → rise (map begun cells) ≡ true → GiveData t ls cells
give t ls es cells h is up =
    let wanted : List Initial = filter is_some_value (given t ls) in
    let back : IsPermutation (initials es) (given t ls) = IsPermutation-sym (given t ls) (initials es) h.same in
    let there : are_among (map begun cells) wanted ≡ true = within_among (map begun cells) wanted (subst (λ xs. IsWithin xs wanted) (sym is) (filter_within (initials es) (given t ls) back)) in
    let here : are_among wanted (map begun cells) ≡ true = within_among wanted (map begun cells) (subst (λ xs. IsWithin wanted xs) (sym is) (filter_within (given t ls) (initials es) h.same)) in
    record { right = h.free; begin = and_from (rise (map begun cells) && are_among (map begun cells) wanted) (are_among wanted (map begun cells)) (and_from (rise (map begun cells)) (are_among (map begun cells) wanted) up there) here }

-- the cells, as an image has them, are the initial values, as an image has them
pub stored_again : (cells : List DataCell) → map stored (map begun cells) ≡ map init_of cells
stored_again [] = refl
stored_again (c ∷ cells) = ap (λ xs. init_of c ∷ xs) (stored_again cells)
