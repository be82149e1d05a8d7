-- Initial values of different cells, put in order.
use Rattle.std.proofs.Common.{ℕ, zero, suc, ◌≡◌, refl, sym, ap, subst, Bool, true, false, List, [], ◌∷◌, ◌++◌, filter, Contains, arith, ◌⊎◌, inl, inr}
use Rattle.std.specs.Prelude.{◌==◌, nat_lt, ◌&&◌, ◌||◌, if◌then◌else◌}
use Rattle.std.specs.List.{list_any}
use Rattle.std.proofs.lemmas.Bool.{and_from, or_parts}
use Rattle.std.proofs.lemmas.Bool.Decides.{nat_tests}
use Rattle.nml_tree.specs.Machine.{Initial}
use Rattle.asm_text.specs.Assembled.{is_same_cell, is_before, rise}
use Rattle.asm_text.proofs.Inits.{behind, first_or_behind, IsWithin, rise_all, rise_behind, before_trans}

-- a value's cell is none of these
abbrev pub IsApart : Initial → List Initial → Type 0
IsApart x ys = (z : Initial) → Contains ys z → is_same_cell z x ≡ false

-- each value is of another cell than those behind it
abbrev pub Differ : List Initial → Type 0
Differ [] = Unit {0}
Differ (x ∷ xs) = IsApart x xs × Differ xs

abbrev insert : Initial → List Initial → List Initial
insert x [] = x ∷ []
insert x (y ∷ ys) = if is_before x y then x ∷ y ∷ ys else y ∷ insert x ys

abbrev pub sorted : List Initial → List Initial
sorted [] = []
sorted (x ∷ xs) = insert x (sorted xs)

insert_cases : (x : Initial) (ys : List Initial) (z : Initial) → Contains (insert x ys) z → (x ≡ z) ⊎ Contains ys z
insert_cases x [] z c = first_or_behind x [] z c
insert_cases x (y ∷ ys) z c = by (is_before x y) (insert_cases x ys z) c
  where
    by : (b : Bool) → (Contains (insert x ys) z → (x ≡ z) ⊎ Contains ys z) → Contains (if b then x ∷ y ∷ ys else y ∷ insert x ys) z → (x ≡ z) ⊎ Contains (y ∷ ys) z
    by true more c = first_or_behind x (y ∷ ys) z c
    by false more c =
        elim (first_or_behind y (insert x ys) z c) [ inl e ↦ inr (0, omega arith, e) | inr d ↦ elim (more d) [ inl e ↦ inl e | inr f ↦ inr (behind y ys z f) ] ]

has_new : (x : Initial) (ys : List Initial) → Contains (insert x ys) x
has_new x [] = (0, omega arith, refl)
has_new x (y ∷ ys) = by (is_before x y) (has_new x ys)
  where
    by : (b : Bool) → Contains (insert x ys) x → Contains (if b then x ∷ y ∷ ys else y ∷ insert x ys) x
    by true more = (0, omega arith, refl)
    by false more = behind y (insert x ys) x more

has_old : (x : Initial) (ys : List Initial) (z : Initial) → Contains ys z → Contains (insert x ys) z
has_old x [] z c = absurd (omega (arith, c.1))
has_old x (y ∷ ys) z c = by (is_before x y) (has_old x ys z)
  where
    by : (b : Bool) → (Contains ys z → Contains (insert x ys) z) → Contains (if b then x ∷ y ∷ ys else y ∷ insert x ys) z
    by true more = behind x (y ∷ ys) z c
    by false more = elim (first_or_behind y ys z c) [ inl e ↦ (0, omega arith, e) | inr d ↦ behind y (insert x ys) z (more d) ]

pub sorted_within : (xs : List Initial) → IsWithin (sorted xs) xs
sorted_within [] z c = c
sorted_within (x ∷ xs) z c = elim (insert_cases x (sorted xs) z c) [ inl e ↦ (0, omega arith, e) | inr d ↦ behind x xs z (sorted_within xs z d) ]

pub within_sorted : (xs : List Initial) → IsWithin xs (sorted xs)
within_sorted [] z c = c
within_sorted (x ∷ xs) z c =
    elim (first_or_behind x xs z c) [
      | inl e ↦ subst (λ (v : Initial). Contains (insert x (sorted xs)) v) e (has_new x (sorted xs))
      | inr d ↦ has_old x (sorted xs) z (within_sorted xs z d)
    ]

rise_on : (y : Initial) (xs : List Initial) → ((z : Initial) → Contains xs z → is_before y z ≡ true) → rise xs ≡ true → rise (y ∷ xs) ≡ true
rise_on y [] h k = refl
rise_on y (x ∷ xs) h k = and_from _ _ (h x (0, omega arith, refl)) k

numbers_either : (a b c d : ℕ) → (nat_lt a c || ((a == c) && nat_lt b d)) ≡ false → ((c == a) && (d == b)) ≡ false → (nat_lt c a || ((c == a) && nat_lt d b)) ≡ true
numbers_either a b c d h k = grind (arith, nat_tests)

other_way : (x y : Initial) → is_before x y ≡ false → is_same_cell y x ≡ false → is_before y x ≡ true
other_way x y h k = numbers_either x.storage x.cell y.storage y.cell h k

rise_insert : (x : Initial) (ys : List Initial) → IsApart x ys → rise ys ≡ true → rise (insert x ys) ≡ true
rise_insert x [] apart h = refl
rise_insert x (y ∷ ys) apart h = by (is_before x y) refl (rise_insert x ys (λ z c. apart z (behind y ys z c)) (rise_behind y ys h))
  where
    by : (b : Bool) → is_before x y ≡ b → rise (insert x ys) ≡ true → rise (if b then x ∷ y ∷ ys else y ∷ insert x ys) ≡ true
    by true e more = and_from _ _ e h
    by false e more =
        let less : is_before y x ≡ true = other_way x y e (apart y (0, omega arith, refl)) in
        rise_on y (insert x ys) (λ z c. elim (insert_cases x ys z c) [ inl same ↦ subst (λ (v : Initial). is_before y v ≡ true) same less | inr d ↦ rise_all y ys h z d ]) more

pub rise_sorted : (xs : List Initial) → Differ xs → rise (sorted xs) ≡ true
rise_sorted [] h = refl
rise_sorted (x ∷ xs) h = rise_insert x (sorted xs) (λ z c. h.0 z (sorted_within xs z c)) (rise_sorted xs h.1)

-- some of the values
pub filter_within : (test : Initial → Bool) (xs : List Initial) → IsWithin (filter test xs) xs
filter_within test [] z c = c
filter_within test (x ∷ xs) z c = by (test x) (filter_within test xs z) c
  where
    by : (b : Bool) → (Contains (filter test xs) z → Contains xs z) → Contains (if b then x ∷ filter test xs else filter test xs) z → Contains (x ∷ xs) z
    by true more c = elim (first_or_behind x (filter test xs) z c) [ inl e ↦ (0, omega arith, e) | inr d ↦ behind x xs z (more d) ]
    by false more c = behind x xs z (more c)

pub differ_filter : (test : Initial → Bool) (xs : List Initial) → Differ xs → Differ (filter test xs)
differ_filter test [] h = tt
differ_filter test (x ∷ xs) h = by (test x) (differ_filter test xs h.1)
  where
    by : (b : Bool) → Differ (filter test xs) → Differ (if b then x ∷ filter test xs else filter test xs)
    by true more = (λ z c. h.0 z (filter_within test xs z c), more)
    by false more = more
