-- Initial values in rising order: there is one such list with the same elements.
use Rattle.std.proofs.Common.{ℕ, zero, suc, ◌≡◌, refl, sym, ◌∙◌, ap, subst, Bool, true, false, List, [], ◌∷◌, Contains, arith, ◌⊎◌, inl, inr}
use Rattle.std.specs.Prelude.{◌==◌, nat_lt, ◌&&◌, ◌||◌}
use Rattle.std.specs.List.{list_any, list_all}
use Rattle.std.proofs.lemmas.Bool.{and_parts, and_from, or_cases, or_left, or_right, eqb-true, eq-eqb}
use Rattle.std.proofs.lemmas.Bool.Decides.{nat_tests}
use Rattle.nml_tree.specs.Machine.{Initial}
use Rattle.asm_text.specs.Assembled.{is_same_cell, is_same, is_before, rise, are_among}

pub initial_is : (x y : Initial) → x.storage ≡ y.storage → x.cell ≡ y.cell → x.raw ≡ y.raw → x ≡ y
initial_is x y a b c =
    ap (λ (n : ℕ). record { storage = n; cell = x.cell; raw = x.raw }) a
    ∙ ap (λ (n : ℕ). record { storage = y.storage; cell = n; raw = x.raw }) b
    ∙ ap (λ (n : ℕ). record { storage = y.storage; cell = y.cell; raw = n }) c

same_is : (x y : Initial) → is_same x y ≡ true → x ≡ y
same_is x y h =
    let p = and_parts (is_same_cell x y) (x.raw == y.raw) h in
    let q = and_parts (x.storage == y.storage) (x.cell == y.cell) p.0 in
    initial_is x y (eqb-true _ _ q.0) (eqb-true _ _ q.1) (eqb-true _ _ p.1)

same_itself : (x : Initial) → is_same x x ≡ true
same_itself x = and_from _ _ (and_from _ _ (eq-eqb x.storage x.storage refl) (eq-eqb x.cell x.cell refl)) (eq-eqb x.raw x.raw refl)

pub behind : {A : Type 0} (y : A) (ys : List A) (x : A) → Contains ys x → Contains (y ∷ ys) x
behind y ys x (k, low, is) = (suc k, omega (arith, low), is)

pub first_or_behind : {A : Type 0} (y : A) (ys : List A) (x : A) → Contains (y ∷ ys) x → (y ≡ x) ⊎ Contains ys x
first_or_behind y ys x (zero, low, is) = inl is
first_or_behind y ys x (suc k, low, is) = inr (k, omega (arith, low), is)

pub any_is : (x : Initial) (ys : List Initial) → list_any (is_same x) ys ≡ true → Contains ys x
any_is x [] h = absurd cc
any_is x (y ∷ ys) h =
    elim (or_cases (is_same x y) (list_any (is_same x) ys) h) [ inl here ↦ (0, omega arith, sym (same_is x y here)) | inr more ↦ behind y ys x (any_is x ys more) ]

pub is_any : (x : Initial) (ys : List Initial) → Contains ys x → list_any (is_same x) ys ≡ true
is_any x [] c = absurd (omega (arith, c.1))
is_any x (y ∷ ys) c =
    elim (first_or_behind y ys x c) [
      | inl e ↦ or_left (is_same x y) (list_any (is_same x) ys) (subst (λ (z : Initial). is_same x z ≡ true) (sym e) (same_itself x))
      | inr d ↦ or_right (is_same x y) (list_any (is_same x) ys) (is_any x ys d)
    ]

-- each value of the one list is in the other
abbrev pub IsWithin : List Initial → List Initial → Type 0
IsWithin xs ys = (x : Initial) → Contains xs x → Contains ys x

pub among_within : (xs ys : List Initial) → are_among xs ys ≡ true → IsWithin xs ys
among_within [] ys h x c = absurd (omega (arith, c.1))
among_within (y ∷ xs) ys h x c =
    let p = and_parts (list_any (is_same y) ys) (are_among xs ys) h in
    elim (first_or_behind y xs x c) [ inl e ↦ subst (λ (z : Initial). Contains ys z) e (any_is y ys p.0) | inr d ↦ among_within xs ys p.1 x d ]

pub within_among : (xs ys : List Initial) → IsWithin xs ys → are_among xs ys ≡ true
within_among [] ys h = refl
within_among (y ∷ xs) ys h = and_from _ _ (is_any y ys (h y (0, omega arith, refl))) (within_among xs ys (λ x c. h x (behind y xs x c)))

-- ---- the order

numbers_trans : (a b c d e f : ℕ) → (nat_lt a c || ((a == c) && nat_lt b d)) ≡ true → (nat_lt c e || ((c == e) && nat_lt d f)) ≡ true → (nat_lt a e || ((a == e) && nat_lt b f)) ≡ true
numbers_trans a b c d e f h k = grind (arith, nat_tests)

numbers_not : (a b : ℕ) → (nat_lt a a || ((a == a) && nat_lt b b)) ≡ true → ⊥
numbers_not a b h = grind (arith, nat_tests)

pub before_trans : (x y z : Initial) → is_before x y ≡ true → is_before y z ≡ true → is_before x z ≡ true
before_trans x y z h k = numbers_trans x.storage x.cell y.storage y.cell z.storage z.cell h k

pub not_before : (x y : Initial) → is_before x y ≡ true → x ≡ y → ⊥
not_before x y h e = numbers_not y.storage y.cell (subst (λ (z : Initial). is_before z y ≡ true) e h)

pub rise_behind : (x : Initial) (xs : List Initial) → rise (x ∷ xs) ≡ true → rise xs ≡ true
rise_behind x [] h = refl
rise_behind x (y ∷ ys) h = (and_parts (is_before x y) (rise (y ∷ ys)) h).1

pub rise_all : (x : Initial) (xs : List Initial) → rise (x ∷ xs) ≡ true → (z : Initial) → Contains xs z → is_before x z ≡ true
rise_all x [] h z c = absurd (omega (arith, c.1))
rise_all x (y ∷ ys) h z c =
    let p = and_parts (is_before x y) (rise (y ∷ ys)) h in
    elim (first_or_behind y ys z c) [ inl e ↦ subst (λ (v : Initial). is_before x v ≡ true) e p.0 | inr d ↦ before_trans x y z p.0 (rise_all y ys p.1 z d) ]

first_same : (x y : Initial) (xs ys : List Initial) → rise (x ∷ xs) ≡ true → rise (y ∷ ys) ≡ true → IsWithin (x ∷ xs) (y ∷ ys) → IsWithin (y ∷ ys) (x ∷ xs) → x ≡ y
first_same x y xs ys h k f g =
    elim (first_or_behind y ys x (f x (0, omega arith, refl))) [
      | inl e ↦ sym e
      | inr c ↦
          elim (first_or_behind x xs y (g y (0, omega arith, refl))) [
            | inl e ↦ e
            | inr d ↦ absurd (not_before x x (before_trans x y x (rise_all x xs h y d) (rise_all y ys k x c)) refl)
          ]
    ]

rest_within : (x y : Initial) (xs ys : List Initial) → x ≡ y → rise (x ∷ xs) ≡ true → IsWithin (x ∷ xs) (y ∷ ys) → IsWithin xs ys
rest_within x y xs ys e h f z c =
    elim (first_or_behind y ys z (f z (behind x xs z c))) [ inl same ↦ absurd (not_before x z (rise_all x xs h z c) (e ∙ same)) | inr d ↦ d ]

pub one_rising : (xs ys : List Initial) → rise xs ≡ true → rise ys ≡ true → IsWithin xs ys → IsWithin ys xs → xs ≡ ys
one_rising [] [] h k f g = refl
one_rising [] (y ∷ ys) h k f g = absurd (omega (arith, (g y (0, omega arith, refl)).1))
one_rising (x ∷ xs) [] h k f g = absurd (omega (arith, (f x (0, omega arith, refl)).1))
one_rising (x ∷ xs) (y ∷ ys) h k f g =
    let e = first_same x y xs ys h k f g in
    let more = one_rising xs ys (rise_behind x xs h) (rise_behind y ys k) (rest_within x y xs ys e h f) (rest_within y x ys xs (sym e) k g) in
    ap (λ (z : Initial). z ∷ xs) e ∙ ap (λ zs. y ∷ zs) more
