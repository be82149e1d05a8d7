-- Numbers in rising order, each once: they depend on the members alone, whatever their order and however often they stand there.
use Rattle.std.proofs.Common.{◌≡◌, refl, sym, ap₂, subst, ◌∙◌, ◌⊎◌, inl, inr, ⊎_elim, ℤ, ◌<ℤ◌, int_lt, Bool, true, false, List, [], ◌∷◌, arith, if◌then◌else◌}
use Rattle.std.proofs.lemmas.Int.{ints}
use Rattle.c_tree.specs.Lowered.{inserted, in_order}

abbrev pub Among : List ℤ → ℤ → Type 0
Among [] x = ⊥
Among (y ∷ ys) x = (y ≡ x) ⊎ Among ys x

-- each member of the first is one of the second
abbrev pub Within : (xs ys : List ℤ) → Type 0
Within xs ys = (z : ℤ) → Among xs z → Among ys z

-- each number is less than those behind it
abbrev pub Rises : List ℤ → Type 0
Rises [] = Unit {0}
Rises (x ∷ xs) = ((z : ℤ) → Among xs z → x <ℤ z) × Rises xs

-- ---- tests

less : (x y : ℤ) → int_lt x y ≡ true → x <ℤ y
less x y h = omega (arith, ints, h)

alike : (x y : ℤ) → int_lt x y ≡ false → int_lt y x ≡ false → x ≡ y
alike x y h g = omega (arith, ints, h, g)

less_trans : (x y z : ℤ) → x <ℤ y → y <ℤ z → x <ℤ z
less_trans x y z h g = omega (arith, ints, h, g)

never : (x y : ℤ) → x <ℤ y → y <ℤ x → ⊥
never x y h g = omega (arith, ints, h, g)

not_itself : (x y : ℤ) → x <ℤ y → y ≡ x → ⊥
not_itself x y h e = never x x (subst (λ z. x <ℤ z) e h) (subst (λ z. x <ℤ z) e h)

-- ---- one number more

inserted_has : (z : ℤ) (ys : List ℤ) (x : ℤ) → Among (inserted z ys) x → (z ≡ x) ⊎ Among ys x
inserted_has z [] x h = h
inserted_has z (y ∷ ys) x h = by (int_lt z y) (int_lt y z) (inserted_has z ys x) h
  where
    by : (b c : Bool) → (Among (inserted z ys) x → (z ≡ x) ⊎ Among ys x) → Among (if b then z ∷ y ∷ ys else if c then y ∷ inserted z ys else y ∷ ys) x → (z ≡ x) ⊎ Among (y ∷ ys) x
    by true c rest h = h
    by false true rest h = ⊎_elim (λ e. inr (inl e)) (λ i. ⊎_elim (λ e. inl e) (λ j. inr (inr j)) (rest i)) h
    by false false rest h = inr h

has_old : (z : ℤ) (ys : List ℤ) (x : ℤ) → Among ys x → Among (inserted z ys) x
has_old z [] x h = absurd h
has_old z (y ∷ ys) x h = by (int_lt z y) (int_lt y z) (has_old z ys x) h
  where
    by : (b c : Bool) → (Among ys x → Among (inserted z ys) x) → Among (y ∷ ys) x → Among (if b then z ∷ y ∷ ys else if c then y ∷ inserted z ys else y ∷ ys) x
    by true c rest h = inr h
    by false true rest h = ⊎_elim (λ e. inl e) (λ i. inr (rest i)) h
    by false false rest h = h

has_new : (z : ℤ) (ys : List ℤ) → Among (inserted z ys) z
has_new z [] = inl refl
has_new z (y ∷ ys) = by (int_lt z y) (int_lt y z) refl refl (has_new z ys)
  where
    by : (b c : Bool) → int_lt z y ≡ b → int_lt y z ≡ c → Among (inserted z ys) z → Among (if b then z ∷ y ∷ ys else if c then y ∷ inserted z ys else y ∷ ys) z
    by true c h g rest = inl refl
    by false true h g rest = inr rest
    by false false h g rest = inl (alike y z g h)

rises_inserted : (z : ℤ) (ys : List ℤ) → Rises ys → Rises (inserted z ys)
rises_inserted z [] r = (λ x h. absurd h, tt)
rises_inserted z (y ∷ ys) r = by (int_lt z y) (int_lt y z) refl refl (rises_inserted z ys r.1)
  where
    by : (b c : Bool) → int_lt z y ≡ b → int_lt y z ≡ c → Rises (inserted z ys) → Rises (if b then z ∷ y ∷ ys else if c then y ∷ inserted z ys else y ∷ ys)
    by true c h g rest = (λ x i. ⊎_elim (λ e. subst (λ q. z <ℤ q) e (less z y h)) (λ j. less_trans z y x (less z y h) (r.0 x j)) i, r)
    by false true h g rest = (λ x i. ⊎_elim (λ e. subst (λ q. y <ℤ q) e (less y z g)) (λ j. r.0 x j) (inserted_has z ys x i), rest)
    by false false h g rest = r

-- ---- all numbers

pub rises_in_order : (xs : List ℤ) → Rises (in_order xs)
rises_in_order [] = tt
rises_in_order (x ∷ xs) = rises_inserted x (in_order xs) (rises_in_order xs)

-- in order are the list's members
pub in_order_has : (xs : List ℤ) → Within (in_order xs) xs
in_order_has [] z h = h
in_order_has (x ∷ xs) z h = ⊎_elim (λ e. inl e) (λ i. inr (in_order_has xs z i)) (inserted_has x (in_order xs) z h)

pub has_in_order : (xs : List ℤ) → Within xs (in_order xs)
has_in_order [] z h = h
has_in_order (x ∷ xs) z h =
    ⊎_elim (λ e. subst (λ q. Among (inserted x (in_order xs)) q) e (has_new x (in_order xs))) (λ i. has_old x (in_order xs) z (has_in_order xs z i)) h

first_alike : (x y : ℤ) (xs ys : List ℤ) → Rises (x ∷ xs) → Rises (y ∷ ys) → Among (y ∷ ys) x → Among (x ∷ xs) y → x ≡ y
first_alike x y xs ys r s f g = ⊎_elim (λ e. sym e) (λ i. ⊎_elim (λ e. e) (λ j. absurd (never x y (r.0 y j) (s.0 x i))) g) f

-- what rises is given by its members
pub only : (xs ys : List ℤ) → Rises xs → Rises ys → Within xs ys → Within ys xs → xs ≡ ys
only [] [] r s f g = refl
only [] (y ∷ ys) r s f g = absurd (g y (inl refl))
only (x ∷ xs) [] r s f g = absurd (f x (inl refl))
only (x ∷ xs) (y ∷ ys) r s f g =
    let e : x ≡ y = first_alike x y xs ys r s (f x (inl refl)) (g y (inl refl)) in
    ap₂ ◌∷◌ e
    (only xs ys r.1 s.1
    (λ z h. ⊎_elim (λ d. absurd (not_itself x z (r.0 z h) (sym (e ∙ d)))) (λ i. i) (f z (inr h)))
    (λ z h. ⊎_elim (λ d. absurd (not_itself y z (s.0 z h) (sym (sym e ∙ d)))) (λ i. i) (g z (inr h))))

-- lists with the same members are the same in order
pub same_in_order : (xs ys : List ℤ) → Within xs ys → Within ys xs → in_order xs ≡ in_order ys
same_in_order xs ys f g =
    only (in_order xs) (in_order ys) (rises_in_order xs) (rises_in_order ys)
    (λ z h. has_in_order ys z (f z (in_order_has xs z h)))
    (λ z h. has_in_order xs z (g z (in_order_has ys z h)))
