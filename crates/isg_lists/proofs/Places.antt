-- The numbers of the elements of a list that hold.
use Rattle.std.proofs.Common.{ℕ, zero, suc, ◌≡◌, ◌≤◌, ◌+◌, refl, sym, ◌∙◌, ap, arith, Bool, true, false, List, [], ◌∷◌, ◌++◌, length, drop, Some, append_assoc, append-nil}
use Rattle.std.specs.Prelude.{slice_get, if◌then◌else◌, map}
use Rattle.std.proofs.lemmas.List.{drop_more, at_drop_all}
use Rattle.std.proofs.lemmas.Option.{slice_get_within, get_or_from_slice_get}
use Rattle.isg_lists.specs.Numbers.{numbers_from}

-- x stands in the list
abbrev pub In : {A : Type 0} → List A → A → Type 0
In xs x = (k : ℕ) × (slice_get xs k ≡ Some x)

-- what is left of a list from an element on
pub drop_at_get : {A : Type 0} (xs : List A) (i : ℕ) (x : A) → slice_get xs i ≡ Some x → drop i xs ≡ x ∷ drop (i + 1) xs
drop_at_get xs i x at = drop_more xs i x (slice_get_within xs i x at) ∙ ap (λ y. y ∷ drop (i + 1) xs) (get_or_from_slice_get xs i x x at)

-- an element of a list of images is the image of one
pub got_of_map : {A B : Type 0} (f : A → B) (xs : List A) (k : ℕ) (y : B) → slice_get (map f xs) k ≡ Some y → (x : A) × (slice_get xs k ≡ Some x) × (f x ≡ y)
got_of_map f [] k y at = absurd cc
got_of_map f (x ∷ xs) zero y at = let e : f x ≡ y = cc in (x, refl, e)
got_of_map f (x ∷ xs) (suc k) y at = got_of_map f xs k y at

module _ {A : Type 0} (p : A → Bool) where
  front : (n : ℕ) (x : A) (xs : List A) (b : Bool) → p x ≡ b → numbers_from p n (x ∷ xs) ≡ (if b then n ∷ numbers_from p (n + 1) xs else numbers_from p (n + 1) xs)
  front n x xs b is = ap (λ c. if c then n ∷ numbers_from p (n + 1) xs else numbers_from p (n + 1) xs) is

  behind : (n m : ℕ) (y : A) (ys : List A) (b : Bool) → p y ≡ b → In (numbers_from p (n + 1) ys) m → In (numbers_from p n (y ∷ ys)) m
  behind n m y ys true is c = (suc c.0, ap (λ zs. slice_get zs (suc c.0)) (front n y ys true is) ∙ c.1)
  behind n m y ys false is c = (c.0, ap (λ zs. slice_get zs c.0) (front n y ys false is) ∙ c.1)

  -- the number of an element that holds is among them
  pub has_number : (xs : List A) (n k m : ℕ) (x : A) → m ≡ n + k → slice_get xs k ≡ Some x → p x ≡ true → In (numbers_from p n xs) m
  has_number [] n k m x e at is = absurd cc
  has_number (y ∷ ys) n zero m x e at is =
      let s : y ≡ x = cc in let f : n ≡ m = omega (arith, e) in
      (0, ap (λ zs. slice_get zs 0) (front n y ys true (ap p s ∙ is)) ∙ ap Some f)
  has_number (y ∷ ys) n (suc k) m x e at is =
      let f : m ≡ (n + 1) + k = omega (arith, e) in
      behind n m y ys (p y) refl (has_number ys (n + 1) k m x f at is)

  -- the number of an element that holds
  abbrev pub Stands : ℕ → ℕ → List A → Type 0
  Stands n m xs = (k : ℕ) × (x : A) × (m ≡ n + k) × (slice_get xs k ≡ Some x) × (p x ≡ true)

  later : (n m : ℕ) (y : A) (ys : List A) → Stands (n + 1) m ys → Stands n m (y ∷ ys)
  later n m y ys s = let e = s.2 in (suc s.0, s.1, omega (arith, e), s.3, s.4)

  here : (n j m : ℕ) (y : A) (ys : List A) (b : Bool) → p y ≡ b → slice_get (numbers_from p n (y ∷ ys)) j ≡ Some m → ((i : ℕ) → slice_get (numbers_from p (n + 1) ys) i ≡ Some m → Stands (n + 1) m ys) → Stands n m (y ∷ ys)
  here n zero m y ys true is at rest =
      let a : slice_get (n ∷ numbers_from p (n + 1) ys) 0 ≡ Some m = sym (ap (λ zs. slice_get zs 0) (front n y ys true is)) ∙ at in
      let e : n ≡ m = cc in (0, y, omega (arith, e), refl, is)
  here n (suc j) m y ys true is at rest = later n m y ys (rest j (sym (ap (λ zs. slice_get zs (suc j)) (front n y ys true is)) ∙ at))
  here n j m y ys false is at rest = later n m y ys (rest j (sym (ap (λ zs. slice_get zs j) (front n y ys false is)) ∙ at))

  -- each number is that of an element that holds
  pub number_has : (xs : List A) (n j m : ℕ) → slice_get (numbers_from p n xs) j ≡ Some m → Stands n m xs
  number_has [] n j m at = absurd cc
  number_has (y ∷ ys) n j m at = here n j m y ys (p y) refl at (λ i. number_has ys (n + 1) i m)

  -- tests that agree on the elements have the same numbers
  pub same_numbers : (q : A → Bool) (xs : List A) (n : ℕ) → ((k : ℕ) (x : A) → slice_get xs k ≡ Some x → p x ≡ q x) → numbers_from p n xs ≡ numbers_from q n xs
  same_numbers q [] n h = refl
  same_numbers q (x ∷ xs) n h =
      ap (λ b. if b then n ∷ numbers_from p (n + 1) xs else numbers_from p (n + 1) xs) (h 0 x refl)
      ∙ ap (λ zs. if q x then n ∷ zs else zs) (same_numbers q xs (n + 1) (λ k. h (suc k)))

  module _ (xs : List A) (i : ℕ) (x : A) (old new all : List ℕ) (at : slice_get xs i ≡ Some x) (before : all ≡ old ++ numbers_from p i (drop i xs)) where
    abbrev rest : List ℕ
    rest = numbers_from p (i + 1) (drop (i + 1) xs)

    split : (b : Bool) → p x ≡ b → new ≡ (if b then old ++ i ∷ [] else old) → all ≡ new ++ rest
    split true is step = before ∙ ap (λ ys. old ++ numbers_from p i ys) (drop_at_get xs i x at) ∙ ap (λ ys. old ++ ys) (front i x (drop (i + 1) xs) true is)
        ∙ sym (append_assoc old (i ∷ []) rest) ∙ sym (ap (λ ys. ys ++ rest) step)
    split false is step = before ∙ ap (λ ys. old ++ numbers_from p i ys) (drop_at_get xs i x at) ∙ ap (λ ys. old ++ ys) (front i x (drop (i + 1) xs) false is)
        ∙ sym (ap (λ ys. ys ++ rest) step)

    -- one element more was seen
    pub one_more : new ≡ (if p x then old ++ i ∷ [] else old) → all ≡ new ++ numbers_from p (i + 1) (drop (i + 1) xs)
    one_more step = split (p x) refl step

  -- all were seen
  pub all_seen : (xs : List A) (i : ℕ) (done all : List ℕ) → length xs ≤ i → all ≡ done ++ numbers_from p i (drop i xs) → done ≡ all
  all_seen xs i done all end is = sym (is ∙ at_drop_all (λ ys. done ++ numbers_from p i ys) xs i end ∙ append-nil done)
