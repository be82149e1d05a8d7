-- What stands in lists of shapes, and their order.
use Rattle.std.proofs.Common.{ℕ, zero, suc, List, [], ◌∷◌, ◌++◌, map, length, ◌≡◌, ◌<◌, ◌*◌, arith, refl, sym, ap, subst, inl, inr, Contains}
use Rattle.std.specs.Prelude.{◌⊎◌, Bool, true, false, ◌||◌, ◌&&◌, ◌==◌, nat_lt, IsTrue}
use Rattle.std.specs.List.{AllByRecursion}
use Rattle.std.proofs.lemmas.Bool.{eq-eqb, lt-ltb}
use Rattle.std.proofs.Common.{length-append, suc-mul}
use Rattle.std.proofs.Math.Nat.{zero-mul}
use Rattle.std.proofs.lemmas.List.{length-map}
use Rattle.nml_tree.specs.Shapes.{comes_before, Rises}
use Rattle.shape_count.specs.Tally.{Among, stands_before, Ascends}

abbrev pub Lists : Type 0
Lists = List (List ℕ)

pub among_left : (xs ys : Lists) (x : List ℕ) → Among xs x → Among (xs ++ ys) x
among_left [] ys x h = absurd h
among_left (y ∷ xs) ys x (inl h) = inl h
among_left (y ∷ xs) ys x (inr h) = inr (among_left xs ys x h)

pub among_right : (xs ys : Lists) (x : List ℕ) → Among ys x → Among (xs ++ ys) x
among_right [] ys x h = h
among_right (y ∷ xs) ys x h = inr (among_right xs ys x h)

pub among_either : (xs ys : Lists) (x : List ℕ) → Among (xs ++ ys) x → Among xs x ⊎ Among ys x
among_either [] ys x h = inr h
among_either (y ∷ xs) ys x (inl h) = inl (inl h)
among_either (y ∷ xs) ys x (inr h) = elim (among_either xs ys x h) [ inl a ↦ inl (inr a) | inr b ↦ inr b ]

pub among_map : (f : List ℕ → List ℕ) (ys : Lists) (x : List ℕ) → Among ys x → Among (map f ys) (f x)
among_map f [] x h = absurd h
among_map f (y ∷ ys) x (inl h) = inl (ap f h)
among_map f (y ∷ ys) x (inr h) = inr (among_map f ys x h)

pub among_mapped : (f : List ℕ → List ℕ) (ys : Lists) (z : List ℕ) → Among (map f ys) z → (y : List ℕ) × Among ys y × (f y ≡ z)
among_mapped f [] z h = absurd h
among_mapped f (y ∷ ys) z (inl h) = (y, inl refl, h)
among_mapped f (y ∷ ys) z (inr h) = let r = among_mapped f ys z h in (r.0, inr r.1, r.2)

-- each of the first before each of the second
abbrev pub crossed : Lists → Lists → Lists
crossed [] ys = []
crossed (x ∷ xs) ys = map (λ y. x ++ y) ys ++ crossed xs ys

pub among_crossed : (xs ys : Lists) (x y : List ℕ) → Among xs x → Among ys y → Among (crossed xs ys) (x ++ y)
among_crossed [] ys x y h k = absurd h
among_crossed (a ∷ xs) ys x y (inl h) k = among_left (map (λ z. a ++ z) ys) (crossed xs ys) (x ++ y) (subst (λ b. Among (map (λ z. a ++ z) ys) (b ++ y)) h (among_map (λ z. a ++ z) ys y k))
among_crossed (a ∷ xs) ys x y (inr h) k = among_right (map (λ z. a ++ z) ys) (crossed xs ys) (x ++ y) (among_crossed xs ys x y h k)

pub record Crossed (xs ys : Lists) (z : List ℕ) : Type 0 where
  pub x : List ℕ
  pub y : List ℕ
  pub in_first : Among xs x
  pub in_second : Among ys y
  pub joined : x ++ y ≡ z

pub uncrossed : (xs ys : Lists) (z : List ℕ) → Among (crossed xs ys) z → Crossed xs ys z
uncrossed [] ys z h = absurd h
uncrossed (a ∷ xs) ys z h = elim (among_either (map (λ w. a ++ w) ys) (crossed xs ys) z h) [
  | inl k ↦ (let r = among_mapped (λ w. a ++ w) ys z k in record { x = a; y = r.0; in_first = inl refl; in_second = r.1; joined = r.2 })
  | inr k ↦ (let r = uncrossed xs ys z k in record { x = r.x; y = r.y; in_first = inr r.in_first; in_second = r.in_second; joined = r.joined })
]

pub length_crossed : (xs ys : Lists) → length (crossed xs ys) ≡ length xs * length ys
length_crossed [] ys = sym (zero-mul (length ys))
length_crossed (x ∷ xs) ys =
    let a = length-append (map (λ y. x ++ y) ys) (crossed xs ys) in
    let b = length-map ys (λ y. x ++ y) in
    let c = length_crossed xs ys in
    let d = suc-mul (length xs) (length ys) in omega (arith, a, b, c, d)

-- order
or_and : (p q r s : Bool) → (IsTrue r → IsTrue s) → IsTrue (p || (q && r)) → IsTrue (p || (q && s))
or_and true q r s f h = refl
or_and false true r s f h = f h
or_and false false r s f h = h

same_first : (p q r : Bool) → q ≡ true → IsTrue r → IsTrue (p || (q && r))
same_first true q r is h = refl
same_first false true r is h = h
same_first false false r is h = absurd cc

behind_before : (x y v w : List ℕ) → IsTrue (stands_before x y) → IsTrue (stands_before (x ++ v) (y ++ w))
behind_before [] y v w h = absurd cc
behind_before (a ∷ x) [] v w h = absurd cc
behind_before (a ∷ x) (b ∷ y) v w h = or_and (nat_lt a b) (a == b) (stands_before x y) (stands_before (x ++ v) (y ++ w)) (behind_before x y v w) h

front_before : (p x y : List ℕ) → IsTrue (stands_before x y) → IsTrue (stands_before (p ++ x) (p ++ y))
front_before [] x y h = h
front_before (a ∷ p) x y h = same_first (nat_lt a a) (a == a) (stands_before (p ++ x) (p ++ y)) (eq-eqb a a refl) (front_before p x y h)

pub smaller_before : (a b : ℕ) (x y : List ℕ) → a < b → IsTrue (stands_before (a ∷ x) (b ∷ y))
smaller_before a b x y low = rw (lt-ltb a b low) refl

all_from : (P : List ℕ → Type 0) (xs : Lists) → ((x : List ℕ) → Among xs x → P x) → AllByRecursion P xs
all_from P [] h = tt
all_from P (x ∷ xs) h = (h x (inl refl), all_from P xs (λ y k. h y (inr k)))

all_to : (P : List ℕ → Type 0) (xs : Lists) → AllByRecursion P xs → (x : List ℕ) → Among xs x → P x
all_to P [] all x h = absurd h
all_to P (y ∷ xs) all x (inl h) = subst P h all.0
all_to P (y ∷ xs) all x (inr h) = all_to P xs all.1 x h

pub ascends_append : (xs ys : Lists) → Ascends xs → Ascends ys → ((x y : List ℕ) → Among xs x → Among ys y → IsTrue (stands_before x y)) → Ascends (xs ++ ys)
ascends_append [] ys r s h = s
ascends_append (x ∷ xs) ys r s h = (
  all_from (λ y. IsTrue (stands_before x y)) (xs ++ ys) (λ y k. elim (among_either xs ys y k) [ inl a ↦ all_to (λ z. IsTrue (stands_before x z)) xs r.0 y a | inr b ↦ h x y (inl refl) b ]),
  ascends_append xs ys r.1 s (λ a b m k. h a b (inr m) k),
)

pub ascends_map : (p : List ℕ) (ys : Lists) → Ascends ys → Ascends (map (λ y. p ++ y) ys)
ascends_map p [] r = tt
ascends_map p (y ∷ ys) r = (
  all_from (λ z. IsTrue (stands_before (p ++ y) z)) (map (λ y. p ++ y) ys) (λ z k. let m = among_mapped (λ y. p ++ y) ys z k in subst (λ w. IsTrue (stands_before (p ++ y) w)) m.2 (front_before p y m.0 (all_to (λ w. IsTrue (stands_before y w)) ys r.0 m.0 m.1))),
  ascends_map p ys r.1,
)

pub ascends_crossed : (xs ys : Lists) → Ascends xs → Ascends ys → Ascends (crossed xs ys)
ascends_crossed [] ys r s = tt
ascends_crossed (x ∷ xs) ys r s =
    ascends_append (map (λ y. x ++ y) ys) (crossed xs ys) (ascends_map x ys s) (ascends_crossed xs ys r.1 s) (λ a b k m.
    let p = among_mapped (λ y. x ++ y) ys a k in let q = uncrossed xs ys b m in
    subst (λ w. IsTrue (stands_before w b)) p.2 (subst (λ w. IsTrue (stands_before (x ++ p.0) w)) q.joined
    (behind_before x q.x p.0 q.y (all_to (λ w. IsTrue (stands_before x w)) xs r.0 q.x q.in_first))))

-- what stands in a list, said in the other way
pub among_contains : (xs : Lists) (x : List ℕ) → Among xs x → Contains xs x
among_contains [] x h = absurd h
among_contains (y ∷ ys) x (inl h) = (0, omega arith, h)
among_contains (y ∷ ys) x (inr h) = let c = among_contains ys x h in (suc c.0, omega (arith, c.1), c.2)

pub contains_among : (xs : Lists) (x : List ℕ) → Contains xs x → Among xs x
contains_among [] x c = let l = c.1 in absurd (omega (arith, l))
contains_among (y ∷ ys) x (zero, low, is) = inl is
contains_among (y ∷ ys) x (suc k, low, is) = inr (contains_among ys x (k, omega (arith, low), is))

before_comes : (x y : List ℕ) → IsTrue (stands_before x y) → IsTrue (comes_before x y)
before_comes [] y h = absurd cc
before_comes (a ∷ x) [] h = absurd cc
before_comes (a ∷ x) (b ∷ y) h = or_and (nat_lt a b) (a == b) (stands_before x y) (comes_before x y) (before_comes x y) h

pub ascends_rises : (xs : Lists) → Ascends xs → Rises xs
ascends_rises [] h = tt
ascends_rises (x ∷ []) h = tt
ascends_rises (x ∷ y ∷ xs) h = (before_comes x y h.0.0, ascends_rises (y ∷ xs) h.1)
