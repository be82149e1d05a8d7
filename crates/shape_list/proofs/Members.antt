-- What stands in the lists of picks, and their order.
use Rattle.std.proofs.Common.{ℕ, zero, suc, List, [], ◌∷◌, ◌++◌, map, ◌≡◌, ◌<◌, ◌+◌, arith, refl, subst, Some, inl, inr, Contains}
use Rattle.std.specs.Prelude.{◌⊎◌, Bool, true, false, ◌||◌, ◌&&◌, ◌==◌, nat_lt, IsTrue, slice_get}
use Rattle.std.specs.List.{AllByRecursion}
use Rattle.std.proofs.lemmas.Bool.{eq-eqb, lt-ltb}
use Rattle.nml_tree.specs.ShapeList.{Picks, joined, of_alternatives}
use Rattle.nml_tree.specs.Shapes as shapes
use Rattle.nml_tree.specs.Table.{Text}

-- it stands in the list
abbrev pub Among : Picks → List ℕ → Type 0
Among [] x = ⊥
Among (y ∷ ys) x = (y ≡ x) ⊎ Among ys x

pub contained : (xs : Picks) (x : List ℕ) → Contains xs x → Among xs x
contained [] x c = absurd (omega (arith, c.1))
contained (y ∷ ys) x (zero, low, is) = inl is
contained (y ∷ ys) x (suc k, low, is) = inr (contained ys x (k, omega (arith, low), is))

among_left : (xs ys : Picks) (x : List ℕ) → Among xs x → Among (xs ++ ys) x
among_left [] ys x h = absurd h
among_left (y ∷ xs) ys x (inl h) = inl h
among_left (y ∷ xs) ys x (inr h) = inr (among_left xs ys x h)

among_either : (xs ys : Picks) (x : List ℕ) → Among (xs ++ ys) x → Among xs x ⊎ Among ys x
among_either [] ys x h = inr h
among_either (y ∷ xs) ys x (inl h) = inl (inl h)
among_either (y ∷ xs) ys x (inr h) = elim (among_either xs ys x h) [ inl a ↦ inl (inr a) | inr b ↦ inr b ]

among_mapped : (f : List ℕ → List ℕ) (ys : Picks) (z : List ℕ) → Among (map f ys) z → (y : List ℕ) × Among ys y × (f y ≡ z)
among_mapped f [] z h = absurd h
among_mapped f (y ∷ ys) z (inl h) = (y, inl refl, h)
among_mapped f (y ∷ ys) z (inr h) = let r = among_mapped f ys z h in (r.0, inr r.1, r.2)

pub record Joined (xs ys : Picks) (z : List ℕ) : Type 0 where
  pub x : List ℕ
  pub y : List ℕ
  pub in_first : Among xs x
  pub in_second : Among ys y
  pub is : x ++ y ≡ z

pub unjoined : (xs ys : Picks) (z : List ℕ) → Among (joined xs ys) z → Joined xs ys z
unjoined [] ys z h = absurd h
unjoined (a ∷ xs) ys z h = elim (among_either (map (λ w. a ++ w) ys) (joined xs ys) z h) [
  | inl k ↦ (let r = among_mapped (λ w. a ++ w) ys z k in record { x = a; y = r.0; in_first = inl refl; in_second = r.1; is = r.2 })
  | inr k ↦ (let r = unjoined xs ys z k in record { x = r.x; y = r.y; in_first = inr r.in_first; in_second = r.in_second; is = r.is })
]

pub record Alternative (rules : Text → Picks) (names : List Text) (k : ℕ) (z : List ℕ) : Type 0 where
  pub i : ℕ
  pub name : Text
  pub y : List ℕ
  pub named : slice_get names i ≡ Some name
  pub below : Among (rules name) y
  pub is : (k + i) ∷ y ≡ z

pub an_alternative : (rules : Text → Picks) (names : List Text) (k : ℕ) (z : List ℕ) → Among (of_alternatives rules k names) z → Alternative rules names k z
an_alternative rules [] k z h = absurd h
an_alternative rules (a ∷ names) k z h = elim (among_either (map (λ w. k ∷ w) (rules a)) (of_alternatives rules (k + 1) names) z h) [
  | inl m ↦ (let r = among_mapped (λ w. k ∷ w) (rules a) z m in let e : k + 0 ≡ k = omega arith in record { i = 0; name = a; y = r.0; named = refl; below = r.1; is = rw e r.2 })
  | inr m ↦ (let r = an_alternative rules names (k + 1) z m in let e : k + suc r.i ≡ k + 1 + r.i = omega arith in record { i = suc r.i; name = r.name; y = r.y; named = r.named; below = r.below; is = rw e r.is })
]

-- the smaller alternative at the first place where they differ: neither is a front of the other
abbrev pub before : List ℕ → List ℕ → Bool
before [] ys = false
before (x ∷ xs) [] = false
before (x ∷ xs) (y ∷ ys) = nat_lt x y || ((x == y) && before xs ys)

-- each comes before all behind it
abbrev pub Rises : Picks → Type 0
Rises [] = Unit {0}
Rises (x ∷ xs) = AllByRecursion (λ y. IsTrue (before x y)) xs × Rises xs

or_and : (p q r s : Bool) → (IsTrue r → IsTrue s) → IsTrue (p || (q && r)) → IsTrue (p || (q && s))
or_and true q r s f h = refl
or_and false true r s f h = f h
or_and false false r s f h = h

same_first : (p q r : Bool) → q ≡ true → IsTrue r → IsTrue (p || (q && r))
same_first true q r is h = refl
same_first false true r is h = h
same_first false false r is h = absurd cc

behind_before : (x y v w : List ℕ) → IsTrue (before x y) → IsTrue (before (x ++ v) (y ++ w))
behind_before [] y v w h = absurd cc
behind_before (a ∷ x) [] v w h = absurd cc
behind_before (a ∷ x) (b ∷ y) v w h = or_and (nat_lt a b) (a == b) (before x y) (before (x ++ v) (y ++ w)) (behind_before x y v w) h

front_before : (p x y : List ℕ) → IsTrue (before x y) → IsTrue (before (p ++ x) (p ++ y))
front_before [] x y h = h
front_before (a ∷ p) x y h = same_first (nat_lt a a) (a == a) (before (p ++ x) (p ++ y)) (eq-eqb a a refl) (front_before p x y h)

smaller_before : (a b : ℕ) (x y : List ℕ) → a < b → IsTrue (before (a ∷ x) (b ∷ y))
smaller_before a b x y low = rw (lt-ltb a b low) refl

all_from : (P : List ℕ → Type 0) (xs : Picks) → ((x : List ℕ) → Among xs x → P x) → AllByRecursion P xs
all_from P [] h = tt
all_from P (x ∷ xs) h = (h x (inl refl), all_from P xs (λ y k. h y (inr k)))

all_to : (P : List ℕ → Type 0) (xs : Picks) → AllByRecursion P xs → (x : List ℕ) → Among xs x → P x
all_to P [] all x h = absurd h
all_to P (y ∷ xs) all x (inl h) = subst P h all.0
all_to P (y ∷ xs) all x (inr h) = all_to P xs all.1 x h

rises_append : (xs ys : Picks) → Rises xs → Rises ys → ((x y : List ℕ) → Among xs x → Among ys y → IsTrue (before x y)) → Rises (xs ++ ys)
rises_append [] ys r s h = s
rises_append (x ∷ xs) ys r s h = (
  all_from (λ y. IsTrue (before x y)) (xs ++ ys) (λ y k. elim (among_either xs ys y k) [ inl a ↦ all_to (λ z. IsTrue (before x z)) xs r.0 y a | inr b ↦ h x y (inl refl) b ]),
  rises_append xs ys r.1 s (λ a b m k. h a b (inr m) k),
)

rises_map : (p : List ℕ) (ys : Picks) → Rises ys → Rises (map (λ y. p ++ y) ys)
rises_map p [] r = tt
rises_map p (y ∷ ys) r = (
  all_from (λ z. IsTrue (before (p ++ y) z)) (map (λ y. p ++ y) ys) (λ z k. let m = among_mapped (λ y. p ++ y) ys z k in subst (λ w. IsTrue (before (p ++ y) w)) m.2 (front_before p y m.0 (all_to (λ w. IsTrue (before y w)) ys r.0 m.0 m.1))),
  rises_map p ys r.1,
)

pub rises_joined : (xs ys : Picks) → Rises xs → Rises ys → Rises (joined xs ys)
rises_joined [] ys r s = tt
rises_joined (x ∷ xs) ys r s =
    rises_append (map (λ y. x ++ y) ys) (joined xs ys) (rises_map x ys s) (rises_joined xs ys r.1 s) (λ a b k m.
    let p = among_mapped (λ y. x ++ y) ys a k in let q = unjoined xs ys b m in
    subst (λ w. IsTrue (before w b)) p.2 (subst (λ w. IsTrue (before (x ++ p.0) w)) q.is
    (behind_before x q.x p.0 q.y (all_to (λ w. IsTrue (before x w)) xs r.0 q.x q.in_first))))

pub rises_alternatives : (rules : Text → Picks) (names : List Text) (k : ℕ) → ((c : Text) → Rises (rules c)) → Rises (of_alternatives rules k names)
rises_alternatives rules [] k r = tt
rises_alternatives rules (c ∷ names) k r =
    rises_append (map (λ y. k ∷ y) (rules c)) (of_alternatives rules (k + 1) names) (rises_map (k ∷ []) (rules c) (r c)) (rises_alternatives rules names (k + 1) r) (λ a b h m.
    let p = among_mapped (λ y. k ∷ y) (rules c) a h in let q = an_alternative rules names (k + 1) b m in
    subst (λ w. IsTrue (before w b)) p.2 (subst (λ w. IsTrue (before (k ∷ p.0) w)) q.is (smaller_before k (k + 1 + q.i) p.0 q.y (omega arith))))

comes : (x y : List ℕ) → IsTrue (before x y) → IsTrue (shapes.comes_before x y)
comes [] y h = absurd cc
comes (a ∷ x) [] h = absurd cc
comes (a ∷ x) (b ∷ y) h = or_and (nat_lt a b) (a == b) (before x y) (shapes.comes_before x y) (comes x y) h

pub all_rise : (xs : Picks) → Rises xs → shapes.Rises xs
all_rise [] r = tt
all_rise (x ∷ []) r = tt
all_rise (x ∷ y ∷ xs) r = (comes x y r.0.0, all_rise (y ∷ xs) r.1)
