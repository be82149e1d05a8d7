-- Where no function reaches itself, functions have ranks that fall from each to those that it calls.
use Rattle.std.proofs.Common.{◌≡◌, refl, sym, subst, ap, ℕ, zero, suc, ◌<◌, ◌≤◌, max, arith, Bool, true, false, List, [], ◌∷◌, length, inl, inr, eqb}
use Rattle.std.specs.Prelude.{◌||◌}
use Rattle.std.specs.List.{list_any, AllByRecursion, IsDistinct}
use Rattle.std.proofs.lemmas.Bool.{cases_lt, eqb-true}
use Rattle.std.proofs.lemmas.Map.Steps.{length-le_from_distinct_below}
use Rattle.c_tree.specs.Recursion.{Graph, row, Among, Edge, Reaches, at_once, over, IsAcyclic}

-- a path of so many calls
abbrev pub Path : Graph → ℕ → ℕ → Type 0
Path g a zero = Unit {0}
Path g a (suc k) = (b : ℕ) × Edge g a b × Path g b k

-- the functions that call on a path
abbrev sources : (g : Graph) (a k : ℕ) → Path g a k → List ℕ
sources g a zero p = []
sources g a (suc k) p = a ∷ sources g p.0 k p.2

length_sources : (g : Graph) (a k : ℕ) (p : Path g a k) → length (sources g a k p) ≡ k
length_sources g a zero p = refl
length_sources g a (suc k) p = ap suc (length_sources g p.0 k p.2)

further : (g : Graph) (a b c : ℕ) → Reaches g a b → Edge g b c → Reaches g a c
further g a b c (at_once e) k = over e (at_once k)
further g a b c (over {b = x} e r) k = over e (further g x b c r k)

differ : (a b : ℕ) (t : Bool) → eqb a b ≡ t → (a ≡ b → ⊥) → eqb a b ≡ false
differ a b true is ne = absurd (ne (eqb-true a b is))
differ a b false is ne = is

apart : (g : Graph) → IsAcyclic g → (c a k : ℕ) (p : Path g a k) → Reaches g c a → AllByRecursion (λ y. eqb c y ≡ false) (sources g a k p)
apart g acyclic c a zero p r = tt
apart g acyclic c a (suc k) p r = (differ c a (eqb c a) refl (λ e. acyclic c (subst (Reaches g c) (sym e) r)), apart g acyclic c p.0 k p.2 (further g c a p.0 r p.1))

distinct : (g : Graph) → IsAcyclic g → (a k : ℕ) (p : Path g a k) → IsDistinct eqb (sources g a k p)
unfolding IsDistinct
distinct g acyclic a zero p = tt
distinct g acyclic a (suc k) p = (apart g acyclic a p.0 k p.2 (at_once p.1), distinct g acyclic p.0 k p.2)

test_among : (q x : ℕ) (xs : List ℕ) (t : Bool) → eqb q x ≡ t → (list_any (eqb q) xs ≡ true → Among xs q) → (t || list_any (eqb q) xs) ≡ true → Among (x ∷ xs) q
test_among q x xs true is deeper h = inl (sym (eqb-true q x is))
test_among q x xs false is deeper h = inr (deeper h)

any_among : (q : ℕ) (xs : List ℕ) → list_any (eqb q) xs ≡ true → Among xs q
any_among q [] h = absurd cc
any_among q (x ∷ xs) h = test_among q x xs (eqb q x) refl (any_among q xs) h

from_below : (g : Graph) (a b : ℕ) → Edge g a b → a < length g
from_below [] a b e = absurd e
from_below (r ∷ g) zero b e = omega arith
from_below (r ∷ g) (suc a) b e = let h = from_below g a b e in omega arith

sources_below : (g : Graph) (a k : ℕ) (p : Path g a k) (q : ℕ) → Among (sources g a k p) q → q < length g
sources_below g a zero p q h = absurd h
sources_below g a (suc k) p q (inl e) = subst (λ x. x < length g) e (from_below g a p.0 p.1)
sources_below g a (suc k) p q (inr h) = sources_below g p.0 k p.2 q h

-- a path has no more calls than there are functions
no_long : (g : Graph) → IsAcyclic g → (a k : ℕ) → Path g a k → k ≤ length g
no_long g acyclic a k p =
    let h = length-le_from_distinct_below (sources g a k p) (length g) (distinct g acyclic a k p) (λ q h. sources_below g a k p q (any_among q (sources g a k p) h)) in
    omega (arith, h, length_sources g a k p)

-- one more than the highest of these, or 0 where there is none
abbrev highest : (ℕ → ℕ) → List ℕ → ℕ
highest f [] = 0
highest f (b ∷ bs) = max (suc (f b)) (highest f bs)

-- the length of the longest path from a function, of at most so many calls
abbrev height : Graph → ℕ → ℕ → ℕ
height g zero a = 0
height g (suc k) a = highest (λ b. height g k b) (row g a)

either_max : (P : ℕ → Type 0) (x y : ℕ) → P x → P y → P (max x y)
either_max P x y h k = elim (cases_lt x y) [ inl low ↦ (let e : y ≡ max x y = omega arith in subst P e k) | inr far ↦ (let e : x ≡ max x y = omega arith in subst P e h) ]

highest_path : (g : Graph) (f : ℕ → ℕ) (a : ℕ) (bs : List ℕ) → ((b : ℕ) → Path g b (f b)) → ((b : ℕ) → Among bs b → Edge g a b) → Path g a (highest f bs)
highest_path g f a [] paths h = tt
highest_path g f a (b ∷ bs) paths h =
    either_max (Path g a) (suc (f b)) (highest f bs) (b, h b (inl refl), paths b) (highest_path g f a bs paths (λ c m. h c (inr m)))

height_path : (g : Graph) (k a : ℕ) → Path g a (height g k a)
height_path g zero a = tt
height_path g (suc k) a = highest_path g (λ b. height g k b) a (row g a) (λ b. height_path g k b) (λ b m. m)

highest_member : (f : ℕ → ℕ) (bs : List ℕ) (b : ℕ) → Among bs b → suc (f b) ≤ highest f bs
highest_member f [] b h = absurd h
highest_member f (x ∷ bs) b (inl e) = let h : f x ≡ f b = ap f e in omega (arith, h)
highest_member f (x ∷ bs) b (inr m) = let h = highest_member f bs b m in omega (arith, h)

path_height : (g : Graph) (k a j : ℕ) → Path g a j → j ≤ k → j ≤ height g k a
path_height g k a zero p low = omega arith
path_height g zero a (suc j) p low = absurd (omega (arith, low))
path_height g (suc k) a (suc j) p low =
    let h = path_height g k p.0 j p.2 (omega (arith, low)) in
    let m = highest_member (λ b. height g k b) (row g a) p.0 p.1 in
    omega (arith, h, m)

-- the rank of a function: the length of the longest path of calls from it
abbrev pub rank_of : Graph → ℕ → ℕ
rank_of g a = height g (length g) a

-- it falls with each call
pub rank_falls : (g : Graph) → IsAcyclic g → (a b : ℕ) → Edge g a b → rank_of g b < rank_of g a
rank_falls g acyclic a b e =
    let p : Path g a (suc (rank_of g b)) = (b, e, height_path g (length g) b) in
    path_height g (length g) a (suc (rank_of g b)) p (no_long g acyclic a (suc (rank_of g b)) p)

-- it is no more than there are functions
pub rank_limited : (g : Graph) → IsAcyclic g → (a : ℕ) → rank_of g a < suc (length g)
rank_limited g acyclic a = let h = no_long g acyclic a (rank_of g a) (height_path g (length g) a) in omega (arith, h)
