-- The trees with operands swapped are those in the list of swaps.
use Rattle.std.specs.Prelude.{◌≡◌, refl, ℕ, zero, suc, ◌<◌, IsTrue, List, [], ◌∷◌, ◌++◌, map, length, slice_index_or, Contains, ◌⊎◌}
use Rattle.std.proofs.Common.{sym, subst, ap, ◌∙◌, inl, inr}
use native.Mathlib.Omega.{arith}
use Rattle.ir_core.specs.declared.operator.Arith.{Arith}
use Rattle.ir_core.specs.declared.operator.Arith.TheVariants as ariths
use Rattle.pat_core.specs.Spot.{Spot}
use Rattle.pat_core.specs.Tile.{Tile, is_commutative, pairs, both_ways, swaps}
use Rattle.pat_core.specs.Tile as tile
use Rattle.pat_core.specs.Swapped.{IsSwap, Itself, InLoad, InUnary, InShifted, InBinary, Turned}

-- ---- lists

-- an element of a list
data In (X : Type 0) : List X → X → Type 0 where
  Here : {x : X} → {xs : List X} → In X (x ∷ xs) x
  There : {x y : X} → {xs : List X} → In X xs x → In X (y ∷ xs) x

in_left : {X : Type 0} (xs ys : List X) (x : X) → In X xs x → In X (xs ++ ys) x
in_left _ ys _ (Here {x} {xs}) = Here
in_left _ ys _ (There {x} {y} {xs} i) = There (in_left xs ys x i)

in_right : {X : Type 0} (xs ys : List X) (x : X) → In X ys x → In X (xs ++ ys) x
in_right [] ys x i = i
in_right (z ∷ xs) ys x i = There (in_right xs ys x i)

either_in : {X : Type 0} (x z : X) (xs ys : List X) → In X xs x ⊎ In X ys x → In X (z ∷ xs) x ⊎ In X ys x
either_in x z xs ys (inl i) = inl (There i)
either_in x z xs ys (inr i) = inr i

-- an element of a list that isn't empty is its first or one of the rest
first_or : {X : Type 0} (z : X) (xs : List X) (x : X) → In X (z ∷ xs) x → (z ≡ x) ⊎ In X xs x
first_or _ _ _ (Here {x} {xs}) = inl refl
first_or _ _ _ (There {x} {y} {xs} i) = inr i

of_both : {X : Type 0} (xs ys : List X) (x : X) → In X (xs ++ ys) x → In X xs x ⊎ In X ys x
of_both [] ys x i = inr i
of_both {X = X} (z ∷ xs) ys x i = split (of_both xs ys x) (first_or z (xs ++ ys) x i) where
  split : (In X (xs ++ ys) x → In X xs x ⊎ In X ys x) → (z ≡ x) ⊎ In X (xs ++ ys) x → In X (z ∷ xs) x ⊎ In X ys x
  split later (inl e) = inl (subst (In X (z ∷ xs)) e Here)
  split later (inr j) = either_in x z xs ys (later j)

in_map : {X Y : Type 0} (f : X → Y) (xs : List X) (x : X) → In X xs x → In Y (map f xs) (f x)
in_map f _ _ (Here {x} {xs}) = Here
in_map f _ _ (There {x} {y} {xs} i) = There (in_map f xs x i)

of_map : {X Y : Type 0} (f : X → Y) (xs : List X) (y : Y) → In Y (map f xs) y → (x : X) × In X xs x × (f x ≡ y)
of_map f [] y i = elim i [ ]
of_map {X = X} {Y = Y} f (z ∷ xs) y i = split (of_map f xs y) (first_or (f z) (map f xs) y i) where
  split : (In Y (map f xs) y → (x : X) × In X xs x × (f x ≡ y)) → (f z ≡ y) ⊎ In Y (map f xs) y → (x : X) × In X (z ∷ xs) x × (f x ≡ y)
  split later (inl e) = (z, Here, e)
  split later (inr j) = let r = later j in (r.0, There r.1, r.2)

in_pairs : {X Y Z : Type 0} (f : X → Y → Z) (xs : List X) (ys : List Y) (x : X) (y : Y) → In X xs x → In Y ys y → In Z (pairs f xs ys) (f x y)
in_pairs f _ ys _ y (Here {x} {xs}) j = in_left (map (λ y. f x y) ys) (pairs f xs ys) (f x y) (in_map (λ y. f x y) ys y j)
in_pairs f _ ys _ y (There {x} {y = z} {xs} i) j = in_right (map (λ y. f z y) ys) (pairs f xs ys) (f x y) (in_pairs f xs ys x y i j)

of_pairs : {X Y Z : Type 0} (f : X → Y → Z) (xs : List X) (ys : List Y) (z : Z) → In Z (pairs f xs ys) z
    → (x : X) × (y : Y) × In X xs x × In Y ys y × (f x y ≡ z)
of_pairs f [] ys z i = elim i [ ]
of_pairs {X = X} {Y = Y} {Z = Z} f (w ∷ xs) ys z i = split (of_pairs f xs ys z) (of_both (map (λ y. f w y) ys) (pairs f xs ys) z i) where
  split : (In Z (pairs f xs ys) z → (x : X) × (y : Y) × In X xs x × In Y ys y × (f x y ≡ z))
      → In Z (map (λ y. f w y) ys) z ⊎ In Z (pairs f xs ys) z → (x : X) × (y : Y) × In X (w ∷ xs) x × In Y ys y × (f x y ≡ z)
  split later (inl j) = let r = of_map (λ y. f w y) ys z j in (w, r.0, Here, r.1, r.2)
  split later (inr j) = let r = later j in (r.0, r.1, There r.2, r.3, r.4)

contained : {X : Type 0} (xs : List X) (x : X) → In X xs x → Contains xs x
contained _ _ (Here {x} {xs}) = (0, omega arith, refl)
contained _ _ (There {x} {y} {xs} i) = let r = contained xs x i in (suc r.0, omega (arith, r.1), r.2)

of_contained : {X : Type 0} (xs : List X) (x : X) → Contains xs x → In X xs x
of_contained {X = X} xs x (k, below, is) = at xs k below is where
  at : (xs : List X) (k : ℕ) → k < length xs → slice_index_or xs k x ≡ x → In X xs x
  at [] k below is = absurd (omega (arith, below))
  at (y ∷ xs) zero below is = subst (In X (y ∷ xs)) is Here
  at (y ∷ xs) (suc k) below is = There (at xs k (omega (arith, below)) is)

-- ---- one operator

abbrev Trees : Type 0
Trees = List (Tile Spot)

-- a tree of both ways round: its operands stand in the lists, as written or swapped
abbrev IsWay : Arith → Trees → Trees → Tile Spot → Type 0
IsWay op ts us z = (t : Tile Spot) × (u : Tile Spot) × In (Tile Spot) ts t × In (Tile Spot) us u × ((tile.Binary op t u ≡ z) ⊎ (IsTrue (is_commutative op) × (tile.Binary op u t ≡ z)))

way_of : (op : Arith) (ts us : Trees) (z : Tile Spot) → IsTrue (is_commutative op)
    → In (Tile Spot) (pairs (λ t u. tile.Binary op t u) ts us ++ pairs (λ t u. tile.Binary op u t) ts us) z → IsWay op ts us z
way_of op ts us z c i = split (of_both (pairs (λ t u. tile.Binary op t u) ts us) (pairs (λ t u. tile.Binary op u t) ts us) z i) where
  split : In (Tile Spot) (pairs (λ t u. tile.Binary op t u) ts us) z ⊎ In (Tile Spot) (pairs (λ t u. tile.Binary op u t) ts us) z → IsWay op ts us z
  split (inl j) = let r = of_pairs (λ t u. tile.Binary op t u) ts us z j in (r.0, r.1, r.2, r.3, inl r.4)
  split (inr j) = let r = of_pairs (λ t u. tile.Binary op u t) ts us z j in (r.0, r.1, r.2, r.3, inr (c, r.4))

of_ways : (op : Arith) (ts us : Trees) (z : Tile Spot) → In (Tile Spot) (both_ways op ts us) z → IsWay op ts us z
of_ways ariths.Add ts us z i = way_of ariths.Add ts us z refl i
of_ways ariths.Sub ts us z i = let r = of_pairs (λ t u. tile.Binary ariths.Sub t u) ts us z i in (r.0, r.1, r.2, r.3, inl r.4)
of_ways ariths.Mul ts us z i = way_of ariths.Mul ts us z refl i
of_ways ariths.And ts us z i = way_of ariths.And ts us z refl i
of_ways ariths.Or ts us z i = way_of ariths.Or ts us z refl i
of_ways ariths.Xor ts us z i = way_of ariths.Xor ts us z refl i

as_written : (op : Arith) (ts us : Trees) (t u : Tile Spot) → In (Tile Spot) ts t → In (Tile Spot) us u
    → In (Tile Spot) (pairs (λ t u. tile.Binary op t u) ts us ++ pairs (λ t u. tile.Binary op u t) ts us) (tile.Binary op t u)
as_written op ts us t u i j =
    in_left (pairs (λ t u. tile.Binary op t u) ts us) (pairs (λ t u. tile.Binary op u t) ts us) (tile.Binary op t u)
    (in_pairs (λ t u. tile.Binary op t u) ts us t u i j)

the_other_way : (op : Arith) (ts us : Trees) (t u : Tile Spot) → In (Tile Spot) ts t → In (Tile Spot) us u
    → In (Tile Spot) (pairs (λ t u. tile.Binary op t u) ts us ++ pairs (λ t u. tile.Binary op u t) ts us) (tile.Binary op u t)
the_other_way op ts us t u i j =
    in_right (pairs (λ t u. tile.Binary op t u) ts us) (pairs (λ t u. tile.Binary op u t) ts us) (tile.Binary op u t)
    (in_pairs (λ t u. tile.Binary op u t) ts us t u i j)

in_ways : (op : Arith) (ts us : Trees) (t u : Tile Spot) → In (Tile Spot) ts t → In (Tile Spot) us u → In (Tile Spot) (both_ways op ts us) (tile.Binary op t u)
in_ways ariths.Add ts us t u i j = as_written ariths.Add ts us t u i j
in_ways ariths.Sub ts us t u i j = in_pairs (λ t u. tile.Binary ariths.Sub t u) ts us t u i j
in_ways ariths.Mul ts us t u i j = as_written ariths.Mul ts us t u i j
in_ways ariths.And ts us t u i j = as_written ariths.And ts us t u i j
in_ways ariths.Or ts us t u i j = as_written ariths.Or ts us t u i j
in_ways ariths.Xor ts us t u i j = as_written ariths.Xor ts us t u i j

turned_in_ways : (op : Arith) (ts us : Trees) (t u : Tile Spot) → IsTrue (is_commutative op) → In (Tile Spot) ts t → In (Tile Spot) us u
    → In (Tile Spot) (both_ways op ts us) (tile.Binary op u t)
turned_in_ways ariths.Add ts us t u c i j = the_other_way ariths.Add ts us t u i j
turned_in_ways ariths.Sub ts us t u c i j = absurd cc
turned_in_ways ariths.Mul ts us t u c i j = the_other_way ariths.Mul ts us t u i j
turned_in_ways ariths.And ts us t u c i j = the_other_way ariths.And ts us t u i j
turned_in_ways ariths.Or ts us t u c i j = the_other_way ariths.Or ts us t u i j
turned_in_ways ariths.Xor ts us t u c i j = the_other_way ariths.Xor ts us t u i j

-- ---- what is in the list is a swap

only_one : (x y : Tile Spot) → In (Tile Spot) (x ∷ []) y → x ≡ y
only_one x y i = split (first_or x [] y i) where
  split : (x ≡ y) ⊎ In (Tile Spot) [] y → x ≡ y
  split (inl e) = e
  split (inr j) = let c = contained [] y j in absurd (omega (arith, c.1))

itself : (x y : Tile Spot) → In (Tile Spot) (x ∷ []) y → IsSwap x y
itself x y i = subst (IsSwap x) (only_one x y i) Itself

way_is : (op : Arith) (a b t u z : Tile Spot) → IsSwap a t → IsSwap b u → ((tile.Binary op t u ≡ z) ⊎ (IsTrue (is_commutative op) × (tile.Binary op u t ≡ z)))
    → IsSwap (tile.Binary op a b) z
way_is op a b t u z p q (inl e) = subst (IsSwap (tile.Binary op a b)) e (InBinary p q)
way_is op a b t u z p q (inr (c, e)) = subst (IsSwap (tile.Binary op a b)) e (Turned c (InBinary p q))

listed : (s t : Tile Spot) → In (Tile Spot) (swaps s) t → IsSwap s t
listed (tile.Operand a) t i = itself (tile.Operand a) t i
listed (tile.Number c) t i = itself (tile.Number c) t i
listed tile.In t i = itself tile.In t i
listed (tile.Load a) t i = let r = of_map (λ t. tile.Load t) (swaps a) t i in subst (IsSwap (tile.Load a)) r.2 (InLoad (listed a r.0 r.1))
listed (tile.Unary op a) t i = let r = of_map (λ t. tile.Unary op t) (swaps a) t i in subst (IsSwap (tile.Unary op a)) r.2 (InUnary (listed a r.0 r.1))
listed (tile.Shifted op a k) t i =
    let r = of_map (λ t. tile.Shifted op t k) (swaps a) t i in subst (IsSwap (tile.Shifted op a k)) r.2 (InShifted (listed a r.0 r.1))
listed (tile.Binary op a b) t i =
    let r = of_ways op (swaps a) (swaps b) t i in way_is op a b r.0 r.1 t (listed a r.0 r.2) (listed b r.1 r.3) r.4

-- ---- a swap is in the list

self_in : (s : Tile Spot) → In (Tile Spot) (swaps s) s
self_in (tile.Operand a) = Here
self_in (tile.Number c) = Here
self_in tile.In = Here
self_in (tile.Load a) = in_map (λ t. tile.Load t) (swaps a) a (self_in a)
self_in (tile.Unary op a) = in_map (λ t. tile.Unary op t) (swaps a) a (self_in a)
self_in (tile.Shifted op a k) = in_map (λ t. tile.Shifted op t k) (swaps a) a (self_in a)
self_in (tile.Binary op a b) = in_ways op (swaps a) (swaps b) a b (self_in a) (self_in b)

-- the parts of equal trees
same_operator : {op o : Arith} {t u x y : Tile Spot} → tile.Binary op t u ≡ tile.Binary o x y → op ≡ o
same_operator e = cc

same_left : {op o : Arith} {t u x y : Tile Spot} → tile.Binary op t u ≡ tile.Binary o x y → t ≡ x
same_left e = cc

same_right : {op o : Arith} {t u x y : Tile Spot} → tile.Binary op t u ≡ tile.Binary o x y → u ≡ y
same_right e = cc

turn_way : (o op : Arith) (ts us : Trees) (p q t u : Tile Spot) → In (Tile Spot) ts p → In (Tile Spot) us q → IsTrue (is_commutative op)
    → ((tile.Binary o p q ≡ tile.Binary op t u) ⊎ (IsTrue (is_commutative o) × (tile.Binary o q p ≡ tile.Binary op t u)))
    → In (Tile Spot) (both_ways o ts us) (tile.Binary op u t)
turn_way o op ts us p q t u i j c (inl e) =
    let k : IsTrue (is_commutative o) = subst (λ x. IsTrue (is_commutative x)) (sym (same_operator e)) c in
    let f : tile.Binary o q p ≡ tile.Binary op u t = ap (λ x. tile.Binary x q p) (same_operator e) ∙ ap (λ x. tile.Binary op x p) (same_right e) ∙ ap (tile.Binary op u) (same_left e) in
    subst (In (Tile Spot) (both_ways o ts us)) f (turned_in_ways o ts us p q k i j)
turn_way o op ts us p q t u i j c (inr (k, e)) =
    let f : tile.Binary o p q ≡ tile.Binary op u t = ap (λ x. tile.Binary x p q) (same_operator e) ∙ ap (λ x. tile.Binary op x q) (same_right e) ∙ ap (tile.Binary op u) (same_left e) in
    subst (In (Tile Spot) (both_ways o ts us)) f (in_ways o ts us p q i j)

turn : (op : Arith) (s t u : Tile Spot) → IsTrue (is_commutative op) → In (Tile Spot) (swaps s) (tile.Binary op t u) → In (Tile Spot) (swaps s) (tile.Binary op u t)
turn op (tile.Operand a) t u c i = let e = only_one (tile.Operand a) (tile.Binary op t u) i in absurd cc
turn op (tile.Number k) t u c i = let e = only_one (tile.Number k) (tile.Binary op t u) i in absurd cc
turn op tile.In t u c i = let e = only_one tile.In (tile.Binary op t u) i in absurd cc
turn op (tile.Load a) t u c i = let r = of_map (λ t. tile.Load t) (swaps a) (tile.Binary op t u) i in let e = r.2 in absurd cc
turn op (tile.Unary o a) t u c i = let r = of_map (λ t. tile.Unary o t) (swaps a) (tile.Binary op t u) i in let e = r.2 in absurd cc
turn op (tile.Shifted o a k) t u c i = let r = of_map (λ t. tile.Shifted o t k) (swaps a) (tile.Binary op t u) i in let e = r.2 in absurd cc
turn op (tile.Binary o a b) t u c i =
    let r = of_ways o (swaps a) (swaps b) (tile.Binary op t u) i in turn_way o op (swaps a) (swaps b) r.0 r.1 t u r.2 r.3 c r.4

all_in : (s t : Tile Spot) → IsSwap s t → In (Tile Spot) (swaps s) t
all_in _ _ (Itself {t}) = self_in t
all_in _ _ (InLoad {t} {u} p) = in_map (λ t. tile.Load t) (swaps t) u (all_in t u p)
all_in _ _ (InUnary {op} {t} {u} p) = in_map (λ t. tile.Unary op t) (swaps t) u (all_in t u p)
all_in _ _ (InShifted {op} {k} {t} {u} p) = in_map (λ t. tile.Shifted op t k) (swaps t) u (all_in t u p)
all_in _ _ (InBinary {op} {t} {u} {x} {y} p q) = in_ways op (swaps t) (swaps u) x y (all_in t x p) (all_in u y q)
all_in _ _ (Turned {op} {s} {t} {u} c p) = turn op s t u c (all_in s (tile.Binary op t u) p)

-- ---- both

pub swaps_are : (s t : Tile Spot) → Contains (swaps s) t → IsSwap s t
swaps_are s t h = listed s t (of_contained (swaps s) t h)

pub swaps_all : (s t : Tile Spot) → IsSwap s t → Contains (swaps s) t
swaps_all s t h = contained (swaps s) t (all_in s t h)
