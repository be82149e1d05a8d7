-- Places may be taken in any order.
use Rattle.std.proofs.Common.{ℕ, zero, suc, ◌+◌, ◌<◌, ◌≤◌, min, List, [], ◌∷◌, ◌++◌, map, flat_map, drop, length, get_or, ◌≡◌, refl, ap, sym, ◌∙◌, Option, Some, None, arith}
use Rattle.nml_tree.proofs.Drops.{dropped}
use Rattle.nml_tree.specs.Places.{earlier, least_of}
use Rattle.nml_names.specs.Note.{noted}
use Rattle.nml_names.proofs.Notes.{noted_is, noted_append}

pub earlier_assoc : (a b c : Option ℕ) → earlier (earlier a b) c ≡ earlier a (earlier b c)
earlier_assoc None b c = refl
earlier_assoc (Some a) None c = refl
earlier_assoc (Some a) (Some b) None = refl
earlier_assoc (Some a) (Some b) (Some c) = ap Some (omega arith)

pub earlier_comm : (a b : Option ℕ) → earlier a b ≡ earlier b a
earlier_comm None None = refl
earlier_comm None (Some b) = refl
earlier_comm (Some a) None = refl
earlier_comm (Some a) (Some b) = ap Some (omega arith)

-- the last of three comes second
pub earlier_swap : (a b c : Option ℕ) → earlier (earlier a b) c ≡ earlier (earlier a c) b
earlier_swap a b c = earlier_assoc a b c ∙ ap (earlier a) (earlier_comm b c) ∙ sym (earlier_assoc a c b)

-- two pairs, the firsts and the seconds together
pub earlier_pairs : (a b c d : Option ℕ) → earlier (earlier a b) (earlier c d) ≡ earlier (earlier a c) (earlier b d)
earlier_pairs a b c d = sym (earlier_assoc (earlier a b) c d) ∙ ap (λ x. earlier x d) (earlier_swap a b c) ∙ earlier_assoc (earlier a c) b d

pub least_append : (xs ys : List ℕ) → least_of (xs ++ ys) ≡ earlier (least_of xs) (least_of ys)
least_append [] ys = refl
least_append (x ∷ xs) ys = ap (earlier (Some x)) (least_append xs ys) ∙ sym (earlier_assoc (Some x) (least_of xs) (least_of ys))

-- lists with one least are noted alike
pub noted_same : (found : Option ℕ) (xs ys : List ℕ) → least_of xs ≡ least_of ys → noted found xs ≡ noted found ys
noted_same found xs ys h = noted_is found xs ∙ ap (earlier found) h ∙ sym (noted_is found ys)

-- one of a list behind those before it
pub one_noted : {A : Type 0} (f : A → List ℕ) (x : A) (xs : List A) (a b : Option ℕ) → b ≡ noted a (f x) → noted a (flat_map f (x ∷ xs)) ≡ noted b (flat_map f xs)
one_noted f x xs a b h = noted_append a (f x) (flat_map f xs) ∙ ap (λ y. noted y (flat_map f xs)) (sym h)

-- the same in a loop over a list with marks
pub next_noted : {A : Type 0} (f : A → List ℕ) (rest : List (ℕ × A)) (i : ℕ) (d : ℕ × A) (a b : Option ℕ) → i < length rest → d ≡ get_or rest i d → b ≡ noted a (f d.1)
    → noted b (flat_map f (map (λ (mark, x). x) (drop (i + 1) rest))) ≡ noted a (flat_map f (map (λ (mark, x). x) (drop i rest)))
next_noted f rest i d a b low is h =
    sym (ap (λ xs. noted a (flat_map f (map (λ (mark, x). x) xs))) (dropped rest i d low is) ∙ one_noted f d.1 (map (λ (mark, x). x) (drop (i + 1) rest)) a b h)

-- and over a list without marks
pub item_noted : {A : Type 0} (f : A → List ℕ) (xs : List A) (i : ℕ) (x : A) (a b : Option ℕ) → i < length xs → x ≡ get_or xs i x → b ≡ noted a (f x)
    → noted b (flat_map f (drop (i + 1) xs)) ≡ noted a (flat_map f (drop i xs))
item_noted f xs i x a b low is h = sym (ap (λ ys. noted a (flat_map f ys)) (dropped xs i x low is) ∙ one_noted f x (drop (i + 1) xs) a b h)

-- nothing is left behind the last
pub all_noted : {A : Type 0} (f : A → List ℕ) (xs : List A) (i : ℕ) (a : Option ℕ) → length xs ≤ i → noted a (flat_map f (drop i xs)) ≡ a
all_noted f [] zero a far = refl
all_noted f [] (suc i) a far = refl
all_noted f (x ∷ xs) zero a far = absurd (omega (arith, far))
all_noted f (x ∷ xs) (suc i) a far = all_noted f xs i a (omega (arith, far))
