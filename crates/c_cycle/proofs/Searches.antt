-- Rows, marks and what is reached.
use Rattle.std.proofs.Common.{ℕ, zero, suc, ◌≡◌, ◌≤◌, ◌<◌, ◌+◌, refl, sym, ◌∙◌, subst, arith, Bool, true, false, List, [], ◌∷◌, ◌++◌, length, get_or, set, inl, inr, append_assoc}
use Rattle.std.specs.Prelude.{◌⊎◌}
use Rattle.std.proofs.lemmas.List.{get_or-set_same, get_or-set_other, length-set}
use Rattle.std.proofs.lemmas.Bool.{cases_eq, cases_lt}
use Rattle.c_tree.specs.Recursion.{Graph, row, Among, Edge, Reaches, at_once, over}
use Rattle.c_cycle.specs.Search.{Marked, IsSearch, Visited, rank, IsRanked, IsStrict, AreStrictBelow}

pub row_is : (g : Graph) (x : ℕ) (d : List ℕ) → x < length g → get_or g x d ≡ row g x
row_is [] x d low = absurd (omega arith)
row_is (r ∷ g) zero d low = refl
row_is (r ∷ g) (suc x) d low = row_is g x d (omega arith)

pub from_below : (g : Graph) (a b : ℕ) → Edge g a b → a < length g
from_below [] a b e = absurd e
from_below (r ∷ g) zero b e = omega arith
from_below (r ∷ g) (suc a) b e = let h = from_below g a b e in omega arith

pub among_get : (xs : List ℕ) (b : ℕ) → Among xs b → (k : ℕ) × (k < length xs) × (get_or xs k 0 ≡ b)
among_get [] b h = absurd h
among_get (x ∷ xs) b (inl h) = (0, omega arith, h)
among_get (x ∷ xs) b (inr h) = let r = among_get xs b h in (suc r.0, let l = r.1 in omega arith, r.2)

pub get_among : (xs : List ℕ) (k : ℕ) → k < length xs → Among xs (get_or xs k 0)
get_among [] k low = absurd (omega arith)
get_among (x ∷ xs) zero low = inl refl
get_among (x ∷ xs) (suc k) low = inr (get_among xs k (omega arith))

among_front : (xs ys : List ℕ) (b : ℕ) → Among xs b → Among (xs ++ ys) b
among_front [] ys b h = absurd h
among_front (x ∷ xs) ys b (inl h) = inl h
among_front (x ∷ xs) ys b (inr h) = inr (among_front xs ys b h)

among_last : (xs : List ℕ) (n : ℕ) → Among (xs ++ n ∷ []) n
among_last [] n = inl refl
among_last (x ∷ xs) n = inr (among_last xs n)

among_either : (xs : List ℕ) (n b : ℕ) → Among (xs ++ n ∷ []) b → Among xs b ⊎ (n ≡ b)
among_either [] n b (inl h) = inr h
among_either [] n b (inr h) = absurd h
among_either (x ∷ xs) n b (inl h) = inl (inl h)
among_either (x ∷ xs) n b (inr h) = elim (among_either xs n b h) [ inl k ↦ inl (inr k) | inr k ↦ inr k ]

-- what holds at each place holds of each member
pub each_of : (P : ℕ → Type 0) (xs : List ℕ) (i : ℕ) → ((k : ℕ) → k < i → P (get_or xs k 0)) → length xs ≤ i → (b : ℕ) → Among xs b → P b
each_of P xs i all far b h = let r = among_get xs b h in let l = r.1 in subst P r.2 (all r.0 (omega (arith, l)))

-- marks
marked_old : (marks : List Bool) (n b : ℕ) → n < length marks → Marked (set marks n true) b → (b ≡ n) ⊎ Marked marks b
marked_old marks n b low h = elim (cases_eq b n) [ inl e ↦ inl e | inr ne ↦ inr (sym (get_or-set_other marks n b true false ne) ∙ h) ]

pub marked_new : (marks : List Bool) (n : ℕ) → n < length marks → Marked (set marks n true) n
marked_new marks n low = get_or-set_same marks n true false low

pub marked_kept : (marks : List Bool) (n b : ℕ) → n < length marks → Marked marks b → Marked (set marks n true) b
marked_kept marks n b low h = elim (cases_eq b n) [ inl e ↦ rw e (marked_new marks n low) | inr ne ↦ get_or-set_other marks n b true false ne ∙ h ]

-- one call further
further : (g : Graph) (a b c : ℕ) → Reaches g a b → Edge g b c → Reaches g a c
further g a b c (at_once e) k = over e (at_once k)
further g a b c (over e r) k = over e (further g _ b c r k)

pub reaches_further : (g : Graph) (a b c : ℕ) → Reaches g a b → Edge g b c → Reaches g a c
reaches_further g a b c r k = further g a b c r k

pub starts_below : (g : Graph) (a c : ℕ) → Reaches g a c → a < length g
starts_below g a c (at_once e) = from_below g a c e
starts_below g a c (over {b = b} e r) = from_below g a b e

-- a search
pub search_step : (g : Graph) (a : ℕ) (marks : List Bool) (work : List ℕ) (n : ℕ) → IsSearch g a marks work → n < length g → Reaches g a n → IsSearch g a (set marks n true) (work ++ n ∷ [])
search_step g a marks work n s low r =
    let l = s.long in
    record {
      long = length-set marks n true ∙ s.long;
      listed = λ b h. elim (marked_old marks n b (omega arith) h) [ inl e ↦ rw e (among_last work n) | inr m ↦ among_front work (n ∷ []) b (s.listed b m) ];
      marked = λ b h. elim (among_either work n b h) [ inl k ↦ marked_kept marks n b (omega arith) (s.marked b k) | inr e ↦ subst (Marked (set marks n true)) e (marked_new marks n (omega arith)) ];
      reached = λ b h. elim (among_either work n b h) [ inl k ↦ s.reached b k | inr e ↦ subst (Reaches g a) e r ];
      below = λ b h. elim (among_either work n b h) [ inl k ↦ s.below b k | inr e ↦ subst (λ y. y < length g) e low ];
    }

-- all that is reached is marked, where all that is marked was seen
pub closed : (g : Graph) (marks : List Bool) → ((x b : ℕ) → Marked marks x → Edge g x b → b < length g → Marked marks b) → (x c : ℕ) → Marked marks x → c < length g → Reaches g x c → Marked marks c
closed g marks step x c m low (at_once e) = step x c m e low
closed g marks step x c m low (over {b = b} e r) = closed g marks step b c (step x b m e (starts_below g b c r)) low r

from_first : (g : Graph) (a : ℕ) (marks : List Bool) → ((x b : ℕ) → Marked marks x → Edge g x b → b < length g → Marked marks b) → ((b : ℕ) → Edge g a b → b < length g → Marked marks b) → (c : ℕ) → c < length g → Reaches g a c → Marked marks c
from_first g a marks step first c low (at_once e) = first c e low
from_first g a marks step first c low (over {b = b} e r) = closed g marks step b c (first b e (starts_below g b c r)) low r

pub reached_marked : (g : Graph) (a : ℕ) (marks : List Bool) (work : List ℕ) (i : ℕ) → IsSearch g a marks work → ((b : ℕ) → Edge g a b → b < length g → Marked marks b) → ((k b : ℕ) → k < i → Edge g (get_or work k 0) b → b < length g → Marked marks b) → length work ≤ i → (c : ℕ) → c < length g → Reaches g a c → Marked marks c
reached_marked g a marks work i s first done far c low r =
    let step : (x b : ℕ) → Marked marks x → Edge g x b → b < length g → Marked marks b = λ x b m e h. let p = among_get work x (s.listed x m) in let l = p.1 in done p.0 b (omega (arith, l)) (subst (λ y. Edge g y b) (sym p.2) e) h in
    from_first g a marks step first c low r

pub row_of : (g : Graph) (x : ℕ) (d names : List ℕ) → x < length g → d ≡ get_or g x d → names ≡ d → names ≡ row g x
row_of g x d names low is same = same ∙ is ∙ row_is g x d low

pub name_edge : (g : Graph) (x : ℕ) (d names : List ℕ) (i : ℕ) → x < length g → d ≡ get_or g x d → names ≡ d → i < length names → Edge g x (get_or names i 0)
name_edge g x d names i low is same here = subst (λ xs. Among xs (get_or names i 0)) (row_of g x d names low is same) (get_among names i here)

-- one place more
pub one_more : (n : ℕ) (marks : List Bool) (names : List ℕ) (i : ℕ) → ((k : ℕ) → k < i → get_or names k 0 < n → Marked marks (get_or names k 0)) → (get_or names i 0 < n → Marked marks (get_or names i 0)) → (k : ℕ) → k < i + 1 → get_or names k 0 < n → Marked marks (get_or names k 0)
one_more n marks names i all here k low h = elim (cases_lt k i) [ inl less ↦ all k less h | inr more ↦ (let e : k ≡ i = omega arith in rw e (here (subst (λ j. get_or names j 0 < n) e h))) ]

pub visited_all : (g : Graph) (x : ℕ) (d names : List ℕ) (before after : List Bool) (i : ℕ) → x < length g → d ≡ get_or g x d → names ≡ d → ((b : ℕ) → Marked before b → Marked after b) → ((k : ℕ) → k < i → get_or names k 0 < length g → Marked after (get_or names k 0)) → length names ≤ i → Visited g x before after
visited_all g x d names before after i low is same kept all far = record {
  kept = kept;
  all = λ b e h. let r = among_get names b (subst (λ xs. Among xs b) (sym (row_of g x d names low is same)) e) in let l = r.1 in subst (Marked after) r.2 (all r.0 (omega (arith, l)) (subst (λ y. y < length g) (sym r.2) h));
}

-- what is known of a visit that has seen i names
pub record Visiting (g : Graph) (a : ℕ) (before after : List Bool) (old work names : List ℕ) (i : ℕ) : Type 0 where
  pub search : IsSearch g a after work
  pub kept : (b : ℕ) → Marked before b → Marked after b
  pub done : (k : ℕ) → k < i → get_or names k 0 < length g → Marked after (get_or names k 0)
  pub front : (more : List ℕ) × (work ≡ old ++ more)

pub visiting_new : (g : Graph) (a : ℕ) (before after : List Bool) (old work names : List ℕ) (i : ℕ) → Visiting g a before after old work names i → get_or names i 0 < length g → Reaches g a (get_or names i 0) → Visiting g a before (set after (get_or names i 0) true) old (work ++ get_or names i 0 ∷ []) names (i + 1)
visiting_new g a before after old work names i v low r =
    let l = v.search.long in
    let here : get_or names i 0 < length after = omega arith in
    record {
      search = search_step g a after work (get_or names i 0) v.search low r;
      kept = λ b m. marked_kept after (get_or names i 0) b here (v.kept b m);
      done = one_more (length g) (set after (get_or names i 0) true) names i (λ k less h. marked_kept after (get_or names i 0) (get_or names k 0) here (v.done k less h)) (λ h. marked_new after (get_or names i 0) here);
      front = (v.front.0 ++ get_or names i 0 ∷ [], rw v.front.1 (append_assoc old v.front.0 (get_or names i 0 ∷ [])));
    }

pub visiting_old : (g : Graph) (a : ℕ) (before after : List Bool) (old work names : List ℕ) (i : ℕ) → Visiting g a before after old work names i → (get_or names i 0 < length g → Marked after (get_or names i 0)) → Visiting g a before after old work names (i + 1)
visiting_old g a before after old work names i v m = record { search = v.search; kept = v.kept; done = one_more (length g) after names i v.done m; front = v.front }

-- ---- ranks

pub edge_row : (g : Graph) (x : ℕ) (d names : List ℕ) (b : ℕ) → x < length g → d ≡ get_or g x d → names ≡ d → Edge g x b → Among names b
edge_row g x d names b low is same e = subst (λ xs. Among xs b) (sym (row_of g x d names low is same)) e

-- what is reached has no higher rank
falls_through : (g : Graph) (ranks : List ℕ) → IsRanked g ranks → (x z : ℕ) → Reaches g x z → z < length g → rank ranks z ≤ rank ranks x
falls_through g ranks fall x z (at_once e) low = fall.each x z e low
falls_through g ranks fall x z (over {b = b} e r) low =
    let h = falls_through g ranks fall b z r low in
    let k = fall.each x b e (starts_below g b z r) in
    omega (arith, h, k)

-- a function that calls lower ones alone doesn't reach itself
pub no_cycle : (g : Graph) (ranks : List ℕ) → IsRanked g ranks → (b : ℕ) → IsStrict g ranks b → Reaches g b b → ⊥
no_cycle g ranks fall b strict (at_once e) = let h = strict b e (from_below g b b e) in omega (arith, h)
no_cycle g ranks fall b strict (over {b = c} e r) =
    let h = strict c e (starts_below g c b r) in
    let k = falls_through g ranks fall c b r (from_below g b c e) in
    omega (arith, h, k)

-- one function more whose row was looked at
pub strict_more : (g : Graph) (ranks : List ℕ) (i : ℕ) (d names : List ℕ) (limit : ℕ) → AreStrictBelow g ranks i → i < length g → length ranks ≡ length g → d ≡ get_or g i d → names ≡ d → limit ≡ rank ranks i → ((y : ℕ) → Among names y → y < length ranks → rank ranks y < limit) → AreStrictBelow g ranks (i + 1)
strict_more g ranks i d names limit all here long is same top row x low y e small = elim (cases_lt x i) [
  | inl less ↦ all x less y e small
  | inr more ↦ (let one : x ≡ i = omega arith in
      let within : y < length ranks = omega (arith, small, long) in
      let h = row y (edge_row g i d names y here is same (subst (λ z. Edge g z y) one e)) within in
      subst (λ z. rank ranks y < rank ranks z) (sym one) (subst (λ z. rank ranks y < z) top h))
]

pub fall_more : (g : Graph) (ranks : List ℕ) (i : ℕ) (d names : List ℕ) (limit : ℕ) → ((x y : ℕ) → x < i → Edge g x y → y < length g → rank ranks y ≤ rank ranks x) → i < length g → length ranks ≡ length g → d ≡ get_or g i d → names ≡ d → limit ≤ rank ranks i + 1 → ((y : ℕ) → Among names y → y < length ranks → rank ranks y < limit) → (x y : ℕ) → x < i + 1 → Edge g x y → y < length g → rank ranks y ≤ rank ranks x
fall_more g ranks i d names limit all here long is same top row x y low e small = elim (cases_lt x i) [
  | inl less ↦ all x y less e small
  | inr more ↦ (let one : x ≡ i = omega arith in
      let within : y < length ranks = omega (arith, small, long) in
      let h = row y (edge_row g i d names y here is same (subst (λ z. Edge g z y) one e)) within in
      let k : rank ranks y ≤ rank ranks i = omega (arith, h, top) in
      subst (λ z. rank ranks y ≤ rank ranks z) (sym one) k)
]

pub fall_all : (g : Graph) (ranks : List ℕ) (i : ℕ) → ((x y : ℕ) → x < i → Edge g x y → y < length g → rank ranks y ≤ rank ranks x) → length g ≤ i → IsRanked g ranks
fall_all g ranks i all far = record { each = λ x y e small. let h = from_below g x y e in all x y (omega (arith, h, far)) e small }

pub first_least : (g : Graph) (ranks : List ℕ) (a : ℕ) → IsRanked g ranks → AreStrictBelow g ranks a → (b : ℕ) → Reaches g b b → a ≤ b
first_least g ranks a fall strict b r = elim (cases_lt b a) [ inl less ↦ absurd (no_cycle g ranks fall b (strict b less) r) | inr more ↦ more ]
