-- Rows, marks and what is reached.
use Rattle.std.proofs.Common.{ℕ, zero, suc, ◌≡◌, ◌≤◌, ◌<◌, ◌+◌, refl, sym, ◌∙◌, subst, arith, Bool, true, false, List, [], ◌∷◌, ◌++◌, length, get_or, set, inl, inr, append_assoc}
use Rattle.std.specs.Prelude.{◌⊎◌}
use Rattle.std.proofs.lemmas.List.{get_or-set_same, get_or-set_other, length-set}
use Rattle.std.proofs.lemmas.Bool.{cases_eq, cases_lt}
use Rattle.graphs.specs.Graphs.{Graph, row, Among, Edge, Reaches, at_once, over, InRange, Grounded, grounded, Marked, IsSearch, Visited, Ordering, IsOrder}

pub row_is : (g : Graph) (x : ℕ) (d : List ℕ) → x < length g → get_or g x d ≡ row g x
row_is [] x d low = absurd (omega arith)
row_is (r ∷ g) zero d low = refl
row_is (r ∷ g) (suc x) d low = row_is g x d (omega arith)

pub from_below : (g : Graph) (a b : ℕ) → Edge g a b → a < length g
from_below [] a b e = absurd e
from_below (r ∷ g) zero b e = omega arith
from_below (r ∷ g) (suc a) b e = let h = from_below g a b e in omega arith

pub among_get : (xs : List ℕ) (b : ℕ) → Among xs b → (k : ℕ) × (k < length xs) × (get_or xs k 0 ≡ b)
among_get [] b h = absurd h
among_get (x ∷ xs) b (inl h) = (0, omega arith, h)
among_get (x ∷ xs) b (inr h) = let r = among_get xs b h in (suc r.0, let l = r.1 in omega arith, r.2)

pub get_among : (xs : List ℕ) (k : ℕ) → k < length xs → Among xs (get_or xs k 0)
get_among [] k low = absurd (omega arith)
get_among (x ∷ xs) zero low = inl refl
get_among (x ∷ xs) (suc k) low = inr (get_among xs k (omega arith))

pub among_front : (xs ys : List ℕ) (b : ℕ) → Among xs b → Among (xs ++ ys) b
among_front [] ys b h = absurd h
among_front (x ∷ xs) ys b (inl h) = inl h
among_front (x ∷ xs) ys b (inr h) = inr (among_front xs ys b h)

among_last : (xs : List ℕ) (n : ℕ) → Among (xs ++ n ∷ []) n
among_last [] n = inl refl
among_last (x ∷ xs) n = inr (among_last xs n)

among_either : (xs : List ℕ) (n b : ℕ) → Among (xs ++ n ∷ []) b → Among xs b ⊎ (n ≡ b)
among_either [] n b (inl h) = inr h
among_either [] n b (inr h) = absurd h
among_either (x ∷ xs) n b (inl h) = inl (inl h)
among_either (x ∷ xs) n b (inr h) = elim (among_either xs n b h) [ inl k ↦ inl (inr k) | inr k ↦ inr k ]

-- what holds at each place holds of each member
pub each_of : (marks : List Bool) (xs : List ℕ) (i : ℕ) → ((k : ℕ) → k < i → Marked marks (get_or xs k 0)) → length xs ≤ i → (b : ℕ) → Among xs b → Marked marks b
each_of marks xs i all far b h = let r = among_get xs b h in let l = r.1 in subst (Marked marks) r.2 (all r.0 (omega (arith, l)))

-- marks
marked_old : (marks : List Bool) (n b : ℕ) → n < length marks → Marked (set marks n true) b → (b ≡ n) ⊎ Marked marks b
marked_old marks n b low h = elim (cases_eq b n) [ inl e ↦ inl e | inr ne ↦ inr (sym (get_or-set_other marks n b true false ne) ∙ h) ]

pub marked_new : (marks : List Bool) (n : ℕ) → n < length marks → Marked (set marks n true) n
marked_new marks n low = get_or-set_same marks n true false low

pub marked_kept : (marks : List Bool) (n b : ℕ) → n < length marks → Marked marks b → Marked (set marks n true) b
marked_kept marks n b low h = elim (cases_eq b n) [ inl e ↦ rw e (marked_new marks n low) | inr ne ↦ get_or-set_other marks n b true false ne ∙ h ]

pub grounded_step : (g : Graph) (marks : List Bool) (n : ℕ) (d names : List ℕ) → length marks ≡ length g → n < length g → ((a : ℕ) → Marked marks a → Grounded g a) → names ≡ get_or g n d → ((b : ℕ) → Among names b → Marked marks b) → (a : ℕ) → Marked (set marks n true) a → Grounded g a
grounded_step g marks n d names long low inv is all a h = elim (marked_old marks n a (omega arith) h) [
  | inl e ↦ subst (Grounded g) (sym e) (grounded (λ b k. inv b (all b (rw (is, row_is g n d low) k))))
  | inr m ↦ inv a m
]

-- a rule without a cycle below it doesn't reach itself
further : (g : Graph) (a b c : ℕ) → Reaches g a b → Edge g b c → Reaches g a c
further g a b c (at_once e) k = over e (at_once k)
further g a b c (over e r) k = over e (further g _ b c r k)

pub reaches_further : (g : Graph) (a b c : ℕ) → Reaches g a b → Edge g b c → Reaches g a c
reaches_further g a b c r k = further g a b c r k

turn : (g : Graph) (a c : ℕ) → Reaches g a c → c ≡ a → (b : ℕ) × Edge g a b × Reaches g b b
turn g a c (at_once e) is = (a, subst (Edge g a) is e, at_once (subst (Edge g a) is e))
turn g a c (over {b = b} e r) is = (b, e, further g b a b (subst (Reaches g b) is r) e)

turned : (g : Graph) (a : ℕ) → Reaches g a a → (b : ℕ) × Edge g a b × Reaches g b b
turned g a r = turn g a a r refl

pub no_cycle : (g : Graph) (a : ℕ) → Grounded g a → Reaches g a a → ⊥
no_cycle g a (grounded f) r = let t = turned g a r in no_cycle g t.0 (f t.0 t.1) t.2

pub below : (g : Graph) (a c : ℕ) → InRange g → Reaches g a c → c < length g
below g a c range (at_once e) = range.below a c e
below g a c range (over e r) = below g _ c range r

pub starts_below : (g : Graph) (a c : ℕ) → Reaches g a c → a < length g
starts_below g a c (at_once e) = from_below g a c e
starts_below g a c (over {b = b} e r) = from_below g a b e

-- a search
pub search_step : (g : Graph) (a : ℕ) (marks : List Bool) (work : List ℕ) (n : ℕ) → IsSearch g a marks work → n < length g → Reaches g a n → IsSearch g a (set marks n true) (work ++ n ∷ [])
search_step g a marks work n s low r =
    let l = s.long in
    record {
      long = length-set marks n true ∙ s.long;
      listed = λ b h. elim (marked_old marks n b (omega arith) h) [ inl e ↦ rw e (among_last work n) | inr m ↦ among_front work (n ∷ []) b (s.listed b m) ];
      marked = λ b h. elim (among_either work n b h) [ inl k ↦ marked_kept marks n b (omega arith) (s.marked b k) | inr e ↦ subst (Marked (set marks n true)) e (marked_new marks n (omega arith)) ];
      reached = λ b h. elim (among_either work n b h) [ inl k ↦ s.reached b k | inr e ↦ subst (Reaches g a) e r ];
    }

-- all that is reached is marked, where all that is marked was seen
pub closed : (g : Graph) (marks : List Bool) → ((x b : ℕ) → Marked marks x → Edge g x b → Marked marks b) → (x c : ℕ) → Marked marks x → Reaches g x c → Marked marks c
closed g marks step x c m (at_once e) = step x c m e
closed g marks step x c m (over {b = b} e r) = closed g marks step b c (step x b m e) r

from_first : (g : Graph) (a : ℕ) (marks : List Bool) → ((x b : ℕ) → Marked marks x → Edge g x b → Marked marks b) → ((b : ℕ) → Edge g a b → Marked marks b) → (c : ℕ) → Reaches g a c → Marked marks c
from_first g a marks step first c (at_once e) = first c e
from_first g a marks step first c (over {b = b} e r) = closed g marks step b c (first b e) r

pub reached_marked : (g : Graph) (a : ℕ) (marks : List Bool) (work : List ℕ) (i : ℕ) → IsSearch g a marks work → ((b : ℕ) → Edge g a b → Marked marks b) → ((k b : ℕ) → k < i → Edge g (get_or work k 0) b → Marked marks b) → length work ≤ i → (c : ℕ) → Reaches g a c → Marked marks c
reached_marked g a marks work i s first done far c r =
    let step : (x b : ℕ) → Marked marks x → Edge g x b → Marked marks b = λ x b m e. let p = among_get work x (s.listed x m) in let l = p.1 in done p.0 b (omega (arith, l)) (subst (λ y. Edge g y b) (sym p.2) e) in
    from_first g a marks step first c r

pub row_of : (g : Graph) (x : ℕ) (d names : List ℕ) → x < length g → d ≡ get_or g x d → names ≡ d → names ≡ row g x
row_of g x d names low is same = same ∙ is ∙ row_is g x d low

pub name_below : (g : Graph) (x : ℕ) (d names : List ℕ) (i : ℕ) → InRange g → x < length g → d ≡ get_or g x d → names ≡ d → i < length names → get_or names i 0 < length g
name_below g x d names i range low is same here = range.below x (get_or names i 0) (subst (λ xs. Among xs (get_or names i 0)) (row_of g x d names low is same) (get_among names i here))

pub name_edge : (g : Graph) (x : ℕ) (d names : List ℕ) (i : ℕ) → x < length g → d ≡ get_or g x d → names ≡ d → i < length names → Edge g x (get_or names i 0)
name_edge g x d names i low is same here = subst (λ xs. Among xs (get_or names i 0)) (row_of g x d names low is same) (get_among names i here)

-- one place more
pub one_more : (marks : List Bool) (names : List ℕ) (i : ℕ) → ((k : ℕ) → k < i → Marked marks (get_or names k 0)) → Marked marks (get_or names i 0) → (k : ℕ) → k < i + 1 → Marked marks (get_or names k 0)
one_more marks names i all here k low = elim (cases_lt k i) [ inl less ↦ all k less | inr more ↦ (let e : k ≡ i = omega arith in rw e here) ]

pub visited_all : (g : Graph) (x : ℕ) (d names : List ℕ) (before after : List Bool) (i : ℕ) → x < length g → d ≡ get_or g x d → names ≡ d → ((b : ℕ) → Marked before b → Marked after b) → ((k : ℕ) → k < i → Marked after (get_or names k 0)) → length names ≤ i → Visited g x before after
visited_all g x d names before after i low is same kept all far = record {
  kept = kept;
  all = λ b e. each_of after names i all far b (subst (λ xs. Among xs b) (sym (row_of g x d names low is same)) e);
}

-- what is known of a visit that has seen i names
pub record Visiting (g : Graph) (a : ℕ) (before after : List Bool) (old work names : List ℕ) (i : ℕ) : Type 0 where
  pub search : IsSearch g a after work
  pub kept : (b : ℕ) → Marked before b → Marked after b
  pub done : (k : ℕ) → k < i → Marked after (get_or names k 0)
  pub front : (more : List ℕ) × (work ≡ old ++ more)

pub visiting_new : (g : Graph) (a : ℕ) (before after : List Bool) (old work names : List ℕ) (i : ℕ) → Visiting g a before after old work names i → get_or names i 0 < length g → Reaches g a (get_or names i 0) → Visiting g a before (set after (get_or names i 0) true) old (work ++ get_or names i 0 ∷ []) names (i + 1)
visiting_new g a before after old work names i v low r =
    let l = v.search.long in
    let here : get_or names i 0 < length after = omega arith in
    record {
      search = search_step g a after work (get_or names i 0) v.search low r;
      kept = λ b m. marked_kept after (get_or names i 0) b here (v.kept b m);
      done = one_more (set after (get_or names i 0) true) names i (λ k less. marked_kept after (get_or names i 0) (get_or names k 0) here (v.done k less)) (marked_new after (get_or names i 0) here);
      front = (v.front.0 ++ get_or names i 0 ∷ [], rw v.front.1 (append_assoc old v.front.0 (get_or names i 0 ∷ [])));
    }

pub visiting_old : (g : Graph) (a : ℕ) (before after : List Bool) (old work names : List ℕ) (i : ℕ) → Visiting g a before after old work names i → Marked after (get_or names i 0) → Visiting g a before after old work names (i + 1)
visiting_old g a before after old work names i v m = record { search = v.search; kept = v.kept; done = one_more after names i v.done m; front = v.front }

-- one place more of an order
pub ordering_step : (g : Graph) (order : List ℕ) (marks : List Bool) (i : ℕ) (d names : List ℕ) → Ordering g order marks i → i < length order → get_or order i 0 < length g → names ≡ get_or g (get_or order i 0) d → ((b : ℕ) → Among names b → Marked marks b) → Ordering g order (set marks (get_or order i 0) true) (i + 1)
ordering_step g order marks i d names o here low is all =
    let l = o.long in
    let within : get_or order i 0 < length marks = omega arith in
    record {
      long = length-set marks (get_or order i 0) true ∙ o.long;
      grounded = grounded_step g marks (get_or order i 0) d names o.long low o.grounded is all;
      before = λ a m. elim (marked_old marks (get_or order i 0) a within m) [
        | inl e ↦ (i, omega arith, sym e)
        | inr k ↦ (let r = o.before a k in let h = r.1 in (r.0, omega arith, r.2))
      ];
      behind = λ p b less e. elim (cases_lt p i) [
        | inl under ↦ o.behind p b under e
        | inr more ↦ (let same : p ≡ i = omega arith in
            let f : Edge g (get_or order i 0) b = subst (λ x. Edge g (get_or order x 0) b) same e in
            rw same (o.before b (all b (rw (is, row_is g (get_or order i 0) d low) f))))
      ];
    }

pub is_order : (g : Graph) (order : List ℕ) (marks : List Bool) (i : ℕ) → Ordering g order marks i → length order ≤ i → i ≤ length order → ((a : ℕ) → a < length marks → Marked marks a) → IsOrder g order
is_order g order marks i o far low all =
    let l = o.long in
    let same : i ≡ length order = omega arith in
    record {
      behind = λ p b less e. o.behind p b (omega arith) e;
      every = λ a less. rw (← same) (o.before a (all a (omega arith)));
      grounded = λ a less. o.grounded a (all a (omega arith));
    }
