-- Where no rule reaches itself, there is an order of them all.
use Rattle.std.proofs.Common.{ℕ, zero, suc, ◌≡◌, ◌≤◌, ◌<◌, ◌+◌, refl, sym, ◌∙◌, subst, arith, Bool, true, false, List, [], ◌∷◌, ◌++◌, length, get_or, set, inl, inr}
use Rattle.std.specs.Prelude.{◌⊎◌, eqb, ◌||◌}
use Rattle.std.specs.List.{IsDistinct, AllByRecursion, list_any}
use Rattle.std.proofs.lemmas.Bool.{cases_lt, eqb-true, eq-eqb}
use Rattle.std.proofs.lemmas.List.{get_or_push, get_or_append_left}
use Rattle.std.proofs.lemmas.Map.Steps.{length-le_from_distinct_below}
use Rattle.graphs.specs.Graphs.{Graph, Among, Edge, Reaches, at_once, InRange, Grounded, grounded, Marked, Ordering, IsOrder}
use Rattle.graphs.proofs.Search.{row_is, reaches_further, ordering_step, is_order}

or_true : (a b : Bool) → (a || b) ≡ true → (a ≡ true) ⊎ (b ≡ true)
or_true true b h = inl refl
or_true false b h = inr h

or_last : (a b : Bool) → b ≡ true → (a || b) ≡ true
or_last true b h = refl
or_last false b h = h

or_first : (a b : Bool) → a ≡ true → (a || b) ≡ true
or_first true b h = refl
or_first false b h = absurd cc

-- different rules, each of which reaches a
record Trail (g : Graph) (a : ℕ) (ns : List ℕ) : Type 0 where
  distinct : IsDistinct eqb (a ∷ ns)
  below : (q : ℕ) → list_any (eqb q) (a ∷ ns) ≡ true → q < length g
  reach : (q : ℕ) → list_any (eqb q) ns ≡ true → Reaches g q a

unequal : (g : Graph) (q b : ℕ) (e : Bool) → eqb b q ≡ e → ((a : ℕ) → Reaches g a a → ⊥) → Reaches g q b → e ≡ false
unequal g q b true is free r = absurd (free b (subst (λ x. Reaches g x b) (sym (eqb-true b q is)) r))
unequal g q b false is free r = refl

apart : (g : Graph) (xs : List ℕ) (b : ℕ) → ((a : ℕ) → Reaches g a a → ⊥) → ((q : ℕ) → list_any (eqb q) xs ≡ true → Reaches g q b) → AllByRecursion (λ y. eqb b y ≡ false) xs
apart g [] b free all = tt
apart g (x ∷ xs) b free all = (unequal g x b (eqb b x) refl free (all x (or_first (eqb x x) (list_any (eqb x) xs) (eq-eqb x x refl))), apart g xs b free (λ q h. all q (or_last (eqb q x) (list_any (eqb q) xs) h)))

trail_reach : (g : Graph) (a b : ℕ) (ns : List ℕ) → Trail g a ns → Edge g a b → (q : ℕ) → list_any (eqb q) (a ∷ ns) ≡ true → Reaches g q b
trail_reach g a b ns t e q h = elim (or_true (eqb q a) (list_any (eqb q) ns) h) [
  | inl is ↦ subst (λ x. Reaches g x b) (sym (eqb-true q a is)) (at_once e)
  | inr more ↦ reaches_further g q a b (t.reach q more) e
]

trail_step : (g : Graph) (a b : ℕ) (ns : List ℕ) → InRange g → ((c : ℕ) → Reaches g c c → ⊥) → Trail g a ns → Edge g a b → Trail g b (a ∷ ns)
unfolding IsDistinct
trail_step g a b ns range free t e = record {
  distinct = (apart g (a ∷ ns) b free (trail_reach g a b ns t e), t.distinct);
  below = λ q h. elim (or_true (eqb q b) (list_any (eqb q) (a ∷ ns)) h) [
    | inl is ↦ subst (λ x. x < length g) (sym (eqb-true q b is)) (range.below a b e)
    | inr more ↦ t.below q more
  ];
  reach = trail_reach g a b ns t e;
}

-- by how many rules more a trail may have
grounds : (n : ℕ) (g : Graph) (a : ℕ) (ns : List ℕ) → InRange g → ((c : ℕ) → Reaches g c c → ⊥) → Trail g a ns → length g ≤ length ns + n → Grounded g a
grounds zero g a ns range free t far = let low = length-le_from_distinct_below (a ∷ ns) (length g) t.distinct t.below in absurd (omega (arith, low))
grounds (suc n) g a ns range free t far = grounded (λ b e. grounds n g b (a ∷ ns) range free (trail_step g a b ns range free t e) (omega arith))

first_trail : (g : Graph) (a : ℕ) → a < length g → Trail g a []
unfolding IsDistinct
first_trail g a low = record {
  distinct = (tt, tt);
  below = λ q h. elim (or_true (eqb q a) false h) [ inl is ↦ subst (λ x. x < length g) (sym (eqb-true q a is)) low | inr wrong ↦ absurd cc ];
  reach = λ q h. absurd cc;
}

all_grounded : (g : Graph) (a : ℕ) → InRange g → ((c : ℕ) → Reaches g c c → ⊥) → a < length g → Grounded g a
all_grounded g a range free low = grounds (length g) g a [] range free (first_trail g a low) (omega arith)

-- an order with more behind it
grown : (g : Graph) (order more : List ℕ) (marks : List Bool) → Ordering g order marks (length order) → Ordering g (order ++ more) marks (length order)
grown g order more marks o = record {
  long = o.long;
  grounded = o.grounded;
  before = λ a m. let r = o.before a m in (r.0, r.1, get_or_append_left order more 0 r.0 r.1 ∙ r.2);
  behind = λ p b less e. let r = o.behind p b less (subst (λ x. Edge g x b) (get_or_append_left order more 0 p less) e) in let h = r.1 in (r.0, r.1, get_or_append_left order more 0 r.0 (omega (arith, h)) ∙ r.2);
}

length_push : (xs : List ℕ) (x : ℕ) → length (xs ++ x ∷ []) ≡ length xs + 1
length_push [] x = refl
length_push (y ∷ xs) x = let h = length_push xs x in omega (arith, h)

ordering_push : (g : Graph) (order : List ℕ) (marks : List Bool) (a : ℕ) (d names : List ℕ) → Ordering g order marks (length order) → a < length g → names ≡ get_or g a d → ((b : ℕ) → Among names b → Marked marks b) → Ordering g (order ++ a ∷ []) (set marks a true) (length (order ++ a ∷ []))
ordering_push g order marks a d names o low is all =
    let at : get_or (order ++ a ∷ []) (length order) 0 ≡ a = get_or_push order a 0 (length order) refl in
    let long = length_push order a in
    let step = ordering_step g (order ++ a ∷ []) marks (length order) d names (grown g order (a ∷ []) marks o) (omega (arith, long)) (rw at low) (rw at is) all in
    subst (λ n. Ordering g (order ++ a ∷ []) (set marks a true) n) (sym long) (subst (λ x. Ordering g (order ++ a ∷ []) (set marks x true) (length order + 1)) at step)

-- what is known of a pass that has seen the rules in front of i
pub record Passing (g : Graph) (old order : List ℕ) (marks : List Bool) (i : ℕ) : Type 0 where
  pub ordering : Ordering g order marks (length order)
  pub longer : length old ≤ length order
  pub stuck : length order ≡ length old → (k : ℕ) → k < i → ((b : ℕ) → Edge g k b → Marked marks b) → Marked marks k

pub passing_new : (g : Graph) (old order : List ℕ) (marks : List Bool) (i : ℕ) (d names : List ℕ) → Passing g old order marks i → i < length g → names ≡ get_or g i d → ((b : ℕ) → Among names b → Marked marks b) → Passing g old (order ++ i ∷ []) (set marks i true) (i + 1)
passing_new g old order marks i d names p low is all =
    let long = length_push order i in
    let longer = p.longer in
    record {
      ordering = ordering_push g order marks i d names p.ordering low is all;
      longer = omega (arith, long, longer);
      stuck = λ same k less named. absurd (omega (arith, long, longer, same));
    }

pub passing_old : (g : Graph) (old order : List ℕ) (marks : List Bool) (i : ℕ) (d names : List ℕ) → Passing g old order marks i → i < length g → names ≡ get_or g i d → (((b : ℕ) → Among names b → Marked marks b) → Marked marks i) → Passing g old order marks (i + 1)
passing_old g old order marks i d names p low is one = record {
  ordering = p.ordering;
  longer = p.longer;
  stuck = λ same k less named. elim (cases_lt k i) [
    | inl under ↦ p.stuck same k under named
    | inr more ↦ (let e : k ≡ i = omega arith in rw e (one (λ b h. named b (rw e (subst (λ xs. Among xs b) (is ∙ row_is g i d low) h)))))
  ];
}

-- nothing more is placed only where all is
all_placed : (g : Graph) (marks : List Bool) → InRange g → ((k : ℕ) → k < length g → ((b : ℕ) → Edge g k b → Marked marks b) → Marked marks k) → (a : ℕ) → Grounded g a → a < length g → Marked marks a
all_placed g marks range stuck a (grounded f) low = stuck a low (λ b e. all_placed g marks range stuck b (f b e) (range.below a b e))

pub settled_order : (g : Graph) (order : List ℕ) (marks : List Bool) → InRange g → ((c : ℕ) → Reaches g c c → ⊥) → Ordering g order marks (length order) → ((k : ℕ) → k < length g → ((b : ℕ) → Edge g k b → Marked marks b) → Marked marks k) → IsOrder g order
settled_order g order marks range free o stuck =
    let l = o.long in
    is_order g order marks (length order) o (omega arith) (omega arith) (λ a less. all_placed g marks range stuck a (all_grounded g a range free (omega (arith, l, less))) (omega (arith, l, less)))
