-- No two events that meet clash exactly where none is met twice on a path.
use Rattle.std.proofs.Common.{ℕ, zero, suc, ◌≤◌, List, [], ◌∷◌, ◌++◌, ◌≡◌, ◌⊎◌, inl, inr, refl, sym, ◌∙◌, subst, arith, Bool, true, false, Some, None, Option}
use Rattle.std.specs.Prelude.{◌&&◌, ◌==◌, not, nat_le, if◌then◌else◌, unsigned_abs}
use Rattle.std.proofs.lemmas.Bool.{eqb-true, eq-eqb, leb-true, le-leb}
use Rattle.nml_tree.specs.Legal.{Event, WritesCell, WritesTrn, Puts, Halts, Reads, clash, is_constant}
use Rattle.nml_tree.specs.Value.{View, value}
use Rattle.attr_eval.specs.Lawful.{Shape, Nothing, Once, Then, Either, events, apart, all_apart, is_lawful}
use Rattle.attr_legal.specs.Key.{key_of, meets, is_at}
use Rattle.attr_legal.specs.Tally.{tally, hits, excess, checks}
use Rattle.attr_legal.specs.declared.key.Key.{Key}
use Rattle.attr_legal.specs.declared.key.Key.TheVariants as key

-- truth
pub left : (a b : Bool) → (a && b) ≡ true → a ≡ true
left true b h = refl
left false b h = absurd cc

pub right : (a b : Bool) → (a && b) ≡ true → b ≡ true
right true b h = h
right false b h = absurd cc

not_true : (b : Bool) → not b ≡ true → b ≡ false
not_true true h = absurd cc
not_true false h = refl

pub same_truth : (a b : Bool) → (a ≡ true → b ≡ true) → (b ≡ true → a ≡ true) → a ≡ b
same_truth true b f g = sym (f refl)
same_truth false true f g = g refl
same_truth false false f g = refl

pub both_true : (a b : Bool) → a ≡ true → b ≡ true → (a && b) ≡ true
both_true a b h k = rw (h, k) refl

refuted : (b : Bool) → (b ≡ true → ⊥) → b ≡ false
refuted true h = absurd (h refl)
refuted false h = refl

none_or_some : (n : ℕ) → (n ≡ 0) ⊎ (1 ≤ n)
none_or_some zero = inl refl
none_or_some (suc n) = inr (omega arith)

-- members
abbrev pub In : List Event → Event → Type 0
In [] e = ⊥
In (x ∷ xs) e = (x ≡ e) ⊎ In xs e

in_left : (xs ys : List Event) (e : Event) → In xs e → In (xs ++ ys) e
in_left [] ys e h = absurd h
in_left (x ∷ xs) ys e (inl h) = inl h
in_left (x ∷ xs) ys e (inr h) = inr (in_left xs ys e h)

in_right : (xs ys : List Event) (e : Event) → In ys e → In (xs ++ ys) e
in_right [] ys e h = h
in_right (x ∷ xs) ys e h = inr (in_right xs ys e h)

in_either : (xs ys : List Event) (e : Event) → In (xs ++ ys) e → In xs e ⊎ In ys e
in_either [] ys e h = inr h
in_either (x ∷ xs) ys e (inl h) = inl (inl h)
in_either (x ∷ xs) ys e (inr h) = elim (in_either xs ys e h) [ inl a ↦ inl (inr a) | inr b ↦ inr b ]

-- what counts is among the events, and counts
pub found : (w : Event → ℕ) (s : Shape) → 1 ≤ tally w s → (e : Event) × In (events s) e × (1 ≤ w e)
found w Nothing h = absurd (omega (arith, h))
found w (Once e) h = (e, inl refl, h)
found w (Then a b) h =
    elim (none_or_some (tally w a)) [
      | inl none ↦ (let r = found w b (omega (arith, h, none)) in (r.0, in_right (events a) (events b) r.0 r.1, r.2))
      | inr some ↦ (let r = found w a some in (r.0, in_left (events a) (events b) r.0 r.1, r.2))
    ]
found w (Either a b) h =
    elim (none_or_some (tally w a)) [
      | inl none ↦ (let r = found w b (omega (arith, h, none)) in (r.0, in_right (events a) (events b) r.0 r.1, r.2))
      | inr some ↦ (let r = found w a some in (r.0, in_left (events a) (events b) r.0 r.1, r.2))
    ]

pub counted : (w : Event → ℕ) (s : Shape) (e : Event) → In (events s) e → 1 ≤ w e → 1 ≤ tally w s
counted w Nothing e k h = absurd k
counted w (Once x) e (inl k) h = subst (λ y. 1 ≤ w y) (sym k) h
counted w (Once x) e (inr k) h = absurd k
counted w (Then a b) e k h =
    elim (in_either (events a) (events b) e k) [
      | inl m ↦ (let r = counted w a e m h in omega (arith, r))
      | inr m ↦ (let r = counted w b e m h in omega (arith, r))
    ]
counted w (Either a b) e k h =
    elim (in_either (events a) (events b) e k) [
      | inl m ↦ (let r = counted w a e m h in omega (arith, r))
      | inr m ↦ (let r = counted w b e m h in omega (arith, r))
    ]

-- two is all
pub low : (w : Event → ℕ) (s : Shape) → ((e : Event) → w e ≤ 2) → tally w s ≤ 2
low w Nothing h = omega arith
low w (Once e) h = h e
low w (Then a b) h = omega arith
low w (Either a b) h = omega (arith, low w a h, low w b h)

hit_one : (b : Bool) → (if b then 1 else 0) ≤ 1
hit_one true = omega arith
hit_one false = omega arith

hit_true : (b : Bool) → 1 ≤ (if b then 1 else 0) → b ≡ true
hit_true true h = refl
hit_true false h = absurd (omega (arith, h))

true_hit : (b : Bool) → b ≡ true → 1 ≤ (if b then 1 else 0)
true_hit true h = omega arith
true_hit false h = absurd cc

-- keys
at_self : (k : Option ℕ) → is_at k k ≡ true
at_self None = refl
at_self (Some n) = eq-eqb n n refl

meets_self : (k : Key) → meets k k ≡ true
meets_self (key.Cell n k) = both_true (n == n) (is_at k k) (eq-eqb n n refl) (at_self k)
meets_self (key.Trn n) = eq-eqb n n refl
meets_self key.Put = refl
meets_self key.Halt = refl
meets_self key.Read = refl

-- two that a third meets clash
not_apart : (b c : Bool) (x y : ℕ) (k : Option ℕ) → is_at k (if b then Some x else None) ≡ true → is_at k (if c then Some y else None) ≡ true → not (b && c && not (x == y)) ≡ true
not_apart false c x y k h m = refl
not_apart true false x y k h m = refl
not_apart true true x y None h m = let e = eqb-true x 0 h in let f = eqb-true y 0 m in rw (eq-eqb x y (e ∙ sym f)) refl
not_apart true true x y (Some n) h m = let e = eqb-true n x h in let f = eqb-true n y m in rw (eq-eqb x y (sym e ∙ f)) refl

same_number : (n m k : ℕ) → (k == n) ≡ true → (k == m) ≡ true → (n == m) ≡ true
same_number n m k h q = let e = eqb-true k n h in let f = eqb-true k m q in eq-eqb n m (sym e ∙ f)

pub meet_clash : (v : View) (k : Key) (e f : Event) → meets k (key_of v e) ≡ true → meets k (key_of v f) ≡ true → clash v e f ≡ true
meet_clash v (key.Cell p k) (WritesCell n i) (WritesCell m j) h q =
    both_true (n == m) _ (same_number n m p (left (p == n) _ h) (left (p == m) _ q))
    (not_apart (is_constant i) (is_constant j) (unsigned_abs (value v i)) (unsigned_abs (value v j)) k (right (p == n) _ h) (right (p == m) _ q))
meet_clash v (key.Trn k) (WritesTrn n) (WritesTrn m) h q = same_number n m k h q
meet_clash v key.Put Puts Puts h q = refl
meet_clash v key.Halt Halts Halts h q = refl
meet_clash v key.Read Reads Reads h q = refl
meet_clash v (key.Cell p k) (WritesCell n i) (WritesTrn m) h q = absurd cc
meet_clash v (key.Cell p k) (WritesCell n i) Puts h q = absurd cc
meet_clash v (key.Cell p k) (WritesCell n i) Halts h q = absurd cc
meet_clash v (key.Cell p k) (WritesCell n i) Reads h q = absurd cc
meet_clash v (key.Cell p k) (WritesTrn n) f h q = absurd cc
meet_clash v (key.Cell p k) Puts f h q = absurd cc
meet_clash v (key.Cell p k) Halts f h q = absurd cc
meet_clash v (key.Cell p k) Reads f h q = absurd cc
meet_clash v (key.Trn k) (WritesCell n i) f h q = absurd cc
meet_clash v (key.Trn k) (WritesTrn n) (WritesCell m j) h q = absurd cc
meet_clash v (key.Trn k) (WritesTrn n) Puts h q = absurd cc
meet_clash v (key.Trn k) (WritesTrn n) Halts h q = absurd cc
meet_clash v (key.Trn k) (WritesTrn n) Reads h q = absurd cc
meet_clash v (key.Trn k) Puts f h q = absurd cc
meet_clash v (key.Trn k) Halts f h q = absurd cc
meet_clash v (key.Trn k) Reads f h q = absurd cc
meet_clash v key.Put (WritesCell n i) f h q = absurd cc
meet_clash v key.Put (WritesTrn n) f h q = absurd cc
meet_clash v key.Put Puts (WritesCell m j) h q = absurd cc
meet_clash v key.Put Puts (WritesTrn m) h q = absurd cc
meet_clash v key.Put Puts Halts h q = absurd cc
meet_clash v key.Put Puts Reads h q = absurd cc
meet_clash v key.Put Halts f h q = absurd cc
meet_clash v key.Put Reads f h q = absurd cc
meet_clash v key.Halt (WritesCell n i) f h q = absurd cc
meet_clash v key.Halt (WritesTrn n) f h q = absurd cc
meet_clash v key.Halt Puts f h q = absurd cc
meet_clash v key.Halt Halts (WritesCell m j) h q = absurd cc
meet_clash v key.Halt Halts (WritesTrn m) h q = absurd cc
meet_clash v key.Halt Halts Puts h q = absurd cc
meet_clash v key.Halt Halts Reads h q = absurd cc
meet_clash v key.Halt Reads f h q = absurd cc
meet_clash v key.Read (WritesCell n i) f h q = absurd cc
meet_clash v key.Read (WritesTrn n) f h q = absurd cc
meet_clash v key.Read Puts f h q = absurd cc
meet_clash v key.Read Halts f h q = absurd cc
meet_clash v key.Read Reads (WritesCell m j) h q = absurd cc
meet_clash v key.Read Reads (WritesTrn m) h q = absurd cc
meet_clash v key.Read Reads Puts h q = absurd cc
meet_clash v key.Read Reads Halts h q = absurd cc

-- of two that clash the one meets the other
one_at : (b c : Bool) (x y : ℕ) → not (b && c && not (x == y)) ≡ true → (is_at (if b then Some x else None) (if c then Some y else None) ≡ true) ⊎ (is_at (if c then Some y else None) (if b then Some x else None) ≡ true)
one_at b false x y h = inl refl
one_at false true x y h = inr refl
one_at true true x y h = inl (double (x == y) h)
  where
    double : (b : Bool) → not (not b) ≡ true → b ≡ true
    double true h = refl
    double false h = absurd cc

turned : (n m : ℕ) → (n == m) ≡ true → (m == n) ≡ true
turned n m h = eq-eqb m n (sym (eqb-true n m h))

pub clash_meets : (v : View) (e f : Event) → clash v e f ≡ true → (meets (key_of v e) (key_of v f) ≡ true) ⊎ (meets (key_of v f) (key_of v e) ≡ true)
clash_meets v (WritesCell n i) (WritesCell m j) h =
    elim (one_at (is_constant i) (is_constant j) (unsigned_abs (value v i)) (unsigned_abs (value v j)) (right (n == m) _ h)) [
      | inl k ↦ inl (both_true (n == m) _ (left (n == m) _ h) k)
      | inr k ↦ inr (both_true (m == n) _ (turned n m (left (n == m) _ h)) k)
    ]
clash_meets v (WritesTrn n) (WritesTrn m) h = inl h
clash_meets v Puts Puts h = inl refl
clash_meets v Halts Halts h = inl refl
clash_meets v Reads Reads h = inl refl
clash_meets v (WritesCell n i) (WritesTrn m) h = absurd cc
clash_meets v (WritesCell n i) Puts h = absurd cc
clash_meets v (WritesCell n i) Halts h = absurd cc
clash_meets v (WritesCell n i) Reads h = absurd cc
clash_meets v (WritesTrn n) (WritesCell m j) h = absurd cc
clash_meets v (WritesTrn n) Puts h = absurd cc
clash_meets v (WritesTrn n) Halts h = absurd cc
clash_meets v (WritesTrn n) Reads h = absurd cc
clash_meets v Puts (WritesCell m j) h = absurd cc
clash_meets v Puts (WritesTrn m) h = absurd cc
clash_meets v Puts Halts h = absurd cc
clash_meets v Puts Reads h = absurd cc
clash_meets v Halts (WritesCell m j) h = absurd cc
clash_meets v Halts (WritesTrn m) h = absurd cc
clash_meets v Halts Puts h = absurd cc
clash_meets v Halts Reads h = absurd cc
clash_meets v Reads (WritesCell m j) h = absurd cc
clash_meets v Reads (WritesTrn m) h = absurd cc
clash_meets v Reads Puts h = absurd cc
clash_meets v Reads Halts h = absurd cc

module _ (v : View) where
  each_apart : (e : Event) (ys : List Event) → ((y : Event) → In ys y → clash v e y ≡ false) → apart v e ys ≡ true
  each_apart e [] h = refl
  each_apart e (z ∷ ys) h = rw (h z (inl refl)) (each_apart e ys (λ y k. h y (inr k)))

  each_all : (xs ys : List Event) → ((x y : Event) → In xs x → In ys y → clash v x y ≡ false) → all_apart v xs ys ≡ true
  each_all [] ys h = refl
  each_all (z ∷ xs) ys h = rw (each_apart z ys (λ y m. h z y (inl refl) m)) (each_all xs ys (λ x y k m. h x y (inr k) m))

  apart_each : (e : Event) (ys : List Event) → apart v e ys ≡ true → (y : Event) → In ys y → clash v e y ≡ false
  apart_each e [] h y k = absurd k
  apart_each e (z ∷ ys) h y (inl k) = subst (λ x. clash v e x ≡ false) k (not_true (clash v e z) (left (not (clash v e z)) (apart v e ys) h))
  apart_each e (z ∷ ys) h y (inr k) = apart_each e ys (right (not (clash v e z)) (apart v e ys) h) y k

  all_each : (xs ys : List Event) → all_apart v xs ys ≡ true → (x y : Event) → In xs x → In ys y → clash v x y ≡ false
  all_each [] ys h x y k m = absurd k
  all_each (z ∷ xs) ys h x y (inl k) m = subst (λ w. clash v w y ≡ false) k (apart_each z ys (left (apart v z ys) (all_apart v xs ys) h) y m)
  all_each (z ∷ xs) ys h x y (inr k) m = all_each xs ys (right (apart v z ys) (all_apart v xs ys) h) x y k m

  -- where none clash, each is met at most once
  lawful_low : (k : Key) (s : Shape) → is_lawful v s ≡ true → tally (hits v k) s ≤ 1
  lawful_low k Nothing h = omega arith
  lawful_low k (Once e) h = hit_one (meets k (key_of v e))
  lawful_low k (Then a b) h =
      let x = lawful_low k a (left _ _ (left _ (is_lawful v b) h)) in
      let y = lawful_low k b (right _ (is_lawful v b) h) in
      elim (none_or_some (tally (hits v k) a)) [
        | inl none ↦ omega (arith, none, y)
        | inr some ↦ elim (none_or_some (tally (hits v k) b)) [
          | inl none ↦ omega (arith, none, x)
          | inr also ↦ (let e = found (hits v k) a some in let f = found (hits v k) b also in
              let n = all_each (events a) (events b) (right (is_lawful v a) _ (left _ (is_lawful v b) h)) e.0 f.0 e.1 f.1 in
              let c = meet_clash v k e.0 f.0 (hit_true _ e.2) (hit_true _ f.2) in absurd cc)
        ]
      ]
  lawful_low k (Either a b) h =
      let x = lawful_low k a (left (is_lawful v a) (is_lawful v b) h) in
      let y = lawful_low k b (right (is_lawful v a) (is_lawful v b) h) in
      omega (arith, x, y)

  -- and the other way round
  low_lawful : (s : Shape) → ((e : Event) → In (events s) e → tally (hits v (key_of v e)) s ≤ 1) → is_lawful v s ≡ true
  low_lawful Nothing h = refl
  low_lawful (Once e) h = refl
  low_lawful (Then a b) h =
      both_true (is_lawful v a && all_apart v (events a) (events b)) (is_lawful v b)
      (both_true (is_lawful v a) _
      (low_lawful a (λ e k. let t = h e (in_left (events a) (events b) e k) in omega (arith, t)))
      (each_all (events a) (events b) (λ e f k m. refuted (clash v e f) (λ c. elim (clash_meets v e f c) [
        | inl q ↦ (let t = h e (in_left (events a) (events b) e k) in
            let x = counted (hits v (key_of v e)) a e k (true_hit _ (meets_self (key_of v e))) in
            let y = counted (hits v (key_of v e)) b f m (true_hit _ q) in omega (arith, t, x, y))
        | inr q ↦ (let t = h f (in_right (events a) (events b) f m) in
            let x = counted (hits v (key_of v f)) a e k (true_hit _ q) in
            let y = counted (hits v (key_of v f)) b f m (true_hit _ (meets_self (key_of v f))) in omega (arith, t, x, y))
      ]))))
      (low_lawful b (λ e k. let t = h e (in_right (events a) (events b) e k) in omega (arith, t)))
  low_lawful (Either a b) h =
      both_true (is_lawful v a) (is_lawful v b)
      (low_lawful a (λ e k. let t = h e (in_left (events a) (events b) e k) in omega (arith, t)))
      (low_lawful b (λ e k. let t = h e (in_right (events a) (events b) e k) in omega (arith, t)))

  no_excess : (n : ℕ) → (1 ≤ excess n → ⊥) → n ≤ 1
  no_excess n h = case (nat_le n 1) refl
    where
      case : (b : Bool) → nat_le n 1 ≡ b → n ≤ 1
      case true e = leb-true n 1 e
      case false e = absurd (h (subst (λ b. 1 ≤ (if b then 0 else 1)) (sym e) (omega arith)))

  excess_none : (n : ℕ) → n ≤ 1 → 1 ≤ excess n → ⊥
  excess_none n h = subst (λ b. 1 ≤ (if b then 0 else 1) → ⊥) (sym (le-leb n 1 h)) (λ k. omega (arith, k))

  pub by_tallies : (s : Shape) → (tally (checks v s) s == 0) ≡ is_lawful v s
  by_tallies s =
      same_truth (tally (checks v s) s == 0) (is_lawful v s)
      (λ h. low_lawful s (λ e k. no_excess (tally (hits v (key_of v e)) s) (λ m. let z = eqb-true (tally (checks v s) s) 0 h in let o = counted (checks v s) s e k m in omega (arith, z, o))))
      (λ h. elim (none_or_some (tally (checks v s) s)) [
        | inl none ↦ eq-eqb (tally (checks v s) s) 0 none
        | inr some ↦ (let e = found (checks v s) s some in absurd (excess_none _ (lawful_low (key_of v e.0) s h) e.2))
      ])
