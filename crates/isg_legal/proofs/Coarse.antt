-- What can't clash by the written numbers alone doesn't clash; and the counts answer the question.
use Rattle.std.proofs.Common.{ℕ, List, [], ◌∷◌, ◌++◌, ◌≡◌, ◌⊎◌, inl, inr, ℤ, None, Bool, true, false, refl, sym, ◌∙◌, ap, subst}
use Rattle.std.specs.Prelude.{◌&&◌, ◌==◌, not, map, unsigned_abs}
use Rattle.attr_eval.specs.Alone.{alone}
use Rattle.attr_eval.specs.Lawful.{Shape, Nothing, Once, Then, Either, events, apart, all_apart, act_shape, is_lawful}
use Rattle.attr_legal.proofs.Tallies.{left, right, both_true, by_tallies}
use Rattle.attr_legal.specs.Key.{cell_at, key_of}
use Rattle.attr_legal.specs.Tally.{checks, excess, hit, hits, tally}
use Rattle.attr_legal.specs.declared.key.Key.TheVariants as key
use Rattle.isg_legal.specs.Coarse.{coarse_index, coarse_event, coarse}
use Rattle.isg_legal.specs.Counts.{counts}
use Rattle.isg_legal.specs.Known.{number_of, key_in}
use Rattle.nml_tree.specs.Act.{Term, Act, Number, Field, Cell, Trn, Inp, Out, Unary, Binary, Choose}
use Rattle.nml_tree.specs.Legal.{Event, WritesCell, WritesTrn, Puts, Halts, Reads, clash, differ, is_constant}
use Rattle.nml_tree.specs.Value.{View, value}

-- an index is a written number, or is no constant any more
index_kinds : (i : Term) → (coarse_index i ≡ i) ⊎ (coarse_index i ≡ Inp)
index_kinds (Number z) = inl refl
index_kinds (Field n) = inr refl
index_kinds (Cell n i) = inr refl
index_kinds (Trn n) = inr refl
index_kinds Inp = inr refl
index_kinds Out = inr refl
index_kinds (Unary op x) = inr refl
index_kinds (Binary op x y) = inr refl
index_kinds (Choose c x y) = inr refl

none_right : (a b : Bool) → (a && false && b) ≡ false
none_right true b = refl
none_right false b = refl

module _ (v : View) where
  differ_right : (i : Term) → differ v i Inp ≡ false
  differ_right i = none_right (is_constant i) (not (unsigned_abs (value v i) == unsigned_abs (value v Inp)))

  differ_more : (i j : Term) → differ v (coarse_index i) (coarse_index j) ≡ true → differ v i j ≡ true
  differ_more i j h =
      elim (index_kinds i) [
        | inl e ↦ elim (index_kinds j) [
          | inl f ↦ subst (λ x. differ v x j ≡ true) e (subst (λ y. differ v (coarse_index i) y ≡ true) f h)
          | inr f ↦ (let n = differ_right (coarse_index i) in let k = subst (λ y. differ v (coarse_index i) y ≡ true) f h in absurd cc)
        ]
        | inr e ↦ (let k : false ≡ true = subst (λ x. differ v x (coarse_index j) ≡ true) e h in absurd cc)
      ]

  cells_apart : (a b c : Bool) → (b ≡ true → c ≡ true) → not (a && not b) ≡ true → not (a && not c) ≡ true
  cells_apart false b c f h = refl
  cells_apart true true c f h = rw (f refl) refl
  cells_apart true false c f h = absurd cc

  clash_less : (e f : Event) → not (clash v (coarse_event e) (coarse_event f)) ≡ true → not (clash v e f) ≡ true
  clash_less (WritesCell n i) (WritesCell m j) h = cells_apart (n == m) (differ v (coarse_index i) (coarse_index j)) (differ v i j) (differ_more i j) h
  clash_less (WritesCell n i) (WritesTrn m) h = h
  clash_less (WritesCell n i) Puts h = h
  clash_less (WritesCell n i) Halts h = h
  clash_less (WritesCell n i) Reads h = h
  clash_less (WritesTrn n) (WritesCell m j) h = h
  clash_less (WritesTrn n) (WritesTrn m) h = h
  clash_less (WritesTrn n) Puts h = h
  clash_less (WritesTrn n) Halts h = h
  clash_less (WritesTrn n) Reads h = h
  clash_less Puts (WritesCell m j) h = h
  clash_less Puts (WritesTrn m) h = h
  clash_less Puts Puts h = h
  clash_less Puts Halts h = h
  clash_less Puts Reads h = h
  clash_less Halts (WritesCell m j) h = h
  clash_less Halts (WritesTrn m) h = h
  clash_less Halts Puts h = h
  clash_less Halts Halts h = h
  clash_less Halts Reads h = h
  clash_less Reads (WritesCell m j) h = h
  clash_less Reads (WritesTrn m) h = h
  clash_less Reads Puts h = h
  clash_less Reads Halts h = h
  clash_less Reads Reads h = h

  apart_less : (e : Event) (ys : List Event) → apart v (coarse_event e) (map coarse_event ys) ≡ true → apart v e ys ≡ true
  apart_less e [] h = refl
  apart_less e (y ∷ ys) h =
      both_true (not (clash v e y)) (apart v e ys)
      (clash_less e y (left (not (clash v (coarse_event e) (coarse_event y))) (apart v (coarse_event e) (map coarse_event ys)) h))
      (apart_less e ys (right (not (clash v (coarse_event e) (coarse_event y))) (apart v (coarse_event e) (map coarse_event ys)) h))

  all_less : (xs ys : List Event) → all_apart v (map coarse_event xs) (map coarse_event ys) ≡ true → all_apart v xs ys ≡ true
  all_less [] ys h = refl
  all_less (x ∷ xs) ys h =
      both_true (apart v x ys) (all_apart v xs ys)
      (apart_less x ys (left (apart v (coarse_event x) (map coarse_event ys)) (all_apart v (map coarse_event xs) (map coarse_event ys)) h))
      (all_less xs ys (right (apart v (coarse_event x) (map coarse_event ys)) (all_apart v (map coarse_event xs) (map coarse_event ys)) h))

  map_behind : (xs ys : List Event) → map coarse_event (xs ++ ys) ≡ map coarse_event xs ++ map coarse_event ys
  map_behind [] ys = refl
  map_behind (x ∷ xs) ys = ap (λ zs. coarse_event x ∷ zs) (map_behind xs ys)

  events_coarse : (s : Shape) → events (coarse s) ≡ map coarse_event (events s)
  events_coarse Nothing = refl
  events_coarse (Once e) = refl
  events_coarse (Then a b) = ap (λ xs. xs ++ events (coarse b)) (events_coarse a) ∙ ap (λ ys. map coarse_event (events a) ++ ys) (events_coarse b) ∙ sym (map_behind (events a) (events b))
  events_coarse (Either a b) = ap (λ xs. xs ++ events (coarse b)) (events_coarse a) ∙ ap (λ ys. map coarse_event (events a) ++ ys) (events_coarse b) ∙ sym (map_behind (events a) (events b))

  -- what is lawful by the written numbers alone is lawful
  pub lawful_coarse : (s : Shape) → is_lawful v (coarse s) ≡ true → is_lawful v s ≡ true
  lawful_coarse Nothing h = refl
  lawful_coarse (Once e) h = refl
  lawful_coarse (Then a b) h =
      let f = left (is_lawful v (coarse a) && all_apart v (events (coarse a)) (events (coarse b))) (is_lawful v (coarse b)) h in
      let m = right (is_lawful v (coarse a)) (all_apart v (events (coarse a)) (events (coarse b))) f in
      let k = subst (λ ys. all_apart v (map coarse_event (events a)) ys ≡ true) (events_coarse b) (subst (λ xs. all_apart v xs (events (coarse b)) ≡ true) (events_coarse a) m) in
      both_true (is_lawful v a && all_apart v (events a) (events b)) (is_lawful v b)
      (both_true (is_lawful v a) (all_apart v (events a) (events b)) (lawful_coarse a (left (is_lawful v (coarse a)) (all_apart v (events (coarse a)) (events (coarse b))) f)) (all_less (events a) (events b) k))
      (lawful_coarse b (right (is_lawful v (coarse a) && all_apart v (events (coarse a)) (events (coarse b))) (is_lawful v (coarse b)) h))
  lawful_coarse (Either a b) h =
      both_true (is_lawful v a) (is_lawful v b) (lawful_coarse a (left (is_lawful v (coarse a)) (is_lawful v (coarse b)) h)) (lawful_coarse b (right (is_lawful v (coarse a)) (is_lawful v (coarse b)) h))

-- tallies
tally_ext : (w u : Event → ℕ) → ((e : Event) → w e ≡ u e) → (s : Shape) → tally w s ≡ tally u s
tally_ext w u same Nothing = refl
tally_ext w u same (Once e) = same e
tally_ext w u same (Then a b) = rw (tally_ext w u same a, tally_ext w u same b) refl
tally_ext w u same (Either a b) = rw (tally_ext w u same a, tally_ext w u same b) refl

tally_coarse : (w : Event → ℕ) (s : Shape) → tally w (coarse s) ≡ tally (λ e. w (coarse_event e)) s
tally_coarse w Nothing = refl
tally_coarse w (Once e) = refl
tally_coarse w (Then a b) = rw (tally_coarse w a, tally_coarse w b) refl
tally_coarse w (Either a b) = rw (tally_coarse w a, tally_coarse w b) refl

-- keys
key_put_in : (zs : List ℤ) (e : Event) → key_in true zs e ≡ key_of (alone zs) e
key_put_in zs (WritesCell n i) = refl
key_put_in zs (WritesTrn n) = refl
key_put_in zs Puts = refl
key_put_in zs Halts = refl
key_put_in zs Reads = refl

cell_coarse : (v : View) (i : Term) → number_of i ≡ cell_at v (coarse_index i)
cell_coarse v (Number z) = refl
cell_coarse v (Field n) = refl
cell_coarse v (Cell n i) = refl
cell_coarse v (Trn n) = refl
cell_coarse v Inp = refl
cell_coarse v Out = refl
cell_coarse v (Unary op x) = refl
cell_coarse v (Binary op x y) = refl
cell_coarse v (Choose c x y) = refl

key_coarse : (v : View) (zs : List ℤ) (e : Event) → key_in false zs e ≡ key_of v (coarse_event e)
key_coarse v zs (WritesCell n i) = ap (key.Cell n) (cell_coarse v i)
key_coarse v zs (WritesTrn n) = refl
key_coarse v zs Puts = refl
key_coarse v zs Halts = refl
key_coarse v zs Reads = refl

-- where the fields are put in, the counts are the checks of the reference
pub checks_put_in : (zs : List ℤ) (a : Act) → tally (counts true zs a None) (act_shape a) ≡ tally (checks (alone zs) (act_shape a)) (act_shape a)
checks_put_in zs a =
    tally_ext (counts true zs a None) (checks (alone zs) (act_shape a))
    (λ e. ap excess (tally_ext (λ f. hit (key_in true zs e) (key_in true zs f)) (hits (alone zs) (key_of (alone zs) e))
    (λ f. ap (λ k. hit k (key_in true zs f)) (key_put_in zs e) ∙ ap (hit (key_of (alone zs) e)) (key_put_in zs f)) (act_shape a)))
    (act_shape a)

-- and else those of the written numbers
pub checks_coarse : (v : View) (zs : List ℤ) (a : Act) → tally (counts false zs a None) (act_shape a) ≡ tally (checks v (coarse (act_shape a))) (coarse (act_shape a))
checks_coarse v zs a =
    tally_ext (counts false zs a None) (λ e. checks v (coarse (act_shape a)) (coarse_event e))
    (λ e. ap excess (tally_ext (λ f. hit (key_in false zs e) (key_in false zs f)) (λ f. hits v (key_of v (coarse_event e)) (coarse_event f))
    (λ f. ap (λ k. hit k (key_in false zs f)) (key_coarse v zs e) ∙ ap (hit (key_of v (coarse_event e))) (key_coarse v zs f)) (act_shape a)
    ∙ sym (tally_coarse (hits v (key_of v (coarse_event e))) (act_shape a))))
    (act_shape a)
    ∙ sym (tally_coarse (checks v (coarse (act_shape a))) (act_shape a))

pub exact_coarse : (v : View) (zs : List ℤ) (a : Act) (r : ℕ) → r ≡ tally (counts false zs a None) (act_shape a) → (r == 0) ≡ is_lawful v (coarse (act_shape a))
exact_coarse v zs a r is = ap (λ n. n == 0) (is ∙ checks_coarse v zs a) ∙ by_tallies v (coarse (act_shape a))
