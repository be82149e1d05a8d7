-- A legal action that suits its places runs as it is defined to.
use Rattle.std.proofs.Common.{ℕ, zero, suc, ◌+◌, ◌≤◌, List, [], ◌∷◌, ◌++◌, ◌≡◌, ℤ, pos, negsuc, ◌-◌, ◌^◌, ◌≤ℤ◌, ◌<ℤ◌, ◌-ℤ◌, map, arith, refl, sym, ◌∙◌, ap, subst, Some, Option, Bool, true, false, ◌⊎◌, inl, inr}
use Rattle.std.specs.Prelude.{slice_get, slice_set, if◌then◌else◌, ◌&&◌, ◌||◌, ◌==◌, not, unsigned_abs, unwrap_or, int_le, int_lt, neg_ℤ}
use Rattle.std.proofs.lemmas.Int.{ints}
use Rattle.std.proofs.Math.Pow.{pow_pos, pow-add}
use Rattle.nml_widths.proofs.Holds.{remainder_low, remainder_high}
use Rattle.attr_eval.proofs.Values.{width_is}
use Rattle.nk_base.specs.declared.number.Ty.{Ty}
use Rattle.nk_base.specs.declared.number.Ty.TheVariants as ty
use Rattle.nk_base.specs.Number.{wrapped, low_bits, InRange}
use Rattle.nml_tree.specs.Table.{Text, Table, Declared, declared}
use Rattle.nml_tree.specs.Act as act
use Rattle.nml_tree.specs.Act.{Term, Act, Cell, Trn, Unary, Binary, Choose}
use Rattle.nml_tree.specs.Value.{Cells, View, value, takes, is_true, unary, binary, number_at}
use Rattle.nml_tree.specs.Exec.{Write, run, now, storages, trn_types, trn_type, storage_type, out_type}
use Rattle.nml_tree.specs.Legal.{Event, WritesCell, is_constant, differ, clash}
use Rattle.nml_state.specs.Cells.{Shown, is_kept, is_write_of}
use Rattle.nml_state.specs.Wrapping.{wraps, wraps_into, has_cell}
use Rattle.nml_widths.specs.Fitting.{IsOfType}
use Rattle.attr_eval.specs.Alone.{alone}
use Rattle.attr_eval.specs.Lawful.{Shape, Once, Then, Either, term_shape, act_shape, events, apart, all_apart, is_lawful}
use Rattle.attr_exec.specs.declared.look.Spot.TheVariants as spot
use Rattle.attr_exec.specs.Seen.{view, seen}
use Rattle.attr_exec.specs.Ran.{Scene, ran, given, looked_at, halted_with}
use Rattle.attr_exec.proofs.Suits.{IsNow, Suits, course_of}
use Rattle.attr_exec.specs.Ready.{IsLawful}

left : (a b : Bool) → (a && b) ≡ true → a ≡ true
left true b h = refl
left false b h = absurd cc

right : (a b : Bool) → (a && b) ≡ true → b ≡ true
right true b h = h
right false b h = absurd cc

-- a value that a type can hold is within it once it is wrapped
double : (n : ℕ) → 1 ≤ n → 2 ^ n ≡ 2 ^ (n - 1) + 2 ^ (n - 1)
double n h = let e : n ≡ n - 1 + 1 = omega arith in ap (λ k. 2 ^ k) e ∙ (let p = pow-add 2 (n - 1) 1 in omega (arith, p))

int_in : (p q : ℕ) (r : ℤ) (b : Bool) → int_lt r (pos p) ≡ b → pos 0 ≤ℤ r → r <ℤ pos q → q ≡ p + p → (neg_ℤ (pos p) ≤ℤ (if b then r else r -ℤ pos q)) × ((if b then r else r -ℤ pos q) <ℤ pos p)
int_in p q (pos k) true is low high twice = (omega (arith, ints, is), omega (arith, ints, is))
int_in p q (pos k) false is low high twice = (omega (arith, ints, is, high, twice), omega (arith, ints, is, high, twice))
int_in p q (negsuc k) b is low high twice = absurd (omega (arith, ints, low))

pub wrapped_in : (u : Ty) (z : ℤ) → wraps u z ≡ true → InRange u (wrapped u z)
wrapped_in ty.Bool z h =
    let a = left (int_le (pos 0) z) (int_le z (pos 1)) h in
    let b = right (int_le (pos 0) z) (int_le z (pos 1)) h in
    bool_in z a b
  where
    bool_in : (z : ℤ) → int_le (pos 0) z ≡ true → int_le z (pos 1) ≡ true → (pos 0 ≤ℤ z) × (z ≤ℤ pos 1)
    bool_in (pos k) a b = (omega (arith, ints), omega (arith, ints, b))
    bool_in (negsuc k) a b = absurd (omega (arith, ints, a))
wrapped_in (ty.Card n) z h = (remainder_low z (2 ^ n) (pow_pos n), remainder_high z (2 ^ n) (pow_pos n))
wrapped_in (ty.Int n) z h =
    let w = width_is n h in
    subst (λ r. (neg_ℤ (pos (2 ^ (n - 1))) ≤ℤ r) × (r <ℤ pos (2 ^ (n - 1)))) refl
    (int_in (2 ^ (n - 1)) (2 ^ n) (low_bits n z) (int_lt (low_bits n z) (pos (2 ^ (n - 1)))) refl (remainder_low z (2 ^ n) (pow_pos n)) (remainder_high z (2 ^ n) (pow_pos n)) (double n w.0))

-- a constant is worth the same wherever the fields are the same
const_value : (i : Term) (w u : View) → w.fields ≡ u.fields → is_constant i ≡ true → value w i ≡ value u i
const_value (Term.Number z) w u f h = refl
const_value (Term.Field n) w u f h = ap (λ fs. number_at fs n) f
const_value (Cell n i) w u f h = absurd cc
const_value (Trn n) w u f h = absurd cc
const_value Term.Inp w u f h = absurd cc
const_value Term.Out w u f h = absurd cc
const_value (Unary op x) w u f h = ap (unary op) (const_value x w u f h)
const_value (Binary op x y) w u f h = let a = const_value x w u f (left (is_constant x) (is_constant y) h) in let b = const_value y w u f (right (is_constant x) (is_constant y) h) in ap (λ z. binary op z (value w y)) a ∙ ap (binary op (value u x)) b
const_value (Choose c x y) w u f h =
    let first = left (is_constant c && is_constant x) (is_constant y) h in
    let a = const_value c w u f (left (is_constant c) (is_constant x) first) in
    let b = const_value x w u f (right (is_constant c) (is_constant x) first) in
    let d = const_value y w u f (right (is_constant c && is_constant x) (is_constant y) h) in
    ap (λ z. if is_true z then value w x else value w y) a ∙ ap (λ z. if is_true (value u c) then z else value w y) b ∙ ap (λ z. if is_true (value u c) then value u x else z) d

-- events among others
abbrev Among : List Event → Event → Type 0
Among [] e = ⊥
Among (x ∷ xs) e = (x ≡ e) ⊎ Among xs e

among_left : (xs ys : List Event) (e : Event) → Among xs e → Among (xs ++ ys) e
among_left [] ys e h = absurd h
among_left (x ∷ xs) ys e (inl h) = inl h
among_left (x ∷ xs) ys e (inr h) = inr (among_left xs ys e h)

among_right : (xs ys : List Event) (e : Event) → Among ys e → Among (xs ++ ys) e
among_right [] ys e h = h
among_right (x ∷ xs) ys e h = inr (among_right xs ys e h)

apart_one : (v : View) (e x : Event) (ys : List Event) → apart v e ys ≡ true → Among ys x → clash v e x ≡ false
apart_one v e x [] h a = absurd a
apart_one v e x (y ∷ ys) h (inl is) = subst (λ q. clash v e q ≡ false) is (no (clash v e y) (left (not (clash v e y)) (apart v e ys) h))
  where
    no : (b : Bool) → not b ≡ true → b ≡ false
    no true k = absurd cc
    no false k = refl
apart_one v e x (y ∷ ys) h (inr a) = apart_one v e x ys (right (not (clash v e y)) (apart v e ys) h) a

all_one : (v : View) (e : Event) (xs ys : List Event) → all_apart v xs ys ≡ true → Among xs e → apart v e ys ≡ true
all_one v e [] ys h a = absurd a
all_one v e (x ∷ xs) ys h (inl is) = subst (λ q. apart v q ys ≡ true) is (left (apart v x ys) (all_apart v xs ys) h)
all_one v e (x ∷ xs) ys h (inr a) = all_one v e xs ys (right (apart v x ys) (all_apart v xs ys) h) a

all_front : (v : View) (xs zs ys : List Event) → all_apart v (xs ++ zs) ys ≡ true → (all_apart v xs ys ≡ true) × (all_apart v zs ys ≡ true)
all_front v [] zs ys h = (refl, h)
all_front v (x ∷ xs) zs ys h =
    let a = left (apart v x ys) (all_apart v (xs ++ zs) ys) h in
    let r = all_front v xs zs ys (right (apart v x ys) (all_apart v (xs ++ zs) ys) h) in
    let e = r.0 in (rw (a, e) refl, r.1)

module _ (t : Table) (zs : List ℤ) (next : Option ℤ) (cells : Cells) where
  abbrev v0 : View
  v0 = alone zs

  abbrev v : View
  v = record { fields = zs; cells = cells; trns = []; next = next }

  -- the write isn't one of this cell, whatever its index comes to
  abbrev pub Misses : ℕ → Term → Write → Type 0
  Misses n i w = ((w.storage == n) ≡ false) ⊎ ((is_constant i ≡ true) × ((w.index == unsigned_abs (value v0 i)) ≡ false))

  abbrev pub AllMiss : List Write → ℕ → Term → Type 0
  AllMiss [] n i = Unit {0}
  AllMiss (w ∷ ws) n i = Misses n i w × AllMiss ws n i

  -- none of the writes is one of a cell that may be written later
  abbrev pub Off : List Write → List Event → Type 0
  Off ws ys = (n : ℕ) (i : Term) → Among ys (WritesCell n i) → AllMiss ws n i

  not_kept : (ws : List Write) (n j : ℕ) (i : Term) → (is_constant i ≡ true → j ≡ unsigned_abs (value v0 i)) → AllMiss ws n i → is_kept ws n j ≡ false
  not_kept [] n j i same h = refl
  not_kept (w ∷ ws) n j i same (inl a, more) = let e : is_write_of n j w ≡ false = rw a refl in rw e (not_kept ws n j i same more)
  not_kept (w ∷ ws) n j i same (inr a, more) = let e : is_write_of n j w ≡ false = rw (same a.0, a.1) (no_and (w.storage == n)) in rw e (not_kept ws n j i same more)
    where
      no_and : (b : Bool) → (b && false) ≡ false
      no_and true = refl
      no_and false = refl

  miss_push : (ws : List Write) (w : Write) (n : ℕ) (i : Term) → AllMiss ws n i → Misses n i w → AllMiss (ws ++ w ∷ []) n i
  miss_push [] w n i h k = (k, tt)
  miss_push (x ∷ ws) w n i h k = (h.0, miss_push ws w n i h.1 k)

  new_misses : (n m : ℕ) (i j : Term) (w : Write) → w.storage ≡ n → (is_constant i ≡ true → w.index ≡ unsigned_abs (value v0 i)) → clash v0 (WritesCell n i) (WritesCell m j) ≡ false → Misses m j w
  new_misses n m i j w at index h = one (n == m) refl h
    where
      two : (a b c : Bool) → is_constant i ≡ a → is_constant j ≡ b → (unsigned_abs (value v0 i) == unsigned_abs (value v0 j)) ≡ c → not (a && b && not c) ≡ false → Misses m j w
      two true true true p q r k = absurd cc
      two true true false p q r k = inr (q, rw (index p) r)
      two true false c p q r k = absurd cc
      two false b c p q r k = absurd cc

      one : (b : Bool) → (n == m) ≡ b → (b && not (differ v0 i j)) ≡ false → Misses m j w
      one true is k = two (is_constant i) (is_constant j) (unsigned_abs (value v0 i) == unsigned_abs (value v0 j)) refl refl refl k
      one false is k = inl (rw at is)

  abbrev with_cells : List ℤ → Cells → View
  with_cells trns cs = record { fields = zs; cells = cs; trns = trns; next = next }

  -- what is looked at is what the definition looks at
  view_is : (c : Scene) → c.state.cells ≡ cells → view zs c.state next ≡ now v (course_of c)
  view_is c is = ap (with_cells c.state.trns) is

  -- a run that agrees, and leaves a state of the description
  pub record Agrees (a : Act) (c r : Scene) : Type 0 where
    pub is : course_of r ≡ run t v a (course_of c)
    pub now_is : IsNow t zs next cells r.state
    pub misses : (ys : List Event) → all_apart v0 (events (act_shape a)) ys ≡ true → Off c.state.kept ys → Off r.state.kept ys

  pushed_off : (n : ℕ) (i : Term) (w : Write) (ws : List Write) (ys : List Event) → w.storage ≡ n → (is_constant i ≡ true → w.index ≡ unsigned_abs (value v0 i)) → apart v0 (WritesCell n i) ys ≡ true → Off ws ys → Off (ws ++ w ∷ []) ys
  pushed_off n i w ws ys at index h o = λ m j a. miss_push ws w m j (o m j a) (new_misses n m i j w at index (apart_one v0 (WritesCell n i) (WritesCell m j) ys h a))

  abbrev Before : Term → Term → Event → List Event
  Before i e x = (events (term_shape i) ++ events (term_shape e)) ++ x ∷ []

  -- a value that is written stays within its transitory's type
  set_in : (xs : List ℤ) (n m : ℕ) (y : ℤ) (u : Ty) → InRange u (number_at xs m) → (n ≡ m → InRange u y) → InRange u (number_at (slice_set xs n y) m)
  set_in [] n m y u h k = h
  set_in (x ∷ xs) zero zero y u h k = k refl
  set_in (x ∷ xs) zero (suc m) y u h k = h
  set_in (x ∷ xs) (suc n) zero y u h k = h
  set_in (x ∷ xs) (suc n) (suc m) y u h k = set_in xs n m y u h (λ e. k (ap suc e))

  wrapped_at : (n m : ℕ) (u : Ty) (z : ℤ) → slice_get (trn_types t) m ≡ Some u → wraps_into (slice_get (trn_types t) n) z ≡ true → n ≡ m → InRange u (wrapped (trn_type t n) z)
  wrapped_at n m u z at fit same =
      let here : slice_get (trn_types t) n ≡ Some u = ap (slice_get (trn_types t)) same ∙ at in
      let w : wraps u z ≡ true = subst (λ o. wraps_into o z ≡ true) here fit in
      subst (λ (o : Option Ty). InRange u (wrapped (unwrap_or o ty.Bool) z)) (sym here) (wrapped_in u z w)

  trn_now : IsLawful t → (s : Shown) (n : ℕ) (z : ℤ) → IsNow t zs next cells s → wraps_into (slice_get s.trn_types n) z ≡ true → IsNow t zs next cells (record s { trns = slice_set s.trns n (wrapped (trn_type t n) z) })
  trn_now law s n z is fit = record {
    types_are = is.types_are;
    trn_types_are = is.trn_types_are;
    cells_are = is.cells_are;
    typed = record { each = one };
  }
    where
      one : (name : Text) (d : Declared) → declared t name ≡ Some d → IsOfType (view zs (record s { trns = slice_set s.trns n (wrapped (trn_type t n) z) }) next) d
      one name (Declared.Constant k) at = tt
      one name (Declared.TypeName u) at = tt
      one name (Declared.Storage k size u) at = is.typed.each name (Declared.Storage k size u) at
      one name (Declared.Trn k u) at = set_in s.trns n k (wrapped (trn_type t n) z) u (is.typed.each name (Declared.Trn k u) at) (wrapped_at n k u z (law.trn_types_are name k u at) (subst (λ ts. wraps_into (slice_get ts n) z ≡ true) is.trn_types_are fit))
      one name (Declared.Inp u) at = is.typed.each name (Declared.Inp u) at
      one name (Declared.Out u) at = tt
      one name (Declared.Or mode names) at = tt
      one name (Declared.And rule) at = tt

  -- behind a statement, by what was looked at
  abbrev cell_next : View → ℕ → Term → Term → Scene → Scene
  cell_next w n i e c = record {
    state = record c.state { kept = c.state.kept ++ record { storage = n; index = unsigned_abs (value w i); value = wrapped (storage_type t n) (value w e) } ∷ [] };
    done = looked_at (takes w i || takes w e) c.done;
  }

  abbrev trn_next : View → ℕ → Term → Scene → Scene
  trn_next w n e c = record { state = record c.state { trns = slice_set c.state.trns n (wrapped (trn_type t n) (value w e)) }; done = looked_at (takes w e) c.done }

  abbrev put_next : View → Term → Scene → Scene
  put_next w e c = record c { done = looked_at (takes w e) (record c.done { out = Some (wrapped (out_type t) (value w e)) }) }

  abbrev cell_as : View → ℕ → Term → Term → Scene → List Ty → Scene
  cell_as w n i e c ts = record {
    state = record c.state { kept = c.state.kept ++ record { storage = n; index = unsigned_abs (value w i); value = wrapped (unwrap_or (slice_get ts n) ty.Bool) (value w e) } ∷ [] };
    done = looked_at (takes w i || takes w e) c.done;
  }

  abbrev trn_as : View → ℕ → Term → Scene → List Ty → Scene
  trn_as w n e c ts = record { state = record c.state { trns = slice_set c.state.trns n (wrapped (unwrap_or (slice_get ts n) ty.Bool) (value w e)) }; done = looked_at (takes w e) c.done }

  cell_given : (c : Scene) (n : ℕ) (i e : Term) → (w : View) → c.state.types ≡ map (λ x. x.1) (storages t) → has_cell c.state.cells n (unsigned_abs (value w i)) ≡ true → wraps_into (slice_get c.state.types n) (value w e) ≡ true → is_kept c.state.kept n (unsigned_abs (value w i)) ≡ false
      → given (out_type t) (spot.Cell n (unsigned_abs (value w i))) (takes w i) (seen w e) c ≡ cell_next w n i e c
  cell_given c n i e w types here fit free =
      (rw (fit, here, free) refl)
      ∙ ap (cell_as w n i e c) types

  trn_given : (c : Scene) (n : ℕ) (e : Term) → (w : View) → c.state.trn_types ≡ trn_types t → wraps_into (slice_get c.state.trn_types n) (value w e) ≡ true → given (out_type t) (spot.Trn n) false (seen w e) c ≡ trn_next w n e c
  trn_given c n e w types fit =
      (rw fit refl)
      ∙ ap (trn_as w n e c) types

  put_given : (c : Scene) (e : Term) → (w : View) → wraps (out_type t) (value w e) ≡ true → given (out_type t) spot.Out false (seen w e) c ≡ put_next w e c
  put_given c e w fit = rw fit refl

  -- behind an `if`
  pub record Middle (x y : Act) (d m : Scene) (b : Bool) : Type 0 where
    pub is : course_of m ≡ (if b then run t v x (course_of d) else run t v y (course_of d))
    pub now_is : IsNow t zs next cells m.state
    pub misses : (ys : List Event) → all_apart v0 (events (act_shape x) ++ events (act_shape y)) ys ≡ true → Off d.state.kept ys → Off m.state.kept ys

  middle : (x y : Act) (d : Scene) (b : Bool) → Agrees x d (ran (out_type t) zs next x d) → Agrees y d (ran (out_type t) zs next y d) → Middle x y d (if b then ran (out_type t) zs next x d else ran (out_type t) zs next y d) b
  middle x y d true p q = record { is = p.is; now_is = p.now_is; misses = λ ys h o. p.misses ys (all_front v0 (events (act_shape x)) (events (act_shape y)) ys h).0 o }
  middle x y d false p q = record { is = q.is; now_is = q.now_is; misses = λ ys h o. q.misses ys (all_front v0 (events (act_shape x)) (events (act_shape y)) ys h).1 o }

  pub agrees : IsLawful t → (a : Act) (c : Scene) → IsNow t zs next cells c.state → Suits t zs next cells a → Off c.state.kept (events (act_shape a)) → is_lawful v0 (act_shape a) ≡ true → Agrees a c (ran (out_type t) zs next a c)
  agrees lawful act.Done c is suits off law = record { is = refl; now_is = is; misses = λ ys h o. o }
  agrees lawful (act.SetCell n i e rest) c is suits off law =
      let w = view zs c.state next in
      let x = WritesCell n i in
      let ev = Before i e x in
      let er = events (act_shape rest) in
      let shape : Shape = Then (Then (term_shape i) (term_shape e)) (Once x) in
      let fit = suits.0 c.state is in
      let same : is_constant i ≡ true → unsigned_abs (value w i) ≡ unsigned_abs (value v0 i) = λ k. ap unsigned_abs (const_value i w v0 refl k) in
      let free : is_kept c.state.kept n (unsigned_abs (value w i)) ≡ false = not_kept c.state.kept n (unsigned_abs (value w i)) i same (off n i (among_left ev er x (among_right (events (term_shape i) ++ events (term_shape e)) (x ∷ []) x (inl refl)))) in
      let g = cell_given c n i e w is.types_are fit.0 fit.1 free in
      let first = left (is_lawful v0 shape && all_apart v0 ev er) (is_lawful v0 (act_shape rest)) law in
      let apart_rest = all_one v0 x ev er (right (is_lawful v0 shape) (all_apart v0 ev er) first) (among_right (events (term_shape i) ++ events (term_shape e)) (x ∷ []) x (inl refl)) in
      let d = cell_next w n i e c in
      let one : Write = record { storage = n; index = unsigned_abs (value w i); value = wrapped (storage_type t n) (value w e) } in
      let now_d : IsNow t zs next cells d.state = record { types_are = is.types_are; trn_types_are = is.trn_types_are; cells_are = is.cells_are; typed = is.typed } in
      let r = agrees lawful rest d now_d suits.1 (pushed_off n i one c.state.kept er refl same apart_rest (λ m j a. off m j (among_right ev er (WritesCell m j) a))) (right (is_lawful v0 shape && all_apart v0 ev er) (is_lawful v0 (act_shape rest)) law) in
      subst (λ q. Agrees (act.SetCell n i e rest) c (ran (out_type t) zs next rest q)) (sym g)
      (record {
        is = r.is ∙ ap (λ q. run t v rest (course_of (cell_next q n i e c))) (view_is c is.cells_are);
        now_is = r.now_is;
        misses = λ ys h o. (let f = all_front v0 ev er ys h in r.misses ys f.1 (pushed_off n i one c.state.kept ys refl same (all_one v0 x ev ys f.0 (among_right (events (term_shape i) ++ events (term_shape e)) (x ∷ []) x (inl refl))) o));
      })
  agrees lawful (act.SetTrn n e rest) c is suits off law =
      let w = view zs c.state next in
      let ev = events (Then (term_shape e) (Once (Event.WritesTrn n))) in
      let er = events (act_shape rest) in
      let fit = suits.0 c.state is in
      let r = agrees lawful rest (trn_next w n e c) (trn_now lawful c.state n (value w e) is fit) suits.1 (λ m j a. off m j (among_right ev er (WritesCell m j) a)) (right (is_lawful v0 (Then (term_shape e) (Once (Event.WritesTrn n))) && all_apart v0 ev er) (is_lawful v0 (act_shape rest)) law) in
      subst (λ q. Agrees (act.SetTrn n e rest) c (ran (out_type t) zs next rest q)) (sym (trn_given c n e w is.trn_types_are fit))
      (record {
        is = r.is ∙ ap (λ q. run t v rest (course_of (trn_next q n e c))) (view_is c is.cells_are);
        now_is = r.now_is;
        misses = λ ys h o. r.misses ys (all_front v0 ev er ys h).1 o;
      })
  agrees lawful (act.Put e rest) c is suits off law =
      let w = view zs c.state next in
      let ev = events (Then (term_shape e) (Once Event.Puts)) in
      let er = events (act_shape rest) in
      let fit = suits.0 c.state is in
      let r = agrees lawful rest (put_next w e c) is suits.1 (λ m j a. off m j (among_right ev er (WritesCell m j) a)) (right (is_lawful v0 (Then (term_shape e) (Once Event.Puts)) && all_apart v0 ev er) (is_lawful v0 (act_shape rest)) law) in
      subst (λ q. Agrees (act.Put e rest) c (ran (out_type t) zs next rest q)) (sym (put_given c e w fit))
      (record {
        is = r.is ∙ ap (λ q. run t v rest (course_of (put_next q e c))) (view_is c is.cells_are);
        now_is = r.now_is;
        misses = λ ys h o. r.misses ys (all_front v0 ev er ys h).1 o;
      })
  agrees lawful (act.Halt e rest) c is suits off law =
      let w = view zs c.state next in
      let ev = events (Then (term_shape e) (Once Event.Halts)) in
      let er = events (act_shape rest) in
      let d : View → Scene = λ q. record c { done = looked_at (takes q e) (halted_with (value q e) c.done) } in
      let r = agrees lawful rest (d w) is suits (λ m j a. off m j (among_right ev er (WritesCell m j) a)) (right (is_lawful v0 (Then (term_shape e) (Once Event.Halts)) && all_apart v0 ev er) (is_lawful v0 (act_shape rest)) law) in
      record {
        is = r.is ∙ ap (λ q. run t v rest (course_of (d q))) (view_is c is.cells_are);
        now_is = r.now_is;
        misses = λ ys h o. r.misses ys (all_front v0 ev er ys h).1 o;
      }
  agrees lawful (act.When e x y rest) c is suits off law =
      let w = view zs c.state next in
      let sides : Shape = Either (act_shape x) (act_shape y) in
      let shape : Shape = Then (term_shape e) sides in
      let ee = events (term_shape e) in
      let ex = events (act_shape x) in
      let ey = events (act_shape y) in
      let ev = events shape in
      let er = events (act_shape rest) in
      let d : View → Scene = λ q. record c { done = looked_at (takes q e) c.done } in
      let first = left (is_lawful v0 shape && all_apart v0 ev er) (is_lawful v0 (act_shape rest)) law in
      let lawful_shape = left (is_lawful v0 shape) (all_apart v0 ev er) first in
      let lawful_sides = right (is_lawful v0 (term_shape e) && all_apart v0 ee (ex ++ ey)) (is_lawful v0 sides) lawful_shape in
      let p = agrees lawful x (d w) is suits.0 (λ m j a. off m j (among_left ev er (WritesCell m j) (among_right ee (ex ++ ey) (WritesCell m j) (among_left ex ey (WritesCell m j) a)))) (left (is_lawful v0 (act_shape x)) (is_lawful v0 (act_shape y)) lawful_sides) in
      let q = agrees lawful y (d w) is suits.1 (λ m j a. off m j (among_left ev er (WritesCell m j) (among_right ee (ex ++ ey) (WritesCell m j) (among_right ex ey (WritesCell m j) a)))) (right (is_lawful v0 (act_shape x)) (is_lawful v0 (act_shape y)) lawful_sides) in
      let m = middle x y (d w) (is_true (value w e)) p q in
      let apart_rest = (all_front v0 ee (ex ++ ey) er (right (is_lawful v0 shape) (all_apart v0 ev er) first)).1 in
      let r = agrees lawful rest _ m.now_is suits.2 (m.misses er apart_rest (λ k j a. off k j (among_right ev er (WritesCell k j) a))) (right (is_lawful v0 shape && all_apart v0 ev er) (is_lawful v0 (act_shape rest)) law) in
      record {
        is = r.is ∙ ap (run t v rest) m.is ∙ ap (λ q. run t v rest (if is_true (value q e) then run t v x (course_of (d q)) else run t v y (course_of (d q)))) (view_is c is.cells_are);
        now_is = r.now_is;
        misses = λ ys h o. (let f = all_front v0 ev er ys h in r.misses ys f.1 (m.misses ys (all_front v0 ee (ex ++ ey) ys f.0).1 o));
      }
