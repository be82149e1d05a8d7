-- Statements that stand at a place of a list, the statements' machine beside the program, and single steps.
use Rattle.std.proofs.Common.{◌≡◌, ℕ, suc, ◌+◌, ◌-◌, ◌^◌, ◌%◌, ◌<◌, ◌≤◌, ℤ, pos, negsuc, ◌+ℤ◌, ◌-ℤ◌, List, [], ◌∷◌, ◌++◌, Bool, true, false, Some, None, length, append_assoc, append-nil, length-append, length-set, get_or-set_same, get_or-set_other, refl, ap, sym, ◌∙◌, subst, arith}
use Rattle.std.specs.Prelude.{slice_get, nat_eq, int_lt, unsigned_abs, if◌then◌else◌}
use Rattle.std.specs.Int.{int_rem_euclid}
use Rattle.std.specs.Int.Signed.{mag}
use Rattle.std.proofs.lemmas.Bool.{eqb-true, eqb-false, lt-ltb, le-ltb}
use Rattle.std.proofs.lemmas.Int.{ints}
use Rattle.std.proofs.lemmas.Option.{slice_get-get_or}
use Rattle.std.proofs.Math.Seq.{get_or-append_seam}
use Rattle.std.proofs.Math.Nat.{mod-eq_of_lt}
use Rattle.std.proofs.Math.Pow.{pow_mono, pow_pos}
use Rattle.nk_base.specs.Number.{low_bits}
use Rattle.nk_outside.specs.Outcome.{Outcome}
use Rattle.nk_outside.specs.declared.stop.Stop.TheVariants as stops
use Rattle.ir_core.specs.Operator.{wrap, arithmetic, holds}
use Rattle.ir_core.specs.declared.operator.Arith.TheVariants as operator
use Rattle.ir_core.specs.declared.relation.Rel.{Rel}
use Rattle.ir_core.specs.Inputs.{IsNumber}
use Rattle.ir_run.specs.Shifts.{IsCellWidth}
use Rattle.ir_run.specs.Node.{Node}
use Rattle.ir_run.specs.Entry.{Entry, Set, Store, Out, Branch, JumpCell, Jump, Mark, Halt}
use Rattle.ir_run.specs.Runs.{Turn, Goes}
use Rattle.ir_run.specs.Run.{place_of, place_by, at_place, on, put}
use Rattle.ir_run.specs.Value.{held, label_value, label_of, number, address}
use Rattle.ir_run.specs.Strict.{is_inside, is_numeral, only, value, at_mark, act, step}
use Rattle.ir_run.proofs.Agreement.{meets_step, meets_free, meets_end}
use Rattle.c_tree.specs.Meaning as source
use Rattle.c_lowered.proofs.Numbers.{number_small, wrap_is_number}
use Rattle.c_agree.proofs.World.{Machine, Stands, Ground, IsGround, IsHome, Fits, Met}

-- ---- statements in a list

-- what stands there stands there in parts
pub split : (code : List Entry) (p q : ℕ) (a b : List Entry) → Stands code p (a ++ b) q → (mid : ℕ) × Stands code p a mid × Stands code mid b q
split code p q [] b h = (p, refl, h)
split code p q (e ∷ a) b h = let r = split code (suc p) q a b h.1 in (r.0, (h.0, r.1), r.2)

-- the same from an equal place
pub stands_at : (code : List Entry) (p p' q : ℕ) (a : List Entry) → p ≡ p' → Stands code p a q → Stands code p' a q
stands_at code p p' q a e h = subst (λ n. Stands code n a q) e h

-- a list stands in itself behind its front
pub stands_behind : (es front : List Entry) → Stands (front ++ es) (length front) es (length (front ++ es))
stands_behind [] front = ap length (sym (append-nil front))
stands_behind (e ∷ es) front =
    let within : length front < length (front ++ e ∷ es) = omega (arith, length-append front (e ∷ es)) in
    let here = slice_get-get_or (front ++ e ∷ es) (length front) e within ∙ ap Some (get_or-append_seam front e es e) in
    let n : length (front ++ e ∷ []) ≡ suc (length front) = omega (arith, length-append front (e ∷ [])) in
    let rest = subst (λ l. Stands l (length (front ++ e ∷ [])) es (length l)) (append_assoc front (e ∷ []) es) (stands_behind es (front ++ e ∷ [])) in
    (here, stands_at (front ++ e ∷ es) (length (front ++ e ∷ [])) (suc (length front)) (length (front ++ e ∷ es)) es n rest)

-- a list stands in itself
pub stands_whole : (code : List Entry) → Stands code 0 code (length code)
stands_whole code = stands_behind code []

-- ---- cells

-- a cell that is written holds what was written
pub put_same : (m : Machine) (k : ℕ) (z : ℤ) → k < length m.cells → held (put k z m) k ≡ z
put_same m k z h = get_or-set_same m.cells k z (pos 0) h

-- another cell holds what it held
pub put_other : (m : Machine) (k j : ℕ) (z : ℤ) → (j ≡ k → ⊥) → held (put k z m) j ≡ held m j
put_other m k j z differ = get_or-set_other m.cells k j z (pos 0) differ

-- ---- numbers of n bits are no labels

below_labels : (p : ℕ) (z : ℤ) → mag z < p → p ≤ 2 ^ 32 → int_lt z (pos (2 ^ 32)) ≡ true
below_labels p (pos a) h le = lt-ltb a (2 ^ 32) (omega (arith, h, le))
below_labels p (negsuc a) h le = refl

-- a number of n bits is no label
pub numeral_of : (n : ℕ) (z : ℤ) → IsCellWidth n → IsNumber n z → is_numeral z ≡ true
numeral_of n z w h = below_labels (2 ^ (n - 1)) z (number_small n z w h) (pow_mono {i = n - 1} {j = 32} (omega (arith, w.1)))

-- and it counts as itself
pub number_of : (n : ℕ) (z : ℤ) → IsCellWidth n → IsNumber n z → number n z ≡ z
number_of n z w h = ap (λ b. if b then z else wrap n (z -ℤ pos (2 ^ 32))) (numeral_of n z w h)

-- ---- the address of an element

low_small : (c q : ℕ) → c < q → int_rem_euclid (pos c) (pos q) ≡ pos c
low_small c q h = ap pos (mod-eq_of_lt {n = c} {m = q} h)

low_below : (c q : ℕ) → c < q → int_rem_euclid (negsuc (q - 1 - c)) (pos q) ≡ pos c
low_below c q h =
    let same : (q - 1 - c) % q ≡ q - 1 - c = mod-eq_of_lt {n = q - 1 - c} {m = q} (omega (arith, h)) in
    ap (λ r. pos (q - 1 - r)) same ∙ ap pos (omega (arith, h))

low_is : (z : ℤ) (q : ℕ) → 0 < q → (r : ℕ) × (r < q) × (int_rem_euclid z (pos q) ≡ pos r)
low_is (pos a) q h = (a % q, omega arith, refl)
low_is (negsuc a) q h = (q - 1 - a % q, omega arith, refl)

low_again : (r q : ℕ) (b : Bool) → r < q → int_rem_euclid (if b then pos r else pos r -ℤ pos q) (pos q) ≡ pos r
low_again r q true h = low_small r q h
low_again r q false h =
    let e : pos r -ℤ pos q ≡ negsuc (q - 1 - r) = omega (arith, ints, h) in
    ap (λ z. int_rem_euclid z (pos q)) e ∙ low_below r q h

-- a wrapped number has the low bits of the number
pub low_wrap : (n : ℕ) (z : ℤ) → low_bits n (wrap n z) ≡ low_bits n z
low_wrap n z =
    let r = low_is z (2 ^ n) (pow_pos n) in
    ap (λ m. int_rem_euclid (if int_lt m (pos (2 ^ (n - 1))) then m else m -ℤ pos (2 ^ n)) (pos (2 ^ n))) r.2
    ∙ low_again r.0 (2 ^ n) (int_lt (pos r.0) (pos (2 ^ (n - 1)))) r.1 ∙ sym r.2

low_sum : (j c q : ℕ) (b : Bool) → c + j < q → int_rem_euclid (pos j +ℤ (if b then pos c else pos c -ℤ pos q)) (pos q) ≡ pos (c + j)
low_sum j c q true h =
    let e : pos j +ℤ pos c ≡ pos (c + j) = omega (arith, ints) in
    ap (λ z. int_rem_euclid z (pos q)) e ∙ low_small (c + j) q h
low_sum j c q false h =
    let e : pos j +ℤ (pos c -ℤ pos q) ≡ negsuc (q - 1 - (c + j)) = omega (arith, ints, h) in
    ap (λ z. int_rem_euclid z (pos q)) e ∙ low_below (c + j) q h

-- what an index in a cell and an array's first cell come to
abbrev pub element_number : ℕ → (first j : ℕ) → ℤ
element_number n first j = arithmetic n operator.Add (pos j) (wrap n (pos first))

-- an element's address is its cell
pub element_cell : (n first j : ℕ) → IsCellWidth n → first + j < 2 ^ n → address n (element_number n first j) ≡ first + j
element_cell n first j w h =
    let y = pos j +ℤ wrap n (pos first) in
    let small : low_bits n (pos first) ≡ pos first = low_small first (2 ^ n) (omega (arith, h)) in
    ap (λ z. unsigned_abs (low_bits n z)) (number_of n (wrap n y) w (wrap_is_number n y w))
    ∙ ap unsigned_abs (low_wrap n y
    ∙ ap (λ m. low_bits n (pos j +ℤ (if int_lt m (pos (2 ^ (n - 1))) then m else m -ℤ pos (2 ^ n)))) small
    ∙ low_sum j first (2 ^ n) (int_lt (pos first) (pos (2 ^ (n - 1)))) h)

-- ---- the machine beside the program

module _ (g : Ground) (is : IsGround g) where
  -- the same at an equal place
  pub fits_at : (t : ℕ) (s : source.State) (m : Machine) (p q : ℕ) → p ≡ q → Fits g t s m p → Fits g t s m q
  fits_at t s m p q e f = record { place = f.place ∙ e; cells = f.cells; memory = f.memory; same = f.same; numbers = f.numbers; input = f.input; inputs = f.inputs; turns = f.turns }

  -- the next place
  pub next_place : (m : Machine) (p q : ℕ) → m.place ≡ p → suc p ≡ q → m.place + 1 ≡ q
  next_place m p q at e = omega (arith, at, e)

  -- a statement further
  pub fits_on : (t : ℕ) (s : source.State) (m : Machine) (p q : ℕ) → suc p ≡ q → Fits g t s m p → Fits g t s (on m) q
  fits_on t s m p q e f = record { place = next_place m p q f.place e; cells = f.cells; memory = f.memory; same = f.same; numbers = f.numbers; input = f.input; inputs = f.inputs; turns = f.turns }

  -- at another place
  pub fits_jump : (t : ℕ) (s : source.State) (m : Machine) (p q : ℕ) → Fits g t s m p → Fits g t s (at_place q m) q
  fits_jump t s m p q f = record { place = refl; cells = f.cells; memory = f.memory; same = f.same; numbers = f.numbers; input = f.input; inputs = f.inputs; turns = f.turns }

  -- a cell that is no variable's is written
  pub fits_set : (t : ℕ) (s : source.State) (m : Machine) (p q k : ℕ) (z : ℤ) → (IsHome g k → ⊥) → suc p ≡ q → Fits g t s m p → Fits g t s (on (put k z m)) q
  fits_set t s m p q k z plain e f = record {
    place = next_place m p q f.place e;
    cells = length-set m.cells k z ∙ f.cells;
    memory = f.memory;
    same = λ x below. put_other m k (g.home x) z (λ same. plain (record { variable = x; below = below; is = same })) ∙ f.same x below;
    numbers = f.numbers;
    input = f.input;
    inputs = f.inputs;
    turns = f.turns;
  }

  -- at most so many turns are left, and so no more than more
  pub fits_more : (t u : ℕ) (s : source.State) (m : Machine) (p : ℕ) → t ≤ u → Fits g t s m p → Fits g u s m p
  fits_more t u s m p le f = record { place = f.place; cells = f.cells; memory = f.memory; same = f.same; numbers = f.numbers; input = f.input; inputs = f.inputs; turns = let k = f.turns in omega (arith, k, le) }

  -- a variable is set on both sides
  pub fits_assign : (t : ℕ) (s : source.State) (m : Machine) (p q x : ℕ) (z : ℤ) → x < g.memory → IsNumber g.bits z → suc p ≡ q → Fits g t s m p → Fits g t (source.put s x z) (on (put (g.home x) z m)) q
  fits_assign t s m p q x z below is_number e f = record {
    place = next_place m p q f.place e;
    cells = length-set m.cells (g.home x) z ∙ f.cells;
    memory = length-set s.memory x z ∙ f.memory;
    same = λ y lt. by_test y lt (nat_eq y x) refl;
    numbers = λ y. number_by y (nat_eq y x) refl;
    input = f.input;
    inputs = f.inputs;
    turns = f.turns;
  }
    where
      inside : x < length s.memory
      inside = let k = f.memory in omega (arith, k, below)

      there : g.home x < length m.cells
      there = let k = f.cells in let h = is.homes x below in omega (arith, k, h)

      written : source.held (source.put s x z) x ≡ z
      written = get_or-set_same s.memory x z (pos 0) inside

      by_test : (y : ℕ) → y < g.memory → (b : Bool) → nat_eq y x ≡ b → held (put (g.home x) z m) (g.home y) ≡ source.held (source.put s x z) y
      by_test y lt true same = subst (λ n. held (put (g.home x) z m) (g.home n) ≡ source.held (source.put s x z) n) (sym (eqb-true y x same)) (put_same m (g.home x) z there ∙ sym written)
      by_test y lt false same =
          put_other m (g.home x) (g.home y) z (λ one. eqb-false y x same (is.one y x lt below one)) ∙ f.same y lt ∙ sym (get_or-set_other s.memory x y z (pos 0) (eqb-false y x same))

      number_by : (y : ℕ) → (b : Bool) → nat_eq y x ≡ b → IsNumber g.bits (source.held (source.put s x z) y)
      number_by y true same = subst (λ n. IsNumber g.bits (source.held (source.put s x z) n)) (sym (eqb-true y x same)) (subst (λ v. IsNumber g.bits v) (sym written) is_number)
      number_by y false same = subst (λ v. IsNumber g.bits v) (sym (get_or-set_other s.memory x y z (pos 0) (eqb-false y x same))) (f.numbers y)

  -- ---- single steps

  -- a tree is worth this at a machine
  abbrev pub Worth : Node → ℤ → Machine → Type 0
  Worth t z m = (go : ℤ → Machine → Turn Machine) → value g.arrays g.bits t go m ≡ go z m

  -- the machine's step
  abbrev pub steps : Machine → Turn Machine
  steps = step g.arrays g.code g.bits

  -- the statement at a place
  pub does : (m : Machine) (p : ℕ) (e : Entry) → m.place ≡ p → slice_get g.code p ≡ Some e → steps m ≡ act g.arrays g.code g.bits (Some e) m
  does m p e at h = ap (λ n. act g.arrays g.code g.bits (slice_get g.code n) m) at ∙ ap (λ o. act g.arrays g.code g.bits o m) h

  -- a number is taken as one
  pub only_numeral : (z : ℤ) (u : Turn Machine) → IsNumber g.bits z → only (is_numeral z) u ≡ u
  only_numeral z u h = ap (λ b. only b u) (numeral_of g.bits z is.width h)

  -- a step that puts out nothing
  pub met_free : (c n : ℕ) (out : List ℤ) (m next : Machine) (o : Outcome) → steps m ≡ Goes [] next → Met g c out next n o → Met g c out m n o
  met_free c n out m next o e rest = meets_free steps g.weight c out m next [] n o e (subst (λ xs. Met g c xs next n o) (sym (append-nil out)) rest)

  -- a value goes into a cell
  pub met_set : (c n : ℕ) (out : List ℤ) (m : Machine) (p k : ℕ) (t : Node) (z : ℤ) (o : Outcome) → m.place ≡ p → slice_get g.code p ≡ Some (Set k t) → Worth t z m → Met g c out (on (put k z m)) n o → Met g c out m n o
  met_set c n out m p k t z o at h w rest = met_free c n out m (on (put k z m)) o (does m p (Set k t) at h ∙ w (λ z s. Goes [] (on (put k z s)))) rest

  -- a mark
  pub met_mark : (c n : ℕ) (out : List ℤ) (m : Machine) (p l : ℕ) (o : Outcome) → m.place ≡ p → slice_get g.code p ≡ Some (Mark l) → Met g c out (on m) n o → Met g c out m n o
  met_mark c n out m p l o at h rest = met_free c n out m (on m) o (does m p (Mark l) at h) rest

  -- the mark at the head of a loop or of a function, which pays
  pub met_head : (c n : ℕ) (out : List ℤ) (m : Machine) (p l : ℕ) (o : Outcome) → m.place ≡ p → slice_get g.code p ≡ Some (Mark l) → Met g (c + g.weight) out (on m) n o → Met g c out m n o
  met_head c n out m p l o at h rest = meets_step steps g.weight c out m (on m) [] n o (does m p (Mark l) at h) (subst (λ xs. Met g (c + g.weight) xs (on m) n o) (sym (append-nil out)) rest)

  -- a jump to a label
  pub met_go : (c n : ℕ) (out : List ℤ) (m : Machine) (p q l : ℕ) (o : Outcome) → m.place ≡ p → slice_get g.code p ≡ Some (Jump l) → place_of g.code l ≡ Some q → Met g c out (at_place q m) n o → Met g c out m n o
  met_go c n out m p q l o at h to rest = met_free c n out m (at_place q m) o (does m p (Jump l) at h ∙ ap (λ z. at_mark z m) to) rest

  label_by : (a l : ℕ) → (if int_lt (pos a +ℤ pos l) (pos a) then None else Some (unsigned_abs ((pos a +ℤ pos l) -ℤ pos a))) ≡ Some l
  label_by a l =
      let not_below : int_lt (pos a +ℤ pos l) (pos a) ≡ false = le-ltb (a + l) a (omega arith) in
      let e : (pos a +ℤ pos l) -ℤ pos a ≡ pos l = omega (arith, ints) in
      ap (λ b. if b then None else Some (unsigned_abs ((pos a +ℤ pos l) -ℤ pos a))) not_below ∙ ap (λ z. Some (unsigned_abs z)) e

  -- a label's value is that label
  pub label_is : (l : ℕ) → label_of (label_value l) ≡ Some l
  label_is l = label_by (2 ^ 32) l

  -- a jump to the label in a cell
  pub met_back : (c n : ℕ) (out : List ℤ) (m : Machine) (p q k l : ℕ) (o : Outcome) → m.place ≡ p → slice_get g.code p ≡ Some (JumpCell k) → held m k ≡ label_value l → place_of g.code l ≡ Some q → Met g c out (at_place q m) n o → Met g c out m n o
  met_back c n out m p q k l o at h cell to rest =
      met_free c n out m (at_place q m) o
      (does m p (JumpCell k) at h ∙ ap (λ v. at_mark (place_by g.code (label_of v)) m) cell ∙ ap (λ v. at_mark (place_by g.code v) m) (label_is l) ∙ ap (λ z. at_mark z m) to)
      rest

  -- a number is put out
  pub met_out : (c n : ℕ) (out : List ℤ) (m : Machine) (p : ℕ) (t : Node) (z : ℤ) (o : Outcome) → m.place ≡ p → slice_get g.code p ≡ Some (Out t) → IsNumber g.bits z → Worth t z m → Met g c (out ++ z ∷ []) (on m) n o → Met g c out m n o
  met_out c n out m p t z o at h is_number w rest =
      meets_free steps g.weight c out m (on m) (z ∷ []) n o
      (does m p (Out t) at h
      ∙ w (λ z s. only (is_numeral z) (Goes (number g.bits z ∷ []) (on s)))
      ∙ only_numeral z (Goes (number g.bits z ∷ []) (on m)) is_number
      ∙ ap (λ v. Goes (v ∷ []) (on m)) (number_of g.bits z is.width is_number))
      rest

  -- a value goes into an array's cell
  pub met_store : (c n : ℕ) (out : List ℤ) (m : Machine) (p : ℕ) (t u : Node) (a : ℤ) (k : ℕ) (z : ℤ) (o : Outcome) → m.place ≡ p → slice_get g.code p ≡ Some (Store t u) → IsNumber g.bits a → address g.bits a ≡ k → is_inside g.arrays k ≡ true → Worth t a m → Worth u z m → Met g c out (on (put k z m)) n o → Met g c out m n o
  met_store c n out m p t u a k z o at h is_number cell inside wt wu rest =
      met_free c n out m (on (put k z m)) o
      (does m p (Store t u) at h
      ∙ wt (λ a s. only (is_numeral a) (value g.arrays g.bits u (λ z s. only (is_inside g.arrays (address g.bits a)) (Goes [] (on (put (address g.bits a) z s)))) s))
      ∙ only_numeral a (value g.arrays g.bits u (λ z s. only (is_inside g.arrays (address g.bits a)) (Goes [] (on (put (address g.bits a) z s)))) m) is_number
      ∙ wu (λ z s. only (is_inside g.arrays (address g.bits a)) (Goes [] (on (put (address g.bits a) z s))))
      ∙ ap (λ j. only (is_inside g.arrays j) (Goes [] (on (put j z m)))) cell
      ∙ ap (λ b. only b (Goes [] (on (put k z m)))) inside)
      rest

  -- a branch
  pub met_branch : (c n : ℕ) (out : List ℤ) (m : Machine) (p q l : ℕ) (r : Rel) (t u : Node) (x y : ℤ) (b : Bool) (o : Outcome) → m.place ≡ p → slice_get g.code p ≡ Some (Branch r t u l) → place_of g.code l ≡ Some q → IsNumber g.bits x → IsNumber g.bits y → Worth t x m → Worth u y m → holds r x y ≡ b
      → Met g c out (if b then at_place q m else on m) n o
      → Met g c out m n o
  met_branch c n out m p q l r t u x y b o at h to x_number y_number wt wu e rest =
      met_free c n out m (if b then at_place q m else on m) o
      (does m p (Branch r t u l) at h
      ∙ wt (λ x s. only (is_numeral x) (value g.arrays g.bits u (λ y s. only (is_numeral y) (if holds r (number g.bits x) (number g.bits y) then at_mark (place_of g.code l) s else Goes [] (on s))) s))
      ∙ only_numeral x (value g.arrays g.bits u (λ y s. only (is_numeral y) (if holds r (number g.bits x) (number g.bits y) then at_mark (place_of g.code l) s else Goes [] (on s))) m) x_number
      ∙ wu (λ y s. only (is_numeral y) (if holds r (number g.bits x) (number g.bits y) then at_mark (place_of g.code l) s else Goes [] (on s)))
      ∙ only_numeral y (if holds r (number g.bits x) (number g.bits y) then at_mark (place_of g.code l) m else Goes [] (on m)) y_number
      ∙ ap (λ v. if holds r v (number g.bits y) then at_mark (place_of g.code l) m else Goes [] (on m)) (number_of g.bits x is.width x_number)
      ∙ ap (λ v. if holds r x v then at_mark (place_of g.code l) m else Goes [] (on m)) (number_of g.bits y is.width y_number)
      ∙ ap (λ b. if b then at_mark (place_of g.code l) m else Goes [] (on m)) e
      ∙ ap (λ i. if b then at_mark i m else Goes [] (on m)) to
      ∙ chosen b (at_place q m) (on m))
      rest
    where
      chosen : (b : Bool) (u v : Machine) → (if b then Goes [] u else Goes [] v) ≡ Goes [] (if b then u else v)
      chosen true u v = refl
      chosen false u v = refl

  -- at the trap it stops
  pub met_trap : (c n : ℕ) (out : List ℤ) (m : Machine) (p : ℕ) → m.place ≡ p → slice_get g.code p ≡ Some (Mark g.trap) → slice_get g.code (suc p) ≡ Some (Halt 1) → Met g c out m n (record { out = out; stop = stops.Trap 1 })
  met_trap c n out m p at h i =
      met_mark c n out m p g.trap _ at h (meets_end steps g.weight c out (on m) n (stops.Trap 1) is.some (does (on m) (suc p) (Halt 1) (next_place m p (suc p) at refl) i))
