-- The steps of an expression leave its tree worth its value, and a condition goes where it says.
use Rattle.std.proofs.Common.{◌≡◌, ℕ, zero, suc, ◌+◌, ◌-◌, ◌^◌, ◌<◌, ◌≤◌, ℤ, pos, negsuc, List, [], ◌∷◌, ◌++◌, length, Bool, true, false, not, ◌&&◌, ◌||◌, Some, None, refl, ap, sym, ◌∙◌, subst, true≢false, arith}
use Rattle.std.specs.Prelude.{slice_get, nat_lt, int_lt, int_le, unsigned_abs, leb, ltb, ◌==◌, if◌then◌else◌}
use Rattle.std.proofs.lemmas.Bool.{or_left, or_right, and_from, and_right, ltb-true, ltb-false, lt-ltb, le-ltb, le-leb, lt-leb, ne_eqb}
use Rattle.std.proofs.lemmas.Int.{ints}
use Rattle.std.proofs.Math.Pow.{pow_mono}
use Rattle.nk_outside.specs.Outcome.{Outcome}
use Rattle.nk_outside.specs.declared.stop.Stop.TheVariants as stops
use Rattle.ir_core.specs.Operator.{wrap, prefixed, shifted, arithmetic, holds}
use Rattle.ir_core.specs.declared.operator.Prefix.{Prefix}
use Rattle.ir_core.specs.declared.operator.Shift.{Shift}
use Rattle.ir_core.specs.declared.operator.Arith.{Arith}
use Rattle.ir_core.specs.declared.operator.Arith.TheVariants as operator
use Rattle.ir_core.specs.declared.relation.Rel.{Rel}
use Rattle.ir_core.specs.declared.relation.Rel.TheVariants as rel
use Rattle.ir_core.specs.Inputs.{IsNumber}
use Rattle.ir_run.specs.Node.{Node, Const, Base, Label, Cell, In, Load, Unary, Binary}
use Rattle.ir_run.specs.Entry.{Entry, Branch, Jump, Mark}
use Rattle.ir_run.specs.Entry as entry
use Rattle.ir_run.specs.Runs.{Goes}
use Rattle.ir_run.specs.Run.{place_of, at_place, on, put, wants}
use Rattle.ir_run.specs.Value.{held, label_value, number, address}
use Rattle.ir_run.specs.Value as machine
use Rattle.ir_run.specs.Strict.{is_inside, is_numeral, only}
use Rattle.ir_run.proofs.Agreement.{meets_end}
use Rattle.c_tree.specs.declared.meaning.Place.{Place}
use Rattle.c_tree.specs.declared.meaning.Place.TheVariants as places
use Rattle.c_tree.specs.Program.{Term, Terms, Function, size}
use Rattle.c_tree.specs.Program as program
use Rattle.c_tree.specs.Meaning as source
use Rattle.c_tree.specs.Meaning.{Calls, Next, NextOf, with_arguments, is_true, tested, values}
use Rattle.c_tree.specs.Code.{Frame, Aim, Value, When, Unless, Piece, used, in_cell, is_saved, scalar_read, one_if, has_call, have_call, cells, argument_cells, marks, argument_marks, AsValue, IfHolds, IfFails, element_address, is_below_length, index_steps, shifted_tree, opposite, passed, jump_steps, call_steps, cell_of, piece, passing}
use Rattle.c_lowered.specs.Sound.{IsArray, IsScalar, Answers, count, SoundTerm, SoundTerms}
use Rattle.c_lowered.proofs.Numbers.{wrap_is_number, small_is_number, prefixed_number, any_shift_number, arithmetic_number, number_range}
use Rattle.c_agree.proofs.World.{Machine, Stands, Ground, IsGround, IsFunction, function_frame, Here, IsHere, layout_of, source_cell, cell_at, Fits, Met, MetFrom, Same, IsWorth, CallsMet, Aimed, Held, After, env, PieceMet, PassingMet, JumpMet, IndexMet}
use Rattle.c_agree.proofs.Stands.{split, put_same, put_other, number_of, element_number, element_cell, fits_at, fits_on, fits_jump, fits_set, fits_assign, Worth, does, only_numeral, met_set, met_mark, met_go, met_branch, met_trap, met_free, steps}
use Rattle.c_agree.proofs.Frame.{same_refl, same_more, same_any, same_trans, same_both, same_first, same_set, same_on, same_jump, worth_later, worth_now, worth_number, worth_unary, worth_shifted, worth_binary, plain, there, same_cell, worth_cell, held_same}

-- ---- tests

not_not : (b : Bool) → not (not b) ≡ b
not_not true = refl
not_not false = refl

not_true : (b : Bool) → not b ≡ true → b ≡ false
not_true true e = sym e
not_true false e = refl

not_false : (b : Bool) → not b ≡ false → b ≡ true
not_false true e = refl
not_false false e = sym e

leb_is : (a b : ℕ) → leb a b ≡ not (ltb b a)
leb_is a b = by_test (ltb b a) refl
  where
    by_test : (t : Bool) → ltb b a ≡ t → leb a b ≡ not (ltb b a)
    by_test true e = lt-leb a b (ltb-true b a e) ∙ sym (ap not e)
    by_test false e = le-leb a b (ltb-false b a e) ∙ sym (ap not e)

le_is : (x y : ℤ) → int_le x y ≡ not (int_lt y x)
le_is (pos a) (pos b) = leb_is a b
le_is (pos a) (negsuc b) = refl
le_is (negsuc a) (pos b) = refl
le_is (negsuc a) (negsuc b) = leb_is b a

lt_is : (x y : ℤ) → int_lt x y ≡ not (int_le y x)
lt_is x y = sym (not_not (int_lt x y)) ∙ ap not (sym (le_is y x))

-- the opposite relation holds where the relation fails
pub opposite_holds : (r : Rel) (x y : ℤ) → holds (opposite r) x y ≡ not (holds r x y)
opposite_holds rel.Eq x y = refl
opposite_holds rel.Ne x y = sym (not_not (int_le x y && int_le y x))
opposite_holds rel.Lt x y = le_is y x
opposite_holds rel.Le x y = lt_is y x
opposite_holds rel.Gt x y = le_is x y
opposite_holds rel.Ge x y = lt_is x y

zero_is : (z : ℤ) → (int_le z (pos 0) && int_le (pos 0) z) ≡ (unsigned_abs z == 0)
zero_is (pos zero) = refl
zero_is (pos (suc a)) = ap (λ b. b && int_le (pos 0) (pos (suc a))) (lt-leb (suc a) 0 (omega arith)) ∙ sym (ne_eqb (suc a) 0 (λ e. omega arith))
zero_is (negsuc a) = sym (ne_eqb (suc a) 0 (λ e. omega arith))

-- a number is true where it isn't 0
pub true_holds : (z : ℤ) → holds rel.Ne z (pos 0) ≡ is_true z
true_holds z = ap not (zero_is z)

-- and false where it's 0
pub false_holds : (z : ℤ) → holds rel.Eq z (pos 0) ≡ not (is_true z)
false_holds z = zero_is z ∙ sym (not_not (unsigned_abs z == 0))

-- a truth value is true where it is
pub truth_is : (b : Bool) → is_true (source.truth b) ≡ b
truth_is true = refl
truth_is false = refl

-- ---- places

-- the first cell of a variable
pub cell_of_is : (g : Ground) (h : Here) (p : Place) → cell_of (layout_of g h) p ≡ cell_at h p
cell_of_is g h (places.Global k) = refl
cell_of_is g h (places.Local k) = refl

module _ (g : Ground) (is : IsGround g) where
  -- a small number is one
  pub const_worth : (m : Machine) (k : ℕ) → k < 2 ^ (g.bits - 1) → Worth g is (Const (pos k)) (pos k) m
  const_worth m k lt go = ap (λ v. go v m) (small_is_number g.bits k is.width lt)

  half_big : 2 ^ 15 ≤ 2 ^ (g.bits - 1)
  half_big = pow_mono {i = 15} {j = g.bits - 1} (let w = is.width.0 in omega (arith, w))

  -- 1 is below half of the numbers of n bits
  pub one_small : 1 < 2 ^ (g.bits - 1)
  one_small = let b = half_big in omega (arith, b)

  -- so is 0
  pub zero_small : 0 < 2 ^ (g.bits - 1)
  zero_small = let b = half_big in omega (arith, b)

  -- 0 is a number of n bits
  pub zero_number : IsNumber g.bits (pos 0)
  zero_number = small_is_number g.bits 0 is.width zero_small

  -- 1 is one
  pub one_number : IsNumber g.bits (pos 1)
  one_number = small_is_number g.bits 1 is.width one_small

  -- a cell is worth what it holds
  pub cell_worth : (m : Machine) (k : ℕ) (z : ℤ) → held m k ≡ z → Worth g is (Cell k) z m
  cell_worth m k z e go = ap (λ v. go v m) e

module _ (g : Ground) (is : IsGround g) (h : Here) (at : IsHere g h) where
  -- a scalar's cell in the memory is there
  pub scalar_below : (p : Place) → IsScalar h.world p → source_cell h p < g.memory
  scalar_below p e = let i = (at.placed p None e 0 (omega arith)).below in omega (arith, i)

  -- it's the cell of the scalar's cell in the memory
  pub scalar_home : (p : Place) → IsScalar h.world p → g.home (source_cell h p) ≡ cell_at h p
  scalar_home p e =
      let one : source_cell h p ≡ source_cell h p + 0 = omega arith in
      let two : cell_at h p + 0 ≡ cell_at h p = omega arith in
      ap g.home one ∙ (at.placed p None e 0 (omega arith)).home ∙ two

  -- a local scalar is the function's own
  pub scalar_local : (k : ℕ) → IsScalar h.world (places.Local k) → g.owner (cell_at h (places.Local k)) ≡ h.rank
  scalar_local k e =
      let two : cell_at h (places.Local k) ≡ cell_at h (places.Local k) + 0 = omega arith in
      ap g.owner two ∙ at.local (places.Local k) None e tt 0 (omega arith)

  -- an element's cell fits a number of n bits
  pub element_low : (p : Place) (n j : ℕ) → IsArray h.world p n → j < n → cell_at h p + j < 2 ^ g.bits
  element_low p n j e lt =
      let i = at.placed p (Some n) e j lt in
      let a = is.homes (source_cell h p + j) i.below in
      let b = i.home in
      let c = is.room in
      omega (arith, a, b, c)

  -- the address of an element whose index is in a cell
  pub element_value : (p : Place) (s j : ℕ) (m : Machine) → held m s ≡ pos j → IsNumber g.bits (pos j) → Worth g is (element_address (layout_of g h) p s) (element_number g.bits (cell_at h p) j) m
  element_value p s j m cell j_number =
      subst (λ b. Worth g is (Binary operator.Add (Cell s) (Base b)) (element_number g.bits (cell_at h p) j) m) (sym (cell_of_is g h p)) (λ go.
      let first = wrap g.bits (pos (cell_at h p)) in
      let first_number = wrap_is_number g.bits (pos (cell_at h p)) is.width in
      ap (λ v. only (is_numeral v) (only (is_numeral first) (go (arithmetic g.bits operator.Add (number g.bits v) (number g.bits first)) m))) cell
      ∙ only_numeral g is (pos j) (only (is_numeral first) (go (arithmetic g.bits operator.Add (number g.bits (pos j)) (number g.bits first)) m)) j_number
      ∙ only_numeral g is first (go (arithmetic g.bits operator.Add (number g.bits (pos j)) (number g.bits first)) m) first_number
      ∙ ap (λ v. go (arithmetic g.bits operator.Add v (number g.bits first)) m) (number_of g.bits (pos j) is.width j_number)
      ∙ ap (λ v. go (arithmetic g.bits operator.Add (pos j) v) m) (number_of g.bits first is.width first_number))

  -- it's a number of n bits
  pub element_is_number : (p : Place) (j : ℕ) → IsNumber g.bits (element_number g.bits (cell_at h p) j)
  element_is_number p j = wrap_is_number g.bits _ is.width

  -- the address of that number is the element's cell
  pub element_is : (p : Place) (n j : ℕ) → IsArray h.world p n → j < n → address g.bits (element_number g.bits (cell_at h p) j) ≡ cell_at h p + j
  element_is p n j e lt = element_cell g.bits (cell_at h p) j is.width (element_low p n j e lt)

  -- an element whose index is in a cell
  pub load_value : (p : Place) (n s j : ℕ) (z : ℤ) (m : Machine) → IsArray h.world p n → j < n → held m s ≡ pos j → IsNumber g.bits (pos j) → held m (cell_at h p + j) ≡ z → Worth g is (Load (element_address (layout_of g h) p s)) z m
  load_value p n s j z m e lt cell j_number element go =
      let a = element_number g.bits (cell_at h p) j in
      element_value p s j m cell j_number (λ a s. only (is_numeral a) (only (is_inside g.arrays (address g.bits a)) (go (held s (address g.bits a)) s)))
      ∙ only_numeral g is a (only (is_inside g.arrays (address g.bits a)) (go (held m (address g.bits a)) m)) (element_is_number p j)
      ∙ ap (λ k. only (is_inside g.arrays k) (go (held m k) m)) (element_is p n j e lt)
      ∙ ap (λ b. only b (go (held m (cell_at h p + j)) m)) (at.array p n e j lt)
      ∙ ap (λ v. go v m) element

  -- an element holds the same on both sides
  pub element_held : (p : Place) (n j t q : ℕ) (st : source.State) (m : Machine) → IsArray h.world p n → j < n → Fits g t st m q → held m (cell_at h p + j) ≡ source.held st (source_cell h p + j)
  element_held p n j t q st m e lt fits = let i = at.placed p (Some n) e j lt in ap (λ k. held m k) (sym i.home) ∙ fits.same (source_cell h p + j) i.below

  -- a scalar holds the same on both sides
  pub scalar_held : (p : Place) (t q : ℕ) (st : source.State) (m : Machine) → IsScalar h.world p → Fits g t st m q → held m (cell_at h p) ≡ source.held st (source_cell h p)
  scalar_held p t q st m e fits = ap (λ k. held m k) (sym (scalar_home p e)) ∙ fits.same (source_cell h p) (scalar_below p e)

  -- an index goes into its cell and is tested, whatever the length
  pub index_tested : (n : ℕ) (later : Bool) (s p q c t : ℕ) (x : ℤ) (u : Node) (st : source.State) (m : Machine) (next : ℕ → Next) → h.lo ≤ s → s < h.hi
      → Stands g.code p (entry.Set s u ∷ Branch rel.Lt (Cell s) (Const (pos 0)) g.trap ∷ is_below_length (layout_of g h) n s ∷ []) q → Fits g t st m p
      → IsNumber g.bits x → IsWorth g h later u s x m
      → ((j : ℕ) (m' : Machine) → j < n → Fits g t st m' q → Same g h false s m m' → held m' s ≡ pos j → IsNumber g.bits (pos j) → MetFrom g c m' st (next j))
      → MetFrom g c m st (tested n next x)
  index_tested n later s p q c t x u st m next low top stands fits x_number worth_u rest =
      met_set g is c st.turns st.out m p s u x _ fits.place stands.0 (worth_now g h later u s x m worth_u) (behind x x_number)
    where
      p2 : ℕ
      p2 = suc (suc p)

      written : (z : ℤ) → held (on (put s z m)) s ≡ z
      written z = put_same m s z (there g h at s m low top fits.cells)

      fits_one : (z : ℤ) → Fits g t st (on (put s z m)) (suc p)
      fits_one z = fits_set g is t st m p (suc p) s z (plain g h at s low top) refl fits

      same_one : (z : ℤ) → Same g h false s m (on (put s z m))
      same_one z = same_set g h false s s z m m (omega arith) top (same_refl g h false s m)

      inside : (j : ℕ) (m2 : Machine) → j < n → Met g c st.out m2 st.turns (next j st) → Met g c st.out m2 st.turns (tested n next (pos j) st)
      inside j m2 lt met =
          subst (λ b. Met g c st.out m2 st.turns (source.either b (next j) (source.stopped (stops.Trap 1)) st)) (sym (and_from (int_le (pos 0) (pos j)) (int_lt (pos j) (pos n)) (le-leb 0 j (omega arith)) (lt-ltb j n lt))) met

      outside : (j : ℕ) (m2 : Machine) → int_lt (pos j) (pos n) ≡ false → Met g c st.out m2 st.turns (record { out = st.out; stop = stops.Trap 1 }) → Met g c st.out m2 st.turns (tested n next (pos j) st)
      outside j m2 e met = subst (λ b. Met g c st.out m2 st.turns (source.either b (next j) (source.stopped (stops.Trap 1)) st)) (sym (and_right (int_le (pos 0) (pos j)) (int_lt (pos j) (pos n)) e)) met

      -- the test against the length
      by_length : (j : ℕ) (m2 : Machine) → IsNumber g.bits (pos j) → Fits g t st m2 p2 → Same g h false s m m2 → held m2 s ≡ pos j → n < 2 ^ (g.bits - 1) → slice_get g.code p2 ≡ Some (Branch rel.Ge (Cell s) (Const (pos n)) g.trap)
          → (b : Bool) → ltb j n ≡ b → Met g c st.out m2 st.turns (tested n next (pos j) st)
      by_length j m2 j_number f same cell small i true e =
          let trap = is.trap p2 rel.Ge (Cell s) (Const (pos n)) i in
          inside j m2 (ltb-true j n e)
          (met_branch g is c st.turns st.out m2 p2 trap.0 g.trap rel.Ge (Cell s) (Const (pos n)) (pos j) (pos n) false _ f.place i (is.once trap.0 g.trap trap.1) j_number (small_is_number g.bits n is.width small) (cell_worth g is m2 s (pos j) cell) (const_worth g is m2 n small) (lt-leb n j (ltb-true j n e))
          (rest j (on m2) (ltb-true j n e) (fits_on g is t st m2 p2 q stands.1.1.1 f) (same_on g h false s m m2 same) cell j_number))
      by_length j m2 j_number f same cell small i false e =
          let trap = is.trap p2 rel.Ge (Cell s) (Const (pos n)) i in
          outside j m2 e
          (met_branch g is c st.turns st.out m2 p2 trap.0 g.trap rel.Ge (Cell s) (Const (pos n)) (pos j) (pos n) true _ f.place i (is.once trap.0 g.trap trap.1) j_number (small_is_number g.bits n is.width small) (cell_worth g is m2 s (pos j) cell) (const_worth g is m2 n small) (le-leb n j (ltb-false j n e))
          (met_trap g is c st.turns st.out (at_place trap.0 m2) trap.0 refl trap.1 trap.2))

      last : (j : ℕ) (m2 : Machine) → IsNumber g.bits (pos j) → Fits g t st m2 p2 → Same g h false s m m2 → held m2 s ≡ pos j → (b : Bool) → nat_lt n (2 ^ (g.bits - 1)) ≡ b
          → slice_get g.code p2 ≡ Some (if b then Branch rel.Ge (Cell s) (Const (pos n)) g.trap else Branch rel.Lt (Cell s) (Const (pos 0)) g.trap) → Met g c st.out m2 st.turns (tested n next (pos j) st)
      last j m2 j_number f same cell true e i = by_length j m2 j_number f same cell (ltb-true n (2 ^ (g.bits - 1)) e) i (ltb j n) refl
      last j m2 j_number f same cell false e i =
          let trap = is.trap p2 rel.Lt (Cell s) (Const (pos 0)) i in
          let long = ltb-false n (2 ^ (g.bits - 1)) e in
          let range = number_range g.bits (pos j) is.width j_number in
          let lt : j < n = omega (arith, ints, long, range.1) in
          inside j m2 lt
          (met_branch g is c st.turns st.out m2 p2 trap.0 g.trap rel.Lt (Cell s) (Const (pos 0)) (pos j) (pos 0) false _ f.place i (is.once trap.0 g.trap trap.1) j_number (zero_number g is) (cell_worth g is m2 s (pos j) cell) (const_worth g is m2 0 (zero_small g is)) (le-ltb j 0 (omega arith))
          (rest j (on m2) lt (fits_on g is t st m2 p2 q stands.1.1.1 f) (same_on g h false s m m2 same) cell j_number))

      -- the test against 0
      behind : (x : ℤ) → IsNumber g.bits x → Met g c st.out (on (put s x m)) st.turns (tested n next x st)
      behind (negsuc a) a_number =
          let m1 : Machine = on (put s (negsuc a) m) in
          let f = fits_one (negsuc a) in
          let trap = is.trap (suc p) rel.Lt (Cell s) (Const (pos 0)) stands.1.0 in
          met_branch g is c st.turns st.out m1 (suc p) trap.0 g.trap rel.Lt (Cell s) (Const (pos 0)) (negsuc a) (pos 0) true _ f.place stands.1.0 (is.once trap.0 g.trap trap.1) a_number (zero_number g is) (cell_worth g is m1 s (negsuc a) (written (negsuc a))) (const_worth g is m1 0 (zero_small g is)) refl
          (met_trap g is c st.turns st.out (at_place trap.0 m1) trap.0 refl trap.1 trap.2)
      behind (pos j) j_number =
          let m1 : Machine = on (put s (pos j) m) in
          let f = fits_one (pos j) in
          let trap = is.trap (suc p) rel.Lt (Cell s) (Const (pos 0)) stands.1.0 in
          met_branch g is c st.turns st.out m1 (suc p) trap.0 g.trap rel.Lt (Cell s) (Const (pos 0)) (pos j) (pos 0) false _ f.place stands.1.0 (is.once trap.0 g.trap trap.1) j_number (zero_number g is) (cell_worth g is m1 s (pos j) (written (pos j))) (const_worth g is m1 0 (zero_small g is)) (le-ltb j 0 (omega arith))
          (last j (on m1) j_number (fits_on g is t st m1 (suc p) p2 refl f) (same_on g h false s m m1 (same_one (pos j))) (written (pos j)) (nat_lt n (2 ^ (g.bits - 1))) refl stands.1.1.0)

  -- a branch that is the last of a condition
  pub jumped_met : (jumps called : Bool) (k : ℕ) (r : Rel) (u v : Node) (x y : ℤ) (l p q zp c t : ℕ) (st : source.State) (m0 m : Machine) (o : Outcome) → holds r x y ≡ jumps → Stands g.code p (Branch r u v l ∷ []) q → place_of g.code l ≡ Some zp → Fits g t st m p
      → IsNumber g.bits x → IsNumber g.bits y → Worth g is u x m → Worth g is v y m → Same g h called k m0 m
      → (jumps ≡ true → (m' : Machine) → Fits g t st m' zp → Same g h called k m0 m' → Met g c st.out m' st.turns o)
      → (jumps ≡ false → (m' : Machine) → Fits g t st m' q → Same g h called k m0 m' → Met g c st.out m' st.turns o)
      → Met g c st.out m st.turns o
  jumped_met true called k r u v x y l p q zp c t st m0 m o e stands place fits x_number y_number wu wv same jump fall =
      met_branch g is c st.turns st.out m p zp l r u v x y true o fits.place stands.0 place x_number y_number wu wv e (jump refl (at_place zp m) (fits_jump g is t st m p zp fits) (same_jump g h called k zp m0 m same))
  jumped_met false called k r u v x y l p q zp c t st m0 m o e stands place fits x_number y_number wu wv same jump fall =
      met_branch g is c st.turns st.out m p zp l r u v x y false o fits.place stands.0 place x_number y_number wu wv e (fall refl (on m) (fits_on g is t st m p q stands.1 fits) (same_on g h called k m0 m same))

  -- the read of a scalar, in a step or not
  read_met : (saved later : Bool) (k x y : ℕ) → x < g.memory → g.home x ≡ y → (saved ≡ false → later ≡ true → h.rank ≤ g.owner y) → h.lo ≤ k → k + one_if saved ≤ h.hi → (p q c t : ℕ) (st : source.State) (m : Machine) (next : NextOf) → Stands g.code p (scalar_read saved k y).steps q → Fits g t st m p
      → ((v : ℤ) (st' : source.State) (m' : Machine) → IsNumber g.bits v → Fits g t st' m' q → Same g h false k m m' → IsWorth g h later (scalar_read saved k y).tree (k + one_if saved) v m' → MetFrom g c m' st' (next v))
      → MetFrom g c m st (next (source.held st x))
  read_met true later k x y below home safe low top p q c t st m next stands fits rest =
      let v = source.held st x in
      let cell : held m y ≡ v = ap (λ n. held m n) (sym home) ∙ fits.same x below in
      let m1 : Machine = on (put k v m) in
      met_set g is c st.turns st.out m p k (Cell y) v _ fits.place stands.0 (cell_worth g is m y v cell)
      (rest v st m1 (fits.numbers x) (fits_set g is t st m p q k v (plain g h at k low (omega arith)) stands.1 fits)
      (same_set g h false k k v m m (omega arith) (omega arith) (same_refl g h false k m))
      (worth_cell g h at later k (k + 1) v m1 low (omega arith) top (put_same m k v (there g h at k m low (omega arith) fits.cells))))
  read_met false later k x y below home safe low top p q c t st m next stands fits rest =
      let v = source.held st x in
      let cell : held m y ≡ v = ap (λ n. held m n) (sym home) ∙ fits.same x below in
      rest v st m (fits.numbers x) (fits_at g is t st m p q stands fits) (same_refl g h false k m)
      (record { by = λ n i go. ap (λ v. go v n) (i.by y (λ e. safe refl e) (λ le lt. plain g h at y (omega arith) lt (record { variable = x; below = below; is = home })) ∙ cell) })

  -- an input goes into a cell
  input_met : (later : Bool) (k top p q c t : ℕ) (st : source.State) (m : Machine) (next : NextOf) → h.lo ≤ k → k < top → top ≤ h.hi → Stands g.code p (entry.Set k In ∷ []) q → Fits g t st m p
      → ((v : ℤ) (st' : source.State) (m' : Machine) → IsNumber g.bits v → Fits g t st' m' q → Same g h false k m m' → IsWorth g h later (Cell k) top v m' → MetFrom g c m' st' (next v))
      → (xs : List ℤ) → st.input ≡ xs → Met g c st.out m st.turns (source.take_next xs next st)
  input_met later k top p q c t st m next low below high stands fits rest [] e =
      meets_end (steps g is) g.weight c st.out m st.turns stops.Wants is.some (does g is m p (entry.Set k In) fits.place stands.0 ∙ ap (λ xs. machine.take_next wants xs (λ z s. Goes [] (on (put k z s))) m) (fits.input ∙ e))
  input_met later k top p q c t st m next low below high stands fits rest (z ∷ zs) e =
      let m1 : Machine = record { place = m.place; cells = m.cells; input = zs } in
      let st1 : source.State = record { memory = st.memory; input = zs; out = st.out; turns = st.turns } in
      let m2 : Machine = on (put k z m1) in
      let f1 : Fits g t st1 m1 p = record { place = fits.place; cells = fits.cells; memory = fits.memory; same = fits.same; numbers = fits.numbers; input = refl; inputs = λ j v here. fits.inputs (suc j) v (ap (λ xs. slice_get xs (suc j)) e ∙ here); turns = fits.turns } in
      met_free g is c st.turns st.out m m2 _ (does g is m p (entry.Set k In) fits.place stands.0 ∙ ap (λ xs. machine.take_next wants xs (λ z s. Goes [] (on (put k z s))) m) (fits.input ∙ e))
      (rest z st1 m2 (fits.inputs 0 z (ap (λ xs. slice_get xs 0) e)) (fits_set g is t st1 m1 p q k z (plain g h at k low (omega arith)) stands.1 f1)
      (record { by = (same_set g h false k k z m m (omega arith) (omega arith) (same_refl g h false k m)).by })
      (worth_cell g h at later k top z m2 low below high (put_same m1 k z (there g h at k m1 low (omega arith) fits.cells))))

  -- values in step cells go to parameters, whose cells follow one another
  passed_met : (rank x cell : ℕ) (ks : List ℕ) (zs : List ℤ) (s p q c t n : ℕ) (out : List ℤ) (st : source.State) (m : Machine) (o : Outcome) → ((j : ℕ) → j < length zs → x + j < g.memory) → ((j : ℕ) → j < length zs → g.home (x + j) ≡ cell + j) → ((j : ℕ) → j < length zs → g.owner (g.home (x + j)) ≡ rank)
      → s ≤ h.hi → Held g h s ks zs m → Stands g.code p (passed cell ks) q → Fits g t st m p
      → ((m' : Machine) → Fits g t (with_arguments st x zs) m' q → ((k : ℕ) → rank < g.owner k → held m' k ≡ held m k) → Met g c out m' n o)
      → Met g c out m n o
  passed_met rank x cell [] [] s p q c t n out st m o below homes owners top hold stands fits rest = rest m (fits_at g is t st m p q stands fits) (λ k lt. refl)
  passed_met rank x cell [] (z ∷ zs) s p q c t n out st m o below homes owners top hold stands fits rest = absurd hold
  passed_met rank x cell (k ∷ ks) [] s p q c t n out st m o below homes owners top hold stands fits rest = absurd hold
  passed_met rank x cell (k ∷ ks) (z ∷ zs) s p q c t n out st m o below homes owners top hold stands fits rest =
      let here : x + 0 ≡ x = omega arith in
      let x_below : x < g.memory = subst (λ n. n < g.memory) here (below 0 (omega arith)) in
      let home : g.home x ≡ cell = ap g.home (sym here) ∙ homes 0 (omega arith) ∙ plus_zero cell in
      let owned : g.owner cell ≡ rank = ap g.owner (sym home) ∙ ap (λ n. g.owner (g.home n)) (sym here) ∙ owners 0 (omega arith) in
      let m1 : Machine = on (put cell z m) in
      met_set g is c n out m p cell (Cell k) z o fits.place stands.0 (cell_worth g is m k z hold.0)
      (passed_met rank (x + 1) (cell + 1) ks zs s (suc p) q c t n out (source.put st x z) m1 o
      (λ j lt. subst (λ n. n < g.memory) (next_is x j) (below (suc j) (omega arith)))
      (λ j lt. ap g.home (sym (next_is x j)) ∙ homes (suc j) (omega arith) ∙ next_is cell j)
      (λ j lt. ap (λ n. g.owner (g.home n)) (sym (next_is x j)) ∙ owners (suc j) (omega arith))
      top
      (held_same g h s s ks zs m m1 (omega arith) (λ j le lt. put_other m cell j z (λ e. plain g h at j le (omega arith) (record { variable = x; below = x_below; is = home ∙ sym e }))) hold.4)
      stands.1 (subst (λ n. Fits g t (source.put st x z) (on (put n z m)) (suc p)) home (fits_assign g is t st m p (suc p) x z x_below hold.1 refl fits))
      (λ m2 fits2 same2. rest m2 fits2 (λ j lt. same2 j lt ∙ put_other m cell j z (λ e. let o : g.owner j ≡ g.owner cell = ap g.owner e in omega (arith, o, owned)))))
    where
      next_is : (a j : ℕ) → a + suc j ≡ a + 1 + j
      next_is a j = omega arith

      plus_zero : (a : ℕ) → a + 0 ≡ a
      plus_zero a = omega arith

  module _ (calls : Calls) (d : ℕ) where
    -- what statements that leave a value do, where what comes behind begins with the step cell `top`
    abbrev pub Valued : (later called : Bool) → (k top : ℕ) → List Entry → Node → Term → Type 0
    Valued later called k top es tree e = (p q c t : ℕ) (st : source.State) (m : Machine) (next : NextOf) → Stands g.code p es q → t < d → Fits g t st m p
        → ((x : ℤ) (st' : source.State) (m' : Machine) → IsNumber g.bits x → Fits g t st' m' q → Same g h called k m m' → IsWorth g h later tree top x m' → MetFrom g c m' st' (next x))
        → MetFrom g c m st (source.value (env g h calls d) e next)

    -- what statements do that go to a label where a value is true (or false)
    abbrev pub Conditional : (sense called : Bool) → (k label : ℕ) → List Entry → Term → Type 0
    Conditional sense called k label es e = (p q zp c t : ℕ) (st : source.State) (m : Machine) (next : NextOf) → Stands g.code p es q → place_of g.code label ≡ Some zp → t < d → Fits g t st m p
        → ((x : ℤ) (st' : source.State) (m' : Machine) → is_true x ≡ sense → Fits g t st' m' zp → Same g h called k m m' → MetFrom g c m' st' (next x))
        → ((x : ℤ) (st' : source.State) (m' : Machine) → is_true x ≡ not sense → Fits g t st' m' q → Same g h called k m m' → MetFrom g c m' st' (next x))
        → MetFrom g c m st (source.value (env g h calls d) e next)

    -- the same for an expression that is worth 1 or 0
    abbrev pub Decided : (sense called : Bool) → (k label : ℕ) → List Entry → Term → Type 0
    Decided sense called k label es e = (p q zp c t : ℕ) (st : source.State) (m : Machine) (next : NextOf) → Stands g.code p es q → place_of g.code label ≡ Some zp → t < d → Fits g t st m p
        → ((st' : source.State) (m' : Machine) → Fits g t st' m' zp → Same g h called k m m' → MetFrom g c m' st' (next (source.truth sense)))
        → ((st' : source.State) (m' : Machine) → Fits g t st' m' q → Same g h called k m m' → MetFrom g c m' st' (next (source.truth (not sense))))
        → MetFrom g c m st (source.value (env g h calls d) e next)

    -- a value is used as the aim says
    used_met : (later called : Bool) (aim : Aim) (k top : ℕ) (a : Piece) (e : Term) → Valued later called k top a.steps a.tree e → (p q zp c t : ℕ) (st : source.State) (m : Machine) (next : NextOf) → Stands g.code p (used aim a).steps q → Aimed g aim zp → t < d → Fits g t st m p
        → After g h aim later called k top q zp c t m (used aim a).tree next
        → MetFrom g c m st (source.value (env g h calls d) e next)
    used_met later called Value k top a e valued p q zp c t st m next stands aimed lt fits rest = valued p q c t st m next stands lt fits rest
    used_met later called (When l) k top a e valued p q zp c t st m next stands aimed lt fits rest =
        let j = split g.code p q a.steps (Branch rel.Ne a.tree (Const (pos 0)) l ∷ []) stands in
        valued p j.0 c t st m next j.1 lt fits (λ x st1 m1 x_number fits1 same1 worth1.
        jumped_met (is_true x) called k rel.Ne a.tree (Const (pos 0)) x (pos 0) l j.0 q zp c t st1 m m1 _ (true_holds x) j.2 aimed fits1 x_number (zero_number g is) (worth_now g h later a.tree top x m1 worth1) (const_worth g is m1 0 (zero_small g is)) same1
        (λ e m2 fits2 same2. rest.0 x st1 m2 e fits2 same2)
        (λ e m2 fits2 same2. rest.1 x st1 m2 e fits2 same2))
    used_met later called (Unless l) k top a e valued p q zp c t st m next stands aimed lt fits rest =
        let j = split g.code p q a.steps (Branch rel.Eq a.tree (Const (pos 0)) l ∷ []) stands in
        valued p j.0 c t st m next j.1 lt fits (λ x st1 m1 x_number fits1 same1 worth1.
        jumped_met (not (is_true x)) called k rel.Eq a.tree (Const (pos 0)) x (pos 0) l j.0 q zp c t st1 m m1 _ (false_holds x) j.2 aimed fits1 x_number (zero_number g is) (worth_now g h later a.tree top x m1 worth1) (const_worth g is m1 0 (zero_small g is)) same1
        (λ e m2 fits2 same2. rest.0 x st1 m2 (not_true (is_true x) e) fits2 same2)
        (λ e m2 fits2 same2. rest.1 x st1 m2 (not_false (is_true x) e) fits2 same2))

    -- what decides is a condition
    decided_is : (sense called : Bool) (k label : ℕ) (es : List Entry) (e : Term) → Decided sense called k label es e → Conditional sense called k label es e
    decided_is sense called k label es e decided p q zp c t st m next stands place lt fits jump fall =
        decided p q zp c t st m next stands place lt fits
        (λ st1 m1 fits1 same1. jump (source.truth sense) st1 m1 (truth_is sense) fits1 same1)
        (λ st1 m1 fits1 same1. fall (source.truth (not sense)) st1 m1 (truth_is (not sense)) fits1 same1)

    -- what decides, as a value
    truth_met : (later called : Bool) (k top label : ℕ) (es : List Entry) (e : Term) → h.lo ≤ k → k < top → top ≤ h.hi → Decided true called (k + 1) label es e
        → Valued later called k top (entry.Set k (Const (pos 1)) ∷ es ++ entry.Set k (Const (pos 0)) ∷ Mark label ∷ []) (Cell k) e
    truth_met later called k top label es e low below high decided p q c t st m next stands lt fits rest =
        let j = split g.code (suc p) q es (entry.Set k (Const (pos 0)) ∷ Mark label ∷ []) stands.1 in
        let end = suc j.0 in
        let m1 : Machine = on (put k (pos 1) m) in
        let first = same_set g h called k k (pos 1) m m (omega arith) (omega arith) (same_refl g h called k m) in
        met_set g is c st.turns st.out m p k (Const (pos 1)) (pos 1) _ fits.place stands.0 (const_worth g is m 1 (one_small g is))
        (decided (suc p) j.0 end c t st m1 next j.1 (is.once end label j.2.1.0) lt (fits_set g is t st m p (suc p) k (pos 1) (plain g h at k low (omega arith)) refl fits)
        (λ st2 m2 fits2 same2.
        met_mark g is c st2.turns st2.out m2 end label _ fits2.place j.2.1.0
        (rest (pos 1) st2 (on m2) (one_number g is) (fits_on g is t st2 m2 end q j.2.1.1 fits2)
        (same_on g h called k m m2 (same_trans g h called k (k + 1) m m1 m2 (omega arith) first same2))
        (worth_cell g h at later k top (pos 1) (on m2) low below high (same_cell g h at called k (k + 1) (pos 1) m1 m2 low (omega arith) (omega arith) same2 (put_same m k (pos 1) (there g h at k m low (omega arith) fits.cells))))))
        (λ st2 m2 fits2 same2.
        let m3 : Machine = on (put k (pos 0) m2) in
        let fits3 = fits_set g is t st2 m2 j.0 end k (pos 0) (plain g h at k low (omega arith)) refl fits2 in
        met_set g is c st2.turns st2.out m2 j.0 k (Const (pos 0)) (pos 0) _ fits2.place j.2.0 (const_worth g is m2 0 (zero_small g is))
        (met_mark g is c st2.turns st2.out m3 end label _ fits3.place j.2.1.0
        (rest (pos 0) st2 (on m3) (zero_number g is) (fits_on g is t st2 m3 end q j.2.1.1 fits3)
        (same_on g h called k m m3 (same_set g h called k k (pos 0) m m2 (omega arith) (omega arith) (same_trans g h called k (k + 1) m m1 m2 (omega arith) first same2)))
        (worth_cell g h at later k top (pos 0) (on m3) low below high (put_same m2 k (pos 0) (there g h at k m2 low (omega arith) fits2.cells)))))))

    -- ---- `!`, `&&` and `||`

    not_when : (called : Bool) (k label : ℕ) (es : List Entry) (x : Term) → Conditional false called k label es x → Decided true called k label es (program.Not x)
    not_when called k label es x met p q zp c t st m next stands place lt fits jump fall =
        met p q zp c t st m (λ a. next (source.truth (not (is_true a)))) stands place lt fits
        (λ a st1 m1 e fits1 same1. subst (λ b. MetFrom g c m1 st1 (next (source.truth (not b)))) (sym e) (jump st1 m1 fits1 same1))
        (λ a st1 m1 e fits1 same1. subst (λ b. MetFrom g c m1 st1 (next (source.truth (not b)))) (sym e) (fall st1 m1 fits1 same1))

    not_unless : (called : Bool) (k label : ℕ) (es : List Entry) (x : Term) → Conditional true called k label es x → Decided false called k label es (program.Not x)
    not_unless called k label es x met p q zp c t st m next stands place lt fits jump fall =
        met p q zp c t st m (λ a. next (source.truth (not (is_true a)))) stands place lt fits
        (λ a st1 m1 e fits1 same1. subst (λ b. MetFrom g c m1 st1 (next (source.truth (not b)))) (sym e) (jump st1 m1 fits1 same1))
        (λ a st1 m1 e fits1 same1. subst (λ b. MetFrom g c m1 st1 (next (source.truth (not b)))) (sym e) (fall st1 m1 fits1 same1))

    -- how `&&` and `||` go on behind their first part
    abbrev and_next : Term → NextOf → NextOf
    and_next y next a = source.either (is_true a) (source.value (env g h calls d) y (λ b. next (source.truth (is_true b)))) (next (pos 0))

    abbrev or_next : Term → NextOf → NextOf
    or_next y next a = source.either (is_true a) (next (pos 1)) (source.value (env g h calls d) y (λ b. next (source.truth (is_true b))))

    and_by : (c : ℕ) (m : Machine) (st : source.State) (y : Term) (next : NextOf) (a : ℤ) (b : Bool) → is_true a ≡ b → MetFrom g c m st (source.either b (source.value (env g h calls d) y (λ b. next (source.truth (is_true b)))) (next (pos 0))) → MetFrom g c m st (and_next y next a)
    and_by c m st y next a b e met = subst (λ b. MetFrom g c m st (source.either b (source.value (env g h calls d) y (λ b. next (source.truth (is_true b)))) (next (pos 0)))) (sym e) met

    or_by : (c : ℕ) (m : Machine) (st : source.State) (y : Term) (next : NextOf) (a : ℤ) (b : Bool) → is_true a ≡ b → MetFrom g c m st (source.either b (next (pos 1)) (source.value (env g h calls d) y (λ b. next (source.truth (is_true b))))) → MetFrom g c m st (or_next y next a)
    or_by c m st y next a b e met = subst (λ b. MetFrom g c m st (source.either b (next (pos 1)) (source.value (env g h calls d) y (λ b. next (source.truth (is_true b)))))) (sym e) met

    true_by : (c : ℕ) (m : Machine) (st : source.State) (next : NextOf) (a : ℤ) (b : Bool) → is_true a ≡ b → MetFrom g c m st (next (source.truth b)) → MetFrom g c m st (next (source.truth (is_true a)))
    true_by c m st next a b e met = subst (λ b. MetFrom g c m st (next (source.truth b))) (sym e) met

    and_when : (cx cy : Bool) (k k1 past label : ℕ) (xs ys : List Entry) (x y : Term) → k ≤ k1 → Conditional false cx k past xs x → Conditional true cy k1 label ys y → Decided true (cx || cy) k label (xs ++ ys ++ Mark past ∷ []) (program.AndAlso x y)
    and_when cx cy k k1 past label xs ys x y le first second p q zp c t st m next stands place lt fits jump fall =
        let i = split g.code p q (xs ++ ys) (Mark past ∷ []) stands in
        let j = split g.code p i.0 xs ys i.1 in
        first p j.0 i.0 c t st m (and_next y next) j.1 (is.once i.0 past i.2.0) lt fits
        (λ a st1 m1 e fits1 same1.
        and_by c m1 st1 y next a false e
        (met_mark g is c st1.turns st1.out m1 i.0 past _ fits1.place i.2.0
        (fall st1 (on m1) (fits_on g is t st1 m1 i.0 q i.2.1 fits1) (same_on g h (cx || cy) k m m1 (same_first g h cx cy k m m1 same1)))))
        (λ a st1 m1 e fits1 same1.
        and_by c m1 st1 y next a true e
        (second j.0 i.0 zp c t st1 m1 (λ b. next (source.truth (is_true b))) j.2 place lt fits1
        (λ b st2 m2 e2 fits2 same2. true_by c m2 st2 next b true e2 (jump st2 m2 fits2 (same_both g h cx cy k k1 m m1 m2 le same1 same2)))
        (λ b st2 m2 e2 fits2 same2.
        true_by c m2 st2 next b false e2
        (met_mark g is c st2.turns st2.out m2 i.0 past _ fits2.place i.2.0
        (fall st2 (on m2) (fits_on g is t st2 m2 i.0 q i.2.1 fits2) (same_on g h (cx || cy) k m m2 (same_both g h cx cy k k1 m m1 m2 le same1 same2)))))))

    and_unless : (cx cy : Bool) (k k1 label : ℕ) (xs ys : List Entry) (x y : Term) → k ≤ k1 → Conditional false cx k label xs x → Conditional false cy k1 label ys y → Decided false (cx || cy) k label (xs ++ ys) (program.AndAlso x y)
    and_unless cx cy k k1 label xs ys x y le first second p q zp c t st m next stands place lt fits jump fall =
        let j = split g.code p q xs ys stands in
        first p j.0 zp c t st m (and_next y next) j.1 place lt fits
        (λ a st1 m1 e fits1 same1. and_by c m1 st1 y next a false e (jump st1 m1 fits1 (same_first g h cx cy k m m1 same1)))
        (λ a st1 m1 e fits1 same1.
        and_by c m1 st1 y next a true e
        (second j.0 q zp c t st1 m1 (λ b. next (source.truth (is_true b))) j.2 place lt fits1
        (λ b st2 m2 e2 fits2 same2. true_by c m2 st2 next b false e2 (jump st2 m2 fits2 (same_both g h cx cy k k1 m m1 m2 le same1 same2)))
        (λ b st2 m2 e2 fits2 same2. true_by c m2 st2 next b true e2 (fall st2 m2 fits2 (same_both g h cx cy k k1 m m1 m2 le same1 same2)))))

    or_when : (cx cy : Bool) (k k1 label : ℕ) (xs ys : List Entry) (x y : Term) → k ≤ k1 → Conditional true cx k label xs x → Conditional true cy k1 label ys y → Decided true (cx || cy) k label (xs ++ ys) (program.OrElse x y)
    or_when cx cy k k1 label xs ys x y le first second p q zp c t st m next stands place lt fits jump fall =
        let j = split g.code p q xs ys stands in
        first p j.0 zp c t st m (or_next y next) j.1 place lt fits
        (λ a st1 m1 e fits1 same1. or_by c m1 st1 y next a true e (jump st1 m1 fits1 (same_first g h cx cy k m m1 same1)))
        (λ a st1 m1 e fits1 same1.
        or_by c m1 st1 y next a false e
        (second j.0 q zp c t st1 m1 (λ b. next (source.truth (is_true b))) j.2 place lt fits1
        (λ b st2 m2 e2 fits2 same2. true_by c m2 st2 next b true e2 (jump st2 m2 fits2 (same_both g h cx cy k k1 m m1 m2 le same1 same2)))
        (λ b st2 m2 e2 fits2 same2. true_by c m2 st2 next b false e2 (fall st2 m2 fits2 (same_both g h cx cy k k1 m m1 m2 le same1 same2)))))

    or_unless : (cx cy : Bool) (k k1 past label : ℕ) (xs ys : List Entry) (x y : Term) → k ≤ k1 → Conditional true cx k past xs x → Conditional false cy k1 label ys y → Decided false (cx || cy) k label (xs ++ ys ++ Mark past ∷ []) (program.OrElse x y)
    or_unless cx cy k k1 past label xs ys x y le first second p q zp c t st m next stands place lt fits jump fall =
        let i = split g.code p q (xs ++ ys) (Mark past ∷ []) stands in
        let j = split g.code p i.0 xs ys i.1 in
        first p j.0 i.0 c t st m (or_next y next) j.1 (is.once i.0 past i.2.0) lt fits
        (λ a st1 m1 e fits1 same1.
        or_by c m1 st1 y next a true e
        (met_mark g is c st1.turns st1.out m1 i.0 past _ fits1.place i.2.0
        (fall st1 (on m1) (fits_on g is t st1 m1 i.0 q i.2.1 fits1) (same_on g h (cx || cy) k m m1 (same_first g h cx cy k m m1 same1)))))
        (λ a st1 m1 e fits1 same1.
        or_by c m1 st1 y next a false e
        (second j.0 i.0 zp c t st1 m1 (λ b. next (source.truth (is_true b))) j.2 place lt fits1
        (λ b st2 m2 e2 fits2 same2. true_by c m2 st2 next b false e2 (jump st2 m2 fits2 (same_both g h cx cy k k1 m m1 m2 le same1 same2)))
        (λ b st2 m2 e2 fits2 same2.
        true_by c m2 st2 next b true e2
        (met_mark g is c st2.turns st2.out m2 i.0 past _ fits2.place i.2.0
        (fall st2 (on m2) (fits_on g is t st2 m2 i.0 q i.2.1 fits2) (same_on g h (cx || cy) k m m2 (same_both g h cx cy k k1 m m1 m2 le same1 same2)))))))

    -- ---- two values

    two_met : (later cx cy : Bool) (k k1 top : ℕ) (xs ys : List Entry) (u v : Node) (x y : Term) → k ≤ k1 → k1 ≤ top → Valued (later || cy) cx k k1 xs u x → Valued later cy k1 top ys v y → (p q c t : ℕ) (st : source.State) (m : Machine) (next : ℤ → NextOf) → Stands g.code p (xs ++ ys) q → t < d → Fits g t st m p
        → ((a b : ℤ) (st' : source.State) (m' : Machine) → IsNumber g.bits a → IsNumber g.bits b → Fits g t st' m' q → Same g h (cx || cy) k m m' → IsWorth g h later u top a m' → IsWorth g h later v top b m' → MetFrom g c m' st' (next a b))
        → MetFrom g c m st (source.value (env g h calls d) x (λ a. source.value (env g h calls d) y (next a)))
    two_met later cx cy k k1 top xs ys u v x y le high first second p q c t st m next stands lt fits rest =
        let j = split g.code p q xs ys stands in
        first p j.0 c t st m (λ a. source.value (env g h calls d) y (next a)) j.1 lt fits (λ a st1 m1 a_number fits1 same1 worth1.
        second j.0 q c t st1 m1 (next a) j.2 lt fits1 (λ b st2 m2 b_number fits2 same2 worth2.
        rest a b st2 m2 a_number b_number fits2 (same_both g h cx cy k k1 m m1 m2 le same1 same2)
        (worth_later g h (later || cy) later cy u k1 top a m1 m2 (or_right later cy) (or_left later cy) high same2 worth1) worth2))

    compare_when : (later cx cy : Bool) (k k1 top label : ℕ) (r : Rel) (xs ys : List Entry) (u v : Node) (x y : Term) → k ≤ k1 → k1 ≤ top → Valued (later || cy) cx k k1 xs u x → Valued later cy k1 top ys v y → Decided true (cx || cy) k label (xs ++ ys ++ Branch r u v label ∷ []) (program.Compare r x y)
    compare_when later cx cy k k1 top label r xs ys u v x y le high first second p q zp c t st m next stands place lt fits jump fall =
        let i = split g.code p q (xs ++ ys) (Branch r u v label ∷ []) stands in
        two_met later cx cy k k1 top xs ys u v x y le high first second p i.0 c t st m (λ a b. next (source.truth (holds r a b))) i.1 lt fits (λ a b st2 m2 a_number b_number fits2 same2 worth_u worth_v.
        jumped_met (holds r a b) (cx || cy) k r u v a b label i.0 q zp c t st2 m m2 (next (source.truth (holds r a b)) st2) refl i.2 place fits2 a_number b_number (worth_now g h later u top a m2 worth_u) (worth_now g h later v top b m2 worth_v) same2
        (λ e m3 fits3 same3. subst (λ b. MetFrom g c m3 st2 (next (source.truth b))) (sym e) (jump st2 m3 fits3 same3))
        (λ e m3 fits3 same3. subst (λ b. MetFrom g c m3 st2 (next (source.truth b))) (sym e) (fall st2 m3 fits3 same3)))

    compare_unless : (later cx cy : Bool) (k k1 top label : ℕ) (r : Rel) (xs ys : List Entry) (u v : Node) (x y : Term) → k ≤ k1 → k1 ≤ top → Valued (later || cy) cx k k1 xs u x → Valued later cy k1 top ys v y → Decided false (cx || cy) k label (xs ++ ys ++ Branch (opposite r) u v label ∷ []) (program.Compare r x y)
    compare_unless later cx cy k k1 top label r xs ys u v x y le high first second p q zp c t st m next stands place lt fits jump fall =
        let i = split g.code p q (xs ++ ys) (Branch (opposite r) u v label ∷ []) stands in
        two_met later cx cy k k1 top xs ys u v x y le high first second p i.0 c t st m (λ a b. next (source.truth (holds r a b))) i.1 lt fits (λ a b st2 m2 a_number b_number fits2 same2 worth_u worth_v.
        jumped_met (not (holds r a b)) (cx || cy) k (opposite r) u v a b label i.0 q zp c t st2 m m2 (next (source.truth (holds r a b)) st2) (opposite_holds r a b) i.2 place fits2 a_number b_number (worth_now g h later u top a m2 worth_u) (worth_now g h later v top b m2 worth_v) same2
        (λ e m3 fits3 same3. subst (λ b. MetFrom g c m3 st2 (next (source.truth b))) (sym (not_true (holds r a b) e)) (jump st2 m3 fits3 same3))
        (λ e m3 fits3 same3. subst (λ b. MetFrom g c m3 st2 (next (source.truth b))) (sym (not_false (holds r a b) e)) (fall st2 m3 fits3 same3)))

    -- ---- leaves, elements and operators

    number_small : (z : ℕ) → z < 2 ^ (h.world.bits - 1) → IsNumber g.bits (pos z)
    number_small z lt = small_is_number g.bits z is.width (subst (λ n. z < 2 ^ (n - 1)) at.bits lt)

    number_valued : (later : Bool) (k top z : ℕ) → z < 2 ^ (h.world.bits - 1) → Valued later false k top [] (Const (wrap g.bits (pos z))) (program.Number z)
    number_valued later k top z small p q c t st m next stands lt fits rest =
        let e = number_small z small in
        rest (pos z) st m e (fits_at g is t st m p q stands fits) (same_refl g h false k m) (worth_number g h later top (wrap g.bits (pos z)) (pos z) m (ap (wrap g.bits) e ∙ e))

    scalar_valued : (later : Bool) (k : ℕ) (x : Place) → IsScalar h.world x → h.lo ≤ k → k + one_if (is_saved later x) ≤ h.hi
        → Valued later false k (k + one_if (is_saved later x)) (scalar_read (is_saved later x) k (cell_of (layout_of g h) x)).steps (scalar_read (is_saved later x) k (cell_of (layout_of g h) x)).tree (program.Scalar x)
    scalar_valued later k (places.Global x) e low high p q c t st m next stands lt fits rest =
        read_met later later k x x (scalar_below (places.Global x) e) (scalar_home (places.Global x) e) (λ n l. absurd (true≢false (sym l ∙ n))) low high p q c t st m next stands fits rest
    scalar_valued later k (places.Local x) e low high p q c t st m next stands lt fits rest =
        read_met false later k (h.source_base + x) (h.base + x) (scalar_below (places.Local x) e) (scalar_home (places.Local x) e) (λ n l. let o = scalar_local x e in omega (arith, o)) low high p q c t st m next stands fits rest

    cell_is : (x : Place) → source.cell (env g h calls d) x ≡ source_cell h x
    cell_is (places.Global k) = refl
    cell_is (places.Local k) = refl

    element_valued : (later called : Bool) (k s top : ℕ) (x : Place) (n : ℕ) (i : Term) (a : Piece) → IsArray h.world x n → h.lo ≤ k → k ≤ s → s < top → top ≤ h.hi → Valued later called k s a.steps a.tree i
        → Valued later called k top (index_steps (layout_of g h) n a s ++ entry.Set s (Load (element_address (layout_of g h) x s)) ∷ []) (Cell s) (program.Element x n i)
    element_valued later called k s top x n i a is_array low le below high valued p q c t st m next stands lt fits rest =
        let b = split g.code p q (index_steps (layout_of g h) n a s) (entry.Set s (Load (element_address (layout_of g h) x s)) ∷ []) stands in
        let j = split g.code p b.0 a.steps _ b.1 in
        valued p j.0 c t st m _ j.1 lt fits (λ v st1 m1 v_number fits1 same1 worth1.
        index_tested n later s j.0 b.0 c t v a.tree st1 m1 (λ i s. next (source.held s (source.cell (env g h calls d) x + i)) s) (omega arith) (omega arith) j.2 fits1 v_number worth1 (λ i m2 i_low fits2 same2 cell2 i_number.
        let z = source.held st1 (source.cell (env g h calls d) x + i) in
        let e : held m2 (cell_at h x + i) ≡ z = element_held x n i t b.0 st1 m2 is_array i_low fits2 ∙ ap (λ f. source.held st1 (f + i)) (sym (cell_is x)) in
        let m3 : Machine = on (put s z m2) in
        met_set g is c st1.turns st1.out m2 b.0 s (Load (element_address (layout_of g h) x s)) z _ fits2.place b.2.0 (load_value x n s i z m2 is_array i_low cell2 i_number e)
        (rest z st1 m3 (fits2.numbers (source.cell (env g h calls d) x + i)) (fits_set g is t st1 m2 b.0 q s z (plain g h at s (omega arith) (omega arith)) b.2.1 fits2)
        (same_set g h called k s z m m2 (omega arith) (omega arith) (same_trans g h called k s m m1 m2 (omega arith) same1 (same_any g h called s m1 m2 same2)))
        (worth_cell g h at later s top z m3 (omega arith) below high (put_same m2 s z (there g h at s m2 (omega arith) (omega arith) fits2.cells))))))

    input_valued : (later : Bool) (k top : ℕ) → h.lo ≤ k → k < top → top ≤ h.hi → Valued later false k top (entry.Set k In ∷ []) (Cell k) program.Input
    input_valued later k top low below high p q c t st m next stands lt fits rest = input_met later k top p q c t st m next low below high stands fits rest st.input refl

    unary_valued : (later called : Bool) (k top : ℕ) (op : Prefix) (x : Term) (a : Piece) → Valued later called k top a.steps a.tree x → Valued later called k top a.steps (Unary op a.tree) (program.Unary op x)
    unary_valued later called k top op x a valued p q c t st m next stands lt fits rest =
        valued p q c t st m _ stands lt fits (λ v st1 m1 v_number fits1 same1 worth1.
        rest (prefixed g.bits op v) st1 m1 (prefixed_number g.bits op v is.width v_number) fits1 same1 (worth_unary g h is later op a.tree top v m1 v_number worth1))

    shifted_valued : (later called : Bool) (k top : ℕ) (op : Shift) (x : Term) (by : ℕ) (a : Piece) → Valued later called k top a.steps a.tree x → Valued later called k top a.steps (shifted_tree op a.tree by) (program.Shifted op x by)
    shifted_valued later called k top op x by a valued p q c t st m next stands lt fits rest =
        valued p q c t st m _ stands lt fits (λ v st1 m1 v_number fits1 same1 worth1.
        rest (shifted g.bits op v by) st1 m1 (any_shift_number g.bits op v by is.width v_number) fits1 same1 (worth_shifted g h is later op a.tree by top v m1 v_number worth1))

    arithmetic_valued : (later cx cy : Bool) (k k1 top : ℕ) (op : Arith) (a b : Piece) (x y : Term) → k ≤ k1 → k1 ≤ top → Valued (later || cy) cx k k1 a.steps a.tree x → Valued later cy k1 top b.steps b.tree y → Valued later (cx || cy) k top (a.steps ++ b.steps) (Binary op a.tree b.tree) (program.Arithmetic op x y)
    arithmetic_valued later cx cy k k1 top op a b x y le high first second p q c t st m next stands lt fits rest =
        two_met later cx cy k k1 top a.steps b.steps a.tree b.tree x y le high first second p q c t st m (λ v w. next (arithmetic g.bits op v w)) stands lt fits (λ v w st2 m2 v_number w_number fits2 same2 worth_v worth_w.
        rest (arithmetic g.bits op v w) st2 m2 (arithmetic_number g.bits op v w is.width v_number w_number) fits2 same2 (worth_binary g h is later op a.tree b.tree top v w m2 v_number w_number worth_v worth_w))

    valued_at : (later called : Bool) (k top top' : ℕ) (es : List Entry) (u : Node) (e : Term) → top ≡ top' → Valued later called k top es u e → Valued later called k top' es u e
    valued_at later called k top top' es u e same valued = subst (λ n. Valued later called k n es u e) same valued

    -- ---- the parts of an expression, by what is known of them

    as_value : (x : Term) → PieceMet g h calls d x → (later : Bool) (k l : ℕ) → SoundTerm h.world x → h.lo ≤ k → k + cells later true x ≤ h.hi → Valued later (has_call x) k (k + cells later true x) (piece (layout_of g h) k l later Value x).steps (piece (layout_of g h) k l later Value x).tree x
    as_value x met later k l sound low high p q c t st m next stands lt fits rest = met later Value k l p q 0 c t st m next sound low high stands tt lt fits rest

    as_when : (x : Term) → PieceMet g h calls d x → (later : Bool) (k l label : ℕ) → SoundTerm h.world x → h.lo ≤ k → k + cells later false x ≤ h.hi → Conditional true (has_call x) k label (piece (layout_of g h) k l later (When label) x).steps x
    as_when x met later k l label sound low high p q zp c t st m next stands place lt fits jump fall = met later (When label) k l p q zp c t st m next sound low high stands place lt fits (jump, fall)

    as_unless : (x : Term) → PieceMet g h calls d x → (later : Bool) (k l label : ℕ) → SoundTerm h.world x → h.lo ≤ k → k + cells later false x ≤ h.hi → Conditional false (has_call x) k label (piece (layout_of g h) k l later (Unless label) x).steps x
    as_unless x met later k l label sound low high p q zp c t st m next stands place lt fits jump fall = met later (Unless label) k l p q zp c t st m next sound low high stands place lt fits (jump, fall)

    module _ (calls_met : CallsMet g calls h.rank d) where
      -- an index goes into its cell and is tested
      pub index_met : IndexMet g h calls d
      index_met n later s p q c t x u st m next small low top stands fits x_number worth_u rest = index_tested n later s p q c t x u st m next low top stands fits x_number worth_u rest

      -- a call behind its arguments comes back with its value
      pub jump_met : JumpMet g h calls d
      jump_met f arguments used answers s p q c t back ks zs st m next long top hold stands lt fits rest =
          let i = split g.code p q (passed frame.first ks) _ stands in
          let p1 = suc i.0 in
          let p2 = suc p1 in
          passed_met (g.rank f) (g.source_base f) frame.first ks zs s p i.0 c t st.turns st.out st m _
          (λ j less. known.parameter j (few j less)) (λ j less. known.parameter_home j (few j less)) (λ j less. known.parameter_owner j (few j less)) top hold i.1 fits
          (λ m1 fits1 same1.
          let m2 : Machine = on (put frame.ret (label_value back) m1) in
          let fits2 = fits_set g is t (with_arguments st (g.source_base f) zs) m1 i.0 p1 frame.ret (label_value back) known.ret.plain refl fits1 in
          met_set g is c st.turns st.out m1 i.0 frame.ret (Label back) (label_value back) _ fits1.place i.2.0 (λ go. refl)
          (met_go g is c st.turns st.out m2 p1 known.place frame.label _ fits2.place i.2.1.0 (is.once known.place frame.label known.mark)
          (calls_met f answers.function function_is known lower c t back p2 zs st (at_place known.place m2) next lt (fits_jump g is t (with_arguments st (g.source_base f) zs) m2 p1 known.place fits2)
          (put_same m1 frame.ret (label_value back) (ret_there m1 fits1.cells)) (is.once p2 back i.2.1.1.0)
          (λ z st3 m3 z_number fits3 same3 result3.
          met_mark g is c st3.turns st3.out m3 p2 back _ fits3.place i.2.1.1.0
          (rest z st3 (on m3) z_number (fits_on g is t st3 m3 p2 q i.2.1.1.1 fits3)
          (λ k le. same3 k (omega (arith, lower, le)) ∙ put_other m1 frame.ret k (label_value back) (owned_else k le) ∙ same1 k (omega (arith, lower, le)))
          (λ n. result3 (answers.gives n)))))))
        where
          frame : Frame
          frame = function_frame g f

          function_is : slice_get g.functions f ≡ Some answers.function
          function_is = ap (λ fs. slice_get fs f) (sym at.functions) ∙ answers.is

          known : IsFunction g f answers.function
          known = is.functions f answers.function function_is

          lower : g.rank f < h.rank
          lower = let a = answers.lower in let b = at.ranks f in let e = at.rank in omega (arith, a, b, e)

          few : (j : ℕ) → j < length zs → j < answers.function.arity
          few j less = let a = answers.arity in omega (arith, a, long, less)

          ret_there : (m1 : Machine) → length m1.cells ≡ g.cells → frame.ret < length m1.cells
          ret_there m1 e = let a = known.ret.inside in omega (arith, a, e)

          owned_else : (k : ℕ) → h.rank ≤ g.owner k → k ≡ frame.ret → ⊥
          owned_else k le e = let a : g.owner k ≡ g.owner frame.ret = ap g.owner e in let b = known.ret.owned in omega (arith, a, b, lower, le)

      -- a call's steps leave its value in a cell
      call_valued : (later : Bool) (k l f : ℕ) (xs : Terms) → PassingMet g h calls d xs → Answers h.world f (count xs) true → SoundTerms h.world xs → h.lo ≤ k → k + (argument_cells later xs + 1) ≤ h.hi
          → Valued later true k (k + (argument_cells later xs + 1)) (call_steps (layout_of g h) f (passing (layout_of g h) k l later xs) (l + argument_marks xs) ++ entry.Set (k + argument_cells later xs) (Cell (function_frame g f).result) ∷ []) (Cell (k + argument_cells later xs)) (program.Call f xs)
      call_valued later k l f xs met answers sound low high p q c t st m next stands lt fits rest =
          let s = k + argument_cells later xs in
          let result = (function_frame g f).result in
          let passes = passing (layout_of g h) k l later xs in
          let i = split g.code p q (call_steps (layout_of g h) f passes (l + argument_marks xs)) (entry.Set s (Cell result) ∷ []) stands in
          let j = split g.code p i.0 passes.steps (jump_steps (function_frame g f) passes.values (l + argument_marks xs)) i.1 in
          met later k l p j.0 c t st m (λ zs. calls f zs next) sound low (omega arith) j.1 lt fits (λ zs st1 m1 long fits1 same1 held1.
          jump_met f (count xs) true answers s j.0 i.0 c t (l + argument_marks xs) passes.values zs st1 m1 next long (omega arith) held1 j.2 lt fits1 (λ z st2 m2 z_number fits2 same2 result2.
          let m3 : Machine = on (put s z m2) in
          met_set g is c st2.turns st2.out m2 i.0 s (Cell result) z _ fits2.place i.2.0 (cell_worth g is m2 result z (result2 refl))
          (rest z st2 m3 z_number (fits_set g is t st2 m2 i.0 q s z (plain g h at s (omega arith) (omega arith)) i.2.1 fits2)
          (same_set g h true k s z m m2 (omega arith) (omega arith) (record { by = λ n safe out. same2 n (safe refl) ∙ same1.by n (λ e. safe refl) out }))
          (worth_cell g h at later s (k + (argument_cells later xs + 1)) z m3 (omega arith) (omega arith) high (put_same m2 s z (there g h at s m2 (omega arith) (omega arith) fits2.cells))))))

      mutual
        -- the statements of an expression come to its meaning
        pub piece_met : (e : Term) → PieceMet g h calls d e
        piece_met (program.Number z) later aim k l p q zp c t st m next sound low high stands aimed lt fits rest =
            used_met later false aim k (k + 0) (record { steps = []; tree = Const (wrap g.bits (pos z)) }) (program.Number z) (number_valued later k (k + 0) z sound) p q zp c t st m next stands aimed lt fits rest
        piece_met (program.Scalar x) later aim k l p q zp c t st m next sound low high stands aimed lt fits rest =
            used_met later false aim k (k + one_if (is_saved later x)) (scalar_read (is_saved later x) k (cell_of (layout_of g h) x)) (program.Scalar x) (scalar_valued later k x sound low high) p q zp c t st m next stands aimed lt fits rest
        piece_met (program.Element x n i) later aim k l p q zp c t st m next sound low high stands aimed lt fits rest =
            let s = k + cells later true i in
            let a = piece (layout_of g h) k l later Value i in
            used_met later (has_call i) aim k (k + (cells later true i + 1)) (in_cell (index_steps (layout_of g h) n a s ++ entry.Set s (Load (element_address (layout_of g h) x s)) ∷ []) s) (program.Element x n i)
            (element_valued later (has_call i) k s (k + (cells later true i + 1)) x n i a sound.0 low (omega arith) (omega arith) high (as_value i (piece_met i) later k l sound.1 low (omega arith)))
            p q zp c t st m next stands aimed lt fits rest
        piece_met program.Input later aim k l p q zp c t st m next sound low high stands aimed lt fits rest =
            used_met later false aim k (k + 1) (in_cell (entry.Set k In ∷ []) k) program.Input (input_valued later k (k + 1) low (omega arith) high) p q zp c t st m next stands aimed lt fits rest
        piece_met (program.Call f xs) later aim k l p q zp c t st m next sound low high stands aimed lt fits rest =
            used_met later true aim k (k + (argument_cells later xs + 1))
            (in_cell (call_steps (layout_of g h) f (passing (layout_of g h) k l later xs) (l + argument_marks xs) ++ entry.Set (k + argument_cells later xs) (Cell (function_frame g f).result) ∷ []) (k + argument_cells later xs)) (program.Call f xs)
            (call_valued later k l f xs (passing_met xs) sound.0 sound.1 low high) p q zp c t st m next stands aimed lt fits rest
        piece_met (program.Unary op x) later aim k l p q zp c t st m next sound low high stands aimed lt fits rest =
            let a = piece (layout_of g h) k l later Value x in
            used_met later (has_call x) aim k (k + cells later true x) (record { steps = a.steps; tree = Unary op a.tree }) (program.Unary op x) (unary_valued later (has_call x) k (k + cells later true x) op x a (as_value x (piece_met x) later k l sound low high)) p q zp c t st m next stands aimed lt fits rest
        piece_met (program.Shifted op x by) later aim k l p q zp c t st m next sound low high stands aimed lt fits rest =
            let a = piece (layout_of g h) k l later Value x in
            used_met later (has_call x) aim k (k + cells later true x) (record { steps = a.steps; tree = shifted_tree op a.tree by }) (program.Shifted op x by) (shifted_valued later (has_call x) k (k + cells later true x) op x by a (as_value x (piece_met x) later k l sound.1 low high)) p q zp c t st m next stands aimed lt fits rest
        piece_met (program.Arithmetic op x y) later aim k l p q zp c t st m next sound low high stands aimed lt fits rest =
            let first = later || has_call y in
            let k1 = k + cells first true x in
            let a = piece (layout_of g h) k l first Value x in
            let b = piece (layout_of g h) k1 (l + marks AsValue x) later Value y in
            let top = k + (cells first true x + cells later true y) in
            used_met later (has_call x || has_call y) aim k top (record { steps = a.steps ++ b.steps; tree = Binary op a.tree b.tree }) (program.Arithmetic op x y)
            (valued_at later (has_call x || has_call y) k (k1 + cells later true y) top (a.steps ++ b.steps) (Binary op a.tree b.tree) (program.Arithmetic op x y) (omega arith)
            (arithmetic_valued later (has_call x) (has_call y) k k1 (k1 + cells later true y) op a b x y (omega arith) (omega arith) (as_value x (piece_met x) first k l sound.0 low (omega arith)) (as_value y (piece_met y) later k1 (l + marks AsValue x) sound.1 (omega arith) (omega arith))))
            p q zp c t st m next stands aimed lt fits rest
        piece_met (program.Compare r x y) later Value k l p q zp c t st m next sound low high stands aimed lt fits rest =
            let first = later || has_call y in
            let k1 = k + 1 + cells first true x in
            let a = piece (layout_of g h) (k + 1) l first Value x in
            let b = piece (layout_of g h) k1 (l + marks AsValue x) later Value y in
            let label = l + marks AsValue x + marks AsValue y in
            truth_met later (has_call x || has_call y) k (k + (1 + cells first true x + cells later true y)) label (a.steps ++ b.steps ++ Branch r a.tree b.tree label ∷ []) (program.Compare r x y) low (omega arith) high
            (compare_when later (has_call x) (has_call y) (k + 1) k1 (k1 + cells later true y) label r a.steps b.steps a.tree b.tree x y (omega arith) (omega arith) (as_value x (piece_met x) first (k + 1) l sound.0 (omega arith) (omega arith)) (as_value y (piece_met y) later k1 (l + marks AsValue x) sound.1 (omega arith) (omega arith)))
            p q c t st m next stands lt fits rest
        piece_met (program.Compare r x y) later (When label) k l p q zp c t st m next sound low high stands aimed lt fits rest =
            let first = later || has_call y in
            let k1 = k + cells first true x in
            let a = piece (layout_of g h) k l first Value x in
            let b = piece (layout_of g h) k1 (l + marks AsValue x) later Value y in
            decided_is true (has_call x || has_call y) k label (a.steps ++ b.steps ++ Branch r a.tree b.tree label ∷ []) (program.Compare r x y)
            (compare_when later (has_call x) (has_call y) k k1 (k1 + cells later true y) label r a.steps b.steps a.tree b.tree x y (omega arith) (omega arith) (as_value x (piece_met x) first k l sound.0 low (omega arith)) (as_value y (piece_met y) later k1 (l + marks AsValue x) sound.1 (omega arith) (omega arith)))
            p q zp c t st m next stands aimed lt fits rest.0 rest.1
        piece_met (program.Compare r x y) later (Unless label) k l p q zp c t st m next sound low high stands aimed lt fits rest =
            let first = later || has_call y in
            let k1 = k + cells first true x in
            let a = piece (layout_of g h) k l first Value x in
            let b = piece (layout_of g h) k1 (l + marks AsValue x) later Value y in
            decided_is false (has_call x || has_call y) k label (a.steps ++ b.steps ++ Branch (opposite r) a.tree b.tree label ∷ []) (program.Compare r x y)
            (compare_unless later (has_call x) (has_call y) k k1 (k1 + cells later true y) label r a.steps b.steps a.tree b.tree x y (omega arith) (omega arith) (as_value x (piece_met x) first k l sound.0 low (omega arith)) (as_value y (piece_met y) later k1 (l + marks AsValue x) sound.1 (omega arith) (omega arith)))
            p q zp c t st m next stands aimed lt fits rest.0 rest.1
        piece_met (program.Not x) later Value k l p q zp c t st m next sound low high stands aimed lt fits rest =
            let label = l + marks IfFails x in
            let es = (piece (layout_of g h) (k + 1) l later (Unless label) x).steps in
            truth_met later (has_call x) k (k + (1 + cells later false x)) label es (program.Not x) low (omega arith) high
            (not_when (has_call x) (k + 1) label es x (as_unless x (piece_met x) later (k + 1) l label sound (omega arith) (omega arith)))
            p q c t st m next stands lt fits rest
        piece_met (program.Not x) later (When label) k l p q zp c t st m next sound low high stands aimed lt fits rest =
            let es = (piece (layout_of g h) k l later (Unless label) x).steps in
            decided_is true (has_call x) k label es (program.Not x) (not_when (has_call x) k label es x (as_unless x (piece_met x) later k l label sound low (omega arith))) p q zp c t st m next stands aimed lt fits rest.0 rest.1
        piece_met (program.Not x) later (Unless label) k l p q zp c t st m next sound low high stands aimed lt fits rest =
            let es = (piece (layout_of g h) k l later (When label) x).steps in
            decided_is false (has_call x) k label es (program.Not x) (not_unless (has_call x) k label es x (as_when x (piece_met x) later k l label sound low (omega arith))) p q zp c t st m next stands aimed lt fits rest.0 rest.1
        piece_met (program.AndAlso x y) later Value k l p q zp c t st m next sound low high stands aimed lt fits rest =
            let first = later || has_call y in
            let k1 = k + 1 + cells first false x in
            let past = l + marks IfFails x + marks IfHolds y in
            let label = past + 1 in
            let xs = (piece (layout_of g h) (k + 1) l first (Unless past) x).steps in
            let ys = (piece (layout_of g h) k1 (l + marks IfFails x) later (When label) y).steps in
            truth_met later (has_call x || has_call y) k (k + (1 + cells first false x + cells later false y)) label (xs ++ ys ++ Mark past ∷ []) (program.AndAlso x y) low (omega arith) high
            (and_when (has_call x) (has_call y) (k + 1) k1 past label xs ys x y (omega arith) (as_unless x (piece_met x) first (k + 1) l past sound.0 (omega arith) (omega arith)) (as_when y (piece_met y) later k1 (l + marks IfFails x) label sound.1 (omega arith) (omega arith)))
            p q c t st m next stands lt fits rest
        piece_met (program.AndAlso x y) later (When label) k l p q zp c t st m next sound low high stands aimed lt fits rest =
            let first = later || has_call y in
            let k1 = k + cells first false x in
            let past = l + marks IfFails x + marks IfHolds y in
            let xs = (piece (layout_of g h) k l first (Unless past) x).steps in
            let ys = (piece (layout_of g h) k1 (l + marks IfFails x) later (When label) y).steps in
            decided_is true (has_call x || has_call y) k label (xs ++ ys ++ Mark past ∷ []) (program.AndAlso x y)
            (and_when (has_call x) (has_call y) k k1 past label xs ys x y (omega arith) (as_unless x (piece_met x) first k l past sound.0 low (omega arith)) (as_when y (piece_met y) later k1 (l + marks IfFails x) label sound.1 (omega arith) (omega arith)))
            p q zp c t st m next stands aimed lt fits rest.0 rest.1
        piece_met (program.AndAlso x y) later (Unless label) k l p q zp c t st m next sound low high stands aimed lt fits rest =
            let first = later || has_call y in
            let k1 = k + cells first false x in
            let xs = (piece (layout_of g h) k l first (Unless label) x).steps in
            let ys = (piece (layout_of g h) k1 (l + marks IfFails x) later (Unless label) y).steps in
            decided_is false (has_call x || has_call y) k label (xs ++ ys) (program.AndAlso x y)
            (and_unless (has_call x) (has_call y) k k1 label xs ys x y (omega arith) (as_unless x (piece_met x) first k l label sound.0 low (omega arith)) (as_unless y (piece_met y) later k1 (l + marks IfFails x) label sound.1 (omega arith) (omega arith)))
            p q zp c t st m next stands aimed lt fits rest.0 rest.1
        piece_met (program.OrElse x y) later Value k l p q zp c t st m next sound low high stands aimed lt fits rest =
            let first = later || has_call y in
            let k1 = k + 1 + cells first false x in
            let label = l + marks IfHolds x + marks IfHolds y in
            let xs = (piece (layout_of g h) (k + 1) l first (When label) x).steps in
            let ys = (piece (layout_of g h) k1 (l + marks IfHolds x) later (When label) y).steps in
            truth_met later (has_call x || has_call y) k (k + (1 + cells first false x + cells later false y)) label (xs ++ ys) (program.OrElse x y) low (omega arith) high
            (or_when (has_call x) (has_call y) (k + 1) k1 label xs ys x y (omega arith) (as_when x (piece_met x) first (k + 1) l label sound.0 (omega arith) (omega arith)) (as_when y (piece_met y) later k1 (l + marks IfHolds x) label sound.1 (omega arith) (omega arith)))
            p q c t st m next stands lt fits rest
        piece_met (program.OrElse x y) later (When label) k l p q zp c t st m next sound low high stands aimed lt fits rest =
            let first = later || has_call y in
            let k1 = k + cells first false x in
            let xs = (piece (layout_of g h) k l first (When label) x).steps in
            let ys = (piece (layout_of g h) k1 (l + marks IfHolds x) later (When label) y).steps in
            decided_is true (has_call x || has_call y) k label (xs ++ ys) (program.OrElse x y)
            (or_when (has_call x) (has_call y) k k1 label xs ys x y (omega arith) (as_when x (piece_met x) first k l label sound.0 low (omega arith)) (as_when y (piece_met y) later k1 (l + marks IfHolds x) label sound.1 (omega arith) (omega arith)))
            p q zp c t st m next stands aimed lt fits rest.0 rest.1
        piece_met (program.OrElse x y) later (Unless label) k l p q zp c t st m next sound low high stands aimed lt fits rest =
            let first = later || has_call y in
            let k1 = k + cells first false x in
            let past = l + marks IfHolds x + marks IfFails y in
            let xs = (piece (layout_of g h) k l first (When past) x).steps in
            let ys = (piece (layout_of g h) k1 (l + marks IfHolds x) later (Unless label) y).steps in
            decided_is false (has_call x || has_call y) k label (xs ++ ys ++ Mark past ∷ []) (program.OrElse x y)
            (or_unless (has_call x) (has_call y) k k1 past label xs ys x y (omega arith) (as_when x (piece_met x) first k l past sound.0 low (omega arith)) (as_unless y (piece_met y) later k1 (l + marks IfHolds x) label sound.1 (omega arith) (omega arith)))
            p q zp c t st m next stands aimed lt fits rest.0 rest.1

        -- the statements of arguments leave their values in step cells
        pub passing_met : (xs : Terms) → PassingMet g h calls d xs
        passing_met program.NoMore later k l p q c t st m next sound low high stands lt fits rest = rest [] st m refl (fits_at g is t st m p q stands fits) (same_refl g h false k m) tt
        passing_met (program.More x xs) later k l p q c t st m next sound low high stands lt fits rest =
            let first = later || have_call xs in
            let s = k + cells first true x in
            let both = has_call x || have_call xs in
            let a = piece (layout_of g h) k l first Value x in
            let others = passing (layout_of g h) (s + 1) (l + marks AsValue x) later xs in
            let j = split g.code p q a.steps (entry.Set s a.tree ∷ others.steps) stands in
            as_value x (piece_met x) first k l sound.0 low (omega arith) p j.0 c t st m (λ z. values (env g h calls d) xs (λ zs. next (z ∷ zs))) j.1 lt fits (λ z st1 m1 z_number fits1 same1 worth1.
            let m2 : Machine = on (put s z m1) in
            met_set g is c st1.turns st1.out m1 j.0 s a.tree z _ fits1.place j.2.0 (worth_now g h first a.tree s z m1 worth1)
            (passing_met xs later (s + 1) (l + marks AsValue x) (suc j.0) q c t st1 m2 (λ zs. next (z ∷ zs)) sound.1 (omega arith) (omega arith) j.2.1 lt (fits_set g is t st1 m1 j.0 (suc j.0) s z (plain g h at s (omega arith) (omega arith)) refl fits1) (λ zs st3 m3 long fits3 same3 held3.
            rest (z ∷ zs) st3 m3 (ap suc long) fits3
            (same_trans g h both k (s + 1) m m2 m3 (omega arith) (same_set g h both k s z m m1 (omega arith) (omega arith) (same_first g h (has_call x) (have_call xs) k m m1 same1)) (same_more g h (have_call xs) both (s + 1) m2 m3 (or_right (has_call x) (have_call xs)) same3)) (
              same_cell g h at (have_call xs) s (s + 1) z m2 m3 (omega arith) (omega arith) (omega arith) same3 (put_same m1 s z (there g h at s m1 (omega arith) (omega arith) fits1.cells)),
              z_number,
              omega arith,
              omega arith,
              held_same g h (s + 1 + argument_cells later xs) (k + (cells first true x + 1 + argument_cells later xs)) others.values zs m3 m3 (omega arith) (λ j le less. refl) held3,
            ))))
