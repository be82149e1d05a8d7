-- Loops, and turns that are paid.
use Rattle.std.proofs.Common.{◌≡◌, ℕ, zero, suc, ◌+◌, ◌<◌, ◌≤◌, ℤ, true, false, Some, refl, sym, subst, arith}
use Rattle.std.specs.Prelude.{slice_get}
use Rattle.ir_run.specs.Entry.{Mark}
use Rattle.ir_run.specs.Run.{on}
use Rattle.ir_run.specs.Strict.{step}
use Rattle.ir_run.proofs.Agreement.{meets_rest, meets_turn}
use Rattle.c_tree.specs.Meaning as source
use Rattle.c_tree.specs.Meaning.{Next, NextOf, is_true, either, pay, paid, loop, again}
use Rattle.c_agree.proofs.World.{Machine, Ground, IsGround, Here, Fits, Met, MetFrom}
use Rattle.c_agree.proofs.Stands.{fits_on, fits_more, met_mark, met_head}
use Rattle.c_agree.proofs.Simple.{Kept, Behind, kept_cells, met_more, behind_more}

module _ (g : Ground) (is : IsGround g) (h : Here) where
  -- a turn is paid, or none may be paid
  pub paid_met : (c t p : ℕ) (st : source.State) (m : Machine) (next : Next) → Fits g t st m p → ((n : ℕ) → suc n ≡ st.turns → Fits g n (record st { turns = n }) m p → MetFrom g c m (record st { turns = n }) next)
      → MetFrom g (suc c) m st (pay next)
  paid_met c t p st m next fits rest = by_turns st.turns refl
    where
      by_turns : (n : ℕ) → st.turns ≡ n → Met g (suc c) st.out m n (paid n next st)
      by_turns zero e = meets_rest (step g.arrays g.code g.bits) g.weight (suc c) st.out m
      by_turns (suc n) e =
          meets_turn (step g.arrays g.code g.bits) g.weight c st.out m n _
          (rest n (sym e) (record { place = fits.place; cells = fits.cells; memory = fits.memory; same = fits.same; numbers = fits.numbers; input = fits.input; inputs = fits.inputs; turns = omega arith }))

  -- the one way where it's true, and the other where it's false
  pub met_hit : (c : ℕ) (m : Machine) (st : source.State) (z : ℤ) (a b : Next) → is_true z ≡ true → MetFrom g c m st a → MetFrom g c m st (either (is_true z) a b)
  met_hit c m st z a b e i = subst (λ b'. Met g c st.out m st.turns (either b' a b st)) (sym e) i

  pub met_miss : (c : ℕ) (m : Machine) (st : source.State) (z : ℤ) (a b : Next) → is_true z ≡ false → MetFrom g c m st b → MetFrom g c m st (either (is_true z) a b)
  met_miss c m st z a b e i = subst (λ b'. Met g c st.out m st.turns (either b' a b st)) (sym e) i

  -- a condition from a place on goes where it holds to one place, and where it fails to another
  abbrev pub Tested : (ℕ → ℤ) → (t place hit miss : ℕ) → (NextOf → Next) → Type 0
  Tested keep t place hit miss test = (c t' : ℕ) (st : source.State) (m : Machine) (go : NextOf) → t' ≤ t → Fits g t' st m place → Kept g is h keep m
      → ((z : ℤ) → is_true z ≡ true → Behind g is h keep c t' hit (go z))
      → ((z : ℤ) → is_true z ≡ false → Behind g is h keep c t' miss (go z))
      → MetFrom g c m st (test go)

  -- behind a loop's last mark
  pub past_met : (c t zp q k : ℕ) (keep : ℕ → ℤ) (next : Next) → slice_get g.code zp ≡ Some (Mark k) → suc zp ≡ q → Behind g is h keep c t q next → Behind g is h keep c t zp next
  past_met c t zp q k keep next end last rest st m fits kept =
      met_mark g is c st.turns st.out m zp k _ fits.place end (rest st (on m) (fits_on g is t st m zp q last fits) (kept_cells g is h keep m (on m) refl kept))

  -- A loop from the mark at its head, which pays for one turn of its body.
  pub loop_met : (p pb zp c l n t : ℕ) (keep : ℕ → ℤ) (test : NextOf → Next) (body : Next → Next) (next : Next)
      → slice_get g.code p ≡ Some (Mark l) → suc n ≤ g.weight
      → Tested keep t (suc p) pb zp test
      → Behind g is h keep c t zp next
      → ((t' : ℕ) (st : source.State) (m : Machine) (more : Next) → t' ≤ t → Fits g t' st m pb → Kept g is h keep m → Behind g is h keep c t' p more → Behind g is h keep c t' zp next → MetFrom g (c + n) m st (body more))
      → (b : ℕ) (st : source.State) (m : Machine) → st.turns < b → Fits g t st m p → Kept g is h keep m → MetFrom g c m st (loop b test body next)
  loop_met p pb zp c l n t keep test body next start small test_at left body_at zero st m lt fits kept = absurd (omega arith)
  loop_met p pb zp c l n t keep test body next start small test_at left body_at (suc b) st m lt fits kept =
      met_head g is c st.turns st.out m p l _ fits.place start
      (met_more g is h (suc (c + n)) (c + g.weight) st.out (on m) st.turns _ (omega (arith, small))
      (paid_met (c + n) t (suc p) st (on m) (test go) (fits_on g is t st m p (suc p) refl fits) (λ u fewer fits1.
      let below : u ≤ t = omega (arith, fewer, fits.turns) in
      let st1 : source.State = record st { turns = u } in
      test_at (c + n) u st1 (on m) go below fits1 (kept_cells g is h keep m (on m) refl kept)
      (λ z holds st2 m2 fits2 kept2. met_hit (c + n) m2 st2 z (body (loop b test body next)) next holds
      (body_at u st2 m2 (loop b test body next) below fits2 kept2
      (λ st3 m3 fits3 kept3. loop_met p pb zp c l n t keep test body next start small test_at left body_at b st3 m3 (omega (arith, fits3.turns, fewer, lt)) (fits_more g is u t st3 m3 p below fits3) kept3)
      (behind_more g is h c c u t zp keep next (omega arith) below left)))
      (λ z fails st2 m2 fits2 kept2. met_miss (c + n) m2 st2 z (body (loop b test body next)) next fails
      (behind_more g is h c (c + n) u t zp keep next (omega arith) below left st2 m2 fits2 kept2)))))
    where
      go : NextOf
      go z = either (is_true z) (body (loop b test body next)) next

  -- The test of a loop behind its body, from the test's mark on.
  module _ (p mid zp c l k n t : ℕ) (keep : ℕ → ℤ) (test : NextOf → Next) (body : Next → Next) (next : Next)
      (start : slice_get g.code p ≡ Some (Mark l)) (middle : slice_get g.code mid ≡ Some (Mark k)) (small : suc n ≤ g.weight)
      (test_at : Tested keep t (suc mid) p zp test) (left : Behind g is h keep c t zp next)
      (body_at : (t' : ℕ) (st : source.State) (m : Machine) (more : Next) → t' ≤ t → Fits g t' st m (suc p) → Kept g is h keep m → Behind g is h keep (suc c) t' mid more → Behind g is h keep (suc c) t' zp next → MetFrom g (suc c + n) m st (body more))
    where
      -- from the mark before the body
      body_met : (t' : ℕ) (more : Next) → t' ≤ t → Behind g is h keep (suc c) t' mid more → Behind g is h keep c t' p (body more)
      body_met t' more le at_test st m fits kept =
          met_head g is c st.turns st.out m p l _ fits.place start
          (met_more g is h (suc c + n) (c + g.weight) st.out (on m) st.turns _ (omega (arith, small))
          (body_at t' st (on m) more le (fits_on g is t' st m p (suc p) refl fits) (kept_cells g is h keep m (on m) refl kept) at_test
          (behind_more g is h c (suc c) t' t zp keep next (omega arith) le left)))

      test_met : (b t' : ℕ) (st : source.State) (m : Machine) → t' ≤ t → st.turns < b → Fits g t' st m mid → Kept g is h keep m → MetFrom g (suc c) m st (loop b test body next)
      test_met zero t' st m le lt fits kept = absurd (omega arith)
      test_met (suc b) t' st m le lt fits kept =
          met_mark g is (suc c) st.turns st.out m mid k _ fits.place middle
          (paid_met c t' (suc mid) st (on m) (test go) (fits_on g is t' st m mid (suc mid) refl fits) (λ u fewer fits1.
          let below : u ≤ t = omega (arith, fewer, fits.turns, le) in
          test_at c u (record st { turns = u }) (on m) go below fits1 (kept_cells g is h keep m (on m) refl kept)
          (λ z holds st2 m2 fits2 kept2. met_hit c m2 st2 z (body (loop b test body next)) next holds
          (body_met u (loop b test body next) below
          (λ st3 m3 fits3 kept3. test_met b u st3 m3 below (omega (arith, fits3.turns, fewer, lt)) fits3 kept3)
          st2 m2 fits2 kept2))
          (λ z fails st2 m2 fits2 kept2. met_miss c m2 st2 z (body (loop b test body next)) next fails
          (behind_more g is h c c u t zp keep next (omega arith) below left st2 m2 fits2 kept2))))
        where
          go : NextOf
          go z = either (is_true z) (body (loop b test body next)) next

      -- a loop with its test behind its body, from its first mark
      pub do_met : Behind g is h keep c t p (body (again test body next))
      do_met = body_met t (again test body next) (omega arith) (λ st m fits kept. test_met (suc st.turns) t st m (omega arith) (omega arith) fits kept)
