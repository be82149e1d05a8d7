-- Calls, whose functions' bodies stand in the list, and the run of `main`.
use Rattle.std.proofs.Common.{◌≡◌, ℕ, zero, suc, ◌+◌, ◌<◌, ◌≤◌, ℤ, pos, List, [], ◌∷◌, Bool, true, false, Some, refl, ap, sym, ◌∙◌, subst, arith}
use Rattle.std.specs.Prelude.{slice_get, if◌then◌else◌}
use Rattle.nk_outside.specs.declared.stop.Stop.TheVariants as stops
use Rattle.ir_core.specs.Inputs.{IsNumber}
use Rattle.ir_run.specs.Node.{Const}
use Rattle.ir_run.specs.Entry.{JumpCell, Mark, Halt}
use Rattle.ir_run.specs.Value.{held, label_value}
use Rattle.ir_run.specs.Run.{on, put, at_place, place_of}
use Rattle.ir_run.specs.Strict.{step}
use Rattle.ir_run.proofs.Agreement.{meets_end}
use Rattle.c_tree.specs.Program.{Function, Program}
use Rattle.c_tree.specs.Meaning as source
use Rattle.c_tree.specs.Meaning.{Calls, NextOf, with_arguments, run_body, entered, call, base_of, stopped}
use Rattle.c_tree.specs.Lowered.{Leaving, Halts, Returns, leave, leave_with, end_steps, statements}
use Rattle.c_tree.specs.Code.{Frame}
use Rattle.c_lowered.specs.Sound.{NeverEnds}
use Rattle.c_agree.proofs.World.{Machine, Stands, Ground, IsGround, Here, IsFunction, function_frame, layout_of, Fits, Met, MetFrom, IsWorth, CallsMet, env, PieceMet, PassingMet, JumpMet, payable, IsBody, IsCalled}
use Rattle.c_agree.proofs.Stands.{split, put_same, put_other, fits_on, fits_jump, fits_set, does, met_set, met_head, met_back}
use Rattle.c_agree.proofs.Frame.{worth_now}
use Rattle.c_agree.proofs.Evaluation.{zero_small, zero_number, const_worth, jump_met, piece_met, passing_met}
use Rattle.c_agree.proofs.Simple.{Kept, Behind, kept_cells, met_more}
use Rattle.c_agree.proofs.Execution.{Leaves, Returned, command_met}

-- arguments change neither the outputs nor the turns that are left
arguments_out : (zs : List ℤ) (st : source.State) (k : ℕ) → (with_arguments st k zs).out ≡ st.out
arguments_out [] st k = refl
arguments_out (z ∷ zs) st k = arguments_out zs (source.put st k z) (k + 1)

arguments_turns : (zs : List ℤ) (st : source.State) (k : ℕ) → (with_arguments st k zs).turns ≡ st.turns
arguments_turns [] st k = refl
arguments_turns (z ∷ zs) st k = arguments_turns zs (source.put st k z) (k + 1)

-- ---- bodies

module _ (g : Ground) (is : IsGround g) (leaving : Leaving) (function : Function) (place : ℕ) (b : IsBody g leaving function place) where
  -- the end of a body does what a return without a value, or with 0, does; where the body's end isn't reached there is nothing
  end_met : (keep : ℕ → ℤ) (c t q : ℕ) (returned : NextOf) → Stands g.code q (end_steps function leaving) b.behind → (NeverEnds function.body → ⊥) → Returned g is b.here leaving keep c t returned → Behind g is b.here keep c t q (returned (pos 0))
  end_met keep c t q returned stands reached back = by_returns function.returns refl stands
    where
      zero_worth : (s : ℕ) (m : Machine) → IsWorth g b.here false (Const (pos 0)) s (pos 0) m
      zero_worth s m = record { by = λ m' same go. const_worth g is m' 0 (zero_small g is) go }

      by_gives : (v : Bool) → function.gives ≡ v → Stands g.code q (if v then leave_with leaving (Const (pos 0)) else leave leaving) b.behind → Behind g is b.here keep c t q (returned (pos 0))
      by_gives true e s st m fits kept = back.worth (λ other. b.gives ∙ e) (pos 0) (Const (pos 0)) 0 q b.behind s st m fits kept (zero_number g is) (zero_worth 0 m)
      by_gives false e s st m fits kept = back.plain (λ other. b.gives ∙ e) q b.behind s st m fits kept

      by_returns : (r : Bool) → function.returns ≡ r → Stands g.code q (if r then [] else if function.gives then leave_with leaving (Const (pos 0)) else leave leaving) b.behind → Behind g is b.here keep c t q (returned (pos 0))
      by_returns true e s = absurd (reached (b.sound.ends e))
      by_returns false e s = by_gives function.gives refl s

  module _ (calls : Calls) (d : ℕ) (jumped : JumpMet g b.here calls d) (pieces : (e : _) → PieceMet g b.here calls d e) (passed : (xs : _) → PassingMet g b.here calls d xs) where
    -- a body from its function's mark on, which pays for the turns of its statements
    body_met : (l c t : ℕ) (keep : ℕ → ℤ) (st : source.State) (m : Machine) (next : NextOf) → slice_get g.code place ≡ Some (Mark l) → t ≤ d → Fits g t st m place → Kept g is b.here keep m → Returned g is b.here leaving keep c t next
        → MetFrom g c m st (run_body (env g b.here calls d) function.body next)
    body_met l c t keep st m next mark le fits kept back =
        let j = split g.code (suc place) b.behind (statements (layout_of g b.here) leaving (record { broke = 0; continued = 0 }) b.here.lo b.label function.body) (end_steps function leaving) b.stands in
        met_head g is c st.turns st.out m place l _ fits.place mark
        (met_more g is b.here (c + payable function.body) (c + g.weight) st.out (on m) st.turns _ (let small = b.small in omega arith)
        (command_met g is b.here b.is_here calls d jumped pieces passed leaving function.body false false (record { broke = 0; continued = 0 }) b.here.lo b.label (suc place) j.0 c t keep st (on m)
        (record { broke = next (pos 0); continued = next (pos 0); returned = next }) (next (pos 0)) b.sound.body (omega arith) b.top b.small le unpaid j.1
        (fits_on g is t st m place (suc place) refl fits) (kept_cells g is b.here keep m (on m) refl kept)
        (λ reached. end_met keep c t j.0 next j.2 reached back) no_loop no_loop back))
      where
        unpaid : false ≡ true → t < d
        unpaid e = absurd cc

        no_loop : Leaves g is b.here false keep c t 0 (next (pos 0))
        no_loop e = absurd cc

-- ---- calls

module _ (g : Ground) (is : IsGround g) (p : Program) (functions : p.functions ≡ g.functions) (bases : (f : ℕ) → base_of p f ≡ g.source_base f)
    (bodies : (f : ℕ) (function : Function) → slice_get g.functions f ≡ Some function → (known : IsFunction g f function) → IsCalled g f function known.place) where
  -- how a function goes on that is left: back to the label that its return cell holds, with its value in its result cell
  module _ (f : ℕ) (function : Function) (known : IsFunction g f function) (called : IsCalled g f function known.place) (c t l q : ℕ) (m : Machine) (next : NextOf)
      (cell : held m (function_frame g f).ret ≡ label_value l) (back : place_of g.code l ≡ Some q)
      (rest : (z : ℤ) (st' : source.State) (m' : Machine) → IsNumber g.bits z → Fits g t st' m' q → ((k : ℕ) → g.rank f < g.owner k → held m' k ≡ held m k) → (function.gives ≡ true → held m' (function_frame g f).result ≡ z) → MetFrom g c m' st' (next z)) where
    abbrev h : Here
    h = called.body.here

    abbrev frame : Frame
    frame = function_frame g f

    abbrev keep : ℕ → ℤ
    keep k = held m k

    go_back : (zp : ℕ) (x : ℤ) (st' : source.State) (m' : Machine) → slice_get g.code zp ≡ Some (JumpCell frame.ret) → IsNumber g.bits x → Fits g t st' m' zp → held m' frame.ret ≡ held m frame.ret → ((k : ℕ) → g.rank f < g.owner k → held m' k ≡ held m k) → (function.gives ≡ true → held m' frame.result ≡ x)
        → MetFrom g c m' st' (next x)
    go_back zp x st' m' there x_number fits same kept result =
        met_back g is c st'.turns st'.out m' zp q frame.ret l _ fits.place there (same ∙ cell) back
        (rest x st' (at_place q m') x_number (fits_jump g is t st' m' zp q fits) kept result)

    ret_kept : (m' : Machine) → Kept g is h keep m' → held m' frame.ret ≡ held m frame.ret
    ret_kept m' kept = ap (λ k. held m' k) (sym called.ret) ∙ kept.ret called.returns ∙ ap (λ k. held m k) called.ret

    over_kept : (m' : Machine) → Kept g is h keep m' → (k : ℕ) → g.rank f < g.owner k → held m' k ≡ held m k
    over_kept m' kept k lt = kept.over k (let e = called.rank in omega arith)

    left_with : Returned g is h (Returns frame.result frame.ret) keep c t next
    left_with = record {
      plain = λ none zp qp stands st' m' fits kept.
          go_back zp (pos 0) st' m' stands.0 (zero_number g is) fits (ret_kept m' kept) (over_kept m' kept) (λ e. valueless m' (none called.body.main) e);
      worth = λ some x u s zp qp stands st' m' fits kept x_number worth_u.
          let gives : function.gives ≡ true = sym called.body.gives ∙ some called.body.main in
          let own = known.result gives in
          let inside : frame.result < g.cells = own.inside in
          let long = fits.cells in
          met_set g is c st'.turns st'.out m' zp frame.result u x _ fits.place stands.0 (worth_now g h false u s x m' worth_u)
          (go_back (suc zp) x st' (on (put frame.result x m')) stands.1.0 x_number (fits_set g is t st' m' zp (suc zp) frame.result x own.plain refl fits)
          (put_other m' frame.result frame.ret x (known.two gives) ∙ ret_kept m' kept)
          (λ k lt. put_other m' frame.result k x (λ same. let o : g.owner k ≡ g.owner frame.result = ap g.owner same in let e = own.owned in omega arith) ∙ over_kept m' kept k lt)
          (λ e. put_same m' frame.result x (omega arith)));
    }
      where
        valueless : (m' : Machine) → h.world.gives ≡ false → function.gives ≡ true → held m' frame.result ≡ pos 0
        valueless m' none e = let no : false ≡ true = sym none ∙ called.body.gives ∙ e in absurd cc

  -- no turns are fewer than none
  no_calls : (r : ℕ) → CallsMet g (call p g.bits 0) r 0
  no_calls r f function is_function known lower c t l q zs st m next lt fits cell back rest = absurd (omega arith)

  -- one call more, where those in its body come to what they mean
  one_call : (d : ℕ) → ((r : ℕ) → CallsMet g (call p g.bits d) r d) → (r : ℕ) → CallsMet g (call p g.bits (suc d)) r (suc d)
  one_call d inner r f function is_function known lower c t l q zs st m next lt fits cell back rest =
      subst (λ o. Met g c st.out m st.turns o) (sym meant)
      (subst (λ n. Met g c st.out m n (run_body E function.body next begun)) (arguments_turns zs st (g.source_base f))
      (subst (λ out. Met g c out m begun.turns (run_body E function.body next begun)) (arguments_out zs st (g.source_base f))
      (body_met g is (Returns (function_frame g f).result (function_frame g f).ret) function known.place b (call p g.bits d) d
      (jump_met g is b.here b.is_here (call p g.bits d) d deeper) (piece_met g is b.here b.is_here (call p g.bits d) d deeper) (passing_met g is b.here b.is_here (call p g.bits d) d deeper)
      (function_frame g f).label c t (λ k. held m k) begun m next known.mark (omega arith) fits
      (record { over = λ k above. refl; ret = λ e. refl })
      (left_with f function known called c t l q m next cell back rest))))
    where
      called : IsCalled g f function known.place
      called = bodies f function is_function known

      b : IsBody g (Returns (function_frame g f).result (function_frame g f).ret) function known.place
      b = called.body

      deeper : CallsMet g (call p g.bits d) b.here.rank d
      deeper = inner b.here.rank

      begun : source.State
      begun = with_arguments st (g.source_base f) zs

      E : source.Frame
      E = env g b.here (call p g.bits d) d

      meant : call p g.bits (suc d) f zs next st ≡ run_body E function.body next begun
      meant =
          ap (λ o. entered o (record { bits = g.bits; calls = call p g.bits d; base = base_of p f }) zs next st) (ap (λ fs. slice_get fs f) functions ∙ is_function)
          ∙ ap (λ k. run_body (record { bits = g.bits; calls = call p g.bits d; base = k }) function.body next (with_arguments st k zs)) (bases f)
          ∙ ap (λ k. run_body (record { bits = g.bits; calls = call p g.bits d; base = k }) function.body next begun) (sym called.source_base)

  -- calls with fewer turns left than d come to what the functions mean
  pub all_calls_met : (d r : ℕ) → CallsMet g (call p g.bits d) r d
  all_calls_met zero r = no_calls r
  all_calls_met (suc d) r = one_call d (λ s. all_calls_met d s) r

  -- `main` from its mark on, with at most d turns left
  pub main_met : (function : Function) (place l : ℕ) (b : IsBody g Halts function place) (d : ℕ) (st : source.State) (m : Machine) → slice_get g.code place ≡ Some (Mark l) → Fits g d st m place
      → Met g 0 st.out m st.turns (run_body (env g b.here (call p g.bits d) d) function.body (λ z. stopped stops.Ended) st)
  main_met function place l b d st m mark fits =
      body_met g is Halts function place b (call p g.bits d) d
      (jump_met g is b.here b.is_here (call p g.bits d) d deeper) (piece_met g is b.here b.is_here (call p g.bits d) d deeper) (passing_met g is b.here b.is_here (call p g.bits d) d deeper)
      l 0 d (λ k. held m k) st m (λ z. stopped stops.Ended) mark (omega arith) fits
      (record { over = λ k above. refl; ret = λ e. refl })
      (record { plain = λ none zp qp stands st' m' fits' kept. ended zp st' m' stands.0 fits'; worth = λ some x u s zp qp stands st' m' fits' kept x_number worth_u. ended zp st' m' stands.0 fits' })
    where
      deeper : CallsMet g (call p g.bits d) b.here.rank d
      deeper = all_calls_met d b.here.rank

      ended : (zp : ℕ) (st' : source.State) (m' : Machine) → slice_get g.code zp ≡ Some (Halt 0) → Fits g d st' m' zp → MetFrom g 0 m' st' (stopped stops.Ended)
      ended zp st' m' there fits' = meets_end (step g.arrays g.code g.bits) g.weight 0 st'.out m' st'.turns stops.Ended is.some (does g is m' zp (Halt 0) fits'.place there)
