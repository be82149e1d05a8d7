-- The bodies of a sound program's functions in its statements.
use Rattle.std.proofs.Common.{◌≡◌, ℕ, zero, suc, ◌+◌, ◌≤◌, List, [], ◌∷◌, ◌++◌, map, true, false, Some, None, refl, ap, sym, ◌∙◌, subst, arith}
use Rattle.std.specs.Prelude.{slice_get}
use Rattle.ir_run.specs.Entry.{Mark}
use Rattle.ir_run.specs.Run.{place_of}
use Rattle.ir_run.specs.Strict.{is_inside}
use Rattle.c_tree.specs.Program.{sizes, Function, Program}
use Rattle.c_tree.specs.Meaning.{global_cells, function_cells, main_functions, main_base, base_of}
use Rattle.c_tree.specs.Code.{Frame, or_no_frame}
use Rattle.c_tree.specs.Lowered.{Halts, Returns, own_cells, all_cells, main_cells, arrays_among, arrays_of_main, arrays_of_functions, program_frames, program_entries}
use Rattle.c_lowered.specs.Sound.{Sound}
use Rattle.c_agree.proofs.World.{IsOwn, IsFunction, IsHere, IsBody, IsCalled, Here, function_frame, payable}
use Rattle.c_agree.proofs.Places.{block_at}
use Rattle.c_agree.proofs.Blocks.{has_block, block_is, frame_of_block, start_is, frame_is}
use Rattle.c_agree.proofs.Shapes.{inside_left, inside_right, inside_function}
use Rattle.c_agree.proofs.Parts.{functions_stand, main_stands}
use Rattle.c_agree.proofs.Grounds.{payable_of_all, Once, bs, ground_of, here_at, is_here_at}

none : {X : Type 0} (x : X) → None ≡ Some x → ⊥
none x e = cc

payable_at : (fs : List Function) (f : ℕ) (function : Function) → slice_get fs f ≡ Some function → payable function.body ≤ payable_of_all fs
payable_at [] f function is = absurd (none function is)
payable_at (x ∷ fs) zero function is = let e : x ≡ function = cc in let same : payable x.body ≡ payable function.body = ap (λ (x : Function). payable x.body) e in omega (arith, same)
payable_at (x ∷ fs) (suc f) function is = omega (arith, payable_at fs f function is)

module _ (p : Program) (n : ℕ) (sound : Sound p n) where
  -- ---- functions that are called

  function_here : (f : ℕ) (function : Function) → Here
  function_here f function =
      let frame = frame_of_block p sound.rank sound.top f function in here_at p n sound (sound.rank f) false function (base_of p f) frame.first frame.ret true

  function_is_here : (f : ℕ) (function : Function) (is : slice_get p.functions f ≡ Some function) (i : IsFunction (ground_of p n sound) f function) → IsHere (ground_of p n sound) (function_here f function)
  unfolding function_here
  function_is_here f function is i =
      let k = suc (suc f) in
      let frame = frame_of_block p sound.rank sound.top f function in
      let at = frame_is p sound.rank sound.top f function is in
      let e : function_frame (ground_of p n sound) f ≡ frame = ap or_no_frame at in
      let block = block_is sound.rank p.functions f function is in
      let variables : (block_at (bs p n sound) k).variables ≡ sizes function.variables = ap (λ b. b.variables) block in
      let cells : (block_at (bs p n sound) k).room ≡ all_cells function = ap (λ b. b.room) block in
      let rank : (block_at (bs p n sound) k).rank ≡ sound.rank f = ap (λ b. b.rank) block in
      is_here_at p n sound k (omega (arith, has_block sound.rank p.functions f function is)) (sound.rank f) false function (base_of p f) frame.first frame.ret true
      (start_is p sound.rank sound.top f function is) refl variables (omega (arith, cells)) rank
      (λ t. (subst (λ (x : Frame). IsOwn (ground_of p n sound) (sound.rank f) x.ret) e i.ret, omega arith))
      (λ x h. inside_right (arrays_among 0 (map (λ v. v.shape) p.globals) ++ arrays_of_main (global_cells p) p.main) (arrays_of_functions p.functions (program_frames p)) x
      (inside_function p.functions (program_frames p) f function frame x is at h))

  -- a body in this frame
  abbrev By : ℕ → Function → ℕ → Frame → Type 0
  By f function place x = (b : IsBody (ground_of p n sound) (Returns x.result x.ret) function place) × (b.here.rank ≡ sound.rank f) × (b.here.returns ≡ true) × (b.here.ret ≡ x.ret) × (b.here.source_base ≡ base_of p f)

  -- a function's body, behind its mark
  pub bodies : Once p n → (f : ℕ) (function : Function) (is : slice_get p.functions f ≡ Some function) (i : IsFunction (ground_of p n sound) f function) → IsCalled (ground_of p n sound) f function i.place
  unfolding function_here
  bodies once f function is i =
      let frame = frame_of_block p sound.rank sound.top f function in
      let at = frame_is p sound.rank sound.top f function is in
      let e : function_frame (ground_of p n sound) f ≡ frame = ap or_no_frame at in
      let stands = functions_stand p n f function frame is at in
      let there : place_of (program_entries p n) frame.label ≡ Some stands.place = once stands.place frame.label stands.stands.0 in
      let there' : place_of (program_entries p n) frame.label ≡ Some i.place = once i.place frame.label (subst (λ (x : Frame). slice_get (program_entries p n) i.place ≡ Some (Mark x.label)) e i.mark) in
      let same : stands.place ≡ i.place = cc in
      let body : IsBody (ground_of p n sound) (Returns frame.result frame.ret) function stands.place = record {
        here = function_here f function;
        is_here = function_is_here f function is i;
        sound = sound.sound f function is;
        main = refl;
        gives = refl;
        top = omega arith;
        small = let s = payable_at p.functions f function is in omega (arith, s);
        label = frame.label + 1;
        behind = stands.behind;
        stands = stands.stands.1;
      } in
      let all : By f function stands.place (function_frame (ground_of p n sound) f) = subst (By f function stands.place) (sym e) (body, refl, refl, refl, refl) in
      subst (λ q. IsCalled (ground_of p n sound) f function q) same (record { body = all.0; rank = all.1; returns = all.2; ret = all.3; source_base = all.4 })

  -- ---- `main`

  -- the body of `main`, behind the first mark
  pub main_body : IsBody (ground_of p n sound) Halts sound.main 0
  main_body =
      let stands = main_stands p n sound.main sound.main_is in
      let variables : function_cells (main_functions p.main) ≡ sizes sound.main.variables = ap (λ m. function_cells (main_functions m)) sound.main_is ∙ plus_zero (sizes sound.main.variables) in
      let cells : main_cells p.main ≡ own_cells sound.main = ap main_cells sound.main_is in
      record {
        here = here_at p n sound sound.top true sound.main (main_base p) (global_cells p) 0 false;
        is_here = is_here_at p n sound 1 (omega arith) sound.top true sound.main (main_base p) (global_cells p) 0 false (omega arith) (omega arith) variables (omega (arith, cells)) refl
            (λ e. let e' : false ≡ true = e in absurd cc)
            (λ x h. inside_left (arrays_among 0 (map (λ v. v.shape) p.globals) ++ arrays_of_main (global_cells p) p.main) (arrays_of_functions p.functions (program_frames p)) x
            (inside_right (arrays_among 0 (map (λ v. v.shape) p.globals)) (arrays_of_main (global_cells p) p.main) x
            (subst (λ m. is_inside (arrays_of_main (global_cells p) m) x ≡ true) (sym sound.main_is) h)));
        sound = sound.main_sound;
        main = refl;
        gives = refl;
        top = omega arith;
        small = omega arith;
        label = 0 + 1;
        behind = stands.behind;
        stands = stands.stands.1;
      }
    where
      plus_zero : (a : ℕ) → a + 0 ≡ a
      plus_zero a = omega arith

  -- its mark comes first
  pub main_mark : slice_get (program_entries p n) 0 ≡ Some (Mark 0)
  main_mark = (main_stands p n sound.main sound.main_is).stands.0

  -- its variables come behind the globals
  pub main_begins : main_body.here.source_base ≡ main_base p
  unfolding main_body
  main_begins = refl

  -- it has the highest rank
  pub main_rank : main_body.here.rank ≡ sound.top
  unfolding main_body
  main_rank = refl
